use Rattle.std.proofs.Common.{◌+◌}
use Rattle.epochs.proofs.Tree.+is_smaller.Given as goal

-- one of the two indices falls to that of its parent
abbrev pub decreases-is_smaller : goal.decreases-is_smaller
decreases-is_smaller l = l.i + l.j
