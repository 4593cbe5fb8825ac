use Rattle.std.proofs.Common.{◌≡◌, ◌-◌}
use Rattle.epoch_tree.specs.Tables.{entries_in}
use Rattle.epoch_tree.specs.Tree.{greatest_to}
use Rattle.epochs.proofs.Tree.target.Given as goal

abbrev pub invariant-loop-k : goal.invariant-loop-k
invariant-loop-k l = l.best ≡ greatest_to (entries_in l.self.entries.now) (l.k - 1)
