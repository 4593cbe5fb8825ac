use Rattle.epochs.proofs.Tree.+above.Given as goal

-- the index falls to that of its parent
abbrev pub decreases-above : goal.decreases-above
decreases-above l = l.d
