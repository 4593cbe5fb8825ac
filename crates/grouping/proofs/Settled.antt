-- The promises of the calls settle their outcomes: any two outcomes that a contract allows, answer and output at exit, are equal. `Learnt` is
-- what a caller learns from the contract, of any arguments a, result r and parameters at exit s. Assumes nothing.
use mathlib.Core.Path.{◌≡◌}
use Rattle.numbers.proofs.Settled.{one}
use Rattle.grouping.proofs.group.Reads as group
use Rattle.grouping.proofs.ungroup.Reads as ungroup

pub group_settled : (κs : _) (a : _) (r : _) (s : _) (r' : _) (s' : _) → group.Learnt κs a r s → group.Learnt κs a r' s' → (r ≡ r') × (s.1.0.now ≡ s'.1.0.now)
group_settled κs a r s r' s' p q = (one p.0 q.0, one p.1 q.1)

pub ungroup_settled : (κs : _) (a : _) (r : _) (s : _) (r' : _) (s' : _) → ungroup.Learnt κs a r s → ungroup.Learnt κs a r' s' → (r ≡ r') × (s.1.0.now ≡ s'.1.0.now)
ungroup_settled κs a r s r' s' p q = (one p.0 q.0, one p.1 q.1)
