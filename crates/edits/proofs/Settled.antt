-- The promises of insert and remove settle their outcomes: any two outcomes that a contract allows, answer and output at exit, are
-- equal. `Learnt` is what a caller learns from the contract, of any arguments a, result r and parameters at exit s. Assumes nothing.
use mathlib.Core.Path.{◌≡◌}
use Rattle.numbers.proofs.Settled.{one}
use Rattle.edits.proofs.insert.Reads as insert
use Rattle.edits.proofs.remove.Reads as remove

pub insert_settled : (κs : _) (a : _) (r : _) (s : _) (r' : _) (s' : _) → insert.Learnt κs a r s → insert.Learnt κs a r' s' → (r ≡ r') × (s.1.1.0.now ≡ s'.1.1.0.now)
insert_settled κs a r s r' s' p q = (one p.0 q.0, one p.1 q.1)

pub remove_settled : (κs : _) (a : _) (r : _) (s : _) (r' : _) (s' : _) → remove.Learnt κs a r s → remove.Learnt κs a r' s' → (r ≡ r') × (s.1.1.0.now ≡ s'.1.1.0.now)
remove_settled κs a r s r' s' p q = (one p.0 q.0, one p.1 q.1)
