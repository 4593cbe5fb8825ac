-- The promises of the conversions settle their outcomes: any two outcomes that a contract allows, answer and output at exit, are equal.
-- `Learnt` is what a caller learns from the contract, of any arguments a, result r and parameters at exit s. Assumes nothing.
use mathlib.Core.Path.{◌≡◌}
use Rattle.numbers.proofs.Settled.{one}
use Rattle.old_pages.proofs.from_old.Reads as from_old
use Rattle.old_pages.proofs.to_old.Reads as to-old

pub from_old_settled : (κs : _) (a : _) (r : _) (s : _) (r' : _) (s' : _) → from_old.Learnt κs a r s → from_old.Learnt κs a r' s' → (r ≡ r') × (s.1.0.now ≡ s'.1.0.now)
from_old_settled κs a r s r' s' p q = (one p.0 q.0, one p.1 q.1)

pub to_old_settled : (κs : _) (a : _) (r : _) (s : _) (r' : _) (s' : _) → to-old.Learnt κs a r s → to-old.Learnt κs a r' s' → (r ≡ r') × (s.1.0.now ≡ s'.1.0.now)
to_old_settled κs a r s r' s' p q = (one p.0 q.0, one p.1 q.1)
