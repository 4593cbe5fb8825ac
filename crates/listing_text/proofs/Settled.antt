-- The public function's promise settles its outcome: any two outcomes that the contract allows are equal. `Learnt` is what a
-- caller learns from the contract, of any arguments a, result r and parameters at exit s. Assumes nothing.
use mathlib.Core.Path.{◌≡◌}
use Rattle.numbers.proofs.Settled.{one}
use Rattle.listing_text.proofs.list.Reads as list

pub list_settled : (κs : _) (a : _) (r : _) (s : _) (r' : _) (s' : _) → list.Learnt κs a r s → list.Learnt κs a r' s' → (r ≡ r') × (s.1.1.0.now ≡ s'.1.1.0.now)
list_settled κs a r s r' s' p q = (one p.0.0 q.0.0, one p.0.1 q.0.1)
