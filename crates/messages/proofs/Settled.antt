-- Each public function's promise settles its outcome: any two outcomes that the contract allows are equal. `Learnt` is what a
-- caller learns from the contract, of any arguments a, result r and parameters at exit s. Assumes nothing.
use mathlib.Core.Path.{◌≡◌}
use Rattle.numbers.proofs.Settled.{one}
use Rattle.messages.proofs.numbers_ok.Reads as numbers-ok
use Rattle.messages.proofs.most_names.Reads as most-names

pub numbers_ok_settled : (κs : _) (a : _) (r : _) (s : _) (r' : _) (s' : _) → numbers-ok.Learnt κs a r s → numbers-ok.Learnt κs a r' s' → r ≡ r'
numbers_ok_settled κs a r s r' s' p q = one p q

pub most_names_settled : (κs : _) (a : _) (r : _) (s : _) (r' : _) (s' : _) → most-names.Learnt κs a r s → most-names.Learnt κs a r' s' → r ≡ r'
most_names_settled κs a r s r' s' p q = one p q
