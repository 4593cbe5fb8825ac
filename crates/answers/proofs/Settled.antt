-- Each public function's promise settles its outcome: any two outcomes that the contract allows are equal. `Learnt` is what a
-- caller learns from the contract, of any arguments a, result r and parameters at exit s. Assumes nothing.
use mathlib.Core.Path.{◌≡◌}
use Rattle.numbers.proofs.Settled.{one}
use Rattle.answers.proofs.number.Reads as number
use Rattle.answers.proofs.count.Reads as count
use Rattle.answers.proofs.U32FromRefusal.from.Reads as from

pub number_settled : (κs : _) (a : _) (r : _) (s : _) (r' : _) (s' : _) → number.Learnt κs a r s → number.Learnt κs a r' s' → r ≡ r'
number_settled κs a r s r' s' p q = one p q

pub count_settled : (κs : _) (a : _) (r : _) (s : _) (r' : _) (s' : _) → count.Learnt κs a r s → count.Learnt κs a r' s' → r ≡ r'
count_settled κs a r s r' s' p q = one p q

pub from_settled : (κs : _) (a : _) (r : _) (s : _) (r' : _) (s' : _) → from.Learnt κs a r s → from.Learnt κs a r' s' → r ≡ r'
from_settled κs a r s r' s' p q = one p q
