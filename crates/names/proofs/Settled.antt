-- Each public function's promise settles its outcome: any two outcomes that the contract allows are equal. `Learnt` is what a
-- caller learns from the contract, of any arguments a, result r and parameters at exit s. Assumes nothing.
use mathlib.Core.Path.{◌≡◌}
use Rattle.numbers.proofs.Settled.{one}
use Rattle.names.proofs.compare_tuples.Reads as compare-tuples
use Rattle.names.proofs.Name.row.Reads as row
use Rattle.names.proofs.tuples_in.Reads as tuples-in
use Rattle.names.proofs.compare.Reads as compare
use Rattle.names.proofs.is_below.Reads as is_below

pub compare_tuples_settled : (κs : _) (a : _) (r : _) (s : _) (r' : _) (s' : _) → compare-tuples.Learnt κs a r s → compare-tuples.Learnt κs a r' s' → r ≡ r'
compare_tuples_settled κs a r s r' s' p q = one p q

pub tuples_in_settled : (κs : _) (a : _) (r : _) (s : _) (r' : _) (s' : _) → tuples-in.Learnt κs a r s → tuples-in.Learnt κs a r' s' → r ≡ r'
tuples_in_settled κs a r s r' s' p q = one p.0 q.0

pub compare_settled : (κs : _) (a : _) (r : _) (s : _) (r' : _) (s' : _) → compare.Learnt κs a r s → compare.Learnt κs a r' s' → r ≡ r'
compare_settled κs a r s r' s' p q = one p q

pub is_below_settled : (κs : _) (a : _) (r : _) (s : _) (r' : _) (s' : _) → is_below.Learnt κs a r s → is_below.Learnt κs a r' s' → r ≡ r'
is_below_settled κs a r s r' s' p q = one p q

-- the tuples of a name, up to where they stand
pub row_settled : (κs : _) (a : _) (r : _) (s : _) (r' : _) (s' : _) → row.Learnt κs a r s → row.Learnt κs a r' s' → r.now ≡ r'.now
row_settled κs a r s r' s' p q = one p q
