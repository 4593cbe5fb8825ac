-- Each public function's promise settles its outcome: any two outcomes that the contract allows are equal. `Learnt` is what a
-- caller learns from the contract, of any arguments a, result r and parameters at exit s. Assumes nothing.
use mathlib.Core.Path.{◌≡◌}
use Rattle.numbers.proofs.Settled.{one}
use Rattle.names.specs.Names.{row_of}
use Rattle.name_values.proofs.low_marker.Reads as low-marker
use Rattle.name_values.proofs.high_marker.Reads as high-marker
use Rattle.name_values.proofs.empty.Reads as empty
use Rattle.name_values.proofs.join_by.Reads as join_by
use Rattle.name_values.proofs.not_below_zero.Reads as not-below-zero
use Rattle.name_values.proofs.one.Reads as one-reads
use Rattle.name_values.proofs.one_below.Reads as one_below_lem
use Rattle.name_values.proofs.one_lower.Reads as one_lower
use Rattle.name_values.proofs.push.Reads as push

pub low_marker_settled : (κs : _) (a : _) (r : _) (s : _) (r' : _) (s' : _) → low-marker.Learnt κs a r s → low-marker.Learnt κs a r' s' → r ≡ r'
low_marker_settled κs a r s r' s' p q = one p q

pub high_marker_settled : (κs : _) (a : _) (r : _) (s : _) (r' : _) (s' : _) → high-marker.Learnt κs a r s → high-marker.Learnt κs a r' s' → r ≡ r'
high_marker_settled κs a r s r' s' p q = one p q

pub empty_settled : (κs : _) (a : _) (r : _) (s : _) (r' : _) (s' : _) → empty.Learnt κs a r s → empty.Learnt κs a r' s' → r ≡ r'
empty_settled κs a r s r' s' p q = one p q

pub join_by_settled : (κs : _) (a : _) (r : _) (s : _) (r' : _) (s' : _) → join_by.Learnt κs a r s → join_by.Learnt κs a r' s' → r ≡ r'
join_by_settled κs a r s r' s' p q = one p q

pub not_below_zero_settled : (κs : _) (a : _) (r : _) (s : _) (r' : _) (s' : _) → not-below-zero.Learnt κs a r s → not-below-zero.Learnt κs a r' s' → r ≡ r'
not_below_zero_settled κs a r s r' s' p q = one p q

pub one_settled : (κs : _) (a : _) (r : _) (s : _) (r' : _) (s' : _) → one-reads.Learnt κs a r s → one-reads.Learnt κs a r' s' → r ≡ r'
one_settled κs a r s r' s' p q = one p q

pub one_below_settled : (κs : _) (a : _) (r : _) (s : _) (r' : _) (s' : _) → one_below_lem.Learnt κs a r s → one_below_lem.Learnt κs a r' s' → row_of r ≡ row_of r'
one_below_settled κs a r s r' s' p q = one p q

pub one_lower_settled : (κs : _) (a : _) (r : _) (s : _) (r' : _) (s' : _) → one_lower.Learnt κs a r s → one_lower.Learnt κs a r' s' → r ≡ r'
one_lower_settled κs a r s r' s' p q = one p q

pub push_settled : (κs : _) (a : _) (r : _) (s : _) (r' : _) (s' : _) → push.Learnt κs a r s → push.Learnt κs a r' s' → r ≡ r'
push_settled κs a r s r' s' p q = one p q
