-- Each public function's promise settles its outcome: any two outcomes that the contract allows are equal. `Learnt` is what a
-- caller learns from the contract, of any arguments a, result r and parameters at exit s. Assumes nothing.
use mathlib.Core.Path.{◌≡◌}
use Rattle.numbers.proofs.Settled.{one}
use Rattle.fields.proofs.size_at.Reads as size_at
use Rattle.fields.proofs.field_stands.Reads as field_stands
use Rattle.fields.proofs.after_field.Reads as after_field_lem
use Rattle.fields.proofs.write_field_head.Reads as write-field-head

pub size_at_settled : (κs : _) (a : _) (r : _) (s : _) (r' : _) (s' : _) → size_at.Learnt κs a r s → size_at.Learnt κs a r' s' → r ≡ r'
size_at_settled κs a r s r' s' p q = one p.0 q.0

pub field_stands_settled : (κs : _) (a : _) (r : _) (s : _) (r' : _) (s' : _) → field_stands.Learnt κs a r s → field_stands.Learnt κs a r' s' → r ≡ r'
field_stands_settled κs a r s r' s' p q = one p q

pub after_field_settled : (κs : _) (a : _) (r : _) (s : _) (r' : _) (s' : _) → after_field_lem.Learnt κs a r s → after_field_lem.Learnt κs a r' s' → r ≡ r'
after_field_settled κs a r s r' s' p q = λ i. record { at = one p q i }

pub write_field_head_settled : (κs : _) (a : _) (r : _) (s : _) (r' : _) (s' : _) → write-field-head.Learnt κs a r s → write-field-head.Learnt κs a r' s' → s.0.now ≡ s'.0.now
write_field_head_settled κs a r s r' s' p q = one p q
