-- Each public function's promise settles its outcome: any two outcomes that the contract allows are equal. `Learnt` is what a
-- caller learns from the contract, of any arguments a, result r and parameters at exit s. Assumes nothing.
use mathlib.Core.Path.{◌≡◌}
use Rattle.numbers.proofs.Settled.{one}
use Rattle.name_fields.proofs.name_field.Reads as name-field
use Rattle.name_fields.proofs.write_name.Reads as write-name

pub name_field_settled : (κs : _) (a : _) (r : _) (s : _) (r' : _) (s' : _) → name-field.Learnt κs a r s → name-field.Learnt κs a r' s' → r ≡ r'
name_field_settled κs a r s r' s' p q = one p q

pub write_name_settled : (κs : _) (a : _) (r : _) (s : _) (r' : _) (s' : _) → write-name.Learnt κs a r s → write-name.Learnt κs a r' s'
    → (r ≡ r') × (s.0.now ≡ s'.0.now)
write_name_settled κs a r s r' s' p q = (one p.0 q.0, one p.1 q.1)
