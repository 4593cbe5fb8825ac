-- Each public function's promise settles its outcome: any two outcomes that the contract allows are equal. `Learnt` is what a
-- caller learns from the contract, of any arguments a, result r and parameters at exit s. Assumes nothing.
use mathlib.Core.Path.{◌≡◌, ◌∙◌, sym}
use Rattle.numbers.proofs.read_u16.Reads as read-u16
use Rattle.numbers.proofs.read_low32.Reads as read-low32
use Rattle.numbers.proofs.read_u32.Reads as read_u32
use Rattle.numbers.proofs.read_u64.Reads as read_u64
use Rattle.numbers.proofs.to_signed.Reads as to-signed
use Rattle.numbers.proofs.to_unsigned.Reads as to-unsigned
use Rattle.numbers.proofs.write_u16.Reads as write-u16
use Rattle.numbers.proofs.write_u32.Reads as write-u32
use Rattle.numbers.proofs.write_zeros.Reads as write-zeros
use Rattle.numbers.proofs.copy.Reads as copy

pub one : {A : Type 0} {x r r' : A} → r ≡ x → r' ≡ x → r ≡ r'
one p q = p ∙ sym q

pub read_u16_settled : (κs : _) (a : _) (r : _) (s : _) (r' : _) (s' : _) → read-u16.Learnt κs a r s → read-u16.Learnt κs a r' s' → r ≡ r'
read_u16_settled κs a r s r' s' p q = one p q

pub read_low32_settled : (κs : _) (a : _) (r : _) (s : _) (r' : _) (s' : _) → read-low32.Learnt κs a r s → read-low32.Learnt κs a r' s' → r ≡ r'
read_low32_settled κs a r s r' s' p q = one p q

pub read_u32_settled : (κs : _) (a : _) (r : _) (s : _) (r' : _) (s' : _) → read_u32.Learnt κs a r s → read_u32.Learnt κs a r' s' → r ≡ r'
read_u32_settled κs a r s r' s' p q = one p q

pub write_u16_settled : (κs : _) (a : _) (r : _) (s : _) (r' : _) (s' : _) → write-u16.Learnt κs a r s → write-u16.Learnt κs a r' s' → s.0.now ≡ s'.0.now
write_u16_settled κs a r s r' s' p q = one p q

pub write_u32_settled : (κs : _) (a : _) (r : _) (s : _) (r' : _) (s' : _) → write-u32.Learnt κs a r s → write-u32.Learnt κs a r' s' → s.0.now ≡ s'.0.now
write_u32_settled κs a r s r' s' p q = one p q

pub read_u64_settled : (κs : _) (a : _) (r : _) (s : _) (r' : _) (s' : _) → read_u64.Learnt κs a r s → read_u64.Learnt κs a r' s' → r ≡ r'
read_u64_settled κs a r s r' s' p q = one p q

pub to_signed_settled : (κs : _) (a : _) (r : _) (s : _) (r' : _) (s' : _) → to-signed.Learnt κs a r s → to-signed.Learnt κs a r' s' → r ≡ r'
to_signed_settled κs a r s r' s' p q = one p q

pub to_unsigned_settled : (κs : _) (a : _) (r : _) (s : _) (r' : _) (s' : _) → to-unsigned.Learnt κs a r s → to-unsigned.Learnt κs a r' s' → r ≡ r'
to_unsigned_settled κs a r s r' s' p q = one p q

pub write_zeros_settled : (κs : _) (a : _) (r : _) (s : _) (r' : _) (s' : _) → write-zeros.Learnt κs a r s → write-zeros.Learnt κs a r' s' → s.0.now ≡ s'.0.now
write_zeros_settled κs a r s r' s' p q = one p q

pub copy_settled : (κs : _) (a : _) (r : _) (s : _) (r' : _) (s' : _) → copy.Learnt κs a r s → copy.Learnt κs a r' s' → s.0.now ≡ s'.0.now
copy_settled κs a r s r' s' p q = one p q
