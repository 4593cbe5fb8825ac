-- Offsets in two's complement: what a test of the sign says, and both ways between a number of 32 bits and its bits. Assumes nothing.
use mathlib.Core.Path.{◌≡◌, refl, ◌∙◌, sym, ap}
use mathlib.Core.Bool.{true, false}
use Prim.Native.Nat.{ℕ, suc, ◌-◌, ◌≤◌, ◌<◌}
use native.Mathlib.Omega.{arith}
use native.Mathlib.Decide.{dec_lt}
use borrow.Author.Tests.{le-ltb}
use lib.Dec.{leb-zero}
use lib.IntN.{ℤ, pos, negsuc, ◌-ℤ◌}
use lib.Signed.{le_z, mag}
use Rattle.numbers.specs.Bytes.{signed, unsigned}
use Rattle.numbers.proofs.ReadNumbers.{signed_pos, signed_neg}

never : true ≡ false → ⊥
never e = let z : ◌≡◌ {A = ℕ} 0 1 = cc in omega arith

-- a number that is at least 0, and one that is below 0
pub is_pos : (z : ℤ) → le_z (pos 0) z ≡ true → (n : ℕ) × (z ≡ pos n)
is_pos (pos n) e = (n, refl)
is_pos (negsuc n) e = absurd (never (sym e))

pub is_neg : (z : ℤ) → le_z (pos 0) z ≡ false → (n : ℕ) × (z ≡ negsuc n)
is_neg (pos n) e = absurd (never (sym (leb-zero n) ∙ e))
is_neg (negsuc n) e = (n, refl)

pub flipped : (n : ℕ) → negsuc 0 -ℤ negsuc n ≡ pos n
flipped n =
    let h : 1 ≤ suc n = omega arith in
    let e : suc n - 1 ≡ n = omega arith in
    simp (le-ltb (suc n) 1 h) (ap pos e)

pub unsigned_signed : (n : ℕ) → n < 4294967296 → unsigned (signed n) ≡ n
unsigned_signed n h = elim (dec_lt n 2147483648) [
  | yes k ↦ ap unsigned (signed_pos n k)
  | no k ↦ ap unsigned (signed_neg n (omega arith)) ∙ omega arith
]

-- an offset of 32 bits
pub data Word : ℤ → Type 0 where
  high : {n : ℕ} → n < 2147483648 → Word (pos n)
  low : {n : ℕ} → n < 2147483648 → Word (negsuc n)

pub signed_unsigned : {z : ℤ} → Word z → signed (unsigned z) ≡ z
signed_unsigned (high {n} h) = signed_pos n h
signed_unsigned (low {n} h) =
    let k : 2147483648 ≤ 4294967295 - n = omega arith in
    let e : 4294967295 - (4294967295 - n) ≡ n = omega arith in
    signed_neg (4294967295 - n) k ∙ ap negsuc e

pub is_word : (z : ℤ) → mag z < 2147483648 → Word z
is_word (pos n) h = high {n = n} h
is_word (negsuc n) h = low {n = n} h

pub unsigned_fits : {z : ℤ} → Word z → unsigned z < 4294967296
unsigned_fits (high h) = omega arith
unsigned_fits (low h) = omega arith
