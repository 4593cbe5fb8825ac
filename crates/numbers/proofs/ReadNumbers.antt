-- Numbers out of bytes: bounds, and numbers that stand some bytes further on or within the first bytes. Assumes nothing.
use mathlib.Core.Path.{◌≡◌, ◌∙◌, sym, ap}
use Prim.Native.Nat.{ℕ, ◌+◌, ◌*◌, ◌-◌, ◌<◌, ◌≤◌}
use native.Mathlib.Omega.{arith}
use borrow.Author.Tests.{lt-ltb, le-ltb}
use lib.IntN.{pos, negsuc}
use lib.ListN.{take, drop, get_or}
use lib.Seq.{get_or-drop, get_or-take}
use Rattle.numbers.specs.Bytes.{Bytes, Octets, at16, at32, signed}

pub fits16 : (s : Bytes) (p : ℕ) → Octets s → at16 s p < 65536
fits16 s p k = omega (arith, k p, k (p + 1))

pub fits32 : (s : Bytes) (p : ℕ) → Octets s → at32 s p < 4294967296
fits32 s p k = omega (arith, fits16 s p k, fits16 s (p + 2) k)

-- what stands n bytes further on
module _ (n : ℕ) (s : Bytes) where
  pub byte_on : (p q : ℕ) → q ≡ n + p → get_or (drop n s) p 0 ≡ get_or s q 0
  byte_on p q e = get_or-drop n s p 0 ∙ ap (λ (i : ℕ). get_or s i 0) (sym e)

  pub two_on : (p q : ℕ) → q ≡ n + p → at16 (drop n s) p ≡ at16 s q
  two_on p q e = λ i. byte_on p q e i * 256 + byte_on (p + 1) (q + 1) (omega arith) i

  pub four_on : (p q : ℕ) → q ≡ n + p → at32 (drop n s) p ≡ at32 s q
  four_on p q e = λ i. two_on p q e i * 65536 + two_on (p + 2) (q + 2) (omega arith) i

-- .. and numbers within the first n bytes
module _ (n : ℕ) (s : Bytes) where
  pub two_within : (p : ℕ) → p + 2 ≤ n → at16 (take n s) p ≡ at16 s p
  two_within p h = λ i. get_or-take n s p 0 (omega arith) i * 256 + get_or-take n s (p + 1) 0 (omega arith) i

  pub four_within : (p : ℕ) → p + 4 ≤ n → at32 (take n s) p ≡ at32 s p
  four_within p h = λ i. two_within p (omega arith) i * 65536 + two_within (p + 2) (omega arith) i

pub signed_pos : (a : ℕ) → a < 2147483648 → signed a ≡ pos a
signed_pos a h = simp (lt-ltb a 2147483648 h)

pub signed_neg : (a : ℕ) → 2147483648 ≤ a → signed a ≡ negsuc (4294967295 - a)
signed_neg a h = simp (le-ltb a 2147483648 h)
