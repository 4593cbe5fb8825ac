-- Zero bytes, several at a time. Assumes nothing.
use mathlib.Core.Path.{◌≡◌, refl, ◌∙◌, sym}
use mathlib.Core.List.{[], ◌∷◌}
use mathlib.Core.Bool.{true, ◌&&◌, and-true}
use Prim.Native.Nat.{ℕ, ◌+◌, ◌<◌, ◌≤◌, zero, suc}
use native.Mathlib.Decide.{dec_le}
use native.Mathlib.Omega.{arith}
use borrow.Author.Tests.{eq-eqb, ne_eqb, eqb-true}
use lib.Dec.{eqb}
use lib.ListN.{length, get_or, take, drop, replicate}
use lib.Seq.{drop-cons}
use Rattle.numbers.specs.Bytes.{Bytes, at16, at32, at64, is_zero, all_zero}
use Rattle.numbers.proofs.Bools.{and_0, and_1}
use Rattle.numbers.proofs.Every.{every_split}

-- a number that is zero where both its parts are
pub zero_by : (z x y : ℕ) → (z ≡ 0 → x ≡ 0) → (z ≡ 0 → y ≡ 0) → (x ≡ 0 → y ≡ 0 → z ≡ 0) → eqb x 0 && eqb y 0 ≡ eqb z 0
zero_by z x y f g k = elim (dec_le x 0) [
  | yes h ↦
      let h' : x ≡ 0 = omega arith in
      elim (dec_le y 0) [
        | yes j ↦ let j' : y ≡ 0 = omega arith in (λ i. eq-eqb x 0 h' i && eq-eqb y 0 j' i) ∙ sym (eq-eqb z 0 (k h' j'))
        | no j ↦ (λ i. eq-eqb x 0 h' i && ne_eqb y 0 (λ e. omega arith) i) ∙ sym (ne_eqb z 0 (λ e. let w = g e in omega arith))
      ]
  | no h ↦ (λ i. ne_eqb x 0 (λ e. omega arith) i && eqb y 0) ∙ sym (ne_eqb z 0 (λ e. let w = f e in omega arith))
]

pub zero8 : (s : Bytes) (p : ℕ) → p < length s → all_zero (take 1 (drop p s)) ≡ eqb (get_or s p 0) 0
zero8 s p h = rw (drop-cons s p 0 h) (and-true (eqb (get_or s p 0) 0))

pub zero16 : (s : Bytes) (p : ℕ) → p + 2 ≤ length s → all_zero (take 2 (drop p s)) ≡ eqb (at16 s p) 0
zero16 s p h =
    every_split is_zero s p 1 1
    ∙ (λ i. zero8 s p (omega arith) i && zero8 s (p + 1) (omega arith) i)
    ∙ zero_by (at16 s p) (get_or s p 0) (get_or s (p + 1) 0) (λ e. omega arith) (λ e. omega arith) (λ e f. omega arith)

pub zero32 : (s : Bytes) (p : ℕ) → p + 4 ≤ length s → all_zero (take 4 (drop p s)) ≡ eqb (at32 s p) 0
zero32 s p h =
    every_split is_zero s p 2 2
    ∙ (λ i. zero16 s p (omega arith) i && zero16 s (p + 2) (omega arith) i)
    ∙ zero_by (at32 s p) (at16 s p) (at16 s (p + 2)) (λ e. omega arith) (λ e. omega arith) (λ e f. omega arith)

pub zero64 : (s : Bytes) (p : ℕ) → p + 8 ≤ length s → all_zero (take 8 (drop p s)) ≡ eqb (at64 s p) 0
zero64 s p h =
    every_split is_zero s p 4 4
    ∙ (λ i. zero32 s p (omega arith) i && zero32 s (p + 4) (omega arith) i)
    ∙ zero_by (at64 s p) (at32 s p) (at32 s (p + 4)) (λ e. omega arith) (λ e. omega arith) (λ e f. omega arith)

-- zeros are nothing but zeros
pub all_zeros : (l : Bytes) → all_zero l ≡ true → l ≡ replicate (length l) 0
all_zeros [] e = refl
all_zeros (x ∷ l) e =
    let a = eqb-true x 0 (and_0 (eqb x 0) (all_zero l) e) in
    let b = all_zeros l (and_1 (eqb x 0) (all_zero l) e) in
    λ i. a i ∷ b i

pub zeros_zero : (n : ℕ) → all_zero (replicate n 0) ≡ true
zeros_zero zero = refl
zeros_zero (suc n) = zeros_zero n
