-- Numbers whose high parts decide first: two digits compare one after the other as the number of both does, in any base (`digits`). Numbers
-- compare alike that lie the same way (`compare_by`). Assumes nothing.
use mathlib.Core.Path.{◌≡◌, sym, ap, ◌∙◌}
use mathlib.Core.Logic.{inl, inr}
use Prim.Native.Nat.{ℕ, ◌+◌, ◌*◌, ◌<◌}
use native.Mathlib.Nat.{suc-mul, mul-le-mul_right}
use native.Mathlib.Omega.{arith}
use Rattle.std.specs.declared.cmp.Ordering.{Ordering}
use Rattle.names.specs.Ordering.{compare_ℕ}
use Rattle.std.specs.Ordering.{ordering_then}
use Rattle.names.proofs.Laws.{ℕ_less, ℕ_same, ℕ_more, ℕ_cases}

-- two pairs of numbers that lie the same way
pub compare_by : (x y b d : ℕ) → (b < d → x < y) → (b ≡ d → x ≡ y) → (d < b → y < x) → compare_ℕ x y ≡ compare_ℕ b d
compare_by x y b d l s g = elim (ℕ_cases b d) [
  | inl h ↦ ℕ_less x y (l h) ∙ sym (ℕ_less b d h)
  | inr r ↦ elim r [ inl h ↦ ℕ_same x y (s h) ∙ sym (ℕ_same b d h) | inr h ↦ ℕ_more x y (g h) ∙ sym (ℕ_more b d h) ]
]

high_first : (x y a c : ℕ) (o : Ordering) → (a < c → x < y) → (a ≡ c → compare_ℕ x y ≡ o) → (c < a → y < x) → compare_ℕ x y ≡ ordering_then (compare_ℕ a c) o
high_first x y a c o l s g = elim (ℕ_cases a c) [
  | inl h ↦ ℕ_less x y (l h) ∙ sym (ap (λ (w : Ordering). ordering_then w o) (ℕ_less a c h))
  | inr r ↦ elim r [
    | inl h ↦ s h ∙ sym (ap (λ (w : Ordering). ordering_then w o) (ℕ_same a c h))
    | inr h ↦ ℕ_more x y (g h) ∙ sym (ap (λ (w : Ordering). ordering_then w o) (ℕ_more a c h))
  ]
]

-- two digits of a number in base w
lower : (w a b c d : ℕ) → b < w → a < c → a * w + b < c * w + d
lower w a b c d h k =
    let e = suc-mul a w in
    let f = mul-le-mul_right w k in
    omega arith

pub digits : (w a b c d : ℕ) → b < w → d < w → compare_ℕ (a * w + b) (c * w + d) ≡ ordering_then (compare_ℕ a c) (compare_ℕ b d)
digits w a b c d p q =
    high_first (a * w + b) (c * w + d) a c (compare_ℕ b d) (lower w a b c d p)
    (λ h. let e = ap (λ (n : ℕ). n * w) h in compare_by (a * w + b) (c * w + d) b d (λ k. omega arith) (λ k. omega arith) (λ k. omega arith))
    (lower w c d a b q)
