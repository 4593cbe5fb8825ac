-- A list cut into parts of equal size: how many, each one, and all of them together. Assumes nothing.
use mathlib.Core.Path.{◌≡◌, refl, ◌∙◌, sym, ap}
use mathlib.Core.List.{[], ◌∷◌, ◌++◌, flatten}
use Prim.Native.Nat.{ℕ, zero, suc, ◌+◌, ◌-◌, ◌*◌, ◌/◌, ◌<◌, ◌≤◌}
use native.Mathlib.Nat.{mul-zero, mul-suc, div-eq_of_lt, div-eq-sub-div, add_comm, le_of_suc-le-suc, not-suc-le-zero}
use native.Mathlib.Numerals.{add-one}
use native.Mathlib.Omega.{arith}
use lib.ListN.{length, get_or, take, drop, drop_of_length-le, length-drop, take-append-drop}
use lib.Seq.{drop-drop}
use Rattle.numbers.specs.Bytes.{Bytes}
use Rattle.numbers.specs.Lists.{equal_parts}
use Rattle.std.specs.Simd.{first_chunks}
use Rattle.numbers.proofs.Lists.{flat, flat_none}

pub length_parts : (size n : ℕ) (s : Bytes) → length (first_chunks size n s) ≡ n
length_parts size zero s = refl
length_parts size (suc n) s = ap suc (length_parts size n (drop size s))

pub get_or_parts : (size n : ℕ) (s : Bytes) (k : ℕ) → k < n → get_or (first_chunks size n s) k [] ≡ take size (drop (size * k) s)
get_or_parts size zero s k h = absurd (not-suc-le-zero h)
get_or_parts size (suc n) s zero h = rw (mul-zero size)
get_or_parts size (suc n) s (suc k) h =
    let e : size + size * k ≡ size * suc k = sym (mul-suc size k ∙ add_comm (size * k) size) in
    get_or_parts size n (drop size s) k (le_of_suc-le-suc h) ∙ rw (drop-drop (size * k) size s, e)

-- the whole parts: the first and those of the rest, or none
module _ (size : ℕ) (s : Bytes) where
  pub parts_first : 0 < size → size ≤ length s → equal_parts size s ≡ take size s ∷ equal_parts size (drop size s)
  parts_first k h =
      let e : (length s - size) / size ≡ length (drop size s) / size = ap (λ (n : ℕ). n / size) (sym (length-drop size s)) in
      ap (λ (n : ℕ). first_chunks size n s) (div-eq-sub-div k h ∙ add-one ((length s - size) / size))
      ∙ ap (λ (n : ℕ). take size s ∷ first_chunks size n (drop size s)) e

  pub parts_none : length s < size → equal_parts size s ≡ []
  parts_none h = ap (λ (n : ℕ). first_chunks size n s) (div-eq_of_lt h)

-- the parts, one after the other, are the whole
pub flat_all : (size n : ℕ) (s : Bytes) → length s ≡ size * n → flatten (first_chunks size n s) ≡ s
flat_all size zero s e = flat_none ∙ sym (drop_of_length-le s {i = 0} (omega arith))
flat_all size (suc n) s e =
    flat (take size s) (first_chunks size n (drop size s))
    ∙ ap (λ (l : Bytes). take size s ++ l) (flat_all size n (drop size s) (simp length-drop (omega arith)))
    ∙ take-append-drop size s
