-- What follows a prefix, as the comparison of names where they stand tells it; the neighbours of a gap, and their first positions.
-- Assumes nothing.
use mathlib.Core.Path.{◌≡◌, refl, ◌∙◌, sym, ap}
use mathlib.Core.List.{List, [], ◌∷◌}
use mathlib.Core.Option.{none, some}
use mathlib.Core.Bool.{Bool, true, false, cond}
use Prim.Native.Nat.{ℕ, zero, suc, ◌-◌, ◌<◌, ◌≤◌}
use native.Mathlib.Nat.{not-suc-le-zero}
use native.Mathlib.Omega.{arith}
use lib.ListN.{length, take, drop, get_or}
use Rattle.std.specs.declared.cmp.Ordering.{Ordering}
use Rattle.std.specs.declared.cmp.Ordering.TheVariants.{Less, Equal, Greater}
use Rattle.names.specs.Ordering.{Row, compare_tuples, compare_rows}
use Rattle.std.specs.Ordering.{ordering_then, is_eq}
use Rattle.numbers.specs.Bytes.{Bytes, at16}
use Rattle.slots.specs.Tuples.{tuple_at, tuples_at}
use Rattle.slots.proofs.TuplesInBytes.{length_tuples_at, take_tuples_at}
use Rattle.new_names.specs.NewNames.{first_or, rest, name_before}

-- ── what follows a prefix ──

longer : (a b : Row) → length b < length a → rest a b ≡ none
unfolding rest
longer [] b h = absurd (not-suc-le-zero h)
longer (s ∷ a) [] h = refl
longer (s ∷ a) (t ∷ b) h = go (is_eq (compare_tuples s t)) (longer a b (omega arith))
  where
    go : (c : Bool) → rest a b ≡ none → cond c (rest a b) none ≡ none
    go true e = e
    go false e = refl

-- a is compared with as many of b's tuples
compared : (a b : Row) → length a ≤ length b → rest a b ≡ cond (is_eq (compare_rows a (take (length a) b))) (some (drop (length a) b)) none
unfolding rest compare_rows
compared [] b h = refl
compared (s ∷ a) [] h = absurd (not-suc-le-zero h)
compared (s ∷ a) (t ∷ b) h = go (compare_tuples s t) (compared a b (omega arith))
  where
    go : (o : Ordering) → rest a b ≡ cond (is_eq (compare_rows a (take (length a) b))) (some (drop (length a) b)) none →
        cond (is_eq o) (rest a b) none ≡ cond (is_eq (ordering_then o (compare_rows a (take (length a) b)))) (some (drop (length a) b)) none
    go Less e = refl
    go Equal e = e
    go Greater e = refl

-- the n tuples from p on, and the k from q on
module _ (s : Bytes) (p n q k : ℕ) where
  pub rest_longer : k < n → rest (tuples_at s p n) (tuples_at s q k) ≡ none
  rest_longer h = longer (tuples_at s p n) (tuples_at s q k) (omega (arith, length_tuples_at s p n, length_tuples_at s q k))

  -- the first n of both compare as o
  pub rest_compared : {o : Ordering} → o ≡ compare_rows (tuples_at s p n) (tuples_at s q n) → n ≤ k →
      rest (tuples_at s p n) (tuples_at s q k) ≡ cond (is_eq o) (some (drop n (tuples_at s q k))) none
  rest_compared e h =
      let a = tuples_at s p n in
      let b = tuples_at s q k in
      let l = length_tuples_at s p n in
      let t = (λ i. compare_rows a (take (l i) b)) ∙ ap (compare_rows a) (take_tuples_at s q k n h) ∙ sym e in
      compared a b (omega (arith, l, length_tuples_at s q k)) ∙ (λ i. cond (is_eq (t i)) (some (drop (l i) b)) none)

-- ── neighbours of a gap ──

pub before_zero : (g : ℕ) (l : List Row) → g < 1 → [] ≡ name_before g l
before_zero zero l h = refl
before_zero (suc g) l h = absurd (omega arith)

pub before_suc : (g : ℕ) (l : List Row) → 1 ≤ g → get_or l (g - 1) [] ≡ name_before g l
before_suc zero l h = absurd (not-suc-le-zero h)
before_suc (suc g) l h = let e : suc g - 1 ≡ g = omega arith in ap (λ (k : ℕ). get_or l k []) e

-- ── first positions, of the n tuples from p on ──

module _ (s : Bytes) (p missing : ℕ) where
  pub first_none : (n : ℕ) → n < 1 → missing ≡ first_or missing (tuples_at s p n)
  first_none zero h = refl
  first_none (suc n) h = absurd (omega arith)

  pub first_some : (n : ℕ) → 1 ≤ n → at16 s p ≡ first_or missing (tuples_at s p n)
  unfolding tuple_at
  first_some zero h = absurd (not-suc-le-zero h)
  first_some (suc n) h = refl
