-- What is left of a comparison of two names at index i, and of a name and one tuple. Assumes nothing.
use mathlib.Core.Path.{◌≡◌, refl, sym}
use mathlib.Core.List.{List, [], ◌∷◌}
use Prim.Native.Nat.{ℕ, ◌+◌, ◌<◌, ◌≤◌}
use native.Mathlib.Numerals.{add-one}
use native.Mathlib.Omega.{arith}
use lib.ListN.{length, take, drop, get_or, drop_of_length-le}
use lib.Seq.{drop-cons, get_or-take, length-take-le}
use Rattle.names.specs.declared.Tuple.{Tuple}
use Rattle.std.specs.declared.cmp.Ordering.{Ordering}
use Rattle.std.specs.declared.cmp.Ordering.TheVariants.{Less, Equal, Greater}
use Rattle.names.specs.Ordering.{Row, compare_tuples, compare_rows}
use Rattle.std.specs.Ordering.{ordering_then}

-- of n tuples of xs and m of ys, those from i on
abbrev pub left : List Tuple → List Tuple → ℕ → ℕ → ℕ → Ordering
left xs ys n m i = compare_rows (drop i (take n xs)) (drop i (take m ys))

module _ (xs ys : List Tuple) (n m i : ℕ) (d : Tuple) (hn : n ≤ length xs) (hm : m ≤ length ys) where
  ln : length (take n xs) ≡ n
  ln = length-take-le n xs hn

  lm : length (take m ys) ≡ m
  lm = length-take-le m ys hm

  left_step : i < n → i < m → left xs ys n m i ≡ ordering_then (compare_tuples (get_or xs i d) (get_or ys i d)) (left xs ys n m (i + 1))
  unfolding compare_rows
  left_step h k =
      let p : i < length (take n xs) = omega (arith, ln) in
      let q : i < length (take m ys) = omega (arith, lm) in
      rw (add-one, drop-cons (take n xs) i d p, drop-cons (take m ys) i d q, get_or-take n xs i d h, get_or-take m ys i d k)

  pub left_same : n ≤ i → m ≤ i → Equal ≡ left xs ys n m i
  unfolding compare_rows
  left_same h k =
      let p : length (take n xs) ≤ i = omega (arith, ln) in
      let q : length (take m ys) ≤ i = omega (arith, lm) in
      rw (drop_of_length-le (take n xs) p, drop_of_length-le (take m ys) q)

  pub left_less : n ≤ i → i < m → Less ≡ left xs ys n m i
  unfolding compare_rows
  left_less h k =
      let p : length (take n xs) ≤ i = omega (arith, ln) in
      let q : i < length (take m ys) = omega (arith, lm) in
      rw (drop_of_length-le (take n xs) p, drop-cons (take m ys) i d q)

  pub left_more : i < n → m ≤ i → Greater ≡ left xs ys n m i
  unfolding compare_rows
  left_more h k =
      let p : i < length (take n xs) = omega (arith, ln) in
      let q : length (take m ys) ≤ i = omega (arith, lm) in
      rw (drop-cons (take n xs) i d p, drop_of_length-le (take m ys) q)

  -- at a turn: the tuples at i compare as o
  pub left_at : {o : Ordering} → o ≡ compare_tuples (get_or xs i d) (get_or ys i d) → i < n → i < m → ordering_then o (left xs ys n m (i + 1)) ≡ left xs ys n m i
  left_at e h k = rw e (sym (left_step h k))

-- ── against one tuple ──

pub to_none : (a : Row) (t : Tuple) → length a < 1 → Less ≡ compare_rows a (t ∷ [])
unfolding compare_rows
to_none [] t h = refl
to_none (s ∷ a) t h = absurd (omega arith)

pub to_one : (a : Row) (t d : Tuple) {o : Ordering} → o ≡ compare_tuples (get_or a 0 d) t → 1 ≤ length a → ordering_then o (compare_rows (drop 1 a) []) ≡ compare_rows a (t ∷ [])
unfolding compare_rows
to_one [] t d e h = absurd (omega arith)
to_one (s ∷ a) t d e h = rw e

pub after_same : (a : Row) → length a < 2 → Equal ≡ compare_rows (drop 1 a) []
unfolding compare_rows
after_same [] h = refl
after_same (s ∷ []) h = refl
after_same (s ∷ u ∷ a) h = absurd (omega arith)

pub after_more : (a : Row) → 2 ≤ length a → Greater ≡ compare_rows (drop 1 a) []
unfolding compare_rows
after_more [] h = absurd (omega arith)
after_more (s ∷ []) h = absurd (omega arith)
after_more (s ∷ u ∷ a) h = refl
