-- `beside_of` of two names in bytes, from the tuples before the last of the first: where the second name has no more than these (`beside_short`),
-- and where it has (`beside_long`). Assumes nothing.
use mathlib.Core.Path.{◌≡◌, refl, sym, ap, ◌∙◌}
use mathlib.Core.List.{[], ◌∷◌, ◌++◌}
use Prim.Native.Nat.{ℕ, suc, ◌+◌, ◌-◌, ◌*◌, ◌<◌, ◌≤◌}
use native.Mathlib.Decide.{dec_le}
use native.Mathlib.Omega.{arith}
use borrow.Author.Tests.{eq-eqb, ne_eqb}
use lib.Dec.{eqb}
use lib.ListN.{length}
use Rattle.names.specs.declared.Tuple.{Tuple}
use Rattle.std.specs.declared.cmp.Ordering.{Ordering}
use Rattle.std.specs.declared.cmp.Ordering.TheVariants.{Less, Equal, Greater}
use Rattle.names.specs.Ordering.{Row, compare_tuples, compare_rows}
use Rattle.std.specs.Ordering.{ordering_then}
use Rattle.numbers.specs.Bytes.{Bytes}
use Rattle.slots.specs.Tuples.{tuple_at, tuples_at, tuple_size}
use Rattle.slots.proofs.TuplesInBytes.{length_tuples_at, split_tuples_at}
use Rattle.runs.specs.declared.Stand.{Stand}
use Rattle.runs.specs.declared.Stand.TheVariants.{Below}
use Rattle.runs.specs.Beside.{decided, compare_fronts, by_offsets, is_empty, beside_of}
use Rattle.runs.proofs.RunNames.{to_last}

decided_then : (o p : Ordering) (r : Stand) → decided o (decided p r) ≡ decided (ordering_then o p) r
decided_then Less p r = refl
decided_then Equal p r = refl
decided_then Greater p r = refl

-- a tuple that is not the last
beside_first : (s : Tuple) (w : Row) (t u : Tuple) (b : Row) → beside_of (s ∷ (w ++ (t ∷ []))) (u ∷ b) ≡ decided (compare_tuples s u) (beside_of (w ++ (t ∷ [])) b)
unfolding beside_of
beside_first s [] t u b = refl
beside_first s (v ∷ w) t u b = refl

short : (w : Row) (t : Tuple) (b : Row) → length b ≤ length w → beside_of (w ++ (t ∷ [])) b ≡ decided (compare_rows w b) Below
unfolding beside_of compare_rows
short [] t [] h = refl
short [] t (u ∷ b) h = absurd (omega arith)
short (s ∷ w) t [] h = refl
short (s ∷ w) t (u ∷ b) h =
    beside_first s w t u b ∙ ap (decided (compare_tuples s u)) (short w t b (omega arith)) ∙ decided_then (compare_tuples s u) (compare_rows w b) Below

long : (w : Row) (t : Tuple) (v : Row) (u : Tuple) (b : Row) → length v ≡ length w →
    beside_of (w ++ (t ∷ [])) (v ++ (u ∷ b)) ≡ decided (compare_rows w v) (decided (compare_fronts t u) (by_offsets t.offset u.offset (is_empty b)))
unfolding beside_of compare_rows
long [] t [] u b e = refl
long [] t (r ∷ v) u b e = absurd (omega arith)
long (s ∷ w) t [] u b e = absurd (omega arith)
long (s ∷ w) t (r ∷ v) u b e =
    beside_first s w t r (v ++ (u ∷ b))
    ∙ ap (decided (compare_tuples s r)) (long w t v u b (omega arith))
    ∙ decided_then (compare_tuples s r) (compare_rows w v) (decided (compare_fronts t u) (by_offsets t.offset u.offset (is_empty b)))

-- by number n - 1 of the tuples from p on in a and from q on in b, the last of the first name, where those before are equal; the second
-- name has k tuples
abbrev pub by_last : Bytes → ℕ → ℕ → Bytes → ℕ → ℕ → Stand
by_last a p n b q k =
    let t = tuple_at a (p + tuple_size * (n - 1)) in
    let u = tuple_at b (q + tuple_size * (n - 1)) in
    decided (compare_fronts t u) (by_offsets t.offset u.offset (eqb k n))

-- n tuples from p on in a, and k from q on in b; what stands before the last compares as o
module _ (a : Bytes) (p n : ℕ) (b : Bytes) (q k : ℕ) (h : 1 ≤ n) where
  pub beside_short : {r o : Ordering} → k ≤ n - 1 → r ≡ compare_rows (tuples_at a p (n - 1)) (tuples_at b q k) → r ≡ o → decided o Below ≡ beside_of (tuples_at a p n) (tuples_at b q k)
  beside_short g e f =
      let w = tuples_at a p (n - 1) in
      let v = tuples_at b q k in
      ap (λ (z : Ordering). decided z Below) (sym f ∙ e)
      ∙ sym (short w (tuple_at a (p + tuple_size * (n - 1))) v (omega (arith, length_tuples_at a p (n - 1), length_tuples_at b q k)))
      ∙ ap (λ (z : Row). beside_of z v) (sym (to_last a p n h))

  pub beside_long : {r o : Ordering} → n - 1 < k → r ≡ compare_rows (tuples_at a p (n - 1)) (tuples_at b q (n - 1)) → r ≡ o → decided o (by_last a p n b q k) ≡ beside_of (tuples_at a p n) (tuples_at b q k)
  beside_long g e f =
      let w = tuples_at a p (n - 1) in
      let v = tuples_at b q (n - 1) in
      let t = tuple_at a (p + tuple_size * (n - 1)) in
      let u = tuple_at b (q + tuple_size * (n - 1)) in
      let rest = tuples_at b (q + tuple_size * (n - 1) + tuple_size) (k - n) in
      let l : k - (n - 1) ≡ suc (k - n) = omega arith in
      let whole : v ++ (u ∷ rest) ≡ tuples_at b q k = ap (λ (j : ℕ). v ++ tuples_at b (q + tuple_size * (n - 1)) j) (sym l) ∙ split_tuples_at b q k (n - 1) (omega arith) in
      (λ i. decided ((sym f ∙ e) i) (decided (compare_fronts t u) (by_offsets t.offset u.offset (ended i))))
      ∙ sym (long w t v u rest (length_tuples_at b q (n - 1) ∙ sym (length_tuples_at a p (n - 1))))
      ∙ (λ i. beside_of (sym (to_last a p n h) i) (whole i))
    where
      -- the second name ends there too where it has as many tuples
      ended : eqb k n ≡ is_empty (tuples_at b (q + tuple_size * (n - 1) + tuple_size) (k - n))
      ended =
          elim (dec_le k n) [
            | yes l ↦ eq-eqb k n (omega arith) ∙ sym (eq-eqb (k - n) 0 (omega arith))
            | no l ↦ ne_eqb k n (λ e. omega arith) ∙ sym (ne_eqb (k - n) 0 (λ e. omega arith))
          ]
          ∙ ap (λ (j : ℕ). eqb j 0) (sym (length_tuples_at b (q + tuple_size * (n - 1) + tuple_size) (k - n)))
