-- Where a name that is not below a run's first stands beside the run, of names in bytes: by their lengths and by `same_but_last` (`shorter`, `other`), and
-- by the last offsets where these are all that differs (`reaches`). Names of different lengths do not come after each other (`other_length`).
-- Assumes nothing.
use mathlib.Core.Path.{◌≡◌, refl, sym, ap, ◌∙◌}
use mathlib.Core.Logic.{◌⊎◌, inl, inr}
use mathlib.Core.List.{◌∷◌}
use mathlib.Core.Bool.{Bool, true, false, cond, ◌&&◌}
use Prim.Native.Nat.{ℕ, ◌+◌, ◌-◌, ◌*◌, ◌<◌, ◌≤◌}
use native.Mathlib.Decide.{dec_lt, dec_le}
use native.Mathlib.Omega.{arith}
use borrow.Author.Tests.{lt-ltb, eq-eqb, ne_eqb}
use lib.Dec.{eqb}
use lib.IntN.{pos}
use lib.ListN.{length, take, length-append}
use Rattle.std.specs.declared.cmp.Ordering.{Ordering}
use Rattle.names.specs.Ordering.{Row, compare_rows, ◌<ⁿ◌}
use Rattle.names.specs.Names.{is_name}
use Rattle.names.proofs.Laws.{Tri, below as is_below, level as is_level, above as is_above, tri_n}
use Rattle.numbers.specs.Bytes.{Bytes, at32, signed}
use Rattle.numbers.proofs.Bools.{yes_no}
use Rattle.numbers.proofs.ReadNumbers.{signed_pos, signed_neg}
use Rattle.slots.specs.Tuples.{tuples_at, tuple_size}
use Rattle.slots.proofs.TuplesInBytes.{length_tuples_at, take_tuples_at, split_tuples_at}
use Rattle.runs.specs.declared.Stand.{Stand}
use Rattle.runs.specs.declared.Stand.TheVariants.{Below, Before, At, Beyond, Above}
use Rattle.runs.specs.Runs.{onward}
use Rattle.runs.specs.Beside.{by_offsets, is_empty, beside_of, same_but_last}
use Rattle.runs.specs.Laws.{Says, below, before, at, beyond, above}
use Rattle.runs.proofs.RunNames.{onward_length, last_offset, name_count, name_at, last_at}
use Rattle.runs.proofs.RunLaws.{says, against, compared}
use Rattle.runs.proofs.ByOffsets.{reaching}
use Rattle.runs.proofs.SameButLast.{beside_same, beside_other}
use Rattle.std.specs.Ordering.{is_eq, is_le}

pub other_length : (k : ℕ) (a b : Row) → ¬ (length a ≡ length b) → is_eq (compare_rows (onward k a) b) ≡ false
other_length k a b n = go (compare_rows (onward k a) b) (tri_n (onward k a) b)
  where
    go : (o : Ordering) → Tri ◌<ⁿ◌ (onward k a) b o → is_eq o ≡ false
    go _ (is_below h) = refl
    go _ (is_level h) = absurd (n (sym (onward_length k a) ∙ ap length h))
    go _ (is_above h) = refl

-- ── not below the first ──

no_shorter : (a b : Row) {r : Stand} → Says a b r → is_le (against r 0) ≡ true → length b < length a → r ≡ Above
no_shorter a b (below f n) e h = yes_no e refl
no_shorter a b (before f) e h = yes_no e refl
no_shorter a b (at {i} f) e h = absurd (omega (arith, ap length f, onward_length i a))
no_shorter a b (beyond {i} t u f) e h = absurd (omega (arith, ap length f, length-append (onward i a) (t ∷ u), onward_length i a))
no_shorter a b (above f) e h = refl

not_below : {r : Stand} → is_le (against r 0) ≡ true → (r ≡ Above) ⊎ (r ≡ Below) → r ≡ Above
not_below e (inl f) = f
not_below e (inr f) = yes_no (ap (λ (r : Stand). is_le (against r 0)) (sym f) ∙ e) refl

not_under : (c : Bool) → is_le (against (cond c Before Below) 0) ≡ true → ⊥
not_under true e = yes_no e refl
not_under false e = yes_no e refl

-- the second offset is no lower
no_lower : (x v : ℕ) (ends : Bool) → is_le (against (by_offsets (pos x) (signed v) ends) 0) ≡ true → (signed v ≡ pos v) × (x ≤ v)
no_lower x v ends e = elim (dec_lt v 2147483648) [
  | yes h ↦
      let f = signed_pos v h in
      elim (dec_le x v) [
        | yes g ↦ (f, g)
        | no g ↦ absurd (not_under (ends && eqb (v + 1) x) (simp (f, lt-ltb v x (omega arith)) at e))
      ]
  | no h ↦ absurd (not_under (ends && eqb (4294967295 - v) 0 && eqb x 0) (simp (signed_neg v (omega arith)) at e))
]

-- n tuples from p on in s, the first name of a run, and k from q on in t
module _ (s : Bytes) (p n : ℕ) (t : Bytes) (q k : ℕ) (e : is_name (tuples_at s p n) ≡ true) (f : is_le (compare_rows (tuples_at s p n) (tuples_at t q k)) ≡ true) where
  abbrev a : Row
  a = tuples_at s p n

  abbrev b : Row
  b = tuples_at t q k

  abbrev x : ℕ
  x = at32 s (p + (tuple_size * n - 4))

  abbrev y : ℕ
  y = at32 t (q + (tuple_size * n - 4))

  no_higher : is_le (against (beside_of a b) 0) ≡ true
  no_higher = ap is_le (sym (compared a b e 0)) ∙ f

  pub shorter : k < n → beside_of a b ≡ Above
  shorter h = no_shorter a b (says a b e) no_higher (omega (arith, length_tuples_at s p n, length_tuples_at t q k))

  pub other : n ≤ k → same_but_last a (tuples_at t q n) ≡ false → beside_of a b ≡ Above
  other h g =
      let l = length_tuples_at s p n in
      let c : take (length a) b ≡ tuples_at t q n = ap (λ (j : ℕ). take j b) l ∙ take_tuples_at t q k n h in
      not_below no_higher (beside_other a b (omega (arith, l, length_tuples_at t q k)) (ap (same_but_last a) c ∙ g))

  pub reaches : n ≤ k → same_but_last a (tuples_at t q n) ≡ true → (x ≤ y) × (beside_of a b ≡ cond (eqb k n) (At (y - x)) (Beyond (y - x)))
  reaches h g =
      let rest = tuples_at t (q + tuple_size * n) (k - n) in
      let c = name_count s p n e in
      let i : p + tuple_size * n - 4 ≡ p + (tuple_size * n - 4) = omega arith in
      let j : q + tuple_size * n - 4 ≡ q + (tuple_size * n - 4) = omega arith in
      let first : last_offset a ≡ pos x = (name_at s p n e).0 ∙ ap (λ (r : ℕ). pos (at32 s r)) i in
      let second : last_offset (tuples_at t q n) ≡ signed y = last_at t q n c ∙ ap (λ (r : ℕ). signed (at32 t r)) j in
      let by : beside_of a b ≡ by_offsets (pos x) (signed y) (eqb k n) =
      ap (beside_of a) (sym (split_tuples_at t q k n h)) ∙ beside_same a (tuples_at t q n) rest g ∙ (λ z. by_offsets (first z) (second z) (ended z)) in
      let low = no_lower x y (eqb k n) (ap (λ (r : Stand). is_le (against r 0)) (sym by) ∙ no_higher) in
      (low.1, by ∙ ap (λ z. by_offsets (pos x) z (eqb k n)) low.0 ∙ reaching y x (eqb k n) low.1)
    where
      ended : is_empty (tuples_at t (q + tuple_size * n) (k - n)) ≡ eqb k n
      ended =
          ap (λ (j : ℕ). eqb j 0) (length_tuples_at t (q + tuple_size * n) (k - n))
          ∙ elim (dec_le k n) [
            | yes l ↦ eq-eqb (k - n) 0 (omega arith) ∙ sym (eq-eqb k n (omega arith))
            | no l ↦ ne_eqb (k - n) 0 (λ r. omega arith) ∙ sym (ne_eqb k n (λ r. omega arith))
          ]
