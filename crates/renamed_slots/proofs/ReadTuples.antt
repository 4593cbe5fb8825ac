-- The tuples of a name by number: of one that stands in bytes, of one below a name (`lowered_before`, `lowered_at`), of two rows one after the
-- other (`second_row`). Assumes nothing.
use mathlib.Core.Path.{◌≡◌, refl, ◌∙◌, sym, ap}
use mathlib.Core.List.{[], ◌∷◌, ◌++◌}
use mathlib.Core.Bool.{true}
use Prim.Native.Nat.{ℕ, zero, suc, ◌+◌, ◌-◌, ◌<◌, ◌≤◌}
use native.Mathlib.Omega.{arith}
use lib.ListN.{length, get_or}
use lib.Seq.{take_all, get_or-append-add}
use lib.Signed.{non_neg}
use Rattle.names.specs.declared.Tuple.{Tuple}
use Rattle.names.specs.Ordering.{Row}
use Rattle.names.specs.Names.{is_name, m, lowered, one_below}
use Rattle.name_values.proofs.OneBelowByValue.{last_from_zero}
use Rattle.numbers.specs.Bytes.{Bytes}
use Rattle.slots.specs.declared.Span.{Span}
use Rattle.slots.specs.Tuples.{row_at}
use Rattle.slots.proofs.TuplesInBytes.{length_tuples_at}

-- a name that stands in s has as many tuples as are said there
pub count_of : (s : Bytes) (x : Span) {a : Row} → row_at s x ≡ a → x.count ≡ length a
count_of s x e = sym (length_tuples_at s x.at x.count) ∙ ap length e

-- the last offset of a name, which is lowered, is 0 at least
pub last_natural : (a : Row) → is_name a ≡ true → non_neg (get_or a (length a - 1) m).offset ≡ true
last_natural a e =
    let whole = take_all (length a) a (omega arith) in
    ap (λ (r : Row). non_neg (get_or a (length r - 1) m).offset) (sym whole) ∙ last_from_zero a (length a) m (ap is_name whole ∙ e)

-- "that name with its last offset less 1": before the last tuple it is that name ..
pub lowered_before : (a : Row) (i : ℕ) (d : Tuple) → i + 1 < length a → get_or (one_below a) i d ≡ get_or a i d
unfolding one_below
lowered_before [] i d h = absurd (omega arith)
lowered_before (t ∷ []) i d h = absurd (omega arith)
lowered_before (t ∷ u ∷ a) zero d h = refl
lowered_before (t ∷ u ∷ a) (suc i) d h = lowered_before (u ∷ a) i d (omega arith)

-- .. and the last is lowered
pub lowered_at : (a : Row) (i : ℕ) (d : Tuple) → i < length a → length a ≤ i + 1 → get_or (one_below a) i d ≡ lowered (get_or a i d)
unfolding one_below
lowered_at [] i d h k = absurd (omega arith)
lowered_at (t ∷ []) zero d h k = refl
lowered_at (t ∷ []) (suc i) d h k = absurd (omega arith)
lowered_at (t ∷ u ∷ a) zero d h k = absurd (omega arith)
lowered_at (t ∷ u ∷ a) (suc i) d h k = lowered_at (u ∷ a) i d (omega arith) (omega arith)

-- a tuple of the second row, n tuples after the first
pub second_row : (a b : Row) (i n : ℕ) (d : Tuple) → n ≡ length a → n ≤ i → get_or b (i - n) d ≡ get_or (a ++ b) i d
second_row a b i n d e h =
    let f : length a + (i - n) ≡ i = omega arith in
    sym (get_or-append-add a b (i - n) d) ∙ ap (λ (k : ℕ). get_or (a ++ b) k d) f
