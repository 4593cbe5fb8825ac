-- The order, where a function has tested it: the test of "below" says on which side a name lies (`is_under_lem`, `not_under`); two names
-- compared the other way round (`turned_less`, `turned_same`, `turned_more`); a row of no tuples against one tuple (`first_none`).
-- Assumes nothing.
use mathlib.Core.Path.{◌≡◌, refl, ◌∙◌, sym, ap}
use mathlib.Core.List.{[], ◌∷◌}
use mathlib.Core.Bool.{true, false}
use Prim.Native.Nat.{◌<◌, ◌≤◌}
use native.Mathlib.Omega.{arith}
use lib.ListN.{length, take}
use Rattle.names.specs.declared.Tuple.{Tuple}
use Rattle.std.specs.declared.cmp.Ordering.{Ordering}
use Rattle.std.specs.declared.cmp.Ordering.TheVariants.{Less, Equal, Greater}
use Rattle.names.specs.Ordering.{Row, compare_rows, ◌<ⁿ◌, ends, ◌≤ⁿ◌, less, equal}
use Rattle.std.specs.Ordering.{is_lt}
use Rattle.numbers.proofs.Bools.{yes_no}
use Rattle.names.proofs.Laws.{Tri, below, level, above, tri_n, row_less, row_more, row_same, less_row, same_row, more_row}

-- ── by the test ──

pub is_under_lem : (x y : Row) → is_lt (compare_rows x y) ≡ true → x <ⁿ y
is_under_lem x y e = go (compare_rows x y) (tri_n x y) e
  where
    go : (o : Ordering) → Tri ◌<ⁿ◌ x y o → is_lt o ≡ true → x <ⁿ y
    go _ (below h) e = h
    go _ (level h) e = yes_no e refl
    go _ (above h) e = yes_no e refl

pub not_under : (x y : Row) → is_lt (compare_rows x y) ≡ false → y ≤ⁿ x
not_under x y e = go (compare_rows x y) (tri_n x y) e
  where
    go : (o : Ordering) → Tri ◌<ⁿ◌ x y o → is_lt o ≡ false → y ≤ⁿ x
    go _ (below h) e = yes_no refl e
    go _ (level h) e = equal (sym h)
    go _ (above h) e = less h

-- ── the other way round ──

pub turned_less : (x y : Row) → compare_rows x y ≡ Less → Greater ≡ compare_rows y x
turned_less x y e = sym (row_more (less_row x y e))

pub turned_same : (x y : Row) → compare_rows x y ≡ Equal → Equal ≡ compare_rows y x
turned_same x y e = sym (ap (compare_rows y) (same_row x y e) ∙ row_same y)

pub turned_more : (x y : Row) → compare_rows x y ≡ Greater → Less ≡ compare_rows y x
turned_more x y e = sym (row_less (more_row x y e))

-- ── the first tuple ──

-- a row that has a tuple is above the row of none
pub above_none : (l : Row) → 1 ≤ length l → [] <ⁿ l
above_none [] h = absurd (omega arith)
above_none (t ∷ l) h = ends

pub first_none : (a : Row) (t : Tuple) → length a < 1 → Less ≡ compare_rows (take 1 a) (t ∷ [])
unfolding compare_rows
first_none [] t h = refl
first_none (s ∷ a) t h = absurd (omega arith)
