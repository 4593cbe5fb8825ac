-- The laws of specs/Laws.antt hold. Assumes nothing.
use mathlib.Core.Path.{◌≡◌, refl}
use mathlib.Core.List.{[], ◌∷◌}
use mathlib.Core.Bool.{true}
use Prim.Native.Nat.{ℕ}
use native.Mathlib.Omega.{arith}
use Rattle.names.specs.declared.Tuple.{Tuple}
use Rattle.std.specs.declared.cmp.Ordering.{Ordering}
use Rattle.std.specs.declared.cmp.Ordering.TheVariants.{Less, Greater}
use Rattle.names.specs.Ordering.{Row, compare_tuples, ◌<ᵗ◌, position, ◌<ⁿ◌, differ, same}
use Rattle.names.specs.Names.{m, M, ordinary, one_below}
use Rattle.names.specs.Laws.{Laws}
use Rattle.names.proofs.Laws.{Tri, below, level, above, tri_t, same_tuple, rising_Rising, Rising_rising, less_row, same_row, more_row, <ⁿ_irrefl, <ⁿ_trans, ++_prefix, ++_left, ++_cancel, lowered_below, lowered_next}
use Rattle.names.proofs.Validity.{ordinary_is}

m_low : (t : Tuple) → ordinary t ≡ true → m <ᵗ t
m_low t e = position (omega (arith, (ordinary_is t e).position_min))

M_high : (t : Tuple) → ordinary t ≡ true → t <ᵗ M
M_high t e = position (omega (arith, (ordinary_is t e).position_max))

one_below_lem : (t : Tuple) (a : Row) → one_below (t ∷ a) <ⁿ t ∷ a
unfolding one_below
one_below_lem t [] = differ (lowered_below t)
one_below_lem t (u ∷ a) = same refl (one_below_lem u a)

-- by the three ways in which two tuples compare
tuple_less : (s t : Tuple) → compare_tuples s t ≡ Less → s <ᵗ t
tuple_less s t e = by (compare_tuples s t) (tri_t s t) e
  where
    by : (o : Ordering) → Tri ◌<ᵗ◌ s t o → o ≡ Less → s <ᵗ t
    by _ (below h) f = h
    by _ (level h) f = absurd (let z : ◌≡◌ {A = ℕ} 0 1 = cc in omega arith)
    by _ (above h) f = absurd (let z : ◌≡◌ {A = ℕ} 0 1 = cc in omega arith)

tuple_more : (s t : Tuple) → compare_tuples s t ≡ Greater → t <ᵗ s
tuple_more s t e = by (compare_tuples s t) (tri_t s t) e
  where
    by : (o : Ordering) → Tri ◌<ᵗ◌ s t o → o ≡ Greater → t <ᵗ s
    by _ (below h) f = absurd (let z : ◌≡◌ {A = ℕ} 0 1 = cc in omega arith)
    by _ (level h) f = absurd (let z : ◌≡◌ {A = ℕ} 0 1 = cc in omega arith)
    by _ (above h) f = h

pub laws : Laws
laws = record {
  less = less_row;
  same = same_row;
  more = more_row;
  tuple_less = tuple_less;
  tuple_same = same_tuple;
  tuple_more = tuple_more;
  test_rises = rising_Rising;
  rises_test = Rising_rising;
  not_below_itself = <ⁿ_irrefl;
  in_turn = <ⁿ_trans;
  prefix = ++_prefix;
  joined = ++_left;
  taken_off = ++_cancel;
  m_low = m_low;
  M_high = M_high;
  one_below_lem = one_below_lem;
  next_below = lowered_next;
}
