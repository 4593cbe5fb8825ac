-- End markers in a name: it has a tuple (`name_some`), its last is none (`last_free`), a tuple that is none is ordinary (`no_marker`), what the code's look for them from some
-- tuple on says of each (`none_from`), and a name with none is `MarkerFree` (`unmarked_free`). Assumes nothing.
use mathlib.Core.Path.{◌≡◌, refl, ◌∙◌, sym, ap}
use mathlib.Core.Bool.{Bool, true, false, not, ◌&&◌}
use Prim.Native.Nat.{ℕ, zero, suc, ◌+◌, ◌-◌, ◌<◌, ◌≤◌}
use native.Mathlib.Omega.{arith}
use borrow.Author.Tests.{not-true}
use lib.ListN.{length, get_or, drop, length-drop}
use lib.Seq.{drop-nil, get_or-drop}
use Rattle.names.specs.declared.Tuple.{Tuple}
use Rattle.std.specs.declared.cmp.Ordering.TheVariants.{Less}
use Rattle.names.specs.Ordering.{Row, compare_tuples}
use Rattle.names.specs.Names.{m, M, marker}
use Rattle.names.proofs.Laws.{tuple_less}
use Rattle.names.proofs.Validity.{Ordinary, Middle, plain, marker_m, marker_M, Ends, final, onward, Valid, valid_ends}
use Rattle.numbers.proofs.Bools.{and_0, and_1, yes_no}
use Rattle.numbers.proofs.Every.{every_each}
use Rattle.name_renames.proofs.Splits.{SplitT, is_below, is_level, is_above, split_t}
use Rattle.name_renames.proofs.Lists.{nil, cons}
use Rattle.name_renames.proofs.Gaps.{MarkerFree, ordinary_inner}
use Rattle.one_name.specs.Markers.{unmarked, unmarked_from}

-- ── the ends of a name ──

ordinary_free : {t : Tuple} → Ordinary t → true ≡ not (marker t)
unfolding marker
ordinary_free {t} o = go (split_t t m) (tuple_less (ordinary_inner o).high)
  where
    go : SplitT t m → compare_tuples t M ≡ Less → true ≡ not (marker t)
    go (is_below h e) f = rw (e, f)
    go (is_level h e) f = absurd (let q : t.position ≡ 0 = ap (λ (u : Tuple). u.position) h in omega (arith, o.position_min))
    go (is_above h e) f = rw (e, f)

ends_some : {a : Row} → Ends a → 1 ≤ length a
ends_some (final o h) = omega arith
ends_some (onward b k) = omega arith

ends_last : {a : Row} (i : ℕ) → Ends a → length a ≤ i + 1 → true ≡ unmarked (drop i a)
ends_last zero (final {t} o h) n = ap (λ (b : Bool). b && true) (ordinary_free o)
ends_last (suc i) (final o h) n = ap unmarked (sym (drop-nil i))
ends_last zero (onward b k) n = absurd (omega (arith, ends_some k))
ends_last (suc i) (onward b k) n = ends_last i k (omega arith)

pub name_some : {a : Row} → Valid a → 1 ≤ length a
name_some v = ends_some (valid_ends v)

-- from a name's last tuple on there is no marker
pub last_free : {a : Row} (i : ℕ) → Valid a → length a ≤ i + 1 → true ≡ unmarked (drop i a)
last_free i v n = ends_last i (valid_ends v) n

-- ── a tuple that is no marker ──

pub middle_ordinary : {t : Tuple} → Middle t → not (marker t) ≡ true → Ordinary t
unfolding marker compare_tuples
middle_ordinary (plain o) e = o
middle_ordinary (marker_m q) e = yes_no (rw q at e) refl
middle_ordinary (marker_M q) e = yes_no (rw q at e) refl

-- of a name's tuples, one that is no marker is ordinary
pub no_marker : {a : Row} (n : ℕ) → Ends a → n < length a → marker (get_or a n m) ≡ false → Ordinary (get_or a n m)
no_marker zero (final o h) l e = o
no_marker (suc n) (final o h) l e = absurd (omega arith)
no_marker zero (onward b k) l e = middle_ordinary b (ap not e)
no_marker (suc n) (onward b k) l e = no_marker n k (omega arith) e

-- and where there is none from some tuple on, none of these is one
pub none_from : (from : ℕ) (a : Row) → unmarked_from from a ≡ true → (n : ℕ) → from ≤ n → n < length a → marker (get_or a n m) ≡ false
none_from from a e n h l =
    let i : n - from < length (drop from a) = omega (arith, length-drop from a) in
    let at : from + (n - from) ≡ n = omega arith in
    let there = get_or-drop from a (n - from) m ∙ ap (λ (k : ℕ). get_or a k m) at in
    not-true (marker (get_or a n m)) (ap (λ (t : Tuple). not (marker t)) (sym there) ∙ every_each (λ (t : Tuple). not (marker t)) (drop from a) (n - from) m i e)

-- ── a name with none ──

ends_free : {a : Row} → Ends a → unmarked a ≡ true → MarkerFree a
ends_free (final o h) e = cons o nil
ends_free (onward {t} {a} b k) e = cons (middle_ordinary b (and_0 (not (marker t)) (unmarked a) e)) (ends_free k (and_1 (not (marker t)) (unmarked a) e))

-- it is `MarkerFree`, as crates/name_renames has it
pub unmarked_free : {a : Row} → Valid a → unmarked a ≡ true → MarkerFree a
unmarked_free v e = ends_free (valid_ends v) e
