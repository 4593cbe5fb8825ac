-- Slots before and after a name: where all names of a row are below a (`Under`) and all of another above (`Over`, of edits), a slot of that name
-- is placed between them (`placed_between`), a row without it is both (`without_between`), and neither has the name (`has_neither`). Assumes
-- nothing.
use mathlib.Core.Path.{◌≡◌, refl, ◌∙◌, ap}
use mathlib.Core.List.{List, [], ◌∷◌, ◌++◌, map}
use mathlib.Core.Bool.{true, false}
use Prim.Native.Nat.{ℕ, zero, suc, ◌<◌}
use native.Mathlib.Omega.{arith}
use lib.ListN.{length}
use Rattle.names.specs.Ordering.{Row, ◌<ⁿ◌, ◌≤ⁿ◌, Rising}
use Rattle.names.proofs.Laws.{tail_rising, <≤_trans, row_less, row_more, row_same}
use Rattle.slots.specs.Slots.{Slot}
use Rattle.pages.specs.Pages.{name_in}
use Rattle.pages.specs.Places.{has}
use Rattle.runs.specs.Runs.{next, onward}
use Rattle.edits.specs.Edits.{placed, without}
use Rattle.edits.proofs.Placed.{Over, over_none, over_more, lift, rising_over, placed_over, without_over}
use Rattle.groups.specs.Groups.{run}

-- every name of the row is below a
pub data Under (a : Row) : List Slot → Type 0 where
  under_none : Under a []
  under_more : {x : Slot} {l : List Slot} → x.name <ⁿ a → Under a l → Under a (x ∷ l)

pub under_up : {a b : Row} {l : List Slot} → Under a l → a ≤ⁿ b → Under b l
under_up under_none k = under_none
under_up (under_more h u) k = under_more (<≤_trans h k) (under_up u k)

pub under_both : {a : Row} {l m : List Slot} → Under a l → Under a m → Under a (l ++ m)
under_both under_none v = v
under_both (under_more h u) v = under_more h (under_both u v)

pub over_both : {a : Row} (l m : List Slot) → Over a (map name_in l) → Over a (map name_in m) → Over a (map name_in (l ++ m))
over_both [] m o q = q
over_both (x ∷ l) m (over_more h o) q = over_more h (over_both l m o q)

-- ── in a rising row ──

pub rising_rest : (l m : List Slot) → Rising (map name_in (l ++ m)) → Rising (map name_in m)
rising_rest [] m r = r
rising_rest (x ∷ l) m r = rising_rest l m (tail_rising r)

-- the slots before one are below it, and those after it above
pub rising_under : (l : List Slot) (y : Slot) (m : List Slot) → Rising (map name_in (l ++ (y ∷ m))) → Under y.name l
rising_under [] y m r = under_none
rising_under (x ∷ l) y m r = under_more (at l y m (rising_over r)) (rising_under l y m (tail_rising r))
  where
    at : {a : Row} (l : List Slot) (y : Slot) (m : List Slot) → Over a (map name_in (l ++ (y ∷ m))) → a <ⁿ y.name
    at [] y m (over_more h o) = h
    at (x ∷ l) y m (over_more h o) = at l y m o

-- from a name below the first on, all are above it
pub over_first : {a : Row} (y : Slot) (m : List Slot) → a <ⁿ y.name → Rising (map name_in (y ∷ m)) → Over a (map name_in (y ∷ m))
over_first y m h r = over_more h (lift h (rising_over r))

-- ── a run ──

pub run_under : {b : Row} (a : Row) (l : List ℕ) → ((k : ℕ) → k < length l → onward k a <ⁿ b) → Under b (run a l)
run_under a [] f = under_none
run_under a (x ∷ l) f = under_more (f zero (omega arith)) (run_under (next a) l (λ k h. f (suc k) (omega arith)))

pub run_over : {b : Row} (a : Row) (l : List ℕ) → ((k : ℕ) → k < length l → b <ⁿ onward k a) → Over b (map name_in (run a l))
run_over a [] f = over_none
run_over a (x ∷ l) f = over_more (f zero (omega arith)) (run_over (next a) l (λ k h. f (suc k) (omega arith)))

-- ── insert and remove ──

placed_under : (x : Slot) {l : List Slot} (m : List Slot) → Under x.name l → placed x (l ++ m) ≡ l ++ placed x m
placed_under x m under_none = refl
placed_under x m (under_more {x = y} h u) = rw (row_more h) (ap (λ (r : List Slot). y ∷ r) (placed_under x m u))

pub placed_between : (x : Slot) (l m : List Slot) → Under x.name l → Over x.name (map name_in m) → placed x (l ++ m) ≡ l ++ (x ∷ m)
placed_between x l m u o = placed_under x m u ∙ ap (λ (r : List Slot). l ++ r) (placed_over x m o)

without_under : (a : Row) {l : List Slot} (m : List Slot) → Under a l → without a (l ++ m) ≡ l ++ without a m
without_under a m under_none = refl
without_under a m (under_more {x = y} h u) = rw (row_less h) (ap (λ (r : List Slot). y ∷ r) (without_under a m u))

pub without_between : (a : Row) (l : List Slot) (y : Slot) (m : List Slot) → Under a l → y.name ≡ a → Over a (map name_in m)
    → without a (l ++ (y ∷ m)) ≡ l ++ m
without_between a l y m u e o =
    without_under a (y ∷ m) u ∙ ap (λ (r : List Slot). l ++ r) (rw (e, row_same a) (without_over a m o))

has_under : (a : Row) {l : List Slot} (m : List Slot) → Under a l → has a (map name_in (l ++ m)) ≡ has a (map name_in m)
has_under a m under_none = refl
has_under a m (under_more h u) = rw (row_less h) (has_under a m u)

over_has : {a : Row} (l : List Slot) → Over a (map name_in l) → has a (map name_in l) ≡ false
over_has [] o = refl
over_has (x ∷ l) (over_more h o) = rw (row_more h) (over_has l o)

pub has_neither : (a : Row) (l m : List Slot) → Under a l → Over a (map name_in m) → has a (map name_in (l ++ m)) ≡ false
has_neither a l m u o = has_under a m u ∙ over_has m o

pub has_between : (a : Row) (l : List Slot) (y : Slot) (m : List Slot) → Under a l → y.name ≡ a → has a (map name_in (l ++ (y ∷ m))) ≡ true
has_between a l y m u e = has_under a (y ∷ m) u ∙ rw (e, row_same a)
