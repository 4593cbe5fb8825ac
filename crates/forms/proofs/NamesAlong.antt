-- The names of groups one after the other: within a group they rise, so that they all rise where each group's first name is above the last of the
-- group before (`group_rising`). Before all groups stands the group of no slots (`first_longest`, `first_rising`). Assumes nothing.
use mathlib.Core.Path.{◌≡◌, refl, sym, ap, ◌∙◌}
use mathlib.Core.List.{List, [], ◌∷◌, ◌++◌, map}
use mathlib.Core.Bool.{Bool, true, false, not, ◌&&◌}
use Prim.Native.Nat.{ℕ, suc, ◌-◌, ◌≤◌}
use native.Mathlib.Omega.{arith}
use lib.ListN.{length}
use Rattle.std.specs.declared.cmp.Ordering.{Ordering}
use Rattle.names.specs.Ordering.{Row, compare_rows, rising}
use Rattle.std.specs.Ordering.{is_lt, is_eq}
use Rattle.names.specs.Names.{fits, is_name}
use Rattle.names.proofs.Laws.{row_less}
use Rattle.names.proofs.TestedOrder.{above_none}
use Rattle.std.specs.List.{list_all}
use Rattle.numbers.proofs.Bools.{and_0}
use Rattle.slots.specs.Slots.{Slot}
use Rattle.slots.proofs.RoundTrip.{name_long}
use Rattle.pages.specs.Pages.{name_in}
use Rattle.runs.specs.Runs.{next, onward}
use Rattle.runs.proofs.RunNames.{next_length, next_above}
use Rattle.groups.specs.Groups.{Group, size, run, slots_in, ungrouped, apart, longest, is_group}
use Rattle.groups.proofs.RunSlots.{run_first}
use Rattle.groups.proofs.GroupTests.{good}
use Rattle.forms.specs.Blocks.{last_name}

abbrev pub names_in : List Group → List Row
names_in gs = map name_in (ungrouped gs)

-- ── from group to group ──

run_rising : (b a : Row) (y : ℕ) (l : List ℕ) (r : List Slot) → 1 ≤ length a
    → rising (b ∷ map name_in (run a (y ∷ l) ++ r)) ≡ is_lt (compare_rows b a) && rising (onward (length l) a ∷ map name_in r)
unfolding rising
run_rising b a y [] r h = refl
run_rising b a y (z ∷ l) r h =
    let rest = rising (onward (length l) (next a) ∷ map name_in r) in
    ap (λ (c : Bool). is_lt (compare_rows b a) && c)
    (run_rising a (next a) z l r (let n = next_length a in omega arith) ∙ ap (λ (o : Ordering). is_lt o && rest) (row_less (next_above a h)))

-- a group with a slot, and what comes after it
pub group_rising : (b : Row) (g : Group) (r : List Slot) → 1 ≤ size g → 1 ≤ length g.first
    → rising (b ∷ map name_in (slots_in g ++ r)) ≡ is_lt (compare_rows b g.first) && rising (last_name g ∷ map name_in r)
group_rising b g r h k = go g.lines h
  where
    go : (l : List ℕ) → 1 ≤ length l
        → rising (b ∷ map name_in (run g.first l ++ r)) ≡ is_lt (compare_rows b g.first) && rising (onward (length l - 1) g.first ∷ map name_in r)
    go [] h = absurd (omega arith)
    go (y ∷ l) h =
        let e : length l ≡ suc (length l) - 1 = omega arith in
        run_rising b g.first y l r k ∙ ap (λ (n : ℕ). is_lt (compare_rows b g.first) && rising (onward n g.first ∷ map name_in r)) e

-- ── before all groups ──

-- the group of no slots and no tuples
abbrev pub no_group : Group
no_group = record { first = []; lines = [] }

-- the first name of a group is above no tuples
pub first_above : (g : Group) → is_group g ≡ true → 1 ≤ length g.first
first_above g e =
    let v = good g e in
    let a = g.first in
    name_long a (and_0 (is_name a) (fits a) (run_first a g.lines v.long v.slots))

dead : (b c : Bool) → b && false && c ≡ false
dead true c = refl
dead false c = refl

pub first_longest : (b : Bool) (gs : List Group) → b && list_all is_group gs && longest (no_group ∷ gs) ≡ b && list_all is_group gs && longest gs
first_longest b [] = refl
first_longest b (g ∷ gs) = by (is_group g) refl
  where
    rest : Bool
    rest = list_all is_group gs

    by : (c : Bool) → is_group g ≡ c → b && list_all is_group (g ∷ gs) && longest (no_group ∷ g ∷ gs) ≡ b && list_all is_group (g ∷ gs) && longest (g ∷ gs)
    by true e =
        let l = row_less (above_none g.first (first_above g e)) in
        λ i. b && (is_group g && rest) && (not (is_eq (l i)) && longest (g ∷ gs))
    by false e =
        ap (λ (c : Bool). b && (c && rest) && (apart no_group g && longest (g ∷ gs))) e
        ∙ dead b (apart no_group g && longest (g ∷ gs))
        ∙ sym (ap (λ (c : Bool). b && (c && rest) && longest (g ∷ gs)) e ∙ dead b (longest (g ∷ gs)))

pub first_rising : (gs : List Group) → list_all is_group gs ≡ true → rising ([] ∷ names_in gs) ≡ rising (names_in gs)
unfolding rising
first_rising [] e = refl
first_rising (g ∷ gs) e = go g.lines (good g f).long
  where
    f : is_group g ≡ true
    f = and_0 (is_group g) (list_all is_group gs) e

    go : (l : List ℕ) → 1 ≤ length l → rising ([] ∷ map name_in (run g.first l ++ ungrouped gs)) ≡ rising (map name_in (run g.first l ++ ungrouped gs))
    go [] h = absurd (omega arith)
    go (y ∷ l) h =
        let rest = rising (map name_in (run g.first (y ∷ l) ++ ungrouped gs)) in
        ap (λ (o : Ordering). is_lt o && rest) (row_less (above_none g.first (first_above g f)))
