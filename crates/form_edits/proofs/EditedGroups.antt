-- The groups of a page with a slot more or less, by the groups before the name and those after it (`Cut`): `inserted_groups`, `removed_groups`; and
-- where a name cuts the run of a group (`cut`). Assumes nothing.
use Rattle.std.proofs.lemmas.List.Folds.{list_all-append}
use mathlib.Core.Path.{◌≡◌, refl, ◌∙◌, sym, ap, subst}
use mathlib.Core.List.{List, [], ◌∷◌, ◌++◌, map, append-nil}
use mathlib.Core.Bool.{true, false, ◌&&◌}
use Prim.Native.Nat.{ℕ, ◌<◌, ◌≤◌}
use native.Mathlib.Omega.{arith}
use borrow.Author.Tests.{leb-true}
use lib.ListN.{length}
use Rattle.names.specs.Ordering.{Row, ◌<ⁿ◌, ◌≤ⁿ◌, Rising}
use Rattle.std.specs.List.{list_all}
use Rattle.numbers.proofs.Bools.{and_0, and_1}
use Rattle.slots.specs.Slots.{Slot}
use Rattle.pages.specs.Pages.{name_in}
use Rattle.pages.specs.Places.{has}
use Rattle.runs.specs.Runs.{next, onward}
use Rattle.edits.specs.Edits.{placed, without}
use Rattle.edits.proofs.Placed.{Over, over_none}
use Rattle.groups.specs.Groups.{Group, size, run, slots_in, ungrouped, joined, grouped, name_after, apart, longest}
use Rattle.groups.proofs.Glue.{glue, has_slot, grouped_append, ungrouped_append, regrouped_back, longest_parts}
use Rattle.form_edits.proofs.Rows.{Under, under_up, under_both, over_both, rising_rest, rising_under, over_first, run_under, run_over, placed_between, without_between, has_neither, has_between}
use Rattle.form_edits.proofs.Longest.{last_apart, longest_apart, piece, piece_slots, piece_has}
use Rattle.form_edits.proofs.Zipper.{FirstAbove}

-- groups whose slots are all below x, and groups whose slots are all above it
pub record Cut (x : Row) (fs hs : List Group) : Type 0 where
  pub had : list_all has_slot fs ≡ true
  pub have : list_all has_slot hs ≡ true
  pub long : longest fs ≡ true
  pub rest : longest hs ≡ true
  pub under : Under x (ungrouped fs)
  pub over : Over x (map name_in (ungrouped hs))

module _ {fs hs : List Group} where
  -- the slot joins the groups after it, and they those before it, wherever one goes on with the next name
  pub inserted_groups : (x : Slot) → Cut x.name fs hs → grouped (placed x (ungrouped fs ++ ungrouped hs)) ≡ glue fs (joined x hs)
  inserted_groups x c =
      ap grouped (placed_between x (ungrouped fs) (ungrouped hs) c.under c.over)
      ∙ grouped_append (ungrouped fs) (x ∷ ungrouped hs)
      ∙ (λ i. glue (regrouped_back fs c.had c.long i) (joined x (regrouped_back hs c.have c.rest i)))

  pub inserted_absent : (a : Row) → Cut a fs hs → has a (map name_in (ungrouped fs ++ ungrouped hs)) ≡ false
  inserted_absent a c = has_neither a (ungrouped fs) (ungrouped hs) c.under c.over

  pub removed_groups : (a : Row) (y : Slot) → y.name ≡ a → Cut a fs hs
      → grouped (without a (ungrouped fs ++ (y ∷ ungrouped hs))) ≡ glue fs hs
  removed_groups a y e c =
      ap grouped (without_between a (ungrouped fs) y (ungrouped hs) c.under e c.over)
      ∙ grouped_append (ungrouped fs) (ungrouped hs)
      ∙ (λ i. glue (regrouped_back fs c.had c.long i) (regrouped_back hs c.have c.rest i))

  pub removed_present : (a : Row) (y : Slot) → y.name ≡ a → Cut a fs hs → has a (map name_in (ungrouped fs ++ (y ∷ ungrouped hs))) ≡ true
  removed_present a y e c = has_between a (ungrouped fs) y (ungrouped hs) c.under e

-- ── where a name cuts groups ──

-- the first slot of a run
first_slot : (a : Row) (l : List ℕ) → 1 ≤ length l → (y : Slot) × (m : List Slot) × (run a l ≡ y ∷ m) × (y.name ≡ a)
first_slot a [] h = absurd (omega arith)
first_slot a (x ∷ l) h = (record { line = x; name = a }, run (next a) l, refl, refl)

-- groups that begin above x lie above it
pub groups_over : (x : Row) (hs : List Group) → list_all has_slot hs ≡ true → Rising (map name_in (ungrouped hs)) → FirstAbove x hs → Over x (map name_in (ungrouped hs))
groups_over x [] v r a = over_none
groups_over x (h ∷ hs) v r a = go (first_slot h.first h.lines (leb-true 1 (size h) (and_0 (has_slot h) (list_all has_slot hs) v)))
  where
    go : ((y : Slot) × (m : List Slot) × (run h.first h.lines ≡ y ∷ m) × (y.name ≡ h.first)) → Over x (map name_in (ungrouped (h ∷ hs)))
    go (y, m, e, n) =
        let f = ap (λ (l : List Slot). l ++ ungrouped hs) e in
        let q : Rising (map name_in (y ∷ (m ++ ungrouped hs))) = subst (λ (l : List Slot). Rising (map name_in l)) f r in
        let b : x <ⁿ y.name = rw n a in
        subst (λ (l : List Slot). Over x (map name_in l)) (sym f) (over_first y (m ++ ungrouped hs) b q)

-- the name after a part of a group that ends with it is the group's
pub rest_longest : (g p : Group) (hs : List Group) → name_after p ≡ name_after g → longest (g ∷ hs) ≡ true → longest (p ∷ hs) ≡ true
rest_longest g p [] e l = refl
rest_longest g p (h ∷ hs) e l = ap (λ (a : Row). apart (record { first = a; lines = [] }) h && longest (h ∷ hs)) e ∙ l

-- groups fs, g and hs of a page
pub record Stood (fs : List Group) (g : Group) (hs : List Group) : Type 0 where
  pub have : list_all has_slot (fs ++ (g ∷ hs)) ≡ true
  pub long : longest (fs ++ (g ∷ hs)) ≡ true
  pub order : Rising (map name_in (ungrouped (fs ++ (g ∷ hs))))

module _ {fs : List Group} {g : Group} {hs : List Group} (v : Stood fs g hs) where
  haves : list_all has_slot fs && list_all has_slot (g ∷ hs) ≡ true
  haves = sym (list_all-append has_slot fs (g ∷ hs)) ∙ v.have

  pub had_before : list_all has_slot fs ≡ true
  had_before = and_0 (list_all has_slot fs) (list_all has_slot (g ∷ hs)) haves

  haves_from : list_all has_slot (g ∷ hs) ≡ true
  haves_from = and_1 (list_all has_slot fs) (list_all has_slot (g ∷ hs)) haves

  pub has_slot_lem : 1 ≤ size g
  has_slot_lem = leb-true 1 (size g) (and_0 (has_slot g) (list_all has_slot hs) haves_from)

  pub have_after : list_all has_slot hs ≡ true
  have_after = and_1 (has_slot g) (list_all has_slot hs) haves_from

  longs : longest fs && (last_apart fs g.first && longest (g ∷ hs)) ≡ true
  longs = sym (longest_apart fs g hs) ∙ v.long

  pub long_before : longest fs ≡ true
  long_before = and_0 (longest fs) (last_apart fs g.first && longest (g ∷ hs)) longs

  longs_from : last_apart fs g.first && longest (g ∷ hs) ≡ true
  longs_from = and_1 (longest fs) (last_apart fs g.first && longest (g ∷ hs)) longs

  pub apart_before : last_apart fs g.first ≡ true
  apart_before = and_0 (last_apart fs g.first) (longest (g ∷ hs)) longs_from

  pub long_from : longest (g ∷ hs) ≡ true
  long_from = and_1 (last_apart fs g.first) (longest (g ∷ hs)) longs_from

  pub long_after : longest hs ≡ true
  long_after = (longest_parts (g ∷ []) hs long_from).1

  rises : Rising (map name_in (ungrouped fs ++ (slots_in g ++ ungrouped hs)))
  rises = subst (λ (l : List Slot). Rising (map name_in l)) (ungrouped_append fs (g ∷ hs)) v.order

  rises_after : Rising (map name_in (ungrouped hs))
  rises_after = rising_rest (slots_in g) (ungrouped hs) (rising_rest (ungrouped fs) (slots_in g ++ ungrouped hs) rises)

  -- the groups before g lie below its first name
  pub under_first : Under g.first (ungrouped fs)
  under_first = go (first_slot g.first g.lines has_slot_lem)
    where
      go : ((y : Slot) × (m : List Slot) × (run g.first g.lines ≡ y ∷ m) × (y.name ≡ g.first)) → Under g.first (ungrouped fs)
      go (y, m, e, n) =
          let r = subst (λ (l : List Slot). Rising (map name_in (ungrouped fs ++ (l ++ ungrouped hs)))) e rises in
          subst (λ (a : Row). Under a (ungrouped fs)) n (rising_under (ungrouped fs) y (m ++ ungrouped hs) r)

  pub over_after : (x : Row) → FirstAbove x hs → Over x (map name_in (ungrouped hs))
  over_after x a = groups_over x hs have_after rises_after a

  -- a name that is not below g's first: l of its line numbers come before it, and r after it, from the name b on
  module _ (x : Row) (low : g.first ≤ⁿ x) (a : FirstAbove x hs) (l r : List ℕ) (b : Row) (under : (k : ℕ) → k < length l → onward k g.first <ⁿ x) (over : (k : ℕ) → k < length r → x <ⁿ onward k b) (ends : 1 ≤ length r → onward (length r) b ≡ name_after g) where
    pieces_before : (l : List ℕ) → longest (fs ++ piece g.first l) ≡ true
    pieces_before [] = ap longest (append-nil fs) ∙ long_before
    pieces_before (y ∷ l) = longest_apart fs (record { first = g.first; lines = y ∷ l }) [] ∙ (λ i. long_before i && (apart_before i && true))

    pieces_after : (r : List ℕ) → (1 ≤ length r → onward (length r) b ≡ name_after g) → longest (piece b r ++ hs) ≡ true
    pieces_after [] f = long_after
    pieces_after (y ∷ r) f = rest_longest g (record { first = b; lines = y ∷ r }) hs (f (omega arith)) long_from

    pub cut : Cut x (fs ++ piece g.first l) (piece b r ++ hs)
    cut = record {
      had = list_all-append has_slot fs (piece g.first l) ∙ (λ i. had_before i && (ap (list_all has_slot) (sym (append-nil (piece g.first l))) ∙ piece_has g.first l [] refl) i);
      have = piece_has b r hs have_after;
      long = pieces_before l;
      rest = pieces_after r ends;
      under =
          let e = ungrouped_append fs (piece g.first l) ∙ ap (λ (m : List Slot). ungrouped fs ++ m) (ap ungrouped (sym (append-nil (piece g.first l))) ∙ piece_slots g.first l [] ∙ append-nil (run g.first l)) in
          subst (Under x) (sym e) (under_both (under_up under_first low) (run_under g.first l under));
      over =
          subst (λ (m : List Slot). Over x (map name_in m)) (sym (piece_slots b r hs))
          (over_both (run b r) (ungrouped hs) (run_over b r over) (over_after x a));
    }
