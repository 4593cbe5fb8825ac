-- What the test of a group has found (`good`), of groups (`have_slots`, `slots_good`), and what it asks of the groups of slots
-- (`groups_good`): so slots that a page may have give groups (`are_groups`), and such groups that are longest are those of their slots
-- (`groups_back`). Assumes nothing.
use Rattle.std.proofs.lemmas.List.Folds.{list_all-append}
use mathlib.Core.Path.{◌≡◌, refl, sym, ap, ◌∙◌}
use mathlib.Core.List.{List, [], ◌∷◌}
use mathlib.Core.Bool.{Bool, true, false, cond, ◌&&◌}
use Prim.Native.Nat.{◌*◌, ◌≤◌}
use native.Mathlib.Omega.{arith}
use borrow.Author.Tests.{le-leb, leb-true}
use lib.Dec.{leb}
use lib.ListN.{length, length-append}
use Rattle.std.specs.List.{list_all}
use Rattle.numbers.proofs.Bools.{and_0, and_1}
use Rattle.slots.specs.Slots.{Slot, is_slot}
use Rattle.pages.specs.Pages.{max_slots}
use Rattle.runs.specs.Runs.{is_next}
use Rattle.fields.specs.Fields.{longest_content}
use Rattle.groups.specs.Groups.{Group, size, line_size, slots_in, ungrouped, alone, joined, grouped, longest, is_group}
use Rattle.groups.proofs.Glue.{has_slot, run_length, slots_back, regrouped_back}

-- ── a group ──

pub record Good (g : Group) : Type 0 where
  pub long : 1 ≤ size g
  pub short : line_size * size g ≤ longest_content
  pub slots : list_all is_slot (slots_in g) ≡ true

pub good : (g : Group) → is_group g ≡ true → Good g
good g e =
    let a = leb 1 (size g) in
    let b = leb (line_size * size g) longest_content in
    let c = list_all is_slot (slots_in g) in
    let f = and_0 (a && b) c e in
    record {
      long = leb-true 1 (size g) (and_0 a b f);
      short = leb-true (line_size * size g) longest_content (and_1 a b f);
      slots = and_1 (a && b) c e;
    }

pub is_group_lem : (g : Group) → Good g → is_group g ≡ true
is_group_lem g v = λ i. le-leb 1 (size g) v.long i && le-leb (line_size * size g) longest_content v.short i && v.slots i

-- ── groups ──

pub have_slots : (gs : List Group) → list_all is_group gs ≡ true → list_all has_slot gs ≡ true
have_slots [] e = refl
have_slots (g ∷ gs) e =
    λ i.
    le-leb 1 (size g) (good g (and_0 (is_group g) (list_all is_group gs) e)).long i && have_slots gs (and_1 (is_group g) (list_all is_group gs) e) i

pub slots_good : (gs : List Group) → list_all is_group gs ≡ true → list_all is_slot (ungrouped gs) ≡ true
slots_good [] e = refl
slots_good (g ∷ gs) e =
    list_all-append is_slot (slots_in g) (ungrouped gs)
    ∙ (λ i. (good g (and_0 (is_group g) (list_all is_group gs) e)).slots i && slots_good gs (and_1 (is_group g) (list_all is_group gs) e) i)

-- groups with a slot each, whose slots a page may have
pub groups_good : (gs : List Group) → list_all has_slot gs ≡ true → list_all is_slot (ungrouped gs) ≡ true → length (ungrouped gs) ≤ max_slots
    → list_all is_group gs ≡ true
groups_good [] v e h = refl
groups_good (g ∷ gs) v e h =
    let f = sym (list_all-append is_slot (slots_in g) (ungrouped gs)) ∙ e in
    let l = length-append (slots_in g) (ungrouped gs) in
    let r = run_length g.first g.lines in
    let here : Good g = record {
      long = leb-true 1 (size g) (and_0 (has_slot g) (list_all has_slot gs) v);
      short = omega arith;
      slots = and_0 (list_all is_slot (slots_in g)) (list_all is_slot (ungrouped gs)) f;
    } in
    let rest = groups_good gs (and_1 (has_slot g) (list_all has_slot gs) v) (and_1 (list_all is_slot (slots_in g)) (list_all is_slot (ungrouped gs)) f) (omega arith) in
    λ i. is_group_lem g here i && rest i

-- the groups of slots have a slot each
pub grouped_have : (l : List Slot) → list_all has_slot (grouped l) ≡ true
grouped_have [] = refl
grouped_have (x ∷ l) = joins (grouped l) (grouped_have l)
  where
    joins : (gs : List Group) → list_all has_slot gs ≡ true → list_all has_slot (joined x gs) ≡ true
    joins [] e = refl
    joins (g ∷ gs) e = go (is_next x.name g.first)
      where
        go : (b : Bool) → list_all has_slot (cond b (record { first = x.name; lines = x.line ∷ g.lines } ∷ gs) (alone x ∷ g ∷ gs)) ≡ true
        go true = λ i. le-leb 1 (length (x.line ∷ g.lines)) (omega arith) i && and_1 (has_slot g) (list_all has_slot gs) e i
        go false = e

pub are_groups : (l : List Slot) → list_all is_slot l ≡ true → length l ≤ max_slots → list_all is_group (grouped l) ≡ true
are_groups l e h =
    groups_good (grouped l) (grouped_have l) (ap (list_all is_slot) (slots_back l) ∙ e) (rw (slots_back l) h)

pub groups_back : (gs : List Group) → list_all is_group gs ≡ true → longest gs ≡ true → grouped (ungrouped gs) ≡ gs
groups_back gs e = regrouped_back gs (have_slots gs e)
