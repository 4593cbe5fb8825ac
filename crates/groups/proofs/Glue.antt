-- Slots and their groups: what slots one after the other give, grouped (`grouped_append`), and groups one after the other, as slots
-- (`ungrouped_append`); a run of names (`run_append`, `grouped_run`); the slots of the groups of slots are these (`slots_back`), such groups are
-- longest (`are_longest`, `longest_parts`), and groups that are longest are those of their slots (`regrouped_back`). Assumes nothing.
use mathlib.Core.Path.{◌≡◌, refl, sym, ap, ◌∙◌}
use mathlib.Core.List.{List, [], ◌∷◌, ◌++◌, append_assoc}
use mathlib.Core.Bool.{Bool, true, false, cond, not, ◌&&◌}
use Prim.Native.Nat.{ℕ, suc, ◌≤◌}
use native.Mathlib.Omega.{arith}
use borrow.Author.Tests.{leb-true, not-true}
use lib.Dec.{leb}
use lib.ListN.{length}
use Rattle.names.specs.Ordering.{Row, compare_rows}
use Rattle.std.specs.Ordering.{is_eq}
use Rattle.names.proofs.Laws.{row_same}
use Rattle.std.specs.List.{list_all}
use Rattle.numbers.proofs.Bools.{and_0, and_1}
use Rattle.slots.specs.Slots.{Slot}
use Rattle.runs.specs.Runs.{next, onward, is_next}
use Rattle.runs.proofs.RunNames.{next_is, is_next_lem}
use Rattle.groups.specs.Groups.{Group, size, run, slots_in, ungrouped, alone, joined, grouped, name_after, apart, longest}

-- whether two names are the same
abbrev pub same : Row → Row → Bool
same a b = is_eq (compare_rows a b)

-- ── a run ──

pub run_append : (a : Row) (l m : List ℕ) → run a (l ++ m) ≡ run a l ++ run (onward (length l) a) m
run_append a [] m = refl
run_append a (x ∷ l) m = ap (λ (r : List Slot). record { line = x; name = a } ∷ r) (run_append (next a) l m)

pub run_length : (a : Row) (l : List ℕ) → length (run a l) ≡ length l
run_length a [] = refl
run_length a (x ∷ l) = ap suc (run_length (next a) l)

-- the slots of a run are one group
pub grouped_run : (a : Row) (l : List ℕ) → 1 ≤ length l → grouped (run a l) ≡ record { first = a; lines = l } ∷ []
grouped_run a [] h = absurd (omega arith)
grouped_run a (x ∷ []) h = refl
grouped_run a (x ∷ y ∷ l) h =
    let s : Slot = record { line = x; name = a } in
    let g : Group = record { first = next a; lines = y ∷ l } in
    ap (joined s) (grouped_run (next a) (y ∷ l) (omega arith))
    ∙ ap (λ (b : Bool). cond b (record { first = a; lines = x ∷ y ∷ l } ∷ []) (alone s ∷ g ∷ [])) (is_next_lem a (next a) refl)

-- ── groups one after the other ──

pub ungrouped_append : (gs hs : List Group) → ungrouped (gs ++ hs) ≡ ungrouped gs ++ ungrouped hs
ungrouped_append [] hs = refl
ungrouped_append (g ∷ gs) hs =
    ap (λ (r : List Slot). slots_in g ++ r) (ungrouped_append gs hs) ∙ sym (append_assoc (slots_in g) (ungrouped gs) (ungrouped hs))

-- the last of the first groups goes on in the first of the second where that begins with the name after it
abbrev pub glue : List Group → List Group → List Group
glue [] hs = hs
glue (g ∷ []) [] = g ∷ []
glue (g ∷ []) (h ∷ hs) = cond (same (name_after g) h.first) (record { first = g.first; lines = g.lines ++ h.lines } ∷ hs) (g ∷ h ∷ hs)
glue (g ∷ g' ∷ gs) hs = g ∷ glue (g' ∷ gs) hs

pub glue_none : (gs : List Group) → glue gs [] ≡ gs
glue_none [] = refl
glue_none (g ∷ []) = refl
glue_none (g ∷ h ∷ gs) = ap (λ (l : List Group). g ∷ l) (glue_none (h ∷ gs))

-- only the last of the first groups is looked at
pub glue_front : (gs : List Group) (g : Group) (hs : List Group) → glue (gs ++ (g ∷ [])) hs ≡ gs ++ glue (g ∷ []) hs
glue_front [] g hs = refl
glue_front (k ∷ []) g hs = refl
glue_front (k ∷ h ∷ gs) g hs = ap (λ (l : List Group). k ∷ l) (glue_front (h ∷ gs) g hs)

module _ (g h : Group) (hs : List Group) where
  pub glue_joins : name_after g ≡ h.first → glue (g ∷ []) (h ∷ hs) ≡ record { first = g.first; lines = g.lines ++ h.lines } ∷ hs
  glue_joins e =
      ap (λ (b : Bool). cond b (record { first = g.first; lines = g.lines ++ h.lines } ∷ hs) (g ∷ h ∷ hs))
      (ap (λ (a : Row). same a h.first) e ∙ ap is_eq (row_same h.first))

  pub glue_apart : apart g h ≡ true → glue (g ∷ []) (h ∷ hs) ≡ g ∷ h ∷ hs
  glue_apart e =
      ap (λ (b : Bool). cond b (record { first = g.first; lines = g.lines ++ h.lines } ∷ hs) (g ∷ h ∷ hs))
      (not-true (same (name_after g) h.first) e)

-- groups that are longest stay as they are
pub glue_longest : (g : Group) (gs : List Group) → longest (g ∷ gs) ≡ true → glue (g ∷ []) gs ≡ g ∷ gs
glue_longest g [] e = refl
glue_longest g (h ∷ gs) e = glue_apart g h gs (and_0 (apart g h) (longest (h ∷ gs)) e)

-- a slot that joins a group
abbrev before : Slot → Group → Group
before x g = record { first = x.name; lines = x.line ∷ g.lines }

-- the name after the group is then the same
after_before : (x : Slot) (g : Group) → is_next x.name g.first ≡ true → name_after (before x g) ≡ name_after g
after_before x g e = ap (onward (size g)) (next_is x.name g.first e)

-- a slot before groups that are glued
joined_glue : (x : Slot) (gs hs : List Group) → joined x (glue gs hs) ≡ glue (joined x gs) hs
joined_glue x [] [] = refl
joined_glue x [] (h ∷ hs) = refl
joined_glue x (g ∷ []) [] = go (is_next x.name g.first)
  where
    go : (b : Bool) → cond b (before x g ∷ []) (alone x ∷ g ∷ []) ≡ glue (cond b (before x g ∷ []) (alone x ∷ g ∷ [])) []
    go true = refl
    go false = refl
joined_glue x (g ∷ []) (h ∷ hs) = go (is_next x.name g.first) refl (same (name_after g) h.first) refl
  where
    go :
        (b : Bool) → is_next x.name g.first ≡ b → (c : Bool) → same (name_after g) h.first ≡ c →
        joined x (cond c (record { first = g.first; lines = g.lines ++ h.lines } ∷ hs) (g ∷ h ∷ hs))
        ≡ glue (cond b (before x g ∷ []) (alone x ∷ g ∷ [])) (h ∷ hs)
    go true e true f = rw (e, after_before x g e, f)
    go true e false f = rw (e, after_before x g e, f)
    go false e true f = rw (e, f)
    go false e false f = rw (e, f)
joined_glue x (g ∷ g' ∷ gs) hs = go (is_next x.name g.first)
  where
    go : (b : Bool) → cond b (before x g ∷ glue (g' ∷ gs) hs) (alone x ∷ g ∷ glue (g' ∷ gs) hs) ≡ glue (cond b (before x g ∷ g' ∷ gs) (alone x ∷ g ∷ g' ∷ gs)) hs
    go true = refl
    go false = refl

-- slots one after the other
pub grouped_append : (l r : List Slot) → grouped (l ++ r) ≡ glue (grouped l) (grouped r)
grouped_append [] r = refl
grouped_append (x ∷ l) r = ap (joined x) (grouped_append l r) ∙ joined_glue x (grouped l) (grouped r)

-- ── from slots to groups and back ──

pub slots_back : (l : List Slot) → ungrouped (grouped l) ≡ l
slots_back [] = refl
slots_back (x ∷ l) = joined_slots x (grouped l) ∙ ap (λ (r : List Slot). x ∷ r) (slots_back l)
  where
    joined_slots : (x : Slot) (gs : List Group) → ungrouped (joined x gs) ≡ x ∷ ungrouped gs
    joined_slots x [] = refl
    joined_slots x (g ∷ gs) = go (is_next x.name g.first) refl
      where
        go : (b : Bool) → is_next x.name g.first ≡ b → ungrouped (cond b (before x g ∷ gs) (alone x ∷ g ∷ gs)) ≡ x ∷ ungrouped (g ∷ gs)
        go true e = ap (λ (a : Row). x ∷ (run a g.lines ++ ungrouped gs)) (next_is x.name g.first e)
        go false e = refl

pub are_longest : (l : List Slot) → longest (grouped l) ≡ true
are_longest [] = refl
are_longest (x ∷ l) = joined_longest x (grouped l) (are_longest l)
  where
    joined_longest : (x : Slot) (gs : List Group) → longest gs ≡ true → longest (joined x gs) ≡ true
    joined_longest x [] h = refl
    joined_longest x (g ∷ gs) h = go (is_next x.name g.first) refl
      where
        front : is_next x.name g.first ≡ true → (gs : List Group) → longest (g ∷ gs) ≡ true → longest (before x g ∷ gs) ≡ true
        front e [] h = refl
        front e (k ∷ gs) h = ap (λ (a : Row). not (same a k.first) && longest (k ∷ gs)) (after_before x g e) ∙ h

        go : (b : Bool) → is_next x.name g.first ≡ b → longest (cond b (before x g ∷ gs) (alone x ∷ g ∷ gs)) ≡ true
        go true e = front e gs h
        go false e = λ i. not (e i) && h i

-- ── from groups to slots and back ──

-- groups with a slot each, as long as possible, are those of their slots
abbrev pub has_slot : Group → Bool
has_slot g = leb 1 (size g)

longest_tail : (g : Group) (gs : List Group) → longest (g ∷ gs) ≡ true → longest gs ≡ true
longest_tail g [] e = refl
longest_tail g (h ∷ gs) e = and_1 (apart g h) (longest (h ∷ gs)) e

pub regrouped_back : (gs : List Group) → list_all has_slot gs ≡ true → longest gs ≡ true → grouped (ungrouped gs) ≡ gs
regrouped_back [] v e = refl
regrouped_back (g ∷ gs) v e =
    let n = leb-true 1 (size g) (and_0 (has_slot g) (list_all has_slot gs) v) in
    grouped_append (slots_in g) (ungrouped gs)
    ∙ (λ i. glue (grouped_run g.first g.lines n i) (regrouped_back gs (and_1 (has_slot g) (list_all has_slot gs) v) (longest_tail g gs e) i))
    ∙ glue_longest g gs e

-- parts of groups that are longest
pub longest_parts : (gs hs : List Group) → longest (gs ++ hs) ≡ true → (longest gs ≡ true) × (longest hs ≡ true)
longest_parts [] hs e = (refl, e)
longest_parts (g ∷ []) hs e = (refl, longest_tail g hs e)
longest_parts (g ∷ h ∷ gs) hs e =
    let v = longest_parts (h ∷ gs) hs (and_1 (apart g h) (longest (h ∷ gs ++ hs)) e) in
    (λ i. and_0 (apart g h) (longest (h ∷ gs ++ hs)) e i && v.0 i, v.1)
