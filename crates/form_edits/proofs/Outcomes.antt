-- What insert and remove give, case by case, where 15, 2, 11 and 1 have passed: `insert_present`, `insert_full`, `insert_done`; `remove_absent`,
-- `remove_done`; and where one of these tests fails, or all pass, as one look at the form tells them (`insert_refused`, `remove_refused`,
-- `edited`). Assumes nothing.
use mathlib.Core.Path.{◌≡◌, refl, ◌∙◌, sym, ap}
use mathlib.Core.Logic.{◌⊎◌, inl, inr}
use mathlib.Core.List.{List, [], ◌∷◌, ◌++◌, map}
use mathlib.Core.Bool.{Bool, true, false, not}
use Prim.Native.Nat.{ℕ, ◌<◌, ◌≤◌}
use native.Mathlib.Omega.{arith}
use borrow.Author.Tests.{lt-ltb, le-ltb}
use lib.Dec.{ltb}
use lib.ListN.{length}
use Rattle.names.specs.Ordering.{Row}
use Rattle.numbers.specs.Bytes.{Bytes, Octets}
use Rattle.slots.specs.declared.Span.{Span}
use Rattle.slots.specs.Slots.{Slot, name_of, slot_of, keeps_slot}
use Rattle.answers.specs.declared.Refusal.{Refusal}
use Rattle.answers.specs.declared.Refusal.TheVariants.{BadLayout, Present, Absent, Full}
use Rattle.answers.specs.Answers.{Test, ◌else◌, in_order, refuse, write, outcome}
use Rattle.answers.specs.Laws.{Passed, FirstFails, here, later}
use Rattle.answers.proofs.Refusals.{reached, refuses, failed}
use Rattle.pages.specs.Pages.{max_slots, name_in}
use Rattle.pages.specs.Places.{has}
use Rattle.fields.specs.Fields.{single}
use Rattle.edits.specs.Edits.{placed, without, insert_outcome, remove_outcome}
use Rattle.groups.specs.Forms.{slots_of_form}
use Rattle.groups.specs.Calls.{form_pieces, form_tests, page_of, ample, regroup, insert_form_outcome, remove_form_outcome}
use Rattle.groups.proofs.FormEdits.{insert_tests, remove_tests, insert_slots, remove_slots}
use Rattle.forms.specs.declared.Looked.{Looked}
use Rattle.forms.specs.Blocks.{all_told}
use Rattle.form_changes.specs.declared.Change.{Change}
use Rattle.form_changes.specs.Changes.{given, changed}
use Rattle.std.specs.declared.result.Result.{Result}
use Rattle.std.specs.declared.result.Result.TheVariants.{Ok, Err}
use Rattle.form_edits.specs.declared.Insertion.{Insertion}
use Rattle.form_edits.specs.Edits.{edit_tests, Edited, Inserts}
use Rattle.form_edits.proofs.Chosen.{Removes}

module _ (s slot : Bytes) (so : Octets slot) (name : Span) (e : Edited s slot name) (room : ℕ) where
  abbrev l : List Slot
  l = slots_of_form s

  inserts : (a : Bool) → has (name_of slot) (map name_in (slots_of_form s)) ≡ a → (b : Bool) → ltb (length (slots_of_form s)) max_slots ≡ b
      → insert_form_outcome s slot room ≡ outcome (true else BadLayout ∷ not a else Present ∷ b else Full ∷ []) (form_pieces (placed (slot_of slot) (slots_of_form s))) room
  inserts a h b t =
      insert_slots s slot so e.tests room
      ∙ (λ i. outcome (e.keeps i else BadLayout ∷ not (h i) else Present ∷ t i else Full ∷ []) (form_pieces (placed (slot_of slot) l)) room)

  pub insert_present : has (name_of slot) (map name_in (slots_of_form s)) ≡ true → insert_form_outcome s slot room ≡ refuse Present
  insert_present h = inserts true h (ltb (length l) max_slots) refl

  pub insert_full : has (name_of slot) (map name_in (slots_of_form s)) ≡ false → max_slots ≤ length (slots_of_form s) → insert_form_outcome s slot room ≡ refuse Full
  insert_full h t = inserts false h false (le-ltb (length l) max_slots t)

  pub insert_done : (i : Insertion) → Inserts s slot i → length (slots_of_form s) < max_slots
      → write (map single (changed s (given slot i.head) i.change)) room ≡ insert_form_outcome s slot room
  insert_done i v t =
      ap (λ (w : Bytes). write (map single w) room) v.bytes
      ∙ sym (inserts false v.absent true (lt-ltb (length l) max_slots t))

  removes : (a : Bool) → has (name_of slot) (map name_in (slots_of_form s)) ≡ a
      → remove_form_outcome s slot room ≡ outcome (true else BadLayout ∷ a else Absent ∷ []) (form_pieces (without (name_of slot) (slots_of_form s))) room
  removes a h =
      remove_slots s slot so e.tests room
      ∙ (λ i. outcome (e.keeps i else BadLayout ∷ h i else Absent ∷ []) (form_pieces (without (name_of slot) l)) room)

  pub remove_absent : has (name_of slot) (map name_in (slots_of_form s)) ≡ false → remove_form_outcome s slot room ≡ refuse Absent
  remove_absent h = removes false h

  pub remove_done : (k : Octets s) (c : Change) → has (name_of slot) (map name_in (slots_of_form s)) ≡ true → Removes s slot k so name e c
      → write (map single (changed s [] c)) room ≡ remove_form_outcome s slot room
  remove_done k c h v = ap (λ (w : Bytes). write (map single w) room) v.bytes ∙ sym (removes true h)

-- ── the tests before ──

-- the first that fails is one of these, or they pass and it is one of those after them
fails_in : {r : Refusal} (ts us : List Test) → FirstFails r (ts ++ us) → FirstFails r ts ⊎ (Passed ts × FirstFails r us)
fails_in [] us f = inr (tt, f)
fails_in (t ∷ ts) us (here e q) = inl (here e q)
fails_in {r} (t ∷ ts) us (later e f) = go (fails_in ts us f)
  where
    go : FirstFails r ts ⊎ (Passed ts × FirstFails r us) → FirstFails r (t ∷ ts) ⊎ (Passed (t ∷ ts) × FirstFails r us)
    go (inl g) = inl (later e g)
    go (inr (p, g)) = inr ((e, p), g)

passed_both : (ts us : List Test) → Passed (ts ++ us) → Passed ts × Passed us
passed_both [] us p = (tt, p)
passed_both (t ∷ ts) us (e, p) = let q = passed_both ts us p in ((e, q.0), q.1)

module _ (s slot : Bytes) (x : Row) where
  apart : (r : Refusal) {l : Looked} → ◌≡◌ {A = Result Looked Refusal} (Err r) (Ok l) → ⊥
  apart r e = let z : ◌≡◌ {A = ℕ} 0 1 = cc in omega arith

  -- where all pass the look has found how many slots there are, and where the name would stand
  pub all_passed : {l : Looked} → in_order (edit_tests s slot) Err (Ok (all_told s x)) ≡ Ok l
      → Passed (form_tests s) × (keeps_slot slot ≡ true) × (l ≡ all_told s x)
  all_passed {l} e =
      let q = reached (λ (r : Result Looked Refusal). r ≡ Ok l) Err (Ok (all_told s x)) (λ r f. apart r f) (edit_tests s slot) e in
      let p = passed_both (form_tests s) (keeps_slot slot else BadLayout ∷ []) q.0 in
      let z : ◌≡◌ {A = Result Looked Refusal} (Ok (all_told s x)) (Ok l) = q.1 in
      let y : all_told s x ≡ l = cc in
      (p.0, p.1.0, sym y)

  module _ (so : Octets slot) (room : ℕ) (r : Refusal) (e : in_order (edit_tests s slot) Err (Ok (all_told s x)) ≡ Err r) where
    fails : FirstFails r (form_tests s) ⊎ (Passed (form_tests s) × FirstFails r (keeps_slot slot else BadLayout ∷ []))
    fails =
        fails_in (form_tests s) (keeps_slot slot else BadLayout ∷ [])
        (refuses Err (Ok (all_told s x)) (λ q f. apart q f) (λ q r f. cc) (edit_tests s slot) e)

    pub insert_refused : insert_form_outcome s slot room ≡ refuse r
    unfolding insert_form_outcome
    insert_refused = go fails
      where
        go : FirstFails r (form_tests s) ⊎ (Passed (form_tests s) × FirstFails r (keeps_slot slot else BadLayout ∷ [])) → insert_form_outcome s slot room ≡ refuse r
        go (inl f) = failed refuse (regroup (insert_outcome (page_of s) slot ample) room) (form_tests s) f
        go (inr (p, f)) = insert_slots s slot so p room ∙ by f
          where
            by : FirstFails r (keeps_slot slot else BadLayout ∷ []) → outcome (insert_tests s slot) (form_pieces (placed (slot_of slot) (slots_of_form s))) room ≡ refuse r
            by (later _ x9) = elim x9 [ ]
            by (here a b) =
                (λ i. outcome (a i else BadLayout ∷ not (has (name_of slot) (map name_in (slots_of_form s))) else Present ∷ ltb (length (slots_of_form s)) max_slots else Full ∷ []) (form_pieces (placed (slot_of slot) (slots_of_form s))) room)
                ∙ ap refuse b

    pub remove_refused : remove_form_outcome s slot room ≡ refuse r
    unfolding remove_form_outcome
    remove_refused = go fails
      where
        go : FirstFails r (form_tests s) ⊎ (Passed (form_tests s) × FirstFails r (keeps_slot slot else BadLayout ∷ [])) → remove_form_outcome s slot room ≡ refuse r
        go (inl f) = failed refuse (regroup (remove_outcome (page_of s) slot ample) room) (form_tests s) f
        go (inr (p, f)) = remove_slots s slot so p room ∙ by f
          where
            by : FirstFails r (keeps_slot slot else BadLayout ∷ []) → outcome (remove_tests s slot) (form_pieces (without (name_of slot) (slots_of_form s))) room ≡ refuse r
            by (later _ x9) = elim x9 [ ]
            by (here a b) =
                (λ i. outcome (a i else BadLayout ∷ has (name_of slot) (map name_in (slots_of_form s)) else Absent ∷ []) (form_pieces (without (name_of slot) (slots_of_form s))) room)
                ∙ ap refuse b
