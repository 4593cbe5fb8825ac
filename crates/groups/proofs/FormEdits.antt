-- Insert and remove on a form that passes the tests, said of the slots that it stands for: `insert_slots`, `remove_slots`. Assumes nothing.
use mathlib.Core.Path.{◌≡◌, ap, ◌∙◌}
use mathlib.Core.List.{List, [], ◌∷◌, map}
use mathlib.Core.Bool.{not}
use Prim.Native.Nat.{ℕ}
use native.Mathlib.Omega.{arith}
use borrow.Author.Tests.{ltb-true}
use lib.Dec.{ltb}
use lib.ListN.{length}
use Rattle.numbers.specs.Bytes.{Bytes, Octets}
use Rattle.slots.specs.Slots.{Slot, name_of, slot_of, keeps_slot, is_slot}
use Rattle.slots.proofs.RoundTrip.{kept, decoded_slot}
use Rattle.answers.specs.declared.Refusal.TheVariants.{BadLayout, NotRising, Present, Absent, Full}
use Rattle.answers.specs.Answers.{Test, ◌else◌, Outcome, in_order, refuse, write, outcome}
use Rattle.answers.specs.Laws.{Passed}
use Rattle.answers.proofs.Refusals.{passed}
use Rattle.pages.specs.Pages.{max_slots, name_in, pieces}
use Rattle.pages.specs.Places.{has}
use Rattle.edits.specs.Edits.{placed, without, insert_outcome, remove_outcome}
use Rattle.edits.proofs.Books.{every_placed, every_without, length_placed, length_without}
use Rattle.groups.specs.Forms.{slots_of_form}
use Rattle.groups.specs.Calls.{form_pieces, form_tests, page_of, ample, regroup, insert_form_outcome, remove_form_outcome}
use Rattle.groups.proofs.FormPages.{held, form_page, page_of_slots}
use Rattle.groups.proofs.FormOutcomes.{as_passed, regroup_tests, regroup_writes}

-- "1 (slot), then 9 and 11"
abbrev pub insert_tests : Bytes → Bytes → List Test
insert_tests form slot =
    keeps_slot slot else BadLayout ∷ not (has (name_of slot) (map name_in (slots_of_form form))) else Present
    ∷ ltb (length (slots_of_form form)) max_slots else Full ∷ []

-- "1 (slot), then 10"
abbrev pub remove_tests : Bytes → Bytes → List Test
remove_tests form slot = keeps_slot slot else BadLayout ∷ has (name_of slot) (map name_in (slots_of_form form)) else Absent ∷ []

module _ (form slot : Bytes) (so : Octets slot) (p : Passed (form_tests form)) (room : ℕ) where
  abbrev l : List Slot
  l = slots_of_form form

  -- the edit of the page that the form stands for, the tests of that page passed
  insert_page : insert_outcome (page_of form) slot ample ≡ outcome (insert_tests form slot) (pieces (placed (slot_of slot) l)) ample
  unfolding insert_outcome
  insert_page =
      let v = form_page form p in
      (λ i.
      outcome
      (v.0 i else BadLayout ∷ keeps_slot slot else BadLayout ∷ v.1 i else NotRising
      ∷ not (has (name_of slot) (map name_in (page_of_slots form p i))) else Present ∷ ltb (length (page_of_slots form p i)) max_slots else Full ∷ [])
      (pieces (placed (slot_of slot) (page_of_slots form p i)))
      ample)

  remove_page : remove_outcome (page_of form) slot ample ≡ outcome (remove_tests form slot) (pieces (without (name_of slot) l)) ample
  unfolding remove_outcome
  remove_page =
      let v = form_page form p in
      (λ i.
      outcome
      (v.0 i else BadLayout ∷ keeps_slot slot else BadLayout ∷ v.1 i else NotRising
      ∷ has (name_of slot) (map name_in (page_of_slots form p i)) else Absent ∷ [])
      (pieces (without (name_of slot) (page_of_slots form p i)))
      ample)

  pub insert_slots : insert_form_outcome form slot room ≡ outcome (insert_tests form slot) (form_pieces (placed (slot_of slot) (slots_of_form form))) room
  unfolding insert_form_outcome
  insert_slots =
      let x = slot_of slot in
      passed refuse (regroup (insert_outcome (page_of form) slot ample) room) (form_tests form) p
      ∙ ap (λ (o : Outcome). regroup o room) insert_page
      ∙ regroup_tests (insert_tests form slot) (write (pieces (placed x l)) ample) room
      ∙ as_passed (insert_tests form slot) (regroup (write (pieces (placed x l)) ample) room) (write (form_pieces (placed x l)) room) go
    where
      go : Passed (insert_tests form slot)
          → regroup (write (pieces (placed (slot_of slot) l)) ample) room ≡ write (form_pieces (placed (slot_of slot) l)) room
      go (e, (absent, (spare, _))) =
          let x = slot_of slot in
          let f = ltb-true (length l) max_slots spare in
          let n = length_placed x l in
          regroup_writes (placed x l) (every_placed is_slot x l (decoded_slot slot so (kept slot e)) (held form p).slots) (omega arith) room

  pub remove_slots : remove_form_outcome form slot room ≡ outcome (remove_tests form slot) (form_pieces (without (name_of slot) (slots_of_form form))) room
  unfolding remove_form_outcome
  remove_slots =
      let a = name_of slot in
      let f = (held form p).few in
      let n = length_without a l in
      passed refuse (regroup (remove_outcome (page_of form) slot ample) room) (form_tests form) p
      ∙ ap (λ (o : Outcome). regroup o room) remove_page
      ∙ regroup_tests (remove_tests form slot) (write (pieces (without a l)) ample) room
      ∙ ap (λ (o : Outcome). in_order (remove_tests form slot) refuse o) (regroup_writes (without a l) (every_without is_slot a l (held form p).slots) (omega arith) room)
