-- The outcomes of insert and remove, case by case as the code meets them. Assumes nothing.
use mathlib.Core.Path.{◌≡◌, ◌∙◌, ap}
use mathlib.Core.List.{List, ◌∷◌, ◌++◌, flatten}
use mathlib.Core.Bool.{true, false}
use Prim.Native.Nat.{ℕ, suc, ◌+◌, ◌-◌, ◌*◌, ◌/◌, ◌<◌, ◌≤◌}
use native.Mathlib.Omega.{arith}
use borrow.Author.Tests.{lt-ltb, le-ltb}
use lib.ListN.{length, take, drop, length-append, length-take, length-drop, length-map}
use Rattle.names.proofs.Laws.{rising_Rising}
use Rattle.numbers.specs.Bytes.{Bytes, Octets}
use Rattle.slots.specs.Slots.{Slot, slot_size, name_of, slot_of, keeps_slot, slot_bytes}
use Rattle.slots.proofs.RoundTrip.{kept}
use Rattle.answers.specs.Answers.{Outcome, in_order, refuse, write}
use Rattle.pages.specs.Pages.{max_slots, slots_of, names_of, pieces, keeps_layout, rises}
use Rattle.pages.specs.Places.{below, has, place_of}
use Rattle.pages.specs.declared.Place.TheVariants.{Here, Gap}
use Rattle.answers.specs.declared.Refusal.{Refusal}
use Rattle.answers.specs.declared.Refusal.TheVariants.{Short, Present, Absent, Full}
use Rattle.pages.proofs.SlotBySlot.{length_slots, length_names}
use Rattle.answers.proofs.Outcomes.{writes_short, writes}
use Rattle.answers.specs.Laws.{Passed}
use Rattle.answers.proofs.Checked.{Told, all_pass, turns_away}
use Rattle.pages.proofs.RoundTrip.{laid}
use Rattle.std.specs.declared.result.Result.TheVariants.{Ok, Err}
use Rattle.edits.specs.Edits.{placed, without, edit_tests, insert_outcome, remove_outcome}
use Rattle.edits.proofs.Placed.{placed_split, without_split, below_most, below_less, is_gap, is_here_lem}
use Rattle.edits.proofs.EditedBytes.{with_bytes, without_bytes}

-- ── the tests that both begin with ──

-- what they tell
abbrev pub told : Bytes → Bytes → Told
told page slot = in_order (edit_tests page slot) Err (Ok tt)

module _ (page slot : Bytes) where
  pub checked : told page slot ≡ Ok tt → Passed (edit_tests page slot)
  checked e = all_pass (edit_tests page slot) (λ i. told page slot) e

  pub turned_away : (r : Refusal) (next : Outcome) → told page slot ≡ Err r → in_order (edit_tests page slot) refuse next ≡ refuse r
  turned_away r next e = turns_away (edit_tests page slot) (λ i. told page slot) next e

-- ── insert ──

-- what is known once the name's gap is found
pub record AtGap (page slot : Bytes) (k : ℕ) : Type 0 where
  pub octets : Octets page
  pub slot_octets : Octets slot
  pub layout : keeps_layout page ≡ true
  pub slot_layout : keeps_slot slot ≡ true
  pub order : rises page ≡ true
  pub place : place_of (name_of slot) (names_of page) ≡ Gap k

module _ {page slot : Bytes} {k : ℕ} (v : AtGap page slot k) where
  gap : (has (name_of slot) (names_of page) ≡ false) × (below (name_of slot) (names_of page) ≡ k)
  gap = is_gap (name_of slot) (names_of page) k v.place

  pub gap_within : k ≤ length page / slot_size
  gap_within = let h = below_most (name_of slot) (names_of page) in omega (arith, gap.1, length_names page (length page / slot_size))

  pub slot_long : length slot ≡ slot_size
  slot_long = (kept slot v.slot_layout).long

  split : placed (slot_of slot) (slots_of page) ≡ take k (slots_of page) ++ (slot_of slot ∷ drop k (slots_of page))
  split =
      placed_split (slot_of slot) (slots_of page) (rising_Rising (names_of page) v.order) gap.0
      ∙ ap (λ (j : ℕ). take j (slots_of page) ++ (slot_of slot ∷ drop j (slots_of page))) gap.1

  -- the slots that are written, and their bytes
  abbrev more_slots : List Bytes
  more_slots = pieces (placed (slot_of slot) (slots_of page))

  abbrev more_bytes : Bytes
  more_bytes = take (slot_size * k) page ++ slot ++ drop (slot_size * k) page

  bytes : flatten more_slots ≡ more_bytes
  bytes =
      ap (λ (l : List Slot). flatten (pieces l)) split
      ∙ with_bytes page v.octets v.layout slot v.slot_octets v.slot_layout k gap_within

  number : length more_slots ≡ length page / slot_size + 1
  number =
      let h = gap_within in
      let l = length_slots page in
      let a = length-take k (slots_of page) in
      let b = length-drop k (slots_of page) in
      length-map (placed (slot_of slot) (slots_of page)) slot_bytes
      ∙ ap length split
      ∙ length-append (take k (slots_of page)) (slot_of slot ∷ drop k (slots_of page))
      ∙ omega arith

  long : length more_bytes ≡ length page + slot_size
  long =
      let w = (laid page v.layout).whole in
      let h = gap_within in
      let a = length-take (slot_size * k) page in
      let b = length-drop (slot_size * k) page in
      let s = slot_long in
      length-append (take (slot_size * k) page ++ slot) (drop (slot_size * k) page)
      ∙ ap (λ (n : ℕ). n + length (drop (slot_size * k) page)) (length-append (take (slot_size * k) page) slot)
      ∙ omega arith

  pub insert_full : (room : ℕ) → slot_size * max_slots ≤ length page → insert_outcome page slot room ≡ refuse Full
  unfolding insert_outcome
  insert_full room h =
      let f : max_slots ≤ length (slots_of page) = omega (arith, length_slots page) in
      rw (v.layout, v.slot_layout, v.order, gap.0, le-ltb (length (slots_of page)) max_slots f)

  -- past every test
  inserts_into : (room : ℕ) → length page < slot_size * max_slots → insert_outcome page slot room ≡ write more_slots room
  unfolding insert_outcome
  inserts_into room h =
      let f : length (slots_of page) < max_slots = omega (arith, length_slots page, (laid page v.layout).whole) in
      rw (v.layout, v.slot_layout, v.order, gap.0, lt-ltb (length (slots_of page)) max_slots f)

  pub insert_short : (room : ℕ) → length page < slot_size * max_slots → room < length page + slot_size → insert_outcome page slot room ≡ refuse Short
  insert_short room h g = inserts_into room h ∙ writes_short more_slots room (rw bytes (omega (arith, long)))

  pub insert_done : (room : ℕ) → length page < slot_size * max_slots → length page + slot_size ≤ room → insert_outcome page slot room ≡ record { answer = Ok (length page / slot_size + 1); bytes = more_bytes }
  insert_done room h g = inserts_into room h ∙ writes more_slots room (length page / slot_size + 1) more_bytes number bytes (omega (arith, long))

pub insert_present : (page slot : Bytes) (room k : ℕ) → Passed (edit_tests page slot) → place_of (name_of slot) (names_of page) ≡ Here k → insert_outcome page slot room ≡ refuse Present
unfolding insert_outcome
insert_present page slot room k (layout, (slot_layout, (order, _))) e = rw (layout, slot_layout, order, (is_here_lem (name_of slot) (names_of page) k e).0)

pub insert_refused : (page slot : Bytes) (room : ℕ) (r : Refusal) → told page slot ≡ Err r → insert_outcome page slot room ≡ refuse r
unfolding insert_outcome
insert_refused page slot room r e = turned_away page slot r _ e

-- ── remove ──

-- what is known once the name's slot is found
pub record AtSlot (page slot : Bytes) (k : ℕ) : Type 0 where
  pub octets : Octets page
  pub layout : keeps_layout page ≡ true
  pub slot_layout : keeps_slot slot ≡ true
  pub order : rises page ≡ true
  pub place : place_of (name_of slot) (names_of page) ≡ Here k

module _ {page slot : Bytes} {k : ℕ} (v : AtSlot page slot k) where
  here : (has (name_of slot) (names_of page) ≡ true) × (below (name_of slot) (names_of page) ≡ k)
  here = is_here_lem (name_of slot) (names_of page) k v.place

  pub here_within : k < length page / slot_size
  here_within = let h = below_less (name_of slot) (names_of page) (rising_Rising (names_of page) v.order) here.0 in omega (arith, here.1, length_names page (length page / slot_size))

  pub whole_page : length page ≡ slot_size * (length page / slot_size)
  whole_page = (laid page v.layout).whole

  cut : without (name_of slot) (slots_of page) ≡ take k (slots_of page) ++ drop (suc k) (slots_of page)
  cut =
      without_split (name_of slot) (slots_of page) (rising_Rising (names_of page) v.order) here.0
      ∙ ap (λ (j : ℕ). take j (slots_of page) ++ drop (suc j) (slots_of page)) here.1

  -- the slots that are written, and their bytes
  abbrev fewer_slots : List Bytes
  fewer_slots = pieces (without (name_of slot) (slots_of page))

  abbrev fewer_bytes : Bytes
  fewer_bytes = take (slot_size * k) page ++ drop (slot_size * k + slot_size) page

  left_bytes : flatten fewer_slots ≡ fewer_bytes
  left_bytes = ap (λ (l : List Slot). flatten (pieces l)) cut ∙ without_bytes page v.octets v.layout k here_within

  left_number : length fewer_slots ≡ length page / slot_size - 1
  left_number =
      let h = here_within in
      let l = length_slots page in
      let a = length-take k (slots_of page) in
      let b = length-drop (suc k) (slots_of page) in
      length-map (without (name_of slot) (slots_of page)) slot_bytes
      ∙ ap length cut
      ∙ length-append (take k (slots_of page)) (drop (suc k) (slots_of page))
      ∙ omega arith

  left_long : length fewer_bytes ≡ length page - slot_size
  left_long =
      let w = whole_page in
      let h = here_within in
      let a = length-take (slot_size * k) page in
      let b = length-drop (slot_size * k + slot_size) page in
      length-append (take (slot_size * k) page) (drop (slot_size * k + slot_size) page) ∙ omega arith

  -- past every test
  removes_into : (room : ℕ) → remove_outcome page slot room ≡ write fewer_slots room
  unfolding remove_outcome
  removes_into room = rw (v.layout, v.slot_layout, v.order, here.0)

  pub remove_short : (room : ℕ) → room < length page - slot_size → remove_outcome page slot room ≡ refuse Short
  remove_short room g = removes_into room ∙ writes_short fewer_slots room (rw left_bytes (omega (arith, left_long)))

  pub remove_done : (room : ℕ) → length page - slot_size ≤ room → remove_outcome page slot room ≡ record { answer = Ok (length page / slot_size - 1); bytes = fewer_bytes }
  remove_done room g = removes_into room ∙ writes fewer_slots room (length page / slot_size - 1) fewer_bytes left_number left_bytes (omega (arith, left_long))

pub remove_absent : (page slot : Bytes) (room k : ℕ) → Passed (edit_tests page slot) → place_of (name_of slot) (names_of page) ≡ Gap k → remove_outcome page slot room ≡ refuse Absent
unfolding remove_outcome
remove_absent page slot room k (layout, (slot_layout, (order, _))) e = rw (layout, slot_layout, order, (is_gap (name_of slot) (names_of page) k e).0)

pub remove_refused : (page slot : Bytes) (room : ℕ) (r : Refusal) → told page slot ≡ Err r → remove_outcome page slot room ≡ refuse r
unfolding remove_outcome
remove_refused page slot room r e = turned_away page slot r _ e
