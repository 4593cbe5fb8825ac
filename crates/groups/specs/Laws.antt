-- What holds of groups, of forms and of the four calls. All of it is proved: proofs/Laws.antt. `Octets s` says that each element of s is
-- a byte, `room` is how many bytes an output has.
use Rattle.std.specs.Prelude.{ℕ, ◌≤◌, ◌≡◌, List, map, true, ◌↔◌, length}
use Rattle.numbers.specs.Bytes.{Bytes, Octets}
use Rattle.std.specs.List.{list_all}
use Rattle.slots.specs.Slots.{Slot, is_slot}
use Rattle.answers.specs.Answers.{Outcome}
use Rattle.answers.specs.Laws.{Passed}
use Rattle.std.specs.declared.result.Result.TheVariants.{Ok}
use Rattle.pages.specs.Pages.{max_slots, slots_of}
use Rattle.pages.specs.Laws.{IsPage}
use Rattle.edits.specs.Edits.{insert_outcome, remove_outcome}
use Rattle.edits.specs.Laws.{gives_back}
use Rattle.groups.specs.Groups.{Group, ungrouped, alone, grouped, longest, is_group}
use Rattle.groups.specs.Forms.{form_bytes, groups_in, slots_of_form, keeps_form, longest_form}
use Rattle.groups.specs.Calls.{group_outcome, form_tests, ungroup_outcome, page_of, ample, regroup, insert_form_outcome, remove_form_outcome}

-- ── groups and slots ──

pub record GroupLaws : Type 0 where
  -- the slots of the groups of slots are these slots
  pub slots_back : (l : List Slot) → ungrouped (grouped l) ≡ l
  -- "Groups are as long as possible, so a page has one grouped form": grouping gives groups that are longest, and of such groups the
  -- slots give them back
  pub are_longest : (l : List Slot) → longest (grouped l) ≡ true
  pub are_groups : (l : List Slot) → list_all is_slot l ≡ true → length l ≤ max_slots → list_all is_group (grouped l) ≡ true
  pub groups_back : (gs : List Group) → list_all is_group gs ≡ true → longest gs ≡ true → grouped (ungrouped gs) ≡ gs

-- ── forms ──

pub record FormLaws : Type 0 where
  -- what is written is bytes, and a form, which says what was to be written
  pub written_octets : (gs : List Group) → list_all is_group gs ≡ true → Octets (form_bytes gs)
  pub written_form : (gs : List Group) → list_all is_group gs ≡ true → longest gs ≡ true → keeps_form (form_bytes gs) ≡ true
  pub read_back : (gs : List Group) → list_all is_group gs ≡ true → groups_in (form_bytes gs) ≡ gs
  -- and a form is the writing of what it says
  pub bytes_back : (s : Bytes) → Octets s → keeps_form s ≡ true → form_bytes (groups_in s) ≡ s
  -- so 15 is for every form that grouping cannot give, the order and the number of its slots apart
  pub form_exactly : (s : Bytes) → Octets s
      → (keeps_form s ≡ true) ↔ ((gs : List Group) × (list_all is_group gs ≡ true) × (longest gs ≡ true) × (form_bytes gs ≡ s))
  -- and 15, 2 and 11 together are for every form that no page has
  pub page_exactly : (s : Bytes) → Octets s
      → Passed (form_tests s) ↔ ((page : Bytes) × Octets page × IsPage page × (form_bytes (grouped (slots_of page)) ≡ s))
  -- a page has one form
  pub one_form : (s t : Bytes) → Octets s → Octets t → keeps_form s ≡ true → keeps_form t ≡ true → slots_of_form s ≡ slots_of_form t → s ≡ t

pub record SizeLaws : Type 0 where
  pub longest_is : longest_form ≡ 52992
  -- a form is never longer than that of one slot a group, and of a page never longer than the longest
  pub no_longer_than_alone : (l : List Slot) → length (form_bytes (grouped l)) ≤ length (form_bytes (map alone l))
  pub no_longer : (page : Bytes) → Octets page → IsPage page → length (form_bytes (grouped (slots_of page))) ≤ longest_form
  -- and one is as long
  pub one_as_long : (page : Bytes) × Octets page × IsPage page × (length (form_bytes (grouped (slots_of page))) ≡ longest_form)

-- ── calls ──

-- the outcome that gives a form back
abbrev pub gives_form : Bytes → Outcome
gives_form form = record { answer = Ok (length form); bytes = form }

pub record CallLaws : Type 0 where
  -- "Both round trips give the same bytes."
  pub ungroup_grouped : (page : Bytes) → Octets page → (room n : ℕ) → (group_outcome page room).answer ≡ Ok n → (room' : ℕ)
      → length page ≤ room' → ungroup_outcome (group_outcome page room).bytes room' ≡ gives_back page
  pub group_ungrouped : (form : Bytes) → Octets form → (room n : ℕ) → (ungroup_outcome form room).answer ≡ Ok n → (room' : ℕ)
      → length form ≤ room' → group_outcome (ungroup_outcome form room).bytes room' ≡ gives_form form
  -- "Insert and remove .. agree with the page": on a page's form they give the form of what they give on the page
  pub insert_agrees : (page slot : Bytes) → Octets page → IsPage page → (room : ℕ)
      → insert_form_outcome (form_bytes (grouped (slots_of page))) slot room ≡ regroup (insert_outcome page slot ample) room
  pub remove_agrees : (page slot : Bytes) → Octets page → IsPage page → (room : ℕ)
      → remove_form_outcome (form_bytes (grouped (slots_of page))) slot room ≡ regroup (remove_outcome page slot ample) room
  -- and what they have written stands for that page
  pub inserted : (form slot : Bytes) → Octets slot → (room n : ℕ) → (insert_form_outcome form slot room).answer ≡ Ok n
      → ungroup_outcome (insert_form_outcome form slot room).bytes ample ≡ insert_outcome (page_of form) slot ample
  pub removed : (form slot : Bytes) → Octets slot → (room n : ℕ) → (remove_form_outcome form slot room).answer ≡ Ok n
      → ungroup_outcome (remove_form_outcome form slot room).bytes ample ≡ remove_outcome (page_of form) slot ample

pub record Laws : Type 0 where
  pub groups : GroupLaws
  pub forms : FormLaws
  pub sizes : SizeLaws
  pub calls : CallLaws
