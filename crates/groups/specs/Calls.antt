-- The calls: 02, P2: "Refusals: 15 for a form that is malformed, has a length of 0 or isn't longest, then 2, then 11 for more than 256
-- slots; insert and remove go on with 1 (slot), then 9 and 11, or 10; 8 is last. A page to be grouped gives 1, 2, 8."
use Rattle.std.specs.Prelude.{ℕ, ◌*◌, length, leb}
use mathlib.Core.List.{List, [], ◌∷◌, map, flatten}
use Rattle.names.specs.Ordering.{rising}
use Rattle.numbers.specs.Bytes.{Bytes}
use Rattle.slots.specs.Slots.{Slot, slot_size}
use Rattle.answers.specs.Answers.{Answer}
use Rattle.std.specs.declared.result.Result.TheVariants.{Ok, Err}
use Rattle.answers.specs.declared.Refusal.TheVariants.{BadLayout, NotRising, Full, Malformed}
use Rattle.answers.specs.Answers.{Test, ◌else◌, Outcome, in_order, refuse, write, outcome}
use Rattle.pages.specs.Pages.{max_slots, slots_of, name_in, pieces, keeps_layout, rises}
use Rattle.edits.specs.Edits.{insert_outcome, remove_outcome}
use Rattle.fields.specs.Fields.{single}
use Rattle.groups.specs.Groups.{grouped}
use Rattle.groups.specs.Forms.{form_bytes, slots_of_form, keeps_form}

-- the form of slots, byte by byte: the count of a written form is that of its bytes
abbrev pub form_pieces : List Slot → List Bytes
form_pieces l = map single (form_bytes (grouped l))

-- "A page to be grouped gives 1, 2, 8."; room is the length of the output
unfoldable pub group_outcome : Bytes → ℕ → Outcome
group_outcome page room = outcome (keeps_layout page else BadLayout ∷ rises page else NotRising ∷ []) (form_pieces (slots_of page)) room

-- "15 .., then 2, then 11 for more than 256 slots": how the three calls on a form begin
abbrev pub form_tests : Bytes → List Test
form_tests form =
    keeps_form form else Malformed ∷ rising (map name_in (slots_of_form form)) else NotRising
    ∷ leb (length (slots_of_form form)) max_slots else Full ∷ []

unfoldable pub ungroup_outcome : Bytes → ℕ → Outcome
ungroup_outcome form room = outcome (form_tests form) (pieces (slots_of_form form)) room

-- ── "Insert and remove should also work on the grouped form, splitting and joining, and agree with the page." ──

-- the page that a form stands for
abbrev pub page_of : Bytes → Bytes
page_of form = flatten (pieces (slots_of_form form))

-- all the room that a page can need: "a page is at most 51,200 bytes"
abbrev pub ample : ℕ
ample = slot_size * max_slots

-- what an edit of the page gives, grouped again: the edit's own refusals, and then 8 by the bytes of the form
abbrev pub regrouped : Answer → Bytes → ℕ → Outcome
regrouped (Err r) page room = refuse r
regrouped (Ok n) page room = write (form_pieces (slots_of page)) room

abbrev pub regroup : Outcome → ℕ → Outcome
regroup edited room = regrouped edited.answer edited.bytes room

-- "15, 2, 11; 1 (slot), then 9 and 11; 8 is last": 01's own insert, on the page that the form stands for
unfoldable pub insert_form_outcome : Bytes → Bytes → ℕ → Outcome
insert_form_outcome form slot room = in_order (form_tests form) refuse (regroup (insert_outcome (page_of form) slot ample) room)

-- ".. 1 (slot), then 10; 8 is last": 01's own remove
unfoldable pub remove_form_outcome : Bytes → Bytes → ℕ → Outcome
remove_form_outcome form slot room = in_order (form_tests form) refuse (regroup (remove_outcome (page_of form) slot ample) room)
