-- Insert and remove: document 01, "Taking it back", last paragraph, and "What comes back".
use Rattle.std.specs.Prelude.{ℕ, List, [], ◌∷◌, ◌++◌, cond, not, length, ltb}
use Rattle.names.specs.Ordering.{Row, compare_rows}
use Rattle.std.specs.Ordering.{is_lt, is_eq}
use Rattle.numbers.specs.Bytes.{Bytes}
use Rattle.slots.specs.Slots.{Slot, name_of, slot_of, keeps_slot}
use Rattle.answers.specs.Answers.{Test, ◌else◌, Outcome, outcome}
use Rattle.pages.specs.Pages.{max_slots, slots_of, names_of, pieces, keeps_layout, rises}
use Rattle.pages.specs.Places.{has}
use Rattle.answers.specs.declared.Refusal.TheVariants.{BadLayout, NotRising, Present, Absent, Full}

-- "the page with the given slot at its rising place": before the first slot whose name is above its own
abbrev pub placed : Slot → List Slot → List Slot
placed x [] = x ∷ []
placed x (y ∷ l) = cond (is_lt (compare_rows x.name y.name)) (x ∷ y ∷ l) (y ∷ placed x l)

-- the page "without the slot of that name"
abbrev pub without : Row → List Slot → List Slot
without a [] = []
without a (y ∷ l) = cond (is_eq (compare_rows y.name a)) (without a l) (y ∷ without a l)

-- "insert 1 (page), 1 (slot), 2, ..; remove 1, 1, 2, ..": how both begin
abbrev pub edit_tests : Bytes → Bytes → List Test
edit_tests page slot = keeps_layout page else BadLayout ∷ keeps_slot slot else BadLayout ∷ rises page else NotRising ∷ []

-- "insert 1 (page), 1 (slot), 2, 9, 11, 8"; room is the length of the output
unfoldable pub insert_outcome : Bytes → Bytes → ℕ → Outcome
insert_outcome page slot room =
    outcome
    (edit_tests page slot ++ (not (has (name_of slot) (names_of page)) else Present ∷ ltb (length (slots_of page)) max_slots else Full ∷ []))
    (pieces (placed (slot_of slot) (slots_of page)))
    room

-- "remove 1, 1, 2, 10, 8 (the given line number is ignored)"
unfoldable pub remove_outcome : Bytes → Bytes → ℕ → Outcome
remove_outcome page slot room =
    outcome
    (edit_tests page slot ++ (has (name_of slot) (names_of page) else Absent ∷ []))
    (pieces (without (name_of slot) (slots_of page)))
    room
