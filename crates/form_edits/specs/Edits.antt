-- What an edit of a form has found when it comes to the change; 02 does not speak of it.
use Rattle.std.specs.Prelude.{ℕ, ◌≡◌, List, [], ◌∷◌, ◌++◌, map, true, false, length, ltb}
use Rattle.names.specs.Ordering.{Row}
use Rattle.numbers.specs.Bytes.{Bytes}
use Rattle.slots.specs.declared.Span.{Span}
use Rattle.slots.specs.Tuples.{row_at, Lies}
use Rattle.slots.specs.Slots.{name_of, slot_of, keeps_slot}
use Rattle.answers.specs.declared.Refusal.TheVariants.{BadLayout}
use Rattle.answers.specs.Answers.{Test, ◌else◌}
use Rattle.answers.specs.Laws.{Passed}
use Rattle.pages.specs.Pages.{name_in}
use Rattle.pages.specs.Places.{has}
use Rattle.edits.specs.Edits.{placed}
use Rattle.groups.specs.Groups.{grouped}
use Rattle.groups.specs.Forms.{form_bytes, groups_in, slots_of_form}
use Rattle.groups.specs.Calls.{form_tests}
use Rattle.forms.specs.declared.Block.{Block}
use Rattle.forms.specs.declared.Place.{Place}
use Rattle.forms.specs.Blocks.{end_of, nowhere, sought_from}
use Rattle.form_changes.specs.declared.Change.{Change}
use Rattle.form_changes.specs.Changes.{Fits, Given, given, changed}
use Rattle.form_edits.specs.declared.Insertion.{Insertion}
use Rattle.form_edits.specs.Choices.{block_by, goes_on, taken_by}

-- "15, 2, 11, 1 (slot)": how both edits begin
abbrev pub edit_tests : Bytes → Bytes → List Test
edit_tests s slot = form_tests s ++ (keeps_slot slot else BadLayout ∷ [])

-- all of these have passed, and the slot's name stands at `name`
pub record Edited (s slot : Bytes) (name : Span) : Type 0 where
  pub tests : Passed (form_tests s)
  pub keeps : keeps_slot slot ≡ true
  pub lies : Lies slot name
  pub named : row_at slot name ≡ name_of slot

-- the place of the name x, the last group that does not begin above it, and the one before that
abbrev pub place_in : Bytes → Row → Place
place_in s x = sought_from x 0 nowhere (groups_in s)

abbrev pub reached_in : Bytes → Row → Block
reached_in s x = block_by s (ltb 0 (place_in s x).groups) (place_in s x).here

abbrev pub preceded_in : Bytes → Row → Block
preceded_in s x = block_by s (ltb 1 (place_in s x).groups) (place_in s x).before

-- the group after one
abbrev pub next_in : Bytes → ℕ → Block
next_in s p = block_by s (ltb p (length s)) p

-- without slot i of b, which the group f precedes
abbrev pub taken_in : Bytes → Block → Block → ℕ → Change
taken_in s f b i = taken_by f b (next_in s (end_of b)) i (goes_on s f (next_in s (end_of b)))

-- the form lacks the name, and the insertion makes the form of the page with the slot
pub record Inserts (s slot : Bytes) (i : Insertion) : Type 0 where
  pub absent : has (name_of slot) (map name_in (slots_of_form s)) ≡ false
  pub fits : Fits s i.change
  pub stands : Given slot i.head
  pub bytes : changed s (given slot i.head) i.change ≡ form_bytes (grouped (placed (slot_of slot) (slots_of_form s)))
