-- Pages and logs: document 01, "Pages, logs, epochs".
use Rattle.std.specs.Prelude.{ℕ, ◌/◌, ◌%◌, List, [], ◌∷◌, map, Bool, ◌&&◌, length, eqb, leb}
use Rattle.names.specs.Ordering.{Row, rising}
use Rattle.numbers.specs.Lists.{equal_parts}
use Rattle.std.specs.List.{list_all}
use Rattle.std.specs.Simd.{first_chunks}
use Rattle.numbers.specs.Bytes.{Bytes, is_zero}
use Rattle.names.specs.Names.{limit}
use Rattle.slots.specs.Slots.{size_over, slot_over, keeps_over, bytes_over, Slot, slot_size}
use Rattle.answers.specs.Answers.{◌else◌, check}
use Rattle.answers.specs.Answers.{Answer}
use Rattle.answers.specs.declared.Refusal.TheVariants.{BadLayout, NotRising, BadLog}

-- "A page is 0..256 slots"
abbrev pub max_slots : ℕ
max_slots = 256

abbrev pub name_in : Slot → Row
name_in x = x.name

-- ── slots with room for so many tuples, one after the other ──

module _ (room : ℕ) where
  -- each slot's bytes, what the slots say, and their names
  abbrev pub parts_over : Bytes → List Bytes
  parts_over s = equal_parts (size_over room) s

  abbrev pub slots_over : Bytes → List Slot
  slots_over s = map (slot_over room) (parts_over s)

  abbrev pub names_over : Bytes → List Row
  names_over s = map name_in (slots_over s)

  -- the slots' bytes, one after the other: the pieces of a written page
  abbrev pub pieces_over : List Slot → List Bytes
  pieces_over l = map (bytes_over room) l

  -- "A page is 0..256 slots"; "A length that is no whole number of slots or entries breaks the layout."
  unfoldable pub layout_over : Bytes → Bool
  layout_over s =
      eqb (length s % size_over room) 0 && leb (length s / size_over room) max_slots && list_all (keeps_over room) (parts_over s)

  -- "with strictly rising names"
  abbrev pub rises_over : Bytes → Bool
  rises_over s = rising (names_over s)

-- ── a page as bytes, and as the list of its slots ──

-- the first n slots' bytes, and those of all
abbrev pub parts : ℕ → Bytes → List Bytes
parts n s = first_chunks slot_size n s

abbrev pub parts_of : Bytes → List Bytes
parts_of s = parts_over limit s

abbrev pub slots_of : Bytes → List Slot
slots_of s = slots_over limit s

abbrev pub names_of : Bytes → List Row
names_of s = names_over limit s

abbrev pub pieces : List Slot → List Bytes
pieces l = pieces_over limit l

-- ── the layout ──

abbrev pub keeps_layout : Bytes → Bool
keeps_layout = layout_over limit

abbrev pub rises : Bytes → Bool
rises s = rises_over limit s

abbrev pub line_is_zero : Slot → Bool
line_is_zero x = is_zero x.line

-- "A log is a page of 1..256 slots whose line numbers are 0."
unfoldable pub is_log : Bytes → Bool
is_log s = keeps_layout s && rises s && leb 1 (length (slots_of s)) && list_all line_is_zero (slots_of s)

-- ── the checks ──

-- "1: a page (its order apart) or given slot breaks its layout; 2: page names not strictly rising"; with room for so many tuples in a slot
unfoldable pub check_over : ℕ → Bytes → Answer
check_over room s = check (layout_over room s else BadLayout ∷ rises_over room s else NotRising ∷ []) (length (slots_over room s))

abbrev pub check_page : Bytes → Answer
check_page s = check_over limit s

-- "3: log breaks its layout, is empty, not rising, or has a line number other than 0"
unfoldable pub check_log : Bytes → Answer
check_log s = check (is_log s else BadLog ∷ []) (length (slots_of s))
