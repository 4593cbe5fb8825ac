-- Old pages, and their conversion to pages and back: document 02, P8. "Raise the depth limit to sixteen. A slot becomes 200 bytes, 16 tuples
-- after the same first eight bytes [..]. An old page converts to a new one, and a new page back exactly when every depth is at most
-- eight. The names and line numbers are equal both ways. [..] Refusals of a conversion: 1, 2, then 6 for a depth that doesn't fit the
-- old page, then 8."
use Rattle.std.specs.Prelude.{ℕ, List, [], ◌∷◌, Bool}
use Rattle.names.specs.Ordering.{Row}
use Rattle.names.specs.Names.{fits_over}
use Rattle.numbers.specs.Bytes.{Bytes}
use Rattle.std.specs.List.{list_all}
use Rattle.slots.specs.Slots.{size_over, Slot}
use Rattle.pages.specs.Pages.{slots_over, pieces_over, layout_over, rises_over, slots_of, names_of, pieces, keeps_layout, rises}
use Rattle.answers.specs.Answers.{Outcome, Test, ◌else◌, outcome}
use Rattle.answers.specs.declared.Refusal.TheVariants.{BadLayout, NotRising, TooDeep}

-- ── an old page: what a page is, for slots with room for eight tuples ──

-- 01: "A name is a row of at most eight tuples"
abbrev pub old_limit : ℕ
old_limit = 8

-- 01: "A slot is 104 bytes"
abbrev pub old_size : ℕ
old_size = size_over old_limit

-- 01: "A page is 0..256 slots .. 26,624 bytes at most"
abbrev pub keeps_old : Bytes → Bool
keeps_old = layout_over old_limit

-- 01: "with strictly rising names"
abbrev pub old_rises : Bytes → Bool
old_rises s = rises_over old_limit s

-- what the slots of an old page say, and the bytes of slots written as those of an old page
abbrev pub old_slots_of : Bytes → List Slot
old_slots_of s = slots_over old_limit s

abbrev pub old_pieces : List Slot → List Bytes
old_pieces l = pieces_over old_limit l

-- "every depth is at most eight"
abbrev pub fits_old : Row → Bool
fits_old a = fits_over old_limit a

-- ── the calls; room is the length of the output ──

-- "1, 2"; there is no 6, since every depth of an old page fits a new one
abbrev pub from_old_tests : Bytes → List Test
from_old_tests old = keeps_old old else BadLayout ∷ old_rises old else NotRising ∷ []

-- "1, 2, then 6 for a depth that doesn't fit the old page"
abbrev pub to_old_tests : Bytes → List Test
to_old_tests page = keeps_layout page else BadLayout ∷ rises page else NotRising ∷ list_all fits_old (names_of page) else TooDeep ∷ []

-- "An old page converts to a new one": the same slots, "then 8"
unfoldable pub from_old_outcome : Bytes → ℕ → Outcome
from_old_outcome old room = outcome (from_old_tests old) (pieces (old_slots_of old)) room

-- ".. and a new page back exactly when every depth is at most eight": the same slots, "then 8"
unfoldable pub to_old_outcome : Bytes → ℕ → Outcome
to_old_outcome page room = outcome (to_old_tests page) (old_pieces (slots_of page)) room
