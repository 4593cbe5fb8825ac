-- Demand 3 by an example: a line is added after the last logged one. "Reading r(n) for names after the last logged one, our old fault"
-- (01, "Easy to get wrong"): the log ends with r(n−1), the old code read one name past it, and such a line "slid above its gain line"
-- (the demands). Log L and author (1, 1) are those of 01's cases; line 13 is the last logged one, and line 21 is added after it.
--
-- | Line | Before | Renamed, and line 21 added | Taken back |
-- |---|---|---|---|
-- | 7 | r0 | (9,1,1,0) | r0 |
-- | 12 | r1 | (9,1,1,1) | r1 |
-- | 13 | r2 | (9,1,1,2) | r2 |
-- | 21 | | (9,1,1,2)(32768,4,1,0) | (9,2,0,1) m (9,1,1,2)(32768,4,1,0) |
-- | 20 | (10,2,0,0) | (10,2,0,0) | (10,2,0,0) |
--
-- The name of line 21 is 01's new name in that gap for the author (4, 1): "a·(32768, node, sequence, 0)". Everything is bytes, by 01's
-- own rename, insert and taking back (`AfterLast`); proofs/AfterLast.antt computes it.
use Rattle.std.specs.Prelude.{ℕ, ◌*◌, ◌≡◌, pos}
use mathlib.Core.List.{List, [], ◌∷◌, ◌++◌, flatten}
use Rattle.names.specs.Ordering.{Row}
use Rattle.names.specs.Names.{m}
use Rattle.name_renames.specs.Starred.{one, r0, r1, r2, author}
use Rattle.numbers.specs.Bytes.{Bytes}
use Rattle.slots.specs.Slots.{Slot, slot_size, slot_bytes}
use Rattle.answers.specs.Answers.{accept}
use Rattle.pages.specs.Pages.{pieces}
use Rattle.edits.specs.Edits.{insert_outcome}
use Rattle.page_renames.specs.Renames.{rename_outcome, take_back_outcome}
use Rattle.histories.specs.Demand.{Edited}

abbrev pub line : ℕ → Row → Slot
line n a = record { line = n; name = a }

-- ── the table's columns ──

abbrev pub before : List Slot
before = line 7 r0 ∷ line 12 r1 ∷ line 13 r2 ∷ line 20 (one 10 2 0 (pos 0)) ∷ []

abbrev pub renamed : List Slot
renamed = line 7 (one 9 1 1 (pos 0)) ∷ line 12 (one 9 1 1 (pos 1)) ∷ line 13 (one 9 1 1 (pos 2)) ∷ line 20 (one 10 2 0 (pos 0)) ∷ []

abbrev pub added : Row
added = one 9 1 1 (pos 2) ++ one 32768 4 1 (pos 0)

abbrev pub with_added : List Slot
with_added =
    line 7 (one 9 1 1 (pos 0)) ∷ line 12 (one 9 1 1 (pos 1)) ∷ line 13 (one 9 1 1 (pos 2)) ∷ line 21 added ∷ line 20 (one 10 2 0 (pos 0)) ∷ []

abbrev pub taken_back : List Slot
taken_back = line 7 r0 ∷ line 12 r1 ∷ line 13 r2 ∷ line 21 (r2 ++ (m ∷ added)) ∷ line 20 (one 10 2 0 (pos 0)) ∷ []

-- ── as bytes ──

abbrev pub log : Bytes
log = flatten (pieces (line 0 r0 ∷ line 0 r1 ∷ line 0 r2 ∷ []))

abbrev pub page : Bytes
page = flatten (pieces before)

abbrev pub slot : Bytes
slot = slot_bytes (line 21 added)

-- the page after the rename, and after the insert
abbrev pub first : Bytes
first = (rename_outcome page log author (slot_size * 4)).bytes

abbrev pub edited : Bytes
edited = (insert_outcome first slot (slot_size * 5)).bytes

pub record AfterLast : Type 0 where
  pub renames : rename_outcome page log author (slot_size * 4) ≡ accept (pieces renamed)
  pub inserts : insert_outcome first slot (slot_size * 5) ≡ accept (pieces with_added)
  -- it is a book of demand 3: four old lines survive, and one added line
  pub run : Edited page log author edited (pieces before) (slot ∷ [])
  -- taken back, every old line is what it was, and line 21 stands after the last logged one
  pub takes_back : take_back_outcome edited log author (slot_size * 5) ≡ accept (pieces taken_back)
