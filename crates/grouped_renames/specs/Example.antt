-- A book of three lines by its bytes: log L and author (1, 1) are those of 01's cases, and the log is all of the book's names.
--
-- | Line | Before | Renamed |
-- |---|---|---|
-- | 7 | r0 | (9,1,1,0) |
-- | 12 | r1 | (9,1,1,1) |
-- | 13 | r2 | (9,1,1,2) |
--
-- So what specs/Grouped.antt asks of a rename can be met. proofs/Example.antt computes it.
use Rattle.std.specs.Prelude.{ℕ, ◌*◌, ◌≡◌}
use mathlib.Core.List.{[], ◌∷◌, flatten}
use Rattle.names.specs.Ordering.{Row}
use Rattle.name_renames.specs.Starred.{r0, r1, r2, author}
use Rattle.numbers.specs.Bytes.{Bytes}
use Rattle.slots.specs.Slots.{Slot, slot_size}
use Rattle.std.specs.declared.result.Result.TheVariants.{Ok}
use Rattle.pages.specs.Pages.{pieces}
use Rattle.groups.specs.Calls.{group_outcome}
use Rattle.grouped_renames.specs.Grouped.{RenamesAll, renamed, packet}

abbrev pub line : ℕ → Row → Slot
line n a = record { line = n; name = a }

abbrev pub page : Bytes
page = flatten (pieces (line 7 r0 ∷ line 12 r1 ∷ line 13 r2 ∷ []))

abbrev pub log : Bytes
log = flatten (pieces (line 0 r0 ∷ line 0 r1 ∷ line 0 r2 ∷ []))

-- (9,1,1,0), a length of 3, and the three line numbers
abbrev pub form : Bytes
form =
    6 ∷ 0 ∷ 12 ∷ 0 ∷ 9 ∷ 0 ∷ 1 ∷ 0 ∷ 0 ∷ 0 ∷ 1 ∷ 0 ∷ 0 ∷ 0 ∷ 0
    ∷ 7 ∷ 0 ∷ 2 ∷ 0 ∷ 3
    ∷ 8 ∷ 0 ∷ 12 ∷ 0 ∷ 0 ∷ 0 ∷ 7 ∷ 0 ∷ 0 ∷ 0 ∷ 12 ∷ 0 ∷ 0 ∷ 0 ∷ 13
    ∷ []

pub record Example : Type 0 where
  pub renames_all : RenamesAll page log author (slot_size * 3) 3
  pub group_is : group_outcome (renamed page log author (slot_size * 3)) packet ≡ record { answer = Ok 35; bytes = form }
