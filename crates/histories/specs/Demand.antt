-- Demand 3: "Take a book and log, valid and fresh, with no end marker, and let document 01's rename be accepted. Add and remove
-- lines, again with no end marker, as often as you like. Taking the rename back then gives each surviving old line its old name,
-- byte for byte, each surviving added line its place between the same neighbours, and strictly rising names. It is refused only
-- where a name needs more than eight tuples or the output is too short. Where end markers are present, it is also refused when two
-- neighbouring names would come out equal or reversed." 02, P8: "Demand 3 says sixteen where it said eight".
-- The demand as a statement, clause by clause, over 01's own rename, insert, remove and taking back (`Demand3`); and what its 7 is, of
-- any page (`Seven`). They hold: proofs/Demand.antt, proofs/Seven.antt. specs/AfterLast.antt has an example. A line is a slot, as bytes.
use Rattle.std.specs.Prelude.{ℕ, suc, ◌*◌, ◌<◌, ◌≤◌, ◌≡◌, true, cond, length, get_or}
use mathlib.Core.List.{List, [], ◌∷◌, ◌++◌, map, Memᴰ as In}
use Rattle.names.specs.declared.Tuple.{Tuple}
use Rattle.names.specs.declared.Author.{Author}
use Rattle.names.specs.Ordering.{Row, compare_rows, ◌≤ⁿ◌}
use Rattle.std.specs.Ordering.{is_eq}
use Rattle.names.specs.Names.{limit, marker}
use Rattle.name_renames.specs.Renaming.{rename, take_back}
use Rattle.numbers.specs.Bytes.{Bytes, Octets}
use Rattle.slots.specs.Slots.{Slot, slot_size, line_of, name_of, slot_bytes}
use Rattle.answers.specs.Answers.{Outcome, refuse}
use Rattle.pages.specs.Pages.{parts_of, slots_of, names_of, keeps_layout, rises, is_log}
use Rattle.std.specs.declared.result.Result.TheVariants.{Ok, Err}
use Rattle.answers.specs.declared.Refusal.TheVariants.{TooDeep, NotRisingBack, Short}
use Rattle.edits.specs.Edits.{insert_outcome, remove_outcome}
use Rattle.page_renames.specs.Renames.{all_fit, rename_outcome, take_back_outcome}

-- ── "Add and remove lines .. as often as you like" ──

-- what 01's rename makes of the name of a slot ..
abbrev pub renamed_as : Bytes → Author → Bytes → Row
renamed_as log author slot = rename author (names_of log) (name_of slot)

-- .. and what 01's taking back makes of it
abbrev pub taken_back_as : Bytes → Author → Bytes → Row
taken_back_as log author slot = take_back author (names_of log) (name_of slot)

-- the lines that are left when that of name a goes; nameNow is the name that each has now
abbrev pub others : (Bytes → Row) → Row → List Bytes → List Bytes
others nameNow a [] = []
others nameNow a (slot ∷ l) = cond (is_eq (compare_rows (nameNow slot) a)) (others nameNow a l) (slot ∷ others nameNow a l)

-- A book that was renamed, after any number of accepted inserts and removes in any order: its page; the surviving old lines, each as it
-- stood in the page before the rename; and the surviving added lines, each as it was inserted.
module _ (page log : Bytes) (author : Author) where
  pub data Edited : Bytes → List Bytes → List Bytes → Type 0 where
    -- "let document 01's rename be accepted": page and log are valid and fresh then, and every line of the page is an old line
    renamed :
        (room n : ℕ) → (rename_outcome page log author room).answer ≡ Ok n →
        Edited (rename_outcome page log author room).bytes (parts_of page) []
    -- a slot is inserted: it is an added line, even where a line of that name was removed before
    inserted :
        {edited : Bytes} {old added : List Bytes} → Edited edited old added →
        (slot : Bytes) (room n : ℕ) → Octets slot → (insert_outcome edited slot room).answer ≡ Ok n →
        Edited (insert_outcome edited slot room).bytes old (slot ∷ added)
    -- the line of that name is removed; an old line has its new name now, and an added line its own
    removed :
        {edited : Bytes} {old added : List Bytes} → Edited edited old added →
        (slot : Bytes) (room n : ℕ) → Octets slot → (remove_outcome edited slot room).answer ≡ Ok n →
        Edited (remove_outcome edited slot room).bytes (others (renamed_as log author) (name_of slot) old) (others name_of (name_of slot) added)

-- ── "Taking the rename back then gives .." ──

-- the slot with another name: "Line numbers travel with their names" (01)
abbrev pub with_name : Row → Bytes → Bytes
with_name a slot = slot_bytes (record { line = line_of slot; name = a })

-- at place k of the page, counted from 0, stands this slot, every byte of it
abbrev pub Stands : Bytes → ℕ → Bytes → Type 0
Stands page k slot = (k < length (parts_of page)) × (get_or (parts_of page) k [] ≡ slot)

-- an end marker stands in the name of one of these slots
abbrev pub Marked : List Bytes → Type 0
Marked slots = (slot : Bytes) × In slot slots × (t : Tuple) × In t (name_of slot) × (marker t ≡ true)

-- the names of the page as they would come out, each taken back
abbrev pub names_back : Bytes → Author → Bytes → List Row
names_back log author page = map (take_back author (names_of log)) (names_of page)

-- two neighbours of a list of names are equal or reversed
abbrev pub Meet : List Row → Type 0
Meet l = (k : ℕ) × (suc k < length l) × (get_or l (suc k) [] ≤ⁿ get_or l k [])

abbrev pub line_in : Slot → ℕ
line_in x = x.line

-- the edited page, with the old lines and the added lines that survive in it
module _ (log : Bytes) (author : Author) (edited : Bytes) (old added : List Bytes) where
  -- the page that taking back writes
  module _ (back : Bytes) where
    -- An old line stands at place k of both pages: in the edited page under its new name, and in `back` as the slot that it was before
    -- the rename, every byte of it.
    abbrev pub OldAt : ℕ → Bytes → Type 0
    OldAt k slot = Stands edited k (with_name (renamed_as log author slot) slot) × Stands back k slot

    -- An added line stands at place k of both pages: in the edited page as it was inserted, and in `back` with its line number and the
    -- name that 01 makes of its name.
    abbrev pub AddedAt : ℕ → Bytes → Type 0
    AddedAt k slot = Stands edited k slot × Stands back k (with_name (taken_back_as log author slot) slot)

    -- the same line, old or added, stands at place k of both pages
    pub data SameAt (k : ℕ) : Type 0 where
      old_line : (slot : Bytes) → In slot old → OldAt k slot → SameAt k
      added_line : (slot : Bytes) → In slot added → AddedAt k slot → SameAt k

    -- the neighbour before place k is the same in both pages; or there is none in both, since k is the first place
    pub data SameBefore : ℕ → Type 0 where
      before : {k : ℕ} → SameAt k → SameBefore (suc k)
      none_before : SameBefore 0

    -- the neighbour after place k is the same in both pages; or there is none in both, since k is the last place of each
    pub data SameAfter (k : ℕ) : Type 0 where
      after : SameAt (suc k) → SameAfter k
      none_after : suc k ≡ length (parts_of edited) → suc k ≡ length (parts_of back) → SameAfter k

    pub record Restored : Type 0 where
      -- "each surviving old line its old name, byte for byte"
      pub old_lines : (slot : Bytes) → In slot old → (k : ℕ) × OldAt k slot
      -- "each surviving added line its place between the same neighbours"
      pub added_lines : (slot : Bytes) → In slot added → (k : ℕ) × AddedAt k slot × SameBefore k × SameAfter k
      -- "and strictly rising names", in a page
      pub rising : rises back ≡ true
      pub layout : keeps_layout back ≡ true
      -- and these are all lines: at each place of the edited page stands a surviving old line or a surviving added one
      pub all_lines : (k : ℕ) → k < length (parts_of edited) → SameAt k
      -- Of the whole page: as many lines, the same line numbers in the same order, and of each name what 01 makes of it.
      pub count : length (slots_of back) ≡ length (slots_of edited)
      pub lines : map line_in (slots_of back) ≡ map line_in (slots_of edited)
      pub names : names_of back ≡ names_back log author edited

  -- what taking back answers where the output has so much room: 0, 6, 8 or, where end markers are present, 7
  pub data TakenBack (room : ℕ) (x : Outcome) : Type 0 where
    -- 0, with the count of the edited page's slots
    restored : x.answer ≡ Ok (length (slots_of edited)) → Restored x.bytes → TakenBack room x
    -- "It is refused only where a name needs more than eight tuples" (P8: sixteen): that of a surviving added line, since an old one's fits again
    too_deep : x ≡ refuse TooDeep → (slot : Bytes) → In slot added → limit < length (taken_back_as log author slot) → TakenBack room x
    -- "or the output is too short"
    short : x ≡ refuse Short → room < slot_size * length (slots_of edited) → TakenBack room x
    -- "Where end markers are present, it is also refused when two neighbouring names would come out equal or reversed": one is in the
    -- log, in a surviving old line or in a surviving added one. So a book and log with no end marker, and added lines with none, never
    -- have this answer. (That it is given whenever names meet: `Seven`.)
    meeting : x ≡ refuse NotRisingBack → Marked (parts_of log ++ old ++ added) → Meet (names_back log author edited) → TakenBack room x

-- The demand. The bytes that are given are bytes (`Octets`), and the author's numbers are u16 and u32.
abbrev pub Demand3 : Type 0
Demand3 =
    (page log : Bytes) (author : Author) (edited : Bytes) (old added : List Bytes) (room : ℕ) →
    Octets page → author.node ≤ 65535 → author.sequence ≤ 4294967295 →
    Edited page log author edited old added →
    TakenBack log author edited old added room (take_back_outcome edited log author room)

-- ── what 7 is ──

-- Of any page, log and author that 1, 2, 3 and 4 do not refuse: the answer is 7 exactly when no result is too deep and two
-- neighbouring results are equal or reversed.
pub record Seven : Type 0 where
  pub only :
      (page log : Bytes) (author : Author) (room : ℕ) →
      (take_back_outcome page log author room).answer ≡ Err NotRisingBack →
      (all_fit (take_back author (names_of log)) page ≡ true) × Meet (names_back log author page)
  pub always :
      (page log : Bytes) (author : Author) (room : ℕ) →
      keeps_layout page ≡ true → rises page ≡ true → is_log log ≡ true → 1 ≤ author.node →
      all_fit (take_back author (names_of log)) page ≡ true → Meet (names_back log author page) →
      (take_back_outcome page log author room).answer ≡ Err NotRisingBack
