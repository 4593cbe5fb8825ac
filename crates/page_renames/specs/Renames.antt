-- Renaming a page and taking a rename back: document 01, "Renaming one name", "Taking it back" and "What comes back". What becomes of
-- one name is `rename` and `take_back` of crates/name_renames.
use Rattle.std.specs.Prelude.{ℕ, List, [], ◌∷◌, ◌++◌, map, Bool, ◌&&◌, leb}
use Rattle.names.specs.declared.Author.{Author}
use Rattle.names.specs.Ordering.{Row, rising}
use Rattle.names.specs.Names.{fits}
use Rattle.name_renames.specs.Renaming.{rename, fresh, take_back}
use Rattle.numbers.specs.Bytes.{Bytes}
use Rattle.std.specs.List.{list_all}
use Rattle.slots.specs.Slots.{Slot}
use Rattle.answers.specs.Answers.{Outcome, Test, ◌else◌, outcome}
use Rattle.pages.specs.Pages.{slots_of, names_of, pieces, keeps_layout, rises, is_log}
use Rattle.answers.specs.declared.Refusal.TheVariants.{BadLayout, NotRising, BadLog, NoAuthor, NotFresh, TooDeep, NotRisingBack}

-- "Line numbers travel with their names": f is what becomes of one name, `rename author log` or `take_back author log`.
abbrev pub carry : (Row → Row) → Slot → Slot
carry f x = record { line = x.line; name = f x.name }

-- ".. the same number of slots in the same order"
abbrev pub carried : (Row → Row) → List Slot → List Slot
carried f l = map (carry f) l

-- "Fresh means: no name in page or log has (A, s) as node and sequence of its first tuple."
abbrev pub are_fresh : Author → Bytes → Bytes → Bool
are_fresh author page log = list_all (fresh author) (names_of page) && list_all (fresh author) (names_of log)

-- no "result needs more than eight tuples" (02, P8: sixteen)
abbrev pub all_fit : (Row → Row) → Bytes → Bool
all_fit f page = list_all fits (map f (names_of page))

-- ── "Order" ──

-- "rename 1, 2, 3, 4, ..; taking back 1, 2, 3, 4, ..": how both begin
abbrev pub opening_tests : Bytes → Bytes → Author → List Test
opening_tests page log author =
    keeps_layout page else BadLayout
    ∷ rises page else NotRising
    ∷ is_log log else BadLog
    ∷ leb 1 author.node else NoAuthor
    ∷ []

-- "rename .. 5, 6, .."
abbrev pub rename_tests : Bytes → Bytes → Author → List Test
rename_tests page log author =
    are_fresh author page log else NotFresh
    ∷ all_fit (rename author (names_of log)) page else TooDeep
    ∷ []

-- "taking back .. 6, 7, ..": "Taking back asks for no freshness", and 6 is asked of every name before 7 of any pair.
abbrev pub take_back_tests : Bytes → Bytes → Author → List Test
take_back_tests page log author =
    all_fit (take_back author (names_of log)) page else TooDeep
    ∷ rising (map (take_back author (names_of log)) (names_of page)) else NotRisingBack
    ∷ []

-- "rename 1, 2, 3, 4, 5, 6, 8"; room is the length of the output
unfoldable pub rename_outcome : Bytes → Bytes → Author → ℕ → Outcome
rename_outcome page log author room =
    let renamed = carried (rename author (names_of log)) (slots_of page) in
    outcome (opening_tests page log author ++ rename_tests page log author) (pieces renamed) room

-- "taking back 1, 2, 3, 4, 6, 7, 8"
unfoldable pub take_back_outcome : Bytes → Bytes → Author → ℕ → Outcome
take_back_outcome page log author room =
    let old = carried (take_back author (names_of log)) (slots_of page) in
    outcome (opening_tests page log author ++ take_back_tests page log author) (pieces old) room
