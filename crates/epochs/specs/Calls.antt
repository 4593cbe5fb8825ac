-- What the calls on an epoch table answer and write: document 01, "What comes back", with 02's P1.
use Rattle.std.specs.Prelude.{ℕ, List, [], ◌∷◌, ◌++◌, not, length, leb, ltb}
use Rattle.names.specs.declared.Author.{Author}
use Rattle.numbers.specs.Bytes.{Bytes}
use Rattle.answers.specs.declared.Refusal.{Refusal}
use Rattle.answers.specs.declared.Refusal.TheVariants.{NoAuthor, BadTable, NoEpoch, Listed, TableFull}
use Rattle.answers.specs.Answers.{Answer}
use Rattle.std.specs.declared.result.Result.{Result}
use Rattle.std.specs.declared.result.Result.TheVariants.{Ok, Err}
use Rattle.answers.specs.Answers.{Test, ◌else◌, in_order, check, Outcome, outcome}
use Rattle.epoch_tree.specs.declared.Step.{Step}
use Rattle.epoch_tree.specs.declared.Step.TheVariants.{Stay, Up, Down}
use Rattle.epoch_tree.specs.Tables.{Entry, max_entries, entries_of, entry_pieces, is_count, listed, keeps_table, added}
use Rattle.epoch_tree.specs.Tree.{next_step}

-- "13: epoch table breaks its layout"; else the count of its entries
unfoldable pub check_table : Bytes → Answer
check_table s = check (keeps_table s else BadTable ∷ []) (length (entries_of s))

-- ── the next step ──

-- "stay, up to the parent, or down to a child, given by index": the step's number and its index, 0 where it has none
abbrev pub step_number : Step → ℕ
step_number Stay = 0
step_number (Up i) = 1
step_number (Down i) = 2

abbrev pub step_index : Step → ℕ
step_index Stay = 0
step_index (Up i) = i
step_index (Down i) = i

-- what comes back of a question for the next step
abbrev pub Next : Type 0
Next = Result Step Refusal

-- "Each refusal reports .. no .. index or step": what comes back has zeros for them
abbrev pub number_in : Next → ℕ
number_in (Ok s) = step_number s
number_in (Err r) = 0

abbrev pub index_in : Next → ℕ
index_in (Ok s) = step_index s
index_in (Err r) = 0

-- "accepted; with the count .. (0 for a new name or a step)"
abbrev pub answer_of : Next → Answer
answer_of (Ok s) = Ok 0
answer_of (Err r) = Err r

-- What both calls below ask first: 13, and 14, "current or parent index not in the table".
abbrev pub epoch_tests : Bytes → ℕ → List Test
epoch_tests s i = keeps_table s else BadTable ∷ ltb i (length (entries_of s)) else NoEpoch ∷ []

-- "next step 13, 14"
unfoldable pub next_step_outcome : Bytes → ℕ → Next
next_step_outcome s current = in_order (epoch_tests s current) Err (Ok (next_step (entries_of s) current))

-- ── adding ──

-- the entry of an author's epoch under a parent, with the number of names in the rename's log
abbrev pub entry_by : Author → ℕ → ℕ → Entry
entry_by author parent count = record { node = author.node; sequence = author.sequence; parent = parent; count = count }

-- "4: author node is 0", 02, P1: "13 (the given count)", "17: epoch to add already listed", "18: epoch table has 32 entries"
abbrev pub new_tests : List Entry → Entry → List Test
new_tests t e =
    leb 1 e.node else NoAuthor
    ∷ is_count e.count else BadTable
    ∷ not (listed e t) else Listed
    ∷ ltb (length t) max_entries else TableFull
    ∷ []

-- 02, P1: "adding goes 13 (table), 14, 4, 13 (the given count), 17, 18, 8"
abbrev pub add_tests : Bytes → Entry → List Test
add_tests s e = epoch_tests s e.parent ++ new_tests (entries_of s) e

-- "Adding an epoch appends one entry in a second table."
unfoldable pub add_outcome : Bytes → ℕ → Author → ℕ → ℕ → Outcome
add_outcome s parent author count room =
    let e = entry_by author parent count in
    outcome (add_tests s e) (entry_pieces (added (entries_of s) e)) room
