-- What the calls on epoch tables are good for: document 01, "Epoch tree", with 02's P1. The laws of the tables themselves are epoch_tree's.
use Rattle.std.specs.Prelude.{ℕ, ◌<◌, ◌≡◌, true, length}
use Rattle.names.specs.declared.Author.{Author}
use Rattle.numbers.specs.Bytes.{Bytes}
use Rattle.std.specs.declared.result.Result.TheVariants.{Ok}
use Rattle.epoch_tree.specs.declared.Step.{Step}
use Rattle.epoch_tree.specs.Tables.{entries_of, keeps_table, added}
use Rattle.epoch_tree.specs.Laws.{OfTable, OneEdge, Addable, Adding}
use Rattle.epochs.specs.Calls.{check_table, next_step_outcome, entry_by, add_outcome}

-- "One question gives the next step from a current index": an answer of it is of a table's epoch, and is one edge of its tree, or to
-- stay at the target
pub record Stepped (s : Bytes) (current : ℕ) (step : Step) : Type 0 where
  pub is_table_lem : OfTable (entries_of s)
  pub in_table : current < length (entries_of s)
  pub one_edge : OneEdge (entries_of s) current step

-- "Adding an epoch appends one entry in a second table.": an accepted call wrote a table, whose entries are those of the first and the
-- author's under the parent with the given count, which could be added
pub record Added (s : Bytes) (parent : ℕ) (author : Author) (count n : ℕ) (second : Bytes) : Type 0 where
  pub is_table_lem : OfTable (entries_of s)
  pub addable : Addable (entries_of s) (entry_by author parent count)
  -- what it means for the paths and the target
  pub adding : Adding (entries_of s) (entry_by author parent count)
  pub second_table : keeps_table second ≡ true
  pub one_more : entries_of second ≡ added (entries_of s) (entry_by author parent count)
  -- "with the count of .. entries .. written"
  pub counted : length (entries_of second) ≡ n

pub record Laws : Type 0 where
  -- an accepted table has every law of tables, and as many entries as its count says
  pub checks : (s : Bytes) (n : ℕ) → check_table s ≡ Ok n → OfTable (entries_of s) × (length (entries_of s) ≡ n)
  pub steps : (s : Bytes) (current : ℕ) (step : Step) → next_step_outcome s current ≡ Ok step → Stepped s current step
  pub adds :
      (s : Bytes) (parent : ℕ) (author : Author) (count room n : ℕ) → (add_outcome s parent author count room).answer ≡ Ok n →
      Added s parent author count n (add_outcome s parent author count room).bytes
