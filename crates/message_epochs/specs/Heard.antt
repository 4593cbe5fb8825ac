-- What a unit needs to add the epoch of a rename that it hears of: 02, P1. An entry carries "the number of names in its rename's log", and
-- that is the count that reading the rename's message gives, on every unit the same. So reading the message is all that is needed, and
-- units that list the same epochs still do when each has added it, and choose the same target.
use Rattle.std.specs.Prelude.{ℕ, ◌+◌, ◌<◌, ◌≤◌, ◌≡◌, true, false, length}
use Rattle.names.specs.declared.Author.{Author}
use Rattle.numbers.specs.Bytes.{Bytes, Octets}
use Rattle.std.specs.declared.result.Result.TheVariants.{Ok}
use Rattle.pages.specs.Pages.{names_of, is_log}
use Rattle.messages.specs.Messages.{rename}
use Rattle.messages.specs.Calls.{read_outcome, numbers_read}
use Rattle.epoch_tree.specs.Tables.{entry_size, max_entries, entry_at, entries_of, is_count, listed, keeps_table}
use Rattle.epoch_tree.specs.Tree.{target}
use Rattle.epoch_tree.specs.Laws.{SameEpochs, SameEpoch}
use Rattle.epochs.specs.Calls.{entry_by, add_outcome}

-- ── one unit ──

-- the unit read the message s, into an output of so many bytes: it is a rename, and n names were counted
pub record Reads (s : Bytes) (room n : ℕ) : Type 0 where
  pub accepted : (read_outcome s room).answer ≡ Ok n
  pub kind : (numbers_read s room).kind ≡ rename

-- who renamed, and of which epoch's names
abbrev pub author_read : Bytes → ℕ → Author
author_read s room = (numbers_read s room).author

abbrev pub epoch_read : Bytes → ℕ → Author
epoch_read s room = (numbers_read s room).epoch

-- what it has then
pub record Counted (s : Bytes) (room n : ℕ) : Type 0 where
  -- "its rename's log": what reading wrote
  pub log : is_log (read_outcome s room).bytes ≡ true
  -- "the number of names in" it
  pub names : length (names_of (read_outcome s room).bytes) ≡ n
  -- "1..256": adding does not refuse the count with 13
  pub is_count_lem : is_count n ≡ true
  -- nor the author with 4
  pub has_node : 1 ≤ (author_read s room).node

-- so adding asks only for the parent (14), that the epoch is not listed yet (17), and room (18, 8)
abbrev pub Suffices : Bytes → ℕ → ℕ → Type 0
Suffices s room n =
    (table : Bytes) (parent out : ℕ) → Octets table → keeps_table table ≡ true → parent < length (entries_of table) →
    listed (entry_by (author_read s room) parent n) (entries_of table) ≡ false → length (entries_of table) < max_entries →
    length table + entry_size ≤ out → (add_outcome table parent (author_read s room) n out).answer ≡ Ok (length (entries_of table) + 1)

-- ── two units ──

-- both have the same of it, whatever the room of each
pub record Alike (s : Bytes) (room n room' n' : ℕ) : Type 0 where
  pub count : n ≡ n'
  pub author : author_read s room ≡ author_read s room'
  pub epoch : epoch_read s room ≡ epoch_read s room'
  pub log : (read_outcome s room).bytes ≡ (read_outcome s room').bytes

-- A unit hears of the rename: it reads the message, takes the entry of the message's epoch in its own table as the parent, and adds the
-- author's epoch with the count that it read.
pub record Hears (s table second : Bytes) : Type 0 where
  -- it reads n names into an output of so many bytes
  pub room : ℕ
  pub n : ℕ
  pub reads : Reads s room n
  -- the parent's entry has the (node, sequence) of the message's epoch
  pub parent : ℕ
  pub node : (entry_at (entries_of table) parent).node ≡ (epoch_read s room).node
  pub sequence : (entry_at (entries_of table) parent).sequence ≡ (epoch_read s room).sequence
  -- and adding, into an output of so many bytes, gives a second table, of m entries
  pub out : ℕ
  pub m : ℕ
  pub accepted : (add_outcome table parent (author_read s room) n out).answer ≡ Ok m
  pub second_is : (add_outcome table parent (author_read s room) n out).bytes ≡ second

-- what two units' tables have in common: the same epochs, in whatever order they came, and the same target by count, node and sequence
pub record Agree (table table' : Bytes) : Type 0 where
  pub epochs : SameEpochs (entries_of table) (entries_of table')
  pub targets : SameEpoch (entries_of table) (target (entries_of table)) (entries_of table') (target (entries_of table'))

pub record Laws : Type 0 where
  pub counted : (s : Bytes) (room n : ℕ) → Reads s room n → Counted s room n
  pub suffices : (s : Bytes) (room n : ℕ) → Reads s room n → Suffices s room n
  -- a rename message read by two units gives both the same count
  pub alike : (s : Bytes) (room n room' n' : ℕ) → Reads s room n → Reads s room' n' → Alike s room n room' n'
  -- and units that agree still do when both have heard of it
  pub agree :
      (s table second table' second' : Bytes) → Hears s table second → Hears s table' second' →
      SameEpochs (entries_of table) (entries_of table') → Agree second second'
