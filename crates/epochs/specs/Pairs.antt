-- The numbers of an entry side by side as one number, as the code reads and compares them, and what the check of a table keeps of the entries
-- before one.
use Rattle.std.specs.Prelude.{ℕ, ◌+◌, ◌*◌, ◌%◌, ◌<◌, ◌≤◌, List, get_or}
use Rattle.epoch_tree.specs.Tables.{Entry, entry_at}

-- node and sequence, of which the sequence has 32 bits
abbrev pub pair_number : Entry → ℕ
pair_number e = e.node * 4294967296 + e.sequence

-- parent index and count, of which the count has 16 bits
abbrev pub rest_number : Entry → ℕ
rest_number e = e.parent * 65536 + e.count

-- count, node and sequence, the key of the comparison; node and sequence have 48 bits
abbrev pub key_number : Entry → ℕ
key_number e = e.count * 281474976710656 + pair_number e

-- nodes are in eight groups
abbrev pub groups : ℕ
groups = 8

abbrev pub group_of : ℕ → ℕ
group_of node = node % groups

-- of the first n entries no sequence is above the number that is kept of its node's group
abbrev pub Under : List Entry → ℕ → List ℕ → Type 0
Under t n tops = (k : ℕ) → k < n → (entry_at t k).sequence ≤ get_or tops (group_of (entry_at t k).node) 0
