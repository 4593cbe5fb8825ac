-- What holds of every epoch table: document 01, "Pages, logs, epochs" and "Epoch tree", with 02's P1. Each record is some sentences of
-- these, or what is built on them. An epoch is the index of its entry, so it is one of the table's where it is below the number of entries.
use Rattle.std.specs.Prelude.{ℕ, ◌-◌, ◌<◌, ◌≤◌, ◌≡◌, ◌⊎◌, true, false, length}
use mathlib.Core.List.{List, [], ◌∷◌, ◌++◌, flatten}
use Rattle.std.specs.declared.cmp.Ordering.TheVariants.{Equal}
use Rattle.numbers.specs.Bytes.{Bytes, Octets}
use Rattle.epoch_tree.specs.declared.Step.{Step}
use Rattle.epoch_tree.specs.declared.Step.TheVariants.{Stay, Up, Down}
use Rattle.epoch_tree.specs.Tables.{Entry, max_entries, zero_entry, entry_at, entries_of, entry_pieces, is_count, listed, is_table, keeps_table, added}
use Rattle.epoch_tree.specs.Tree.{parent_of, path, compare_keys, compare_paths, Smaller, target, next_step, walk, edges}

-- ── the entries ──

pub record Entries (t : List Entry) : Type 0 where
  -- "An epoch table is 1..32 entries"
  pub some : 1 ≤ length t
  pub few : length t ≤ 32
  -- "Entry 0 is all zero."
  pub first : entry_at t 0 ≡ zero_entry
  -- "Every other entry has node at least 1, a parent index below its own index, .."
  pub node : (i : ℕ) → 1 ≤ i → i < length t → 1 ≤ (entry_at t i).node
  pub parent : (i : ℕ) → 1 ≤ i → i < length t → parent_of t i < i
  -- ".. and a (node, sequence) that no other entry has."
  pub pair :
      (i j : ℕ) → i < length t → j < length t →
      (entry_at t i).node ≡ (entry_at t j).node → (entry_at t i).sequence ≡ (entry_at t j).sequence → i ≡ j
  -- 02, P1: "the number of names in its rename's log (u16, 1..256)"
  pub count : (i : ℕ) → 1 ≤ i → i < length t → (1 ≤ (entry_at t i).count) × ((entry_at t i).count ≤ 256)

-- ── the paths and their order ──

-- "An epoch's path runs from entry 0 to it and is traced back through parents": its parent's path, and then its own entry
pub record Traced (t : List Entry) : Type 0 where
  pub from_first : path t 0 ≡ entry_at t 0 ∷ []
  pub to_it : (i : ℕ) → 1 ≤ i → i < length t → path t i ≡ path t (parent_of t i) ++ (entry_at t i ∷ [])

-- "Paths compare entry by entry": the epochs of a table are in a strict total order
pub record Ordered (t : List Entry) : Type 0 where
  pub not_itself : (i : ℕ) → ¬ (Smaller t i i)
  pub onwards : (i j k : ℕ) → Smaller t i j → Smaller t j k → Smaller t i k
  pub of_two : (i j : ℕ) → i < length t → j < length t → ¬ (i ≡ j) → Smaller t i j ⊎ Smaller t j i

-- "The target is the greatest."
pub record Greatest (t : List Entry) : Type 0 where
  pub in_table : target t < length t
  pub above : (i : ℕ) → i < length t → ¬ (i ≡ target t) → Smaller t i (target t)
  pub none_above : (i : ℕ) → i < length t → ¬ (Smaller t (target t) i)

-- ── the walk ──

-- epoch c is the child of epoch p: between the two there is one edge of the tree
pub record Child (t : List Entry) (p c : ℕ) : Type 0 where
  pub below_first : 1 ≤ c
  pub in_table : c < length t
  pub under : parent_of t c ≡ p

-- "the next step from a current index: stay, up to the parent, or down to a child, given by index": it stays at the target only, and
-- else goes along one edge
abbrev pub OneEdge : List Entry → ℕ → Step → Type 0
OneEdge t c Stay = c ≡ target t
OneEdge t c (Up i) = Child t i c
OneEdge t c (Down i) = Child t c i

-- "Following it reaches the target and then stays, after exactly the number of edges between the two, at most 31."
pub record Follows (t : List Entry) (c : ℕ) : Type 0 where
  -- each step leaves one edge less, and does not leave the table
  pub nearer : (k : ℕ) → edges t (walk t k c) (target t) ≡ edges t c (target t) - k
  pub in_table : (k : ℕ) → walk t k c < length t
  -- so it is there after that many steps, not before, and then stays
  pub reaches : walk t (edges t c (target t)) c ≡ target t
  pub not_before : (k : ℕ) → k < edges t c (target t) → ¬ (walk t k c ≡ target t)
  pub stays : (k : ℕ) → edges t c (target t) ≤ k → next_step t (walk t k c) ≡ Stay
  pub few : edges t c (target t) ≤ 31

-- ── adding ──

-- an entry that may be added: its parent is in the table (else 14), its node is at least 1 (else 4), its count is one of 1..256 (else
-- 13), no entry has its (node, sequence) (else 17), and the table has fewer than 32 entries (else 18)
pub record Addable (t : List Entry) (e : Entry) : Type 0 where
  pub in_table : e.parent < length t
  pub has_node : 1 ≤ e.node
  pub has_count : is_count e.count ≡ true
  pub unlisted : listed e t ≡ false
  pub has_room : length t < max_entries

-- "Adding an epoch appends one entry in a second table."
pub record Adding (t : List Entry) (e : Entry) : Type 0 where
  -- which is a table
  pub is_table_lem : is_table (added t e) ≡ true
  -- the new epoch's path is its parent's and one entry more; every other path is as before
  pub new_path : path (added t e) (length t) ≡ path t e.parent ++ (e ∷ [])
  pub old_path : (i : ℕ) → i < length t → path (added t e) i ≡ path t i
  -- the target does not get smaller: it is as before, or the new epoch, which is then greater
  pub new_target : (target (added t e) ≡ target t) ⊎ ((target (added t e) ≡ length t) × Smaller (added t e) (target t) (length t))

-- ── bytes ──

-- a table's entries, written and read again
pub record Written (t : List Entry) : Type 0 where
  pub keeps : keeps_table (flatten (entry_pieces t)) ≡ true
  pub entries_back : entries_of (flatten (entry_pieces t)) ≡ t

-- ── one table ──

pub record OfTable (t : List Entry) : Type 0 where
  pub entries : Entries t
  pub traced : Traced t
  pub ordered : Ordered t
  pub greatest : Greatest t
  pub steps : (c : ℕ) → c < length t → OneEdge t c (next_step t c)
  pub follows : (c : ℕ) → c < length t → Follows t c
  pub adding : (e : Entry) → Addable t e → Adding t e
  pub written : Written t

-- ── two tables ──

-- each path of t is one of u, entry by entry of one count, node and sequence: the two may list their epochs in different orders
abbrev pub Covered : List Entry → List Entry → Type 0
Covered t u = (i : ℕ) → i < length t → (j : ℕ) × (j < length u) × (compare_paths (path t i) (path u j) ≡ Equal)

-- t and u list the same epochs
abbrev pub SameEpochs : List Entry → List Entry → Type 0
SameEpochs t u = Covered t u × Covered u t

-- epoch i of t and epoch j of u are one, by their paths and so by count, node and sequence
pub record SameEpoch (t : List Entry) (i : ℕ) (u : List Entry) (j : ℕ) : Type 0 where
  pub paths : compare_paths (path t i) (path u j) ≡ Equal
  pub node : (entry_at t i).node ≡ (entry_at u j).node
  pub sequence : (entry_at t i).sequence ≡ (entry_at u j).sequence
  pub count : (entry_at t i).count ≡ (entry_at u j).count

-- ── all of them ──

pub record Laws : Type 0 where
  pub of_table : (t : List Entry) → is_table t ≡ true → OfTable t
  -- a table's bytes, read and written again
  pub bytes_back : (s : Bytes) → Octets s → keeps_table s ≡ true → flatten (entry_pieces (entries_of s)) ≡ s
  -- paths that agree still do when each goes on to an entry of one key
  pub agree_on :
      (p q : List Entry) (e f : Entry) →
      compare_paths p q ≡ Equal → compare_keys e f ≡ Equal → compare_paths (p ++ (e ∷ [])) (q ++ (f ∷ [])) ≡ Equal
  -- units that list the same epochs, in whatever order they came, have the same target
  pub same_target :
      (t u : List Entry) → is_table t ≡ true → is_table u ≡ true →
      Covered t u → Covered u t → SameEpoch t (target t) u (target u)
  -- in such tables a (node, sequence) stands for one epoch
  pub same_pair_lem :
      (t u : List Entry) → is_table t ≡ true → is_table u ≡ true → SameEpochs t u → (i j : ℕ) → i < length t → j < length u →
      (entry_at t i).node ≡ (entry_at u j).node → (entry_at t i).sequence ≡ (entry_at u j).sequence → SameEpoch t i u j
  -- and they still list the same epochs when each gets one of the same key, under what is one epoch in both
  pub same_added :
      (t u : List Entry) → is_table t ≡ true → is_table u ≡ true → SameEpochs t u → (e f : Entry) → Addable t e → Addable u f →
      compare_keys e f ≡ Equal → SameEpoch t e.parent u f.parent → SameEpochs (added t e) (added u f)
