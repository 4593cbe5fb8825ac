-- What the number of names in a rename's log decides: 02, P1. "paths compare entry by entry by that number first, then node, then
-- sequence", and "01's epoch case stands with equal counts".
use Rattle.std.specs.Prelude.{ℕ, ◌<◌, ◌≤◌, ◌≡◌, List, [], ◌∷◌, ◌++◌, ◌⊎◌, true, false, length}
use Rattle.std.specs.declared.cmp.Ordering.{Ordering}
use Rattle.std.specs.declared.cmp.Ordering.TheVariants.{Less, Equal, Greater}
use Rattle.std.specs.Ordering.{ordering_then}
use Rattle.numbers.specs.Bytes.{Bytes, at16}
use Rattle.epoch_tree.specs.Tables.{Entry, entry_at, is_table, keeps_table}
use Rattle.epoch_tree.specs.Tree.{parent_of, path, compare_pairs, compare_keys, compare_paths, compare_epochs, Smaller}

-- 01's own comparison, to hold the other against: "Paths compare entry by entry by node then sequence; a proper prefix is smaller"
abbrev pub compare_by_pairs : List Entry → List Entry → Ordering
compare_by_pairs [] [] = Equal
compare_by_pairs [] (f ∷ q) = Less
compare_by_pairs (e ∷ p) [] = Greater
compare_by_pairs (e ∷ p) (f ∷ q) = ordering_then (compare_pairs e f) (compare_by_pairs p q)

-- "with equal counts": every rename's log has n names
abbrev pub EqualCounts : List Entry → ℕ → Type 0
EqualCounts t n = (i : ℕ) → 1 ≤ i → i < length t → (entry_at t i).count ≡ n

pub record Laws : Type 0 where
  -- "by that number first"
  pub fewer : (e f : Entry) → e.count < f.count → compare_keys e f ≡ Less
  -- "then node, then sequence"
  pub as_many : (e f : Entry) → e.count ≡ f.count → compare_keys e f ≡ compare_pairs e f
  -- so of two renames under one parent that of the shorter log is the smaller, whatever its node and sequence
  pub siblings :
      (t : List Entry) → is_table t ≡ true → (i j : ℕ) → 1 ≤ i → i < length t → 1 ≤ j → j < length t → parent_of t i ≡ parent_of t j →
      (entry_at t i).count < (entry_at t j).count → Smaller t i j
  -- and no rename that follows it makes up for that
  pub onwards : (p q r : List Entry) (e f : Entry) → e.count < f.count → compare_paths (p ++ (e ∷ q)) (p ++ (f ∷ r)) ≡ Less
  -- "01's epoch case stands with equal counts": so does the order of any table, as 01 has it
  pub as_before :
      (t : List Entry) (n : ℕ) → is_table t ≡ true → EqualCounts t n → (i j : ℕ) → i < length t → j < length t →
      compare_epochs t i j ≡ compare_by_pairs (path t i) (path t j)
  -- a table of the entries of 8 bytes that 01 has is none any more: one entry is 8 bytes, and of more the node of entry 1, which is at least
  -- 1, stands where entry 0 now has its count
  pub old_entries : (s : Bytes) → (length s ≡ 8) ⊎ (1 ≤ at16 s 8) → keeps_table s ≡ false
