-- The entries whose bytes are given: entry k is that of bytes k (`at_entry`), there are as many (`length_in`), and a parent's index is its
-- second byte (`parent_byte`). Assumes nothing.
use Rattle.std.proofs.Common.{◌≡◌, true, ℕ, ◌<◌, List, [], length, get_or, ap, arith}
use Rattle.std.proofs.Math.ListN.{length-map, get_or-map}
use Rattle.numbers.specs.Bytes.{Bytes}
use Rattle.epoch_tree.specs.Tables.{Entry, max_entries, entry_at, entry_of, entries_in, is_table}
use Rattle.epoch_tree.specs.Tree.{parent_of}
use Rattle.epoch_tree.proofs.TableFacts.{table, parent_few}

pub at_entry : (l : List Bytes) (k : ℕ) → entry_at (entries_in l) k ≡ entry_of (get_or l k [])
at_entry l k = get_or-map entry_of l k []

pub length_in : (l : List Bytes) → length (entries_in l) ≡ length l
length_in l = length-map l entry_of

pub parent_byte : (l : List Bytes) (k : ℕ) → is_table (entries_in l) ≡ true → k < length l → get_or (get_or l k []) 7 0 ≡ parent_of (entries_in l) k
parent_byte l k h g =
    let t = entries_in l in
    let e = ap (λ (x : Entry). x.parent) (at_entry l k) in
    let few : parent_of t k < max_entries = parent_few t (table t h) k (let n = length_in l in omega arith) in
    omega arith
