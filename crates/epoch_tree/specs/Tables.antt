-- Epoch tables: document 01, "Pages, logs, epochs". "An epoch table is 1..32 entries of 8 bytes: node u16, sequence u32, parent
-- index u16. Entry 0 is all zero. Every other entry has node at least 1, a parent index below its own index, and a (node,
-- sequence) that no other entry has." 02, P1: "An epoch entry is to carry the number of names in its rename's log (u16, 1..256)";
-- "Entries become 10 bytes, the count after the parent index; entry 0 stays all zero."
use Rattle.std.specs.Prelude.{ℕ, suc, ◌+◌, ◌%◌, List, [], ◌∷◌, ◌++◌, map, Bool, true, not, ◌&&◌, length, take, drop, get_or, eqb, leb, ltb}
use Rattle.names.specs.Names.{within}
use Rattle.numbers.specs.Lists.{equal_parts}
use Rattle.std.specs.Simd.{first_chunks}
use Rattle.std.specs.List.{list_any}
use Rattle.numbers.specs.Bytes.{Bytes, at16, at32, bytes16, bytes32}
use Rattle.pages.specs.Pages.{max_slots}

-- "Entries become 10 bytes" (02, P1; before, "entries of 8 bytes")
abbrev pub entry_size : ℕ
entry_size = 10

-- "1..32 entries"
abbrev pub max_entries : ℕ
max_entries = 32

-- what an entry says: "node u16, sequence u32, parent index u16", and then "the number of names in its rename's log (u16 ..)"
pub record Entry : Type 0 where
  pub node : ℕ
  pub sequence : ℕ
  pub parent : ℕ
  pub count : ℕ

-- ── the decoder ──

-- the entry that stands at p
abbrev pub entry_in : Bytes → ℕ → Entry
entry_in s p = record { node = at16 s p; sequence = at32 s (p + 2); parent = at16 s (p + 6); count = at16 s (p + 8) }

-- the first n entries' bytes
abbrev pub entry_parts : ℕ → Bytes → List Bytes
entry_parts n s = first_chunks entry_size n s

abbrev pub entry_parts_of : Bytes → List Bytes
entry_parts_of s = equal_parts entry_size s

abbrev pub entry_of : Bytes → Entry
entry_of s = entry_in s 0

-- the entries that have these bytes, one each
abbrev pub entries_in : List Bytes → List Entry
entries_in l = map entry_of l

abbrev pub entries_of : Bytes → List Entry
entries_of s = entries_in (entry_parts_of s)

-- ── the encoder ──

abbrev pub entry_bytes : Entry → Bytes
entry_bytes e = bytes16 e.node ++ bytes32 e.sequence ++ bytes16 e.parent ++ bytes16 e.count

-- the entries' bytes, one after the other: the pieces of a written table
abbrev pub entry_pieces : List Entry → List Bytes
entry_pieces t = map entry_bytes t

-- ── the layout ──

abbrev pub zero_entry : Entry
zero_entry = record { node = 0; sequence = 0; parent = 0; count = 0 }

-- entry i. Past the end it is all zero; nothing that counts reads there.
abbrev pub entry_at : List Entry → ℕ → Entry
entry_at t i = get_or t i zero_entry

-- "Entry 0 is all zero.", and with the count it "stays all zero"
abbrev pub is_first : Entry → Bool
is_first e = eqb e.node 0 && eqb e.sequence 0 && eqb e.parent 0 && eqb e.count 0

-- "the number of names in its rename's log (u16, 1..256)": a log has at least one name, and at most as many as a page has slots
abbrev pub is_count : ℕ → Bool
is_count n = within 1 max_slots n

abbrev pub same_pair : Entry → Entry → Bool
same_pair e f = eqb e.node f.node && eqb e.sequence f.sequence

-- one of the entries has e's (node, sequence)
abbrev pub listed : Entry → List Entry → Bool
listed e l = list_any (same_pair e) l

-- "Every other entry has node at least 1, a parent index below its own index, and a (node, sequence) that no other entry has"; 02, P1:
-- "a count outside 1..256 in an entry other than entry 0 is 13". e is entry i of the table t, and is held against the entries before it.
abbrev pub keeps_entry : List Entry → ℕ → Entry → Bool
keeps_entry t i e = leb 1 e.node && ltb e.parent i && is_count e.count && not (listed e (take i t))

-- the entries l are those of t from i on
abbrev pub keeps_from : List Entry → ℕ → List Entry → Bool
keeps_from t i [] = true
keeps_from t i (e ∷ l) = keeps_entry t i e && keeps_from t (suc i) l

-- "An epoch table is 1..32 entries"
unfoldable pub is_table : List Entry → Bool
is_table t = within 1 max_entries (length t) && is_first (entry_at t 0) && keeps_from t 1 (drop 1 t)

-- "A length that is no whole number of slots or entries breaks the layout."
unfoldable pub keeps_table : Bytes → Bool
keeps_table s = eqb (length s % entry_size) 0 && is_table (entries_of s)

-- ── adding ──

-- "Adding an epoch appends one entry in a second table." (01, "Epoch tree")
abbrev pub added : List Entry → Entry → List Entry
added t e = t ++ (e ∷ [])
