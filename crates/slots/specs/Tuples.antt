-- Tuples as bytes: document 01, "Pages, logs, epochs".
use Rattle.std.specs.Prelude.{ℕ, zero, suc, ◌+◌, ◌*◌, ◌≤◌, [], ◌∷◌, ◌++◌, length}
use Rattle.names.specs.declared.Tuple.{Tuple}
use Rattle.names.specs.Ordering.{Row}
use Rattle.names.specs.Names.{limit}
use Rattle.slots.specs.declared.Span.{Span}
use Rattle.numbers.specs.Bytes.{Bytes, at16, at32, signed, unsigned, bytes16, bytes32}

-- ── from bytes ──

-- "A tuple is (position, node, sequence, offset): u16, u16, u32, i32", so it takes 12 bytes.
abbrev pub tuple_size : ℕ
tuple_size = 12

unfoldable pub tuple_at : Bytes → ℕ → Tuple
tuple_at s p = record {
  position = at16 s p;
  node = at16 s (p + 2);
  sequence = at32 s (p + 4);
  offset = signed (at32 s (p + 8));
}

-- n tuples, one after the other from p on
abbrev pub tuples_at : Bytes → ℕ → ℕ → Row
tuples_at s p zero = []
tuples_at s p (suc n) = tuple_at s p ∷ tuples_at s (p + tuple_size) n

-- a name where it stands in some bytes, as the code says it (`Span`, src/lib.rt)
abbrev pub row_at : Bytes → Span → Row
row_at s x = tuples_at s x.at x.count

-- it lies within the bytes ..
abbrev pub Within : Bytes → Span → Type 0
Within s x = x.at + tuple_size * x.count ≤ length s

-- .. and has no more tuples than a name
abbrev pub Lies : Bytes → Span → Type 0
Lies s x = Within s x × (x.count ≤ limit)

-- ── to bytes ──

unfoldable pub tuple_bytes : Tuple → Bytes
tuple_bytes t = bytes16 t.position ++ bytes16 t.node ++ bytes32 t.sequence ++ bytes32 (unsigned t.offset)

abbrev pub row_bytes : Row → Bytes
row_bytes [] = []
row_bytes (t ∷ a) = tuple_bytes t ++ row_bytes a
