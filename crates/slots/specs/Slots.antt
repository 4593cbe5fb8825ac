-- Slots: document 01, "Pages, logs, epochs". "A slot is 104 bytes: depth 1..8, three zero bytes, line number (u32, any
-- value, repeats allowed), then eight tuples of 12 bytes, the first depth of them a name, the rest all zero." 02, P8: "A slot becomes
-- 200 bytes, 16 tuples after the same first eight bytes". The layout is said of slots with room for any number of tuples; a slot is
-- one with room for `limit`, and 01's own, of eight, is an old one (`old_pages`).
use Rattle.std.specs.Prelude.{ℕ, ◌+◌, ◌-◌, ◌*◌, Bool, ◌&&◌, [], ◌∷◌, ◌++◌, length, take, drop, replicate, ◌==◌, nat_le, slice_index}
use Rattle.names.specs.Ordering.{Row}
use Rattle.names.specs.Names.{limit, fits_over, within, is_name}
use Rattle.numbers.specs.Bytes.{Bytes, at32, all_zero, bytes32}
use Rattle.slots.specs.Tuples.{tuples_at, tuple_size, row_bytes}

-- what a slot says
pub record Slot : Type 0 where
  pub line : ℕ
  pub name : Row

-- depth, three zero bytes and line number stand before the tuples
abbrev pub head_size : ℕ
head_size = 8

abbrev pub depth_of : Bytes → ℕ
depth_of s = slice_index s 0

abbrev pub line_of : Bytes → ℕ
line_of s = at32 s 4

-- ── a slot with room for so many tuples ──

module _ (room : ℕ) where
  abbrev pub size_over : ℕ
  size_over = head_size + tuple_size * room

  -- "tuples of 12 bytes, the first depth of them a name"
  abbrev pub name_over : Bytes → Row
  name_over s = take (depth_of s) (tuples_at s head_size room)

  -- the decoder
  abbrev pub slot_over : Bytes → Slot
  slot_over s = record { line = line_of s; name = name_over s }

  -- the bytes keep a slot's layout
  unfoldable pub keeps_over : Bytes → Bool
  keeps_over s =
      (length s == size_over) && within 1 room (depth_of s) && all_zero (take 3 (drop 1 s)) && is_name (name_over s)
      && all_zero (drop (head_size + tuple_size * depth_of s) s)

  -- the encoder: the bytes of what a slot says
  unfoldable pub bytes_over : Slot → Bytes
  bytes_over x =
      (length x.name ∷ 0 ∷ 0 ∷ 0 ∷ []) ++ bytes32 x.line ++ row_bytes x.name
      ++ replicate (tuple_size * (room - length x.name)) 0

  -- a slot's line number is a u32 and its name a name of at most that many tuples
  abbrev pub is_slot_over : Slot → Bool
  is_slot_over x = nat_le x.line 4294967295 && is_name x.name && fits_over room x.name

-- ── a slot ──

-- "A slot becomes 200 bytes"
abbrev pub slot_size : ℕ
slot_size = size_over limit

-- the decoder
abbrev pub name_of : Bytes → Row
name_of s = name_over limit s

abbrev pub slot_of : Bytes → Slot
slot_of s = slot_over limit s

-- the layout
abbrev pub keeps_slot : Bytes → Bool
keeps_slot = keeps_over limit

-- the encoder
abbrev pub slot_bytes : Slot → Bytes
slot_bytes = bytes_over limit

abbrev pub is_slot : Slot → Bool
is_slot = is_slot_over limit
