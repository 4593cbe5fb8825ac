-- Fields: document 01, "Messages". "Fields of one-byte tag, two-byte length, content". Which tags there are and what a content is, is
-- said by who uses them. What is read is read at the beginning of some bytes: a cursor at p looks at `drop p s`.
use Rattle.std.specs.Prelude.{ℕ, ◌+◌, [], ◌∷◌, ◌++◌, Bool, ◌&&◌, length, drop, get_or, eqb, leb}
use Rattle.numbers.specs.Bytes.{Bytes, at16, bytes16}

-- tag and length stand before the content
abbrev pub field_head : ℕ
field_head = 3

-- "two-byte length": a content has at most so many bytes
abbrev pub longest_content : ℕ
longest_content = 65535

-- ── the decoder ──

abbrev pub tag_in : Bytes → ℕ
tag_in s = get_or s 0 0

-- how many bytes of content the field says that it has
abbrev pub size_in : Bytes → ℕ
size_in s = at16 s 1

abbrev pub after_field : Bytes → Bytes
after_field s = drop (field_head + size_in s) s

-- a field with this tag and a content of this many bytes stands whole at the beginning of s
abbrev pub stands : ℕ → ℕ → Bytes → Bool
stands tag size s = leb (field_head + size) (length s) && eqb (tag_in s) tag && eqb (size_in s) size

-- ── the encoder ──

abbrev pub field_bytes : ℕ → Bytes → Bytes
field_bytes tag content = (tag ∷ bytes16 (length content)) ++ content

-- ── what is made of fields ──

-- "nothing after" the last field
abbrev pub nothing : Bytes → Bool
nothing s = eqb (length s) 0

-- each byte by itself: the pieces of what is written, whose count is that of its bytes
abbrev pub single : ℕ → Bytes
single b = b ∷ []
