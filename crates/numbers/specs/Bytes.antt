-- Numbers as bytes, and bytes written at a place: document 01, "Pages, logs, epochs". "All numbers are big-endian, offsets in two's
-- complement."
use Rattle.std.specs.Prelude.{ℕ, ◌+◌, ◌-◌, ◌*◌, ◌/◌, ◌%◌, ◌<◌, List, [], ◌∷◌, ◌++◌, Bool, cond, length, get_or, take, drop, eqb, ltb, ℤ, pos, negsuc}
use Rattle.std.specs.List.{list_all}

abbrev pub Bytes : Type 0
Bytes = List ℕ

-- every element is a byte
abbrev pub Octets : Bytes → Type 0
Octets s = (i : ℕ) → get_or s i 0 < 256

-- ── from bytes ──

-- the number of the two bytes, of the four, and of the eight, that stand at p
abbrev pub at16 : Bytes → ℕ → ℕ
at16 s p = get_or s p 0 * 256 + get_or s (p + 1) 0

abbrev pub at32 : Bytes → ℕ → ℕ
at32 s p = at16 s p * 65536 + at16 s (p + 2)

abbrev pub at64 : Bytes → ℕ → ℕ
at64 s p = at32 s p * 4294967296 + at32 s (p + 4)

-- two's complement of 32 bits: from 2³¹ on the number less 2³²
abbrev pub signed : ℕ → ℤ
signed n = cond (ltb n 2147483648) (pos n) (negsuc (4294967295 - n))

abbrev pub is_zero : ℕ → Bool
is_zero x = eqb x 0

abbrev pub all_zero : Bytes → Bool
all_zero s = list_all is_zero s

-- ── to bytes ──

abbrev pub bytes16 : ℕ → Bytes
bytes16 v = v / 256 ∷ v % 256 ∷ []

abbrev pub bytes32 : ℕ → Bytes
bytes32 v = bytes16 (v / 65536) ++ bytes16 (v % 65536)

abbrev pub unsigned : ℤ → ℕ
unsigned (pos n) = n
unsigned (negsuc n) = 4294967295 - n

-- o with the bytes w written from p on
abbrev pub put : Bytes → ℕ → Bytes → Bytes
put o p w = take p o ++ w ++ drop (p + length w) o
