-- Lists whose elements are bytes: by index, as `Octets` has it, and one by one (`AllBytes`); their parts; numbers as bytes. Assumes nothing.
use mathlib.Core.List.{[], ◌∷◌, ◌++◌}
use Prim.Native.Nat.{ℕ, zero, suc, ◌+◌, ◌/◌, ◌%◌, ◌<◌, ◌≤◌}
use native.Mathlib.Decide.{dec_lt}
use native.Mathlib.Omega.{arith}
use lib.ListN.{length, take, drop, length-take, get_or-eq_default, replicate}
use lib.Seq.{get_or-take, get_or-drop}
use Rattle.numbers.specs.Bytes.{Bytes, Octets, bytes16, bytes32}

pub octets_take : (n : ℕ) (s : Bytes) → Octets s → Octets (take n s)
octets_take n s k i = elim (dec_lt i n) [
  | yes h ↦ rw (get_or-take n s i 0 h) (k i)
  | no h ↦ let l : length (take n s) ≤ i = omega (arith, length-take n s) in rw (get_or-eq_default (take n s) 0 l) (omega arith)
]

pub octets_drop : (n : ℕ) (s : Bytes) → Octets s → Octets (drop n s)
octets_drop n s k i = rw (get_or-drop n s i 0) (k (n + i))

-- ── one by one ──

-- each element is a byte, as `Octets` has it by index
pub data AllBytes : Bytes → Type 0 where
  nil : AllBytes []
  byte : {s : Bytes} (x : ℕ) → x < 256 → AllBytes s → AllBytes (x ∷ s)

pub all_octets : {s : Bytes} → AllBytes s → Octets s
all_octets nil i = omega arith
all_octets (byte x h k) zero = h
all_octets (byte x h k) (suc i) = all_octets k i

pub join : {s t : Bytes} → AllBytes s → AllBytes t → AllBytes (s ++ t)
join nil j = j
join (byte x h k) j = byte x h (join k j)

pub zeros : (n : ℕ) → AllBytes (replicate n 0)
zeros zero = nil
zeros (suc n) = byte 0 (omega arith) (zeros n)

pub two : (v : ℕ) → v < 65536 → AllBytes (bytes16 v)
two v h = byte (v / 256) (omega arith) (byte (v % 256) (omega arith) nil)

pub four : (v : ℕ) → v < 4294967296 → AllBytes (bytes32 v)
four v h = join (two (v / 65536) (omega arith)) (two (v % 65536) (omega arith))
