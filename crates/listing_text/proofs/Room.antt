-- The most bytes that each text takes, of numbers that fit and of tuples, names and lines that are read from bytes. Assumes nothing.
use mathlib.Core.Path.{◌≡◌, refl}
use mathlib.Core.Bool.{true}
use mathlib.Core.List.{map}
use Prim.Native.Nat.{ℕ, zero, suc, ◌+◌, ◌*◌, ◌/◌, ◌<◌, ◌≤◌, min}
use native.Mathlib.Decide.{dec_lt}
use native.Mathlib.Omega.{arith}
use lib.ListN.{length, take, drop, length-append}
use lib.IntN.{ℤ, pos, negsuc, nat_abs}
use Rattle.names.specs.declared.Tuple.{Tuple}
use Rattle.names.specs.Names.{limit}
use Rattle.numbers.specs.Bytes.{Bytes, Octets, at32, signed}
use Rattle.slots.specs.Tuples.{tuple_at, tuples_at, tuple_size}
use Rattle.slots.specs.Slots.{head_size, slot_size, depth_of, line_of, slot_of}
use Rattle.numbers.proofs.ReadNumbers.{fits16, fits32, signed_pos, signed_neg}
use Rattle.pages.specs.Pages.{max_slots, parts, slots_of, keeps_layout}
use Rattle.numbers.proofs.Octets.{octets_take, octets_drop}
use Rattle.pages.proofs.RoundTrip.{laid}
use Rattle.listing_text.specs.Listing.{decimal_ℤ, tuple_text, name_text, line_text, header, lines_text, book_text, offset_room, tuple_room, line_room}
use Rattle.listing_text.proofs.Digits.{ten_digits}
use Rattle.listing_text.proofs.Texts.{line_is}

pub offset_text : (z : ℤ) → nat_abs z < 4294967296 → length (decimal_ℤ z) ≤ offset_room
unfolding decimal_ℤ
offset_text (pos n) h = omega (arith, ten_digits n h)
offset_text (negsuc n) h = omega (arith, ten_digits (suc n) h)

pub tuple_text_lem : (t : Tuple) → t.position < 4294967296 → t.node < 4294967296 → t.sequence < 4294967296 → nat_abs t.offset < 4294967296 → length (tuple_text t) ≤ tuple_room
unfolding tuple_text
tuple_text_lem t h₁ h₂ h₃ h₄ =
    simp length-append (omega (arith, ten_digits t.position h₁, ten_digits t.node h₂, ten_digits t.sequence h₃, offset_text t.offset h₄))

signed_fits : (v : ℕ) → v < 4294967296 → nat_abs (signed v) < 4294967296
signed_fits v h = elim (dec_lt v 2147483648) [
  | yes k ↦ rw (signed_pos v k) h
  | no k ↦ rw (signed_neg v (omega arith)) (omega arith)
]

module _ (s : Bytes) (k : Octets s) where
  pub tuple_room_lem : (p : ℕ) → length (tuple_text (tuple_at s p)) ≤ tuple_room
  unfolding tuple_at
  tuple_room_lem p =
      tuple_text_lem (tuple_at s p) (omega (arith, fits16 s p k)) (omega (arith, fits16 s (p + 2) k)) (fits32 s (p + 4) k) (signed_fits (at32 s (p + 8)) (fits32 s (p + 8) k))

  -- with what stands after it, a `/` or the newline
  pub name_room : (p n : ℕ) → length (name_text (tuples_at s p (suc n))) + 1 ≤ (tuple_room + 1) * suc n
  unfolding name_text
  name_room p zero = omega (arith, tuple_room_lem p)
  name_room p (suc n) = simp length-append (omega (arith, tuple_room_lem p, name_room (p + tuple_size) n))

  name_line : (p n : ℕ) → n ≤ limit → length (name_text (tuples_at s p n)) + 1 ≤ (tuple_room + 1) * limit
  unfolding name_text
  name_line p zero h = omega arith
  name_line p (suc n) h = omega (arith, name_room p n)

  pub line_room_lem : length (line_text (slot_of s)) ≤ line_room
  line_room_lem =
      let d = min (depth_of s) limit in
      let l = fits32 s 4 k in
      let f : d ≤ limit = omega arith in
      rw (← line_is s (line_of s) d refl refl)
      (simp length-append (omega (arith, ten_digits (line_of s) l, ten_digits d (omega arith), name_line head_size d f)))

-- ── a page ──

lines_room : (n : ℕ) (s : Bytes) → Octets s → length (lines_text (map slot_of (parts n s))) ≤ line_room * n
lines_room zero s k = omega arith
lines_room (suc n) s k =
    let a = line_room_lem (take slot_size s) (octets_take slot_size s k) in
    let b = lines_room n (drop slot_size s) (octets_drop slot_size s k) in
    simp length-append (omega arith)

abbrev pub book_room : ℕ
book_room = length header + max_slots * line_room

pub book_room_lem : (page : Bytes) → Octets page → keeps_layout page ≡ true → length (book_text (slots_of page)) ≤ book_room
book_room_lem page k e =
    let v = (laid page e).few in
    let b = lines_room (length page / slot_size) page k in
    omega (arith, length-append header (lines_text (slots_of page)))
