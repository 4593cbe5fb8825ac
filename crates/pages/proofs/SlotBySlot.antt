-- A page as the row of its slots, and a loop that goes along it. Assumes nothing.
use mathlib.Core.Path.{◌≡◌, refl, ◌∙◌, sym, ap}
use mathlib.Core.List.{List, [], ◌∷◌, map}
use mathlib.Core.Bool.{Bool, true, ◌&&◌, and-true}
use Prim.Native.Nat.{ℕ, ◌+◌, ◌*◌, ◌-◌, ◌/◌, ◌<◌, ◌≤◌, min}
use native.Mathlib.Omega.{arith}
use lib.ListN.{length, get_or, take, drop, length-take, length-drop, length-map, get_or-map}
use lib.Seq.{take_all}
use Rattle.names.specs.Ordering.{Row, compare_rows, rising}
use Rattle.std.specs.Ordering.{is_lt}
use Rattle.numbers.specs.Bytes.{Bytes}
use Rattle.std.specs.List.{list_all}
use Rattle.std.specs.Simd.{first_chunks}
use Rattle.names.specs.Names.{limit}
use Rattle.slots.specs.Tuples.{tuples_at}
use Rattle.slots.specs.Slots.{size_over, slot_over, keeps_over, head_size, slot_size, depth_of, slot_of, name_of, keeps_slot}
use Rattle.slots.proofs.TuplesInBytes.{tuples_on, tuples_within}
use Rattle.slots.proofs.NameTests.{name_is}
use Rattle.numbers.proofs.Every.{every_at, every_each, every_end}
use Rattle.numbers.proofs.Parts.{length_parts as length_equal, get_or_parts}
use Rattle.pages.specs.Pages.{parts_over, slots_over, parts, parts_of, slots_of, name_in}

-- ── slots with room for so many tuples: the first of those from `at` on, and the rest ──

-- a slot as the code lends it: the part from a to a + size_over room
abbrev pub lent_over : ℕ → Bytes → ℕ → Bytes
lent_over room s a = take (a + size_over room - a) (drop a s)

-- it is slot k of the first n, where it begins with that slot
pub part_over : (room : ℕ) (s : Bytes) (n k a : ℕ) → a ≡ size_over room * k → k < n → lent_over room s a ≡ get_or (first_chunks (size_over room) n s) k []
part_over room s n k a q h = let e : a + size_over room - a ≡ size_over room = omega arith in rw (e, q) (sym (get_or_parts (size_over room) n s k h))

-- .. and keeps the layout where all of these do
pub lent_keeps : (room : ℕ) (s : Bytes) (n k : ℕ) → k < n → list_all (keeps_over room) (first_chunks (size_over room) n s) ≡ true
    → keeps_over room (lent_over room s (size_over room * k)) ≡ true
lent_keeps room s n k h e =
    let l : k < length (first_chunks (size_over room) n s) = rw length_equal h in
    ap (keeps_over room) (part_over room s n k (size_over room * k) refl h) ∙ every_each (keeps_over room) (first_chunks (size_over room) n s) k [] l e

-- ── a page's slots by their index ──

pub length_parts : (n : ℕ) (s : Bytes) → length (parts n s) ≡ n
length_parts = length_equal slot_size

abbrev pub lent : Bytes → ℕ → Bytes
lent s a = lent_over limit s a

module _ (s : Bytes) (n k a : ℕ) (q : a ≡ slot_size * k) (h : k < n) where
  pub lent_part : lent s a ≡ get_or (parts n s) k []
  lent_part = part_over limit s n k a q h

  pub lent_length : n ≡ length s / slot_size → length (lent s a) ≡ slot_size
  lent_length e = simp (length-take, length-drop) (omega arith)

  -- the name of the slot lent
  pub lent_name : name_of (lent s a) ≡ get_or (map name_in (map slot_of (parts n s))) k []
  lent_name =
      ap name_of lent_part
      ∙ ap name_in (sym (get_or-map slot_of (parts n s) k []))
      ∙ sym (get_or-map name_in (map slot_of (parts n s)) k (slot_of []))

  -- .. which stands in the page itself
  pub lent_tuples : (d : ℕ) → d ≡ min (depth_of (lent s a)) limit → tuples_at s (a + head_size) d ≡ get_or (map name_in (map slot_of (parts n s))) k []
  lent_tuples d e =
      sym (tuples_on a s head_size (a + head_size) d refl)
      ∙ sym (tuples_within (a + slot_size - a) (drop a s) head_size d (omega arith))
      ∙ name_is (lent s a) d e
      ∙ lent_name

-- ── a test of every slot ──

module _ (f : Bytes → Bool) (s : Bytes) (n k : ℕ) where
  -- a turn: the answer b for slot k, and what is left after it
  pub part_at : {b : Bool} → k < n → b ≡ f (lent s (slot_size * k)) → b && list_all f (drop (k + 1) (parts n s)) ≡ list_all f (drop k (parts n s))
  part_at h e =
      let l : k < length (parts n s) = rw length_parts h in
      every_at f (parts n s) k [] l (e ∙ ap f (lent_part s n k (slot_size * k) refl h))

  pub part_end : n ≤ k → true ≡ list_all f (drop k (parts n s))
  part_end h = let l : length (parts n s) ≤ k = rw length_parts h in every_end f (parts n s) k l

-- a page of one slot
pub one_part : (s : Bytes) → length s ≡ slot_size → list_all keeps_slot (parts_of s) ≡ keeps_slot s
one_part s e =
    let q : length s / slot_size ≡ 1 = omega arith in
    ap (λ (n : ℕ). list_all keeps_slot (parts n s)) q ∙ and-true (keeps_slot (take slot_size s)) ∙ ap keeps_slot (take_all slot_size s (omega arith))

-- ── neighbours ──

pub length_names : (s : Bytes) (n : ℕ) → length (map name_in (map slot_of (parts n s))) ≡ n
length_names s n = length-map (map slot_of (parts n s)) name_in ∙ length-map (parts n s) slot_of ∙ length_parts n s

pub rising_cons : (a b : Row) (l : List Row) → rising (a ∷ b ∷ l) ≡ is_lt (compare_rows a b) && rising (b ∷ l)
unfolding rising
rising_cons a b l = refl

pub rising_one : (a : Row) → rising (a ∷ []) ≡ true
unfolding rising
rising_one a = refl

pub rising_none : rising [] ≡ true
unfolding rising
rising_none = refl

pub length_slots_over : (room : ℕ) (s : Bytes) → length s / size_over room ≡ length (slots_over room s)
length_slots_over room s = sym (length-map (parts_over room s) (slot_over room) ∙ length_equal (size_over room) (length s / size_over room) s)

pub length_slots : (s : Bytes) → length (slots_of s) ≡ length s / slot_size
length_slots s = length-map (parts_of s) slot_of ∙ length_parts (length s / slot_size) s
