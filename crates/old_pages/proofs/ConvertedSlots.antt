-- What the code copies of slot i is what is due there: of an old page with zeros after it (`new_piece`), of a page without its last tuples
-- (`old_piece`). Assumes nothing.
use mathlib.Core.Path.{◌≡◌, ◌∙◌, sym, ap}
use mathlib.Core.List.{[], ◌++◌}
use mathlib.Core.Bool.{true, ◌&&◌}
use Prim.Native.Nat.{ℕ, ◌-◌, ◌*◌, ◌/◌, ◌<◌, ◌≤◌}
use native.Mathlib.Omega.{arith}
use borrow.Author.Tests.{leb-true}
use lib.Dec.{leb}
use lib.ListN.{length, get_or, take, drop, replicate, length-map, get_or-map}
use lib.Seq.{take_at}
use Rattle.names.specs.Names.{limit, is_name}
use Rattle.numbers.specs.Bytes.{Bytes, Octets}
use Rattle.std.specs.List.{list_all}
use Rattle.numbers.proofs.Bools.{and_1}
use Rattle.numbers.proofs.Every.{every_each}
use Rattle.numbers.proofs.Octets.{octets_take, octets_drop}
use Rattle.numbers.proofs.Parts.{length_parts, get_or_parts}
use Rattle.slots.specs.Tuples.{tuple_size}
use Rattle.slots.specs.Slots.{bytes_over, slot_over, name_over, line_of, slot_size, name_of, slot_of, slot_bytes, keeps_over, keeps_slot}
use Rattle.slots.proofs.RoundTrip.{KeptOver, kept_over, back_over, decoded_over, length_over, wider, kept, bytes_back, slot_length}
use Rattle.pages.specs.Pages.{parts_over, parts_of, slots_of, names_of, pieces, keeps_layout, name_in}
use Rattle.pages.proofs.RoundTrip.{laid_over, laid}
use Rattle.pages.proofs.SlotBySlot.{length_names}
use Rattle.old_pages.specs.OldPages.{old_limit, old_size, keeps_old, old_slots_of, old_pieces, fits_old}

-- the zeros of the tuples that a slot has and an old one has not
abbrev pub more_zeros : Bytes
more_zeros = replicate (tuple_size * (limit - old_limit)) 0

-- ── a slot of an old page ──

abbrev pub old_slot : Bytes → ℕ → Bytes
old_slot old i = get_or (parts_over old_limit old) i []

module _ (old : Bytes) (k : Octets old) (e : keeps_old old ≡ true) (i : ℕ) (h : i < length old / old_size) where
  pub old_part : old_slot old i ≡ take old_size (drop (old_size * i) old)
  old_part = get_or_parts old_size (length old / old_size) old i h

  pub old_kept : KeptOver old_limit (old_slot old i)
  old_kept =
      let l : i < length (parts_over old_limit old) = rw length_parts h in
      kept_over old_limit (old_slot old i) (every_each (keeps_over old_limit) (parts_over old_limit old) i [] l (laid_over old_limit old e).good)

  pub old_slot_long : length (old_slot old i) ≡ old_size
  old_slot_long = old_kept.long

  old_octets : Octets (old_slot old i)
  old_octets = rw old_part (octets_take old_size (drop (old_size * i) old) (octets_drop (old_size * i) old k))

  old_fits : length (name_over old_limit (old_slot old i)) ≤ old_limit
  old_fits =
      let s = old_slot old i in
      leb-true (length (name_over old_limit s)) old_limit (and_1 (leb (line_of s) 4294967295 && is_name (name_over old_limit s)) (leb (length (name_over old_limit s)) old_limit) (decoded_over old_limit s old_octets old_kept))

  as_new_lem : slot_bytes (slot_over old_limit (old_slot old i)) ≡ old_slot old i ++ more_zeros
  as_new_lem =
      wider old_limit limit (slot_over old_limit (old_slot old i)) (omega arith) old_fits
      ∙ ap (λ (s : Bytes). s ++ more_zeros) (back_over old_limit (old_slot old i) old_octets old_kept)

  pub new_piece : get_or (pieces (old_slots_of old)) i (slot_bytes (slot_over old_limit [])) ≡ old_slot old i ++ more_zeros
  new_piece =
      get_or-map slot_bytes (old_slots_of old) i (slot_over old_limit [])
      ∙ ap slot_bytes (get_or-map (slot_over old_limit) (parts_over old_limit old) i [])
      ∙ as_new_lem

  pub new_long : length (old_slot old i ++ more_zeros) ≡ slot_size
  new_long = ap length (sym as_new_lem) ∙ slot_length (slot_over old_limit (old_slot old i)) (omega (arith, old_fits))

pub length_new : (old : Bytes) → length (pieces (old_slots_of old)) ≡ length old / old_size
length_new old = length-map (old_slots_of old) slot_bytes ∙ length-map (parts_over old_limit old) (slot_over old_limit) ∙ length_parts old_size (length old / old_size) old

-- ── a slot of a page ──

abbrev pub slot_at : Bytes → ℕ → Bytes
slot_at page i = get_or (parts_of page) i []

module _ (page : Bytes) (k : Octets page) (e : keeps_layout page ≡ true) (t : list_all fits_old (names_of page) ≡ true) (i : ℕ) (h : i < length page / slot_size) where
  abbrev part : Bytes
  part = slot_at page i

  part_is : part ≡ take slot_size (drop (slot_size * i) page)
  part_is = get_or_parts slot_size (length page / slot_size) page i h

  part_back : slot_bytes (slot_of part) ≡ part
  part_back =
      let l : i < length (parts_of page) = rw length_parts h in
      let v = kept part (every_each keeps_slot (parts_of page) i [] l (laid page e).good) in
      bytes_back part (rw part_is (octets_take slot_size (drop (slot_size * i) page) (octets_drop (slot_size * i) page k))) v

  part_fits : length (name_of part) ≤ old_limit
  part_fits =
      let l : i < length (names_of page) = rw length_names h in
      let is : get_or (names_of page) i [] ≡ name_of part = get_or-map name_in (slots_of page) i (slot_of []) ∙ ap name_in (get_or-map slot_of (parts_of page) i []) in
      leb-true (length (name_of part)) old_limit (ap fits_old (sym is) ∙ every_each fits_old (names_of page) i [] l t)

  -- without the last tuples
  cut_is : take old_size part ≡ bytes_over old_limit (slot_of part)
  cut_is =
      let x = slot_of part in
      ap (take old_size) (sym part_back ∙ wider old_limit limit x (omega arith) part_fits)
      ∙ take_at (bytes_over old_limit x) more_zeros old_size (length_over old_limit x part_fits)

  pub old_piece : get_or (old_pieces (slots_of page)) i (bytes_over old_limit (slot_of [])) ≡ take old_size (slot_at page i)
  old_piece =
      get_or-map (bytes_over old_limit) (slots_of page) i (slot_of [])
      ∙ ap (bytes_over old_limit) (get_or-map slot_of (parts_of page) i [])
      ∙ sym cut_is

  pub old_long : length (take old_size (slot_at page i)) ≡ old_size
  old_long = ap length cut_is ∙ length_over old_limit (slot_of part) part_fits

pub length_old : (page : Bytes) → length (old_pieces (slots_of page)) ≡ length page / slot_size
length_old page = length-map (slots_of page) (bytes_over old_limit) ∙ length-map (parts_of page) slot_of ∙ length_parts slot_size (length page / slot_size) page
