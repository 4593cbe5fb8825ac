-- A page's bytes and the list of its slots, for slots with room for any number of tuples and then for a page: `page_back`, the bytes
-- of the slots of a page are the page; `slots_back`, the slots of the bytes of at most 256 slots are these slots, and the bytes keep the
-- layout (`encoded_layout`); with rising names they are a page (`written_page`); the names of a page are names (`page_names`). Assumes
-- nothing.
use mathlib.Core.Path.{◌≡◌, refl, ◌∙◌, sym, ap}
use mathlib.Core.List.{List, [], ◌∷◌, map, flatten}
use mathlib.Core.Bool.{true, ◌&&◌}
use Prim.Native.Nat.{ℕ, zero, suc, ◌+◌, ◌*◌, ◌/◌, ◌%◌, ◌<◌, ◌≤◌}
use native.Mathlib.Nat.{not-suc-le-zero, le_of_suc-le-suc, add_comm, add-zero, mul-zero, mul-suc, div-add-mod, mul-div_right, mul-mod_right}
use native.Mathlib.Omega.{arith}
use borrow.Author.Tests.{eq-eqb, le-leb, eqb-true, leb-true}
use lib.Dec.{eqb, leb}
use lib.ListN.{length, take, drop, length-append, get_or}
use lib.Seq.{take_at, drop_at}
use Rattle.names.specs.Ordering.{Rising}
use Rattle.names.specs.Names.{limit}
use Rattle.names.proofs.Validity.{Valid, name_valid}
use Rattle.numbers.proofs.Bools.{and_0, and_1}
use Rattle.names.proofs.Laws.{Rising_rising}
use Rattle.numbers.specs.Bytes.{Bytes, Octets}
use Rattle.std.specs.List.{list_all}
use Rattle.std.specs.Simd.{first_chunks}
use Rattle.numbers.proofs.Lists.{flat, flat_none}
use Rattle.numbers.proofs.Octets.{octets_take, octets_drop}
use Rattle.numbers.proofs.Parts.{flat_all}
use Rattle.slots.specs.Slots.{size_over, slot_over, keeps_over, bytes_over, is_slot_over, Slot, slot_size, slot_of, keeps_slot, is_slot}
use Rattle.slots.proofs.RoundTrip.{kept_over, back_over, decoded_over, slot_back_over, encoded_length_over, encoded_over, kept}
use Rattle.pages.specs.Pages.{parts_over, slots_over, pieces_over, layout_over, rises_over, max_slots, parts_of, slots_of, name_in, names_of, pieces, keeps_layout, rises}

-- ── slots with room for so many tuples: from bytes and back ──

module _ (room : ℕ) where
  -- a part that keeps the layout is the bytes of what it says
  parts_again : (n : ℕ) (s : Bytes) → Octets s → list_all (keeps_over room) (first_chunks (size_over room) n s) ≡ true
      → map (bytes_over room) (map (slot_over room) (first_chunks (size_over room) n s)) ≡ first_chunks (size_over room) n s
  parts_again zero s k v = refl
  parts_again (suc n) s k v =
      let a = take (size_over room) s in
      let b = drop (size_over room) s in
      let v₀ = and_0 (keeps_over room a) (list_all (keeps_over room) (first_chunks (size_over room) n b)) v in
      let v₁ = and_1 (keeps_over room a) (list_all (keeps_over room) (first_chunks (size_over room) n b)) v in
      λ i. back_over room a (octets_take (size_over room) s k) (kept_over room a v₀) i ∷ parts_again n b (octets_drop (size_over room) s k) v₁ i

  parts_good : (n : ℕ) (s : Bytes) → Octets s → list_all (keeps_over room) (first_chunks (size_over room) n s) ≡ true
      → list_all (is_slot_over room) (map (slot_over room) (first_chunks (size_over room) n s)) ≡ true
  parts_good zero s k v = refl
  parts_good (suc n) s k v =
      let a = take (size_over room) s in
      let b = drop (size_over room) s in
      let v₀ = and_0 (keeps_over room a) (list_all (keeps_over room) (first_chunks (size_over room) n b)) v in
      let v₁ = and_1 (keeps_over room a) (list_all (keeps_over room) (first_chunks (size_over room) n b)) v in
      λ i. decoded_over room a (octets_take (size_over room) s k) (kept_over room a v₀) i && parts_good n b (octets_drop (size_over room) s k) v₁ i

-- what the check of the layout has found
pub record LaidOver (room : ℕ) (s : Bytes) : Type 0 where
  pub whole : length s ≡ size_over room * (length s / size_over room)
  pub few : length s / size_over room ≤ max_slots
  pub good : list_all (keeps_over room) (parts_over room s) ≡ true

pub laid_over : (room : ℕ) (s : Bytes) → layout_over room s ≡ true → LaidOver room s
unfolding layout_over
laid_over room s e =
    let size = size_over room in
    let a = eqb (length s % size) 0 in
    let b = leb (length s / size) max_slots in
    let e₀ = and_0 (a && b) (list_all (keeps_over room) (parts_over room s)) e in
    let z = eqb-true (length s % size) 0 (and_0 a b e₀) in
    let d : size * (length s / size) ≡ length s = sym (add-zero (size * (length s / size))) ∙ (rw z at (div-add-mod (length s) size)) in
    record { whole = sym d; few = leb-true (length s / size) max_slots (and_1 a b e₀); good = and_1 (a && b) (list_all (keeps_over room) (parts_over room s)) e }

module _ (room : ℕ) (s : Bytes) (k : Octets s) (e : layout_over room s ≡ true) where
  pub pieces_over_lem : pieces_over room (slots_over room s) ≡ parts_over room s
  pieces_over_lem = parts_again room (length s / size_over room) s k (laid_over room s e).good

  pub slots_over_lem : list_all (is_slot_over room) (slots_over room s) ≡ true
  slots_over_lem = parts_good room (length s / size_over room) s k (laid_over room s e).good

  pub page_back_over : flatten (pieces_over room (slots_over room s)) ≡ s
  page_back_over = ap flatten pieces_over_lem ∙ flat_all (size_over room) (length s / size_over room) s (laid_over room s e).whole

-- ── from slots and back ──

module _ (room : ℕ) where
  pub written_over : (l : List Slot) → list_all (is_slot_over room) l ≡ true → length (flatten (pieces_over room l)) ≡ size_over room * length l
  written_over [] e = ap length flat_none ∙ sym (mul-zero (size_over room))
  written_over (x ∷ l) e =
      let a = encoded_length_over room x (and_0 (is_slot_over room x) (list_all (is_slot_over room) l) e) in
      let b = written_over l (and_1 (is_slot_over room x) (list_all (is_slot_over room) l) e) in
      ap length (flat (bytes_over room x) (pieces_over room l))
      ∙ length-append (bytes_over room x) (flatten (pieces_over room l))
      ∙ (λ i. a i + b i)
      ∙ add_comm (size_over room) (size_over room * length l)
      ∙ sym (mul-suc (size_over room) (length l))

  parts_of_lem : (l : List Slot) → list_all (is_slot_over room) l ≡ true → first_chunks (size_over room) (length l) (flatten (pieces_over room l)) ≡ pieces_over room l
  parts_of_lem [] e = refl
  parts_of_lem (x ∷ l) e =
      let a = encoded_length_over room x (and_0 (is_slot_over room x) (list_all (is_slot_over room) l) e) in
      let f = flat (bytes_over room x) (pieces_over room l) in
      let t = ap (take (size_over room)) f ∙ take_at (bytes_over room x) (flatten (pieces_over room l)) (size_over room) a in
      let d = ap (drop (size_over room)) f ∙ drop_at (bytes_over room x) (flatten (pieces_over room l)) (size_over room) a in
      λ i. t i ∷ (ap (first_chunks (size_over room) (length l)) d ∙ parts_of_lem l (and_1 (is_slot_over room x) (list_all (is_slot_over room) l) e)) i

  decoded : (l : List Slot) → list_all (is_slot_over room) l ≡ true → map (slot_over room) (pieces_over room l) ≡ l
  decoded [] e = refl
  decoded (x ∷ l) e =
      λ i. slot_back_over room x (and_0 (is_slot_over room x) (list_all (is_slot_over room) l) e) i ∷ decoded l (and_1 (is_slot_over room x) (list_all (is_slot_over room) l) e) i

  keeps : (l : List Slot) → list_all (is_slot_over room) l ≡ true → list_all (keeps_over room) (pieces_over room l) ≡ true
  keeps [] e = refl
  keeps (x ∷ l) e =
      λ i. encoded_over room x (and_0 (is_slot_over room x) (list_all (is_slot_over room) l) e) i && keeps l (and_1 (is_slot_over room x) (list_all (is_slot_over room) l) e) i

module _ (room : ℕ) (l : List Slot) (e : list_all (is_slot_over room) l ≡ true) where
  many : length (flatten (pieces_over room l)) / size_over room ≡ length l
  many = ap (λ (n : ℕ). n / size_over room) (written_over room l e) ∙ mul-div_right (length l) (omega arith)

  pub parts_are_over : parts_over room (flatten (pieces_over room l)) ≡ pieces_over room l
  parts_are_over = ap (λ (n : ℕ). first_chunks (size_over room) n (flatten (pieces_over room l))) many ∙ parts_of_lem room l e

  pub slots_back_over : slots_over room (flatten (pieces_over room l)) ≡ l
  slots_back_over = ap (map (slot_over room)) parts_are_over ∙ decoded room l e

  pub encoded_layout_over : length l ≤ max_slots → layout_over room (flatten (pieces_over room l)) ≡ true
  unfolding layout_over
  encoded_layout_over h =
      let z : length (flatten (pieces_over room l)) % size_over room ≡ 0 =
      ap (λ (n : ℕ). n % size_over room) (written_over room l e) ∙ mul-mod_right (size_over room) (length l) in
      let f : length (flatten (pieces_over room l)) / size_over room ≤ max_slots = rw many h in
      λ i.
      eq-eqb (length (flatten (pieces_over room l)) % size_over room) 0 z i
      && le-leb (length (flatten (pieces_over room l)) / size_over room) max_slots f i
      && (ap (list_all (keeps_over room)) parts_are_over ∙ keeps room l e) i

  -- slots written one after the other, with rising names, are a page
  pub written_page_over : length l ≤ max_slots → Rising (map name_in l)
      → (layout_over room (flatten (pieces_over room l)) ≡ true) × (rises_over room (flatten (pieces_over room l)) ≡ true)
  written_page_over h r = (encoded_layout_over h, Rising_rising (rw (← slots_back_over) at r))

-- ── a page ──

abbrev pub Laid : Bytes → Type 0
Laid s = LaidOver limit s

pub laid : (s : Bytes) → keeps_layout s ≡ true → Laid s
laid = laid_over limit

-- its names are names
parts_valid : (l : List Bytes) → list_all keeps_slot l ≡ true → (i : ℕ) → i < length (map name_in (map slot_of l)) → Valid (get_or (map name_in (map slot_of l)) i [])
parts_valid [] e i h = absurd (not-suc-le-zero h)
parts_valid (x ∷ l) e zero h = name_valid _ (kept x (and_0 (keeps_slot x) (list_all keeps_slot l) e)).named
parts_valid (x ∷ l) e (suc i) h = parts_valid l (and_1 (keeps_slot x) (list_all keeps_slot l) e) i (le_of_suc-le-suc h)

pub page_names : (s : Bytes) → keeps_layout s ≡ true → (i : ℕ) → i < length (names_of s) → Valid (get_or (names_of s) i [])
page_names s e = parts_valid (parts_of s) (laid s e).good

module _ (s : Bytes) (k : Octets s) (e : keeps_layout s ≡ true) where
  pub pieces_are : pieces (slots_of s) ≡ parts_of s
  pieces_are = pieces_over_lem limit s k e

  pub page_slots : list_all is_slot (slots_of s) ≡ true
  page_slots = slots_over_lem limit s k e

  pub page_back : flatten (pieces (slots_of s)) ≡ s
  page_back = page_back_over limit s k e

module _ (l : List Slot) (e : list_all is_slot l ≡ true) where
  pub written_length : length (flatten (pieces l)) ≡ slot_size * length l
  written_length = written_over limit l e

  pub parts_are : parts_of (flatten (pieces l)) ≡ pieces l
  parts_are = parts_are_over limit l e

  pub slots_back : slots_of (flatten (pieces l)) ≡ l
  slots_back = slots_back_over limit l e

  pub encoded_layout : length l ≤ max_slots → keeps_layout (flatten (pieces l)) ≡ true
  encoded_layout = encoded_layout_over limit l e

  pub written_page : length l ≤ max_slots → Rising (map name_in l) → (keeps_layout (flatten (pieces l)) ≡ true) × (rises (flatten (pieces l)) ≡ true)
  written_page = written_page_over limit l e
