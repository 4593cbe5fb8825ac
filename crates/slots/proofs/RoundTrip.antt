-- The decoder and the encoder of slots are inverse, for slots with room for any number of tuples (the laws whose names end in `over`) and so
-- for a slot: `slot_back`, of every slot value, and `bytes_back`, of all bytes that keep a slot's layout. What is encoded keeps the
-- layout, `encoded_keeps`, and what is decoded is a slot value, `decoded_slot`; more room is zeros after the same bytes, `wider`. Assumes
-- nothing.
use Rattle.std.proofs.Common.{◌≡◌, ℕ, zero, suc, ◌+◌, ◌-◌, ◌*◌, ◌<◌, ◌≤◌, true, ◌&&◌, eqb, leb, [], ◌∷◌, ◌++◌, length, take, drop, replicate, ℤ, pos, negsuc, sym, refl, ap, ◌∙◌, append_assoc, add_assoc, arith, length-append, length-drop, take-append-drop, length-take, drop-cons, drop_at, eq-eqb, eqb-true, le-leb, leb-true}
use lib.ListN.{length-replicate, replicate-append-replicate}
use Rattle.names.specs.declared.Tuple.{Tuple}
use Rattle.names.specs.Ordering.{Row, ◌<ᶻ◌, up, across, down}
use Rattle.names.specs.Names.{limit, within, is_name}
use Rattle.names.proofs.Validity.{Ordinary, Middle, plain, marker_m, marker_M, Ends, final, onward, name_valid, valid_ends}
use Rattle.numbers.proofs.Bools.{and_0, and_1}
use Rattle.numbers.specs.Bytes.{Bytes, Octets, at16, at32, signed, unsigned, all_zero, bytes32}
use Rattle.slots.specs.Tuples.{tuple_at, tuples_at, tuple_size, tuple_bytes, row_bytes}
use Rattle.slots.specs.Laws.{Laws}
use Rattle.slots.specs.Slots.{size_over, name_over, slot_over, keeps_over, bytes_over, is_slot_over, Slot, head_size, slot_size, depth_of, line_of, slot_of, keeps_slot, slot_bytes, is_slot}
use Rattle.numbers.proofs.ReadNumbers.{fits32}
use Rattle.numbers.proofs.Lists.{next_to}
use Rattle.numbers.proofs.NumberBytes.{here16, here32, at16_past, at32_past, sum16, back32}
use Rattle.numbers.proofs.TwosComplement.{Word, high, low, unsigned_signed, signed_unsigned}
use Rattle.numbers.proofs.Zeros.{all_zeros, zeros_zero}
use Rattle.slots.proofs.TuplesInBytes.{length_tuples_at, take_tuples_at}
use Rattle.slots.proofs.NameTests.{name_over_lem}
use Rattle.slots.proofs.WrittenSlots.{tuple_length, row_length}

-- ── from bytes to a slot and back ──

front_length : (x : Slot) → length (((length x.name ∷ 0 ∷ 0 ∷ 0 ∷ []) ++ bytes32 x.line) ++ row_bytes x.name) ≡ head_size + tuple_size * length x.name
front_length x = length-append ((length x.name ∷ 0 ∷ 0 ∷ 0 ∷ []) ++ bytes32 x.line) (row_bytes x.name) ∙ ap (λ (n : ℕ). head_size + n) (row_length x.name)

-- a name of no more tuples than there is room for fills a slot
pub length_over : (room : ℕ) (x : Slot) → length x.name ≤ room → length (bytes_over room x) ≡ size_over room
unfolding bytes_over
length_over room x f =
    let e = front_length x in
    let z = length-replicate {A = ℕ} (tuple_size * (room - length x.name)) 0 in
    length-append (((length x.name ∷ 0 ∷ 0 ∷ 0 ∷ []) ++ bytes32 x.line) ++ row_bytes x.name) (replicate (tuple_size * (room - length x.name)) 0) ∙ omega arith

-- with more room the bytes are the same, and zeros after them
pub wider : (room more : ℕ) (x : Slot) → room ≤ more → length x.name ≤ room → bytes_over more x ≡ bytes_over room x ++ replicate (tuple_size * (more - room)) 0
unfolding bytes_over
wider room more x h f =
    let front = ((length x.name ∷ 0 ∷ 0 ∷ 0 ∷ []) ++ bytes32 x.line) ++ row_bytes x.name in
    let n = tuple_size * (room - length x.name) in
    let k = tuple_size * (more - room) in
    let e : tuple_size * (more - length x.name) ≡ n + k = omega arith in
    ap (λ (j : ℕ). front ++ replicate j 0) e
    ∙ ap (λ (z : Bytes). front ++ z) (sym (replicate-append-replicate n k 0))
    ∙ sym (append_assoc front (replicate n 0) (replicate k 0))

module _ (s : Bytes) (k : Octets s) where
  here_tuple : (p : ℕ) → p + tuple_size ≤ length s → tuple_bytes (tuple_at s p) ≡ take tuple_size (drop p s)
  unfolding tuple_bytes tuple_at
  here_tuple p h =
      (λ i. here16 s k p (omega arith) i ++ here16 s k (p + 2) (omega arith) i ++ here32 s k (p + 4) (omega arith) i
      ++ (ap bytes32 (unsigned_signed (at32 s (p + 8)) (fits32 s (p + 8) k)) ∙ here32 s k (p + 8) (omega arith)) i)
      ∙ (λ i. next_to s p 2 2 i ++ take 4 (drop (p + 4) s) ++ take 4 (drop (p + 8) s))
      ∙ (λ i. next_to s p 4 4 i ++ take 4 (drop (p + 8) s))
      ∙ next_to s p 8 4

  pub here_row : (p n : ℕ) → p + tuple_size * n ≤ length s → row_bytes (tuples_at s p n) ≡ take (tuple_size * n) (drop p s)
  here_row p zero h = refl
  here_row p (suc n) h =
      let e : tuple_size * suc n ≡ tuple_size + tuple_size * n = omega arith in
      (λ i. here_tuple p (omega arith) i ++ here_row (p + tuple_size) n (omega arith) i)
      ∙ next_to s p tuple_size (tuple_size * n)
      ∙ ap (λ (j : ℕ). take j (drop p s)) (sym e)

-- what the check of a slot with room for so many tuples has found
pub record KeptOver (room : ℕ) (s : Bytes) : Type 0 where
  pub long : length s ≡ size_over room
  pub deep : 1 ≤ depth_of s
  pub fit : depth_of s ≤ room
  pub blank : all_zero (take 3 (drop 1 s)) ≡ true
  pub named : is_name (name_over room s) ≡ true
  pub rest : all_zero (drop (head_size + tuple_size * depth_of s) s) ≡ true

pub kept_over : (room : ℕ) (s : Bytes) → keeps_over room s ≡ true → KeptOver room s
unfolding keeps_over
kept_over room s e =
    let a = eqb (length s) (size_over room) in
    let b = within 1 room (depth_of s) in
    let c = all_zero (take 3 (drop 1 s)) in
    let d = is_name (name_over room s) in
    let r = all_zero (drop (head_size + tuple_size * depth_of s) s) in
    let e₄ = and_0 (a && b && c && d) r e in
    let e₃ = and_0 (a && b && c) d e₄ in
    let e₂ = and_0 (a && b) c e₃ in
    let w = and_1 a b e₂ in
    record {
      long = eqb-true (length s) (size_over room) (and_0 a b e₂);
      deep = leb-true 1 (depth_of s) (and_0 (leb 1 (depth_of s)) (leb (depth_of s) room) w);
      fit = leb-true (depth_of s) room (and_1 (leb 1 (depth_of s)) (leb (depth_of s) room) w);
      blank = and_1 (a && b) c e₃;
      named = and_1 (a && b && c) d e₄;
      rest = and_1 (a && b && c && d) r e;
    }

module _ (room : ℕ) (s : Bytes) (k : Octets s) (v : KeptOver room s) where
  row : name_over room s ≡ tuples_at s head_size (depth_of s)
  row = let f = v.fit in sym (name_over_lem room s (depth_of s) (omega arith))

  deep_is : length (name_over room s) ≡ depth_of s
  deep_is = ap length row ∙ length_tuples_at s head_size (depth_of s)

  first : depth_of s ∷ [] ≡ take 1 (drop 0 s)
  first = let a : 0 < length s = omega (arith, v.long) in rw (drop-cons s 0 0 a)

  three : 0 ∷ 0 ∷ 0 ∷ [] ≡ take 3 (drop 1 s)
  three =
      let l : length (take 3 (drop 1 s)) ≡ 3 = simp (length-take, length-drop) (omega (arith, v.long)) in
      sym (all_zeros (take 3 (drop 1 s)) v.blank ∙ ap (λ (n : ℕ). replicate n 0) l)

  tail : replicate (tuple_size * (room - depth_of s)) 0 ≡ drop (head_size + tuple_size * depth_of s) s
  tail =
      let f = v.fit in
      let l : length (drop (head_size + tuple_size * depth_of s) s) ≡ tuple_size * (room - depth_of s) = simp length-drop (omega (arith, v.long)) in
      sym (all_zeros (drop (head_size + tuple_size * depth_of s) s) v.rest ∙ ap (λ (n : ℕ). replicate n 0) l)

  pub back_over : bytes_over room (slot_over room s) ≡ s
  unfolding bytes_over
  back_over =
      let f = v.fit in
      let l = v.long in
      (λ i. (deep_is i ∷ 0 ∷ 0 ∷ 0 ∷ []) ++ here32 s k 4 (omega arith) i ++ (ap row_bytes row ∙ here_row s k head_size (depth_of s) (omega arith)) i
      ++ (ap (λ (n : ℕ). replicate (tuple_size * (room - n)) 0) deep_is ∙ tail) i)
      ∙ (λ i. first i ++ three i ++ take 4 (drop 4 s) ++ take (tuple_size * depth_of s) (drop head_size s) ++ drop (head_size + tuple_size * depth_of s) s)
      ∙ (λ i. next_to s 0 1 3 i ++ take 4 (drop 4 s) ++ take (tuple_size * depth_of s) (drop head_size s) ++ drop (head_size + tuple_size * depth_of s) s)
      ∙ (λ i. next_to s 0 4 4 i ++ take (tuple_size * depth_of s) (drop head_size s) ++ drop (head_size + tuple_size * depth_of s) s)
      ∙ (λ i. next_to s 0 head_size (tuple_size * depth_of s) i ++ drop (head_size + tuple_size * depth_of s) s)
      ∙ take-append-drop (head_size + tuple_size * depth_of s) s

  pub decoded_over : is_slot_over room (slot_over room s) ≡ true
  decoded_over =
      let f = v.fit in
      let q : line_of s ≤ 4294967295 = omega (arith, fits32 s 4 k) in
      let r : length (name_over room s) ≤ room = omega (arith, deep_is) in
      simp (le-leb (line_of s) 4294967295 q, v.named, le-leb (length (name_over room s)) room r)

-- ── from a slot to bytes and back ──

-- reading past a front
module _ (w y : Bytes) where
  tuple_past : (k : ℕ) → tuple_at (w ++ y) (length w + k) ≡ tuple_at y k
  unfolding tuple_at
  tuple_past k =
      let n = ap (at16 (w ++ y)) (add_assoc (length w) k 2) ∙ at16_past w y (k + 2) in
      let s = ap (at32 (w ++ y)) (add_assoc (length w) k 4) ∙ at32_past w y (k + 4) in
      let o = ap (at32 (w ++ y)) (add_assoc (length w) k 8) ∙ at32_past w y (k + 8) in
      λ i. record { position = at16_past w y k i; node = n i; sequence = s i; offset = signed (o i) }

tuple_back : (t : Tuple) (r : Bytes) → Word t.offset → tuple_at (tuple_bytes t ++ r) 0 ≡ t
unfolding tuple_at tuple_bytes
tuple_back t r h =
    let s = back32 t.sequence [] in
    let o = ap signed (back32 (unsigned t.offset) []) ∙ signed_unsigned h in
    λ i. record { position = sum16 t.position i; node = sum16 t.node i; sequence = s i; offset = o i }

pub data Words : Row → Type 0 where
  none : Words []
  more : {t : Tuple} {a : Row} → Word t.offset → Words a → Words (t ∷ a)

pub row_back : (w : Bytes) (a : Row) (r : Bytes) → Words a → tuples_at (w ++ (row_bytes a ++ r)) (length w) (length a) ≡ a
row_back w [] r h = refl
row_back w (t ∷ a) r (more h g) =
    let b : w ++ ((tuple_bytes t ++ row_bytes a) ++ r) ≡ (w ++ tuple_bytes t) ++ (row_bytes a ++ r) = ap (λ (l : Bytes). w ++ l) (append_assoc (tuple_bytes t) (row_bytes a) r) ∙ sym (append_assoc w (tuple_bytes t) (row_bytes a ++ r)) in
    let n : length w + tuple_size ≡ length (w ++ tuple_bytes t) = sym (length-append w (tuple_bytes t) ∙ ap (λ (k : ℕ). length w + k) (tuple_length t)) in
    let z : length w ≡ length w + 0 = omega arith in
    let p : tuple_at (w ++ ((tuple_bytes t ++ row_bytes a) ++ r)) (length w) ≡ t =
    ap (tuple_at (w ++ ((tuple_bytes t ++ row_bytes a) ++ r))) z
    ∙ tuple_past w ((tuple_bytes t ++ row_bytes a) ++ r) 0
    ∙ ap (λ (l : Bytes). tuple_at l 0) (append_assoc (tuple_bytes t) (row_bytes a) r)
    ∙ tuple_back t (row_bytes a ++ r) h in
    let q : tuples_at (w ++ ((tuple_bytes t ++ row_bytes a) ++ r)) (length w + tuple_size) (length a) ≡ a =
    (λ i. tuples_at (b i) (n i) (length a)) ∙ row_back (w ++ tuple_bytes t) a r g in
    λ i. p i ∷ q i

-- the offsets of a name are words
word_between : {z : ℤ} → negsuc 1 <ᶻ z → z <ᶻ pos 2147483647 → Word z
word_between across (up {a} k) = high {n = a} (omega arith)
word_between (down {b = b} h) k = low {n = b} (omega arith)

ordinary_word : {t : Tuple} → Ordinary t → Word t.offset
ordinary_word o = word_between o.offset_min o.offset_max

middle_word : {t : Tuple} → Middle t → Word t.offset
middle_word (plain o) = ordinary_word o
middle_word (marker_m e) = rw (ap (λ (w : Tuple). w.offset) (sym e)) at (high {n = 0} (omega arith))
middle_word (marker_M e) = rw (ap (λ (w : Tuple). w.offset) (sym e)) at (high {n = 2147483647} (omega arith))

ends_words : {a : Row} → Ends a → Words a
ends_words (final o h) = more (ordinary_word o) none
ends_words (onward i e) = more (middle_word i) (ends_words e)

pub name_words : (a : Row) → is_name a ≡ true → Words a
name_words a e = ends_words (valid_ends (name_valid a e))

-- a name has a tuple
pub name_long : (a : Row) → is_name a ≡ true → 1 ≤ length a
unfolding is_name
name_long [] e = absurd (let z : ◌≡◌ {A = ℕ} 0 1 = cc in omega arith)
name_long (t ∷ a) e = omega arith

module _ (room : ℕ) (x : Slot) (h : is_slot_over room x ≡ true) where
  named : is_name x.name ≡ true
  named = and_1 (leb x.line 4294967295) (is_name x.name) (and_0 (leb x.line 4294967295 && is_name x.name) (leb (length x.name) room) h)

  fit : length x.name ≤ room
  fit = leb-true (length x.name) room (and_1 (leb x.line 4294967295 && is_name x.name) (leb (length x.name) room) h)

  split : bytes_over room x ≡ ((length x.name ∷ 0 ∷ 0 ∷ 0 ∷ []) ++ bytes32 x.line) ++ (row_bytes x.name ++ replicate (tuple_size * (room - length x.name)) 0)
  unfolding bytes_over
  split = append_assoc ((length x.name ∷ 0 ∷ 0 ∷ 0 ∷ []) ++ bytes32 x.line) (row_bytes x.name) (replicate (tuple_size * (room - length x.name)) 0)

  name_back : name_over room (bytes_over room x) ≡ x.name
  name_back =
      ap (name_over room) split
      ∙ take_tuples_at (((length x.name ∷ 0 ∷ 0 ∷ 0 ∷ []) ++ bytes32 x.line) ++ (row_bytes x.name ++ replicate (tuple_size * (room - length x.name)) 0)) head_size room (length x.name) fit
      ∙ row_back ((length x.name ∷ 0 ∷ 0 ∷ 0 ∷ []) ++ bytes32 x.line) x.name (replicate (tuple_size * (room - length x.name)) 0) (name_words x.name named)

  line_back : line_of (bytes_over room x) ≡ x.line
  line_back = ap line_of split ∙ back32 x.line []

  pub slot_back_over : slot_over room (bytes_over room x) ≡ x
  slot_back_over = λ i. record { line = line_back i; name = name_back i }

  pub encoded_length_over : length (bytes_over room x) ≡ size_over room
  encoded_length_over = length_over room x fit

  pub encoded_over : keeps_over room (bytes_over room x) ≡ true
  unfolding keeps_over bytes_over
  encoded_over =
      let f = fit in
      let n = name_long x.name named in
      let r = ap all_zero (drop_at (((length x.name ∷ 0 ∷ 0 ∷ 0 ∷ []) ++ bytes32 x.line) ++ row_bytes x.name) (replicate (tuple_size * (room - length x.name)) 0) (head_size + tuple_size * length x.name) (front_length x)) ∙ zeros_zero (tuple_size * (room - length x.name)) in
      λ i.
      eq-eqb (length (bytes_over room x)) (size_over room) encoded_length_over i
      && (le-leb 1 (length x.name) n i && le-leb (length x.name) room f i)
      && true
      && (ap is_name name_back ∙ named) i
      && r i

-- ── a slot ──

abbrev pub Kept : Bytes → Type 0
Kept s = KeptOver limit s

pub kept : (s : Bytes) → keeps_slot s ≡ true → Kept s
kept = kept_over limit

pub slot_length : (x : Slot) → length x.name ≤ limit → length (slot_bytes x) ≡ slot_size
slot_length = length_over limit

pub bytes_back : (s : Bytes) → Octets s → Kept s → slot_bytes (slot_of s) ≡ s
bytes_back = back_over limit

pub decoded_slot : (s : Bytes) → Octets s → Kept s → is_slot (slot_of s) ≡ true
decoded_slot = decoded_over limit

pub slot_back : (x : Slot) → is_slot x ≡ true → slot_of (slot_bytes x) ≡ x
slot_back = slot_back_over limit

pub encoded_length : (x : Slot) → is_slot x ≡ true → length (slot_bytes x) ≡ slot_size
encoded_length = encoded_length_over limit

pub encoded_keeps : (x : Slot) → is_slot x ≡ true → keeps_slot (slot_bytes x) ≡ true
encoded_keeps = encoded_over limit

pub laws : Laws
laws = record {
  bytes_back = λ s k e. bytes_back s k (kept s e);
  decoded = λ s k e. decoded_slot s k (kept s e);
  slot_back = slot_back;
  encoded = encoded_keeps;
  long = encoded_length;
}
