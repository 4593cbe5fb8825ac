-- The sorts of tuples told by their bytes: ordinary ones, last ones, markers. Assumes nothing.
use Rattle.std.proofs.Common.{◌≡◌, ℕ, ◌+◌, ◌*◌, ◌/◌, ◌%◌, ◌<◌, ◌≤◌, Bool, true, false, ◌&&◌, ◌||◌, eqb, ltb, leb, get_or, pos, negsuc, sym, refl, ap, ◌∙◌, inl, inr, arith, le-ltb, lt-ltb, eq-eqb, ne_eqb, le-leb}
use mathlib.Core.Bool.{and-true, and-false, and_assoc}
use native.Mathlib.Decide.{dec_lt}
use borrow.Author.Tests.{lt-leb}
use Rattle.names.specs.declared.Tuple.{Tuple}
use Rattle.std.specs.declared.cmp.Ordering.{Ordering}
use Rattle.std.specs.declared.cmp.Ordering.TheVariants.{Less, Equal, Greater}
use Rattle.names.specs.Ordering.{compare_ℕ, compare_tuples}
use Rattle.std.specs.Ordering.{ordering_then, is_eq}
use Rattle.names.specs.Names.{within_ℤ, ordinary_from, ordinary, m, M, marker}
use Rattle.names.proofs.Laws.{ℕ_less, ℕ_same, ℕ_more, ℕ_cases}
use Rattle.numbers.specs.Bytes.{Bytes, Octets, at16, at32, at64, signed}
use Rattle.slots.specs.Tuples.{tuple_at}
use Rattle.numbers.proofs.ReadNumbers.{fits16, fits32, signed_pos, signed_neg}
use Rattle.slots.proofs.PackedTuples.{front, raised, Held, packed, held_at}

-- ── ordinary tuples ──

-- position and node read as one number f, the lowest byte first: a position of 0 or 65535 and a node of 0 are the same either way round
module _ (s : Bytes) (p : ℕ) (k : Octets s) (f : ℕ) (e : f ≡ get_or s p 0 + get_or s (p + 1) 0 * 256 + get_or s (p + 2) 0 * 65536 + get_or s (p + 3) 0 * 16777216) where
  low_half : f % 65536 ≡ get_or s p 0 + get_or s (p + 1) 0 * 256
  low_half = omega (arith, k p, k (p + 1))

  high_half : f / 65536 ≡ get_or s (p + 2) 0 + get_or s (p + 2 + 1) 0 * 256
  high_half =
      let q : get_or s (p + 3) 0 ≡ get_or s (p + 2 + 1) 0 = ap (λ (j : ℕ). get_or s j 0) (omega arith) in
      omega (arith, k p, k (p + 1))

  pub low_position : f % 65536 < 1 → false ≡ ordinary (tuple_at s p)
  unfolding ordinary_from tuple_at
  low_position h =
      let a : at16 s p < 1 = omega (arith, low_half) in
      simp (lt-leb 1 (at16 s p) a)

  pub high_position : 65534 < f % 65536 → false ≡ ordinary (tuple_at s p)
  unfolding ordinary_from tuple_at
  high_position h =
      let a : 65534 < at16 s p = omega (arith, low_half, k p, k (p + 1)) in
      simp (le-leb 1 (at16 s p) (omega arith), lt-leb (at16 s p) 65534 a)

  -- a position that is neither
  module _ (l : 1 ≤ f % 65536) (h : f % 65536 ≤ 65534) where
    from_one : leb 1 (at16 s p) ≡ true
    from_one = le-leb 1 (at16 s p) (omega (arith, low_half))

    to_last : leb (at16 s p) 65534 ≡ true
    to_last = le-leb (at16 s p) 65534 (omega (arith, low_half, k p, k (p + 1)))

    pub no_node : f < 65536 → false ≡ ordinary (tuple_at s p)
    unfolding ordinary_from tuple_at
    no_node g =
        let a : at16 s (p + 2) < 1 = omega (arith, high_half) in
        simp (from_one, to_last, lt-leb 1 (at16 s (p + 2)) a)

    pub by_offset : 65536 ≤ f → within_ℤ (negsuc 0) (pos 2147483646) (signed (at32 s (p + 8))) ≡ ordinary (tuple_at s p)
    unfolding ordinary_from tuple_at
    by_offset g =
        let a : 1 ≤ at16 s (p + 2) = omega (arith, high_half) in
        let n : at16 s (p + 2) ≤ 65535 = omega (arith, fits16 s (p + 2) k) in
        let q : at32 s (p + 4) ≤ 4294967295 = omega (arith, fits32 s (p + 4) k) in
        simp (from_one, to_last, le-leb 1 (at16 s (p + 2)) a, le-leb (at16 s (p + 2)) 65535 n, le-leb (at32 s (p + 4)) 4294967295 q)

-- an offset of at least 0 among those of at least -1
from_zero : (o : ℕ) → within_ℤ (pos 0) (pos 2147483646) (signed o) ≡ within_ℤ (negsuc 0) (pos 2147483646) (signed o) && ltb o 2147483648
from_zero o = elim (dec_lt o 2147483648) [
  | yes h ↦
      ap (within_ℤ (pos 0) (pos 2147483646)) (signed_pos o h)
      ∙ (λ i. le-leb 0 o (omega arith) i && leb o 2147483646)
      ∙ sym ((λ i. within_ℤ (negsuc 0) (pos 2147483646) (signed_pos o h i) && lt-ltb o 2147483648 h i) ∙ and-true (leb o 2147483646))
  | no h ↦
      let h' : 2147483648 ≤ o = omega arith in
      ap (within_ℤ (pos 0) (pos 2147483646)) (signed_neg o h')
      ∙ sym ((λ i. within_ℤ (negsuc 0) (pos 2147483646) (signed o) && le-ltb o 2147483648 h' i) ∙ and-false (within_ℤ (negsuc 0) (pos 2147483646) (signed o)))
]

pub last_by : (s : Bytes) (p : ℕ) → ordinary_from (pos 0) (tuple_at s p) ≡ ordinary (tuple_at s p) && ltb (at32 s (p + 8)) 2147483648
unfolding ordinary_from tuple_at
last_by s p =
    let o = at32 s (p + 8) in
    let front = (leb 1 (at16 s p) && leb (at16 s p) 65534) && (leb 1 (at16 s (p + 2)) && leb (at16 s (p + 2)) 65535) && leb (at32 s (p + 4)) 4294967295 in
    ap (λ (b : Bool). front && b) (from_zero o) ∙ sym (and_assoc front (within_ℤ (negsuc 0) (pos 2147483646) (signed o)) (ltb o 2147483648))

-- ── markers ──

same_then : (a b : Ordering) → is_eq (ordering_then a b) ≡ is_eq a && is_eq b
same_then Less b = refl
same_then Equal b = refl
same_then Greater b = refl

-- numbers x and y that are equal exactly where u and v are
same_as : (x y u v : ℕ) → (u ≡ v → x ≡ y) → (x ≡ y → u ≡ v) → is_eq (compare_ℕ x y) ≡ eqb u v
same_as x y u v e f = elim (ℕ_cases x y) [
  | inl h ↦ ap is_eq (ℕ_less x y h) ∙ sym (ne_eqb u v (λ q. let w = e q in omega arith))
  | inr r ↦ elim r [
    | inl h ↦ ap is_eq (ℕ_same x y h) ∙ sym (eq-eqb u v (f h))
    | inr h ↦ ap is_eq (ℕ_more x y h) ∙ sym (ne_eqb u v (λ q. let w = e q in omega arith))
  ]
]

raised_same : (o w : ℕ) → o < 4294967296 → w < 4294967296 → raised o ≡ raised w → o ≡ w
raised_same o w h k e = omega arith

-- the two pieces that a tuple is read in, against those of t, whose offset has the bits o
mark : (s : Bytes) (p : ℕ) → Octets s → (t : Tuple) (o : ℕ) → Held t o → is_eq (compare_tuples (tuple_at s p) t) ≡ eqb (at64 s p) (front t) && eqb (at32 s (p + 8)) o
unfolding tuple_at
mark s p k t o h =
    let x = at64 s p in
    let u = at32 s (p + 8) in
    ap is_eq (sym (packed (tuple_at s p) t u o (held_at s p k) h))
    ∙ same_then (compare_ℕ x (front t)) (compare_ℕ (raised u) (raised o))
    ∙ (λ i. same_as x (front t) x (front t) (λ e. e) (λ e. e) i && same_as (raised u) (raised o) u o (ap raised) (raised_same u o (fits32 s (p + 8) k) h.bits) i)

held_m : Held m 0
held_m = record { node = omega arith; sequence = omega arith; bits = omega arith; offset = refl }

held_M : Held M 2147483647
held_M = record { node = omega arith; sequence = omega arith; bits = omega arith; offset = refl }

pub marker_by : (s : Bytes) (p : ℕ) → Octets s → marker (tuple_at s p) ≡ (eqb (at64 s p) 0 && eqb (at32 s (p + 8)) 0) || (eqb (at64 s p) 18446744073709551615 && eqb (at32 s (p + 8)) 2147483647)
unfolding marker
marker_by s p k = λ i. mark s p k m 0 held_m i || mark s p k M 2147483647 held_M i
