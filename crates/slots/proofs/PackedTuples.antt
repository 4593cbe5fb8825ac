-- Tuples compared in two pieces, position, node and sequence as one number and the offset raised by 2³¹ (`packed`), of tuples in bytes
-- (`held_at`, `front_at`) and by value (`held_by`). What is left of a comparison of two rows in bytes (`left_all`, `left_same`, `left_less`,
-- `left_more`, `left_at`, `left_not`, `left_differ`), after equal tuples (`alike_compare`, `left_alike`), and of one with a tuple
-- (`first_tuple`). Assumes nothing.
use Rattle.std.proofs.Common.{◌≡◌, ℕ, ◌+◌, ◌-◌, ◌*◌, ◌%◌, ◌<◌, ◌≤◌, min, true, false, [], ◌∷◌, ◌++◌, length, get_or, drop, sym, refl, ap, ◌∙◌, inl, inr, arith, take_all}
use native.Mathlib.Decide.{dec_le, dec_lt}
use Rattle.names.specs.declared.Tuple.{Tuple}
use Rattle.std.specs.declared.cmp.Ordering.{Ordering}
use Rattle.std.specs.declared.cmp.Ordering.TheVariants.{Less, Equal, Greater}
use Rattle.names.specs.Ordering.{Row, compare_ℕ, compare_ℤ, compare_tuples, compare_rows}
use Rattle.std.specs.Ordering.{ordering_then, is_lt, is_eq, is_ne}
use Rattle.names.specs.Names.{m}
use Rattle.names.proofs.Laws.{ℕ_less, ℕ_same, ℕ_more, ℕ_cases, tuple_same, same_tuple}
use Rattle.names.proofs.Digits.{compare_by, digits}
use Rattle.names.proofs.CompareTuples.{left, left_same as both_ended, left_less as first_ended, left_more as second_ended, left_at as turn, to_one, after_same, after_more}
use Rattle.numbers.specs.Bytes.{Bytes, Octets, at32, at64, signed, unsigned}
use Rattle.numbers.proofs.ReadNumbers.{fits16, fits32, signed_pos, signed_neg}
use Rattle.numbers.proofs.TwosComplement.{Word, signed_unsigned, unsigned_fits}
use Rattle.slots.specs.Tuples.{tuple_at, tuples_at, tuple_size}
use Rattle.slots.proofs.TuplesInBytes.{length_tuples_at, get_or_tuples_at, drop_tuples_at, split_tuples_at, more_tuples_at}

-- position, node and sequence as one number
abbrev pub front : Tuple → ℕ
front t = (t.position * 65536 + t.node) * 4294967296 + t.sequence

-- the bits of an offset, raised
abbrev pub raised : ℕ → ℕ
raised o = (o + 2147483648) % 4294967296

-- ── offsets raised ──

raised_pos : (a : ℕ) → a < 2147483648 → raised a ≡ a + 2147483648
raised_pos a h = omega arith

raised_neg : (a : ℕ) → 2147483648 ≤ a → a < 4294967296 → raised a ≡ a - 2147483648
raised_neg a h k = omega arith

-- raised numbers compare as the signed ones do
signed_by : (a b : ℕ) → a < 4294967296 → b < 4294967296 → compare_ℤ (signed a) (signed b) ≡ compare_ℕ (raised a) (raised b)
signed_by a b p q = elim (dec_lt a 2147483648) [
  | yes h ↦ let ra = raised_pos a h in elim (dec_lt b 2147483648) [
    | yes k ↦
        let rb = raised_pos b k in
        (λ i. compare_ℤ (signed_pos a h i) (signed_pos b k i)) ∙ sym (compare_by (raised a) (raised b) a b (λ g. omega arith) (λ g. omega arith) (λ g. omega arith))
    | no k ↦
        let k' : 2147483648 ≤ b = omega arith in
        let rb = raised_neg b k' q in
        (λ i. compare_ℤ (signed_pos a h i) (signed_neg b k' i)) ∙ sym (ℕ_more (raised a) (raised b) (omega arith))
  ]
  | no h ↦ let h' : 2147483648 ≤ a = omega arith in let ra = raised_neg a h' p in elim (dec_lt b 2147483648) [
    | yes k ↦
        let rb = raised_pos b k in
        (λ i. compare_ℤ (signed_neg a h' i) (signed_pos b k i)) ∙ sym (ℕ_less (raised a) (raised b) (omega arith))
    | no k ↦
        let k' : 2147483648 ≤ b = omega arith in
        let rb = raised_neg b k' q in
        (λ i. compare_ℤ (signed_neg a h' i) (signed_neg b k' i))
        ∙ sym (compare_by (raised a) (raised b) (4294967295 - b) (4294967295 - a) (λ g. omega arith) (λ g. omega arith) (λ g. omega arith))
  ]
]

-- ── tuples ──

then_then : (a b c : Ordering) → ordering_then (ordering_then a b) c ≡ ordering_then a (ordering_then b c)
then_then Less b c = refl
then_then Equal b c = refl
then_then Greater b c = refl

-- a tuple as the code has it, o the bits of its offset
pub record Held (t : Tuple) (o : ℕ) : Type 0 where
  pub node : t.node < 65536
  pub sequence : t.sequence < 4294967296
  pub bits : o < 4294967296
  pub offset : t.offset ≡ signed o

pub packed : (s t : Tuple) (o o' : ℕ) → Held s o → Held t o' → ordering_then (compare_ℕ (front s) (front t)) (compare_ℕ (raised o) (raised o')) ≡ compare_tuples s t
unfolding compare_tuples
packed s t o o' h k =
    let P = compare_ℕ s.position t.position in
    let N = compare_ℕ s.node t.node in
    let Q = compare_ℕ s.sequence t.sequence in
    let R = compare_ℕ (raised o) (raised o') in
    let z : compare_ℤ s.offset t.offset ≡ R = (λ i. compare_ℤ (h.offset i) (k.offset i)) ∙ signed_by o o' h.bits k.bits in
    sym
    ((λ i. ordering_then P (ordering_then N (ordering_then Q (z i))))
    ∙ sym (then_then P N (ordering_then Q R))
    ∙ sym (then_then (ordering_then P N) Q R)
    ∙ (λ i. ordering_then (ordering_then (sym (digits 65536 s.position s.node t.position t.node h.node k.node) i) Q) R)
    ∙ (λ i. ordering_then (sym (digits 4294967296 (s.position * 65536 + s.node) s.sequence (t.position * 65536 + t.node) t.sequence h.sequence k.sequence) i) R))

pub held_at : (s : Bytes) (p : ℕ) → Octets s → Held (tuple_at s p) (at32 s (p + 8))
unfolding tuple_at
held_at s p k = record { node = fits16 s (p + 2) k; sequence = fits32 s (p + 4) k; bits = fits32 s (p + 8) k; offset = refl }

pub held_by : (t : Tuple) → t.node < 65536 → t.sequence < 4294967296 → Word t.offset → Held t (unsigned t.offset)
held_by t n q w = record { node = n; sequence = q; bits = unsigned_fits w; offset = sym (signed_unsigned w) }

pub front_at : (s : Bytes) (p : ℕ) → front (tuple_at s p) ≡ at64 s p
unfolding tuple_at
front_at s p = refl

-- ── rows where they stand ──

-- of the n tuples from p on in a and the k from q on in b, those from number i on
abbrev pub left_from : Bytes → ℕ → ℕ → Bytes → ℕ → ℕ → ℕ → Ordering
left_from a p n b q k i = left (tuples_at a p n) (tuples_at b q k) n k i

-- a comparison that is not Equal decides
decides : (o r : Ordering) → is_eq o ≡ false → is_lt o ≡ is_lt (ordering_then o r)
decides Less r e = refl
decides Equal r e = absurd (let z : ◌≡◌ {A = ℕ} 0 1 = cc in omega arith)
decides Greater r e = refl

pub differs : (o r : Ordering) → is_ne o ≡ true → o ≡ ordering_then o r
differs Less r e = refl
differs Equal r e = absurd (let z : ◌≡◌ {A = ℕ} 0 1 = cc in omega arith)
differs Greater r e = refl

pub agrees : (o r : Ordering) → is_ne o ≡ false → r ≡ ordering_then o r
agrees Less r e = absurd (let z : ◌≡◌ {A = ℕ} 0 1 = cc in omega arith)
agrees Equal r e = refl
agrees Greater r e = absurd (let z : ◌≡◌ {A = ℕ} 0 1 = cc in omega arith)

module _ (a : Bytes) (p n : ℕ) (b : Bytes) (q k : ℕ) where
  long : n ≤ length (tuples_at a p n)
  long = omega (arith, length_tuples_at a p n)

  long' : k ≤ length (tuples_at b q k)
  long' = omega (arith, length_tuples_at b q k)

  left_rows : (i : ℕ) → left_from a p n b q k i ≡ compare_rows (drop i (tuples_at a p n)) (drop i (tuples_at b q k))
  left_rows i = λ j. compare_rows (drop i (take_all n (tuples_at a p n) (omega (arith, length_tuples_at a p n)) j)) (drop i (take_all k (tuples_at b q k) (omega (arith, length_tuples_at b q k)) j))

  pub left_all : left_from a p n b q k 0 ≡ compare_rows (tuples_at a p n) (tuples_at b q k)
  left_all = left_rows 0

  pub left_same : (i : ℕ) → n ≤ i → k ≤ i → Equal ≡ left_from a p n b q k i
  left_same i h g = both_ended (tuples_at a p n) (tuples_at b q k) n k i m long long' h g

  pub left_less : (i : ℕ) → n ≤ i → i < k → Less ≡ left_from a p n b q k i
  left_less i h g = first_ended (tuples_at a p n) (tuples_at b q k) n k i m long long' h g

  pub left_more : (i : ℕ) → i < n → k ≤ i → Greater ≡ left_from a p n b q k i
  left_more i h g = second_ended (tuples_at a p n) (tuples_at b q k) n k i m long long' h g

  -- at a turn: the tuples at i compare as o
  pub left_at : (i : ℕ) {o r : Ordering} → r ≡ compare_tuples (tuple_at a (p + tuple_size * i)) (tuple_at b (q + tuple_size * i)) → r ≡ o → i < n → i < k →
      ordering_then o (left_from a p n b q k (i + 1)) ≡ left_from a p n b q k i
  left_at i e f h g =
      let s : compare_tuples (tuple_at a (p + tuple_size * i)) (tuple_at b (q + tuple_size * i)) ≡ compare_tuples (get_or (tuples_at a p n) i m) (get_or (tuples_at b q k) i m) =
      λ j. compare_tuples (sym (get_or_tuples_at a p n i h) j) (sym (get_or_tuples_at b q k i g) j) in
      turn (tuples_at a p n) (tuples_at b q k) n k i m long long' (sym f ∙ e ∙ s) h g

  -- at the end of the shorter, their lengths decide
  pub left_end : (i : ℕ) → i ≡ min n k → compare_ℕ n k ≡ left_from a p n b q k i
  left_end i e = elim (ℕ_cases n k) [
    | inl h ↦ ℕ_less n k h ∙ left_less i (omega arith) (omega arith)
    | inr r ↦ elim r [
      | inl h ↦ ℕ_same n k h ∙ left_same i (omega arith) (omega arith)
      | inr h ↦ ℕ_more n k h ∙ left_more i (omega arith) (omega arith)
    ]
  ]

  -- the second has ended
  pub left_not : (i : ℕ) → k ≤ i → false ≡ is_lt (left_from a p n b q k i)
  left_not i g = elim (dec_le n i) [ yes h ↦ ap is_lt (left_same i h g) | no h ↦ ap is_lt (left_more i (omega arith) g) ]

  -- the tuples at i differ
  pub left_differ : (i : ℕ) → i < n → i < k →
      is_eq (compare_tuples (tuple_at a (p + tuple_size * i)) (tuple_at b (q + tuple_size * i))) ≡ false →
      is_lt (compare_tuples (tuple_at a (p + tuple_size * i)) (tuple_at b (q + tuple_size * i))) ≡ is_lt (left_from a p n b q k i)
  left_differ i h g e =
      decides (compare_tuples (tuple_at a (p + tuple_size * i)) (tuple_at b (q + tuple_size * i))) (left_from a p n b q k (i + 1)) e
      ∙ ap is_lt (left_at i refl refl h g)

-- ── rows that begin alike ──

is_same_lem : (o : Ordering) → is_eq o ≡ true → o ≡ Equal
is_same_lem Less e = absurd (let z : ◌≡◌ {A = ℕ} 0 1 = cc in omega arith)
is_same_lem Equal e = refl
is_same_lem Greater e = absurd (let z : ◌≡◌ {A = ℕ} 0 1 = cc in omega arith)

-- what follows equal tuples decides
after_alike : (x a b : Row) → compare_rows (x ++ a) (x ++ b) ≡ compare_rows a b
unfolding compare_rows
after_alike [] a b = refl
after_alike (t ∷ x) a b = ap (λ (o : Ordering). ordering_then o (compare_rows (x ++ a) (x ++ b))) (tuple_same t) ∙ after_alike x a b

module _ (a : Bytes) (p : ℕ) (b : Bytes) (q : ℕ) (i : ℕ) (e : tuples_at a p i ≡ tuples_at b q i) where
  -- one more tuple is the same
  pub alike_more : is_eq (compare_tuples (tuple_at a (p + tuple_size * i)) (tuple_at b (q + tuple_size * i))) ≡ true → tuples_at a p (i + 1) ≡ tuples_at b q (i + 1)
  alike_more f =
      let t = tuple_at a (p + tuple_size * i) in
      let u = tuple_at b (q + tuple_size * i) in
      let g = same_tuple t u (is_same_lem (compare_tuples t u) f) in
      sym (more_tuples_at a p i) ∙ (λ j. e j ++ (g j ∷ [])) ∙ more_tuples_at b q i

  -- the rows compare as what is left of them does
  pub alike_compare : (n k : ℕ) → i ≤ n → i ≤ k → compare_rows (tuples_at a (p + tuple_size * i) (n - i)) (tuples_at b (q + tuple_size * i) (k - i)) ≡ compare_rows (tuples_at a p n) (tuples_at b q k)
  alike_compare n k h g =
      let x = tuples_at a (p + tuple_size * i) (n - i) in
      let y = tuples_at b (q + tuple_size * i) (k - i) in
      sym (after_alike (tuples_at b q i) x y)
      ∙ (λ j. compare_rows (sym e j ++ x) (tuples_at b q i ++ y))
      ∙ (λ j. compare_rows (split_tuples_at a p n i h j) (split_tuples_at b q k i g j))

  -- .. and as what is left from i on
  pub left_alike : (n k : ℕ) → i ≤ n → i ≤ k → left_from a p n b q k i ≡ compare_rows (tuples_at a p n) (tuples_at b q k)
  left_alike n k h g =
      left_rows a p n b q k i
      ∙ (λ j. compare_rows (sym (drop_tuples_at a p n i h) j) (sym (drop_tuples_at b q k i g) j))
      ∙ alike_compare n k h g

-- ── a row and one tuple ──

-- the first tuple compares with t as o
pub first_tuple : (a : Bytes) (p n : ℕ) (t : Tuple) {o r : Ordering} → 1 ≤ n → r ≡ compare_tuples (tuple_at a p) t → r ≡ o →
    ordering_then o (compare_rows (drop 1 (tuples_at a p n)) []) ≡ compare_rows (tuples_at a p n) (t ∷ [])
first_tuple a p n t h e f =
    let z : p + tuple_size * 0 ≡ p = omega arith in
    let g : get_or (tuples_at a p n) 0 m ≡ tuple_at a p = get_or_tuples_at a p n 0 h ∙ ap (tuple_at a) z in
    to_one (tuples_at a p n) t m (sym f ∙ e ∙ ap (λ (s : Tuple). compare_tuples s t) (sym g)) (omega (arith, length_tuples_at a p n))

-- whether it has more tuples decides
pub after_one : (a : Bytes) (p n : ℕ) → 1 ≤ n → compare_ℕ n 1 ≡ compare_rows (drop 1 (tuples_at a p n)) []
after_one a p n h = elim (dec_lt n 2) [
  | yes g ↦ ℕ_same n 1 (omega arith) ∙ after_same (tuples_at a p n) (omega (arith, length_tuples_at a p n))
  | no g ↦ ℕ_more n 1 (omega arith) ∙ after_more (tuples_at a p n) (omega (arith, length_tuples_at a p n))
]
