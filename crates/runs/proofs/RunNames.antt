-- The names of a run, one by one: `next` and `onward` step by step, the way back by `one_below`, their order, the last offset, by which it is
-- told how far a run's names are names, and where that offset stands in bytes; what the test `is_next` says. Assumes nothing.
use mathlib.Core.Path.{◌≡◌, refl, sym, ap, ◌∙◌}
use mathlib.Core.Logic.{inl, inr}
use mathlib.Core.List.{[], ◌∷◌, ◌++◌}
use mathlib.Core.Bool.{true, false}
use Prim.Native.Nat.{ℕ, zero, suc, ◌+◌, ◌-◌, ◌*◌, ◌<◌, ◌≤◌}
use native.Mathlib.Decide.{dec_lt}
use native.Mathlib.Omega.{arith}
use lib.IntN.{ℤ, pos, negsuc, suc_ℤ, suc-pred, pred-suc}
use lib.ListN.{length}
use Rattle.names.specs.declared.Tuple.{Tuple}
use Rattle.std.specs.declared.cmp.Ordering.{Ordering}
use Rattle.names.specs.Ordering.{Row, compare_ℕ, compare_rows, ◌<ᶻ◌, up, across, down, ◌<ᵗ◌, offset, ◌<ⁿ◌, differ, same, ◌≤ⁿ◌, less, equal}
use Rattle.std.specs.Ordering.{is_eq}
use Rattle.names.specs.Names.{is_name, lowered, one_below}
use Rattle.names.proofs.Laws.{ℕ_less, ℕ_same, ℕ_more, ℕ_cases, Tri, below, level, above, tri_n, tuple_≡, pred_below, row_less, row_more, row_same, <ⁿ_trans}
use Rattle.names.proofs.Validity.{Ordinary, Ends, final, onward as longer, Valid, valid, valid_ends, name_valid, valid_name}
use Rattle.numbers.specs.Bytes.{Bytes, at32, signed}
use Rattle.numbers.proofs.Bools.{yes_no}
use Rattle.numbers.proofs.ReadNumbers.{signed_pos, signed_neg}
use Rattle.slots.specs.Tuples.{tuple_at, tuples_at, tuple_size}
use Rattle.slots.proofs.TuplesInBytes.{length_tuples_at, more_tuples_at}
use Rattle.runs.specs.Runs.{raised, next, onward, is_next}

-- ── step by step ──

-- a name of a run has as many tuples as the first
pub next_length : (a : Row) → length (next a) ≡ length a
unfolding next
next_length [] = refl
next_length (t ∷ []) = refl
next_length (t ∷ u ∷ a) = ap suc (next_length (u ∷ a))

pub onward_length : (k : ℕ) (a : Row) → length (onward k a) ≡ length a
onward_length zero a = refl
onward_length (suc k) a = onward_length k (next a) ∙ next_length a

pub onward_next : (k : ℕ) (a : Row) → onward (suc k) a ≡ next (onward k a)
onward_next zero a = refl
onward_next (suc k) a = onward_next k (next a)

pub onward_add : (j k : ℕ) (a : Row) → onward (j + k) a ≡ onward k (onward j a)
onward_add zero k a = let e : 0 + k ≡ k = omega arith in ap (λ (n : ℕ). onward n a) e
onward_add (suc j) k a = let e : suc j + k ≡ suc (j + k) = omega arith in ap (λ (n : ℕ). onward n a) e ∙ onward_add j k (next a)

-- the tuples before the last stay
pub next_after : (w : Row) (t : Tuple) (a : Row) → next (w ++ (t ∷ a)) ≡ w ++ next (t ∷ a)
unfolding next
next_after [] t a = refl
next_after (s ∷ []) t a = refl
next_after (s ∷ u ∷ w) t a = ap (λ (r : Row). s ∷ r) (next_after (u ∷ w) t a)

pub onward_after : (k : ℕ) (w : Row) (t : Tuple) (a : Row) → onward k (w ++ (t ∷ a)) ≡ w ++ onward k (t ∷ a)
unfolding next
onward_after zero w t a = refl
onward_after (suc k) w t [] = ap (onward k) (next_after w t []) ∙ onward_after k w (raised t) []
onward_after (suc k) w t (u ∷ a) = ap (onward k) (next_after w t (u ∷ a)) ∙ onward_after k w t (next (u ∷ a))

-- a tuple with another offset
abbrev pub with_offset : Tuple → ℤ → Tuple
with_offset t z = record { position = t.position; node = t.node; sequence = t.sequence; offset = z }

-- .. and of the last the offset alone is another
pub onward_last : (k : ℕ) (t : Tuple) {n : ℕ} → t.offset ≡ pos n → onward k (t ∷ []) ≡ with_offset t (pos (n + k)) ∷ []
unfolding next
onward_last zero t {n} e = let f : n ≡ n + 0 = omega arith in ap (λ (z : ℤ). with_offset t z ∷ []) (e ∙ ap pos f)
onward_last (suc k) t {n} e =
    let f : suc n + k ≡ n + suc k = omega arith in
    onward_last k (raised t) (ap suc_ℤ e) ∙ ap (λ (j : ℕ). with_offset t (pos j) ∷ []) f

-- ── the way back ──

pub lowered_raised : (t : Tuple) → lowered (raised t) ≡ t
lowered_raised t = tuple_≡ refl refl refl (pred-suc t.offset)

-- one below the next is the name itself, and the next after one below
pub next_back : (a : Row) → one_below (next a) ≡ a
unfolding next one_below
next_back [] = refl
next_back (t ∷ []) = ap (λ (s : Tuple). s ∷ []) (lowered_raised t)
next_back (t ∷ u ∷ []) = ap (λ (r : Row). t ∷ r) (next_back (u ∷ []))
next_back (t ∷ u ∷ v ∷ a) = ap (λ (r : Row). t ∷ r) (next_back (u ∷ v ∷ a))

pub back_next : (a : Row) → next (one_below a) ≡ a
unfolding next one_below
back_next [] = refl
back_next (t ∷ []) = ap (λ (s : Tuple). s ∷ []) (tuple_≡ refl refl refl (suc-pred t.offset))
back_next (t ∷ u ∷ []) = ap (λ (r : Row). t ∷ r) (back_next (u ∷ []))
back_next (t ∷ u ∷ v ∷ a) = ap (λ (r : Row). t ∷ r) (back_next (u ∷ v ∷ a))

pub next_from : {a b : Row} → next b ≡ a → b ≡ one_below a
next_from {b} e = sym (next_back b) ∙ ap one_below e

pub next_one : {a b : Row} → next a ≡ next b → a ≡ b
next_one {a} {b} e = sym (next_back a) ∙ ap one_below e ∙ next_back b

-- ── the order ──

raised_above : (t : Tuple) → t <ᵗ raised t
raised_above t = offset refl refl refl (rw (pred-suc t.offset) at (pred_below (suc_ℤ t.offset)))

pub next_above : (a : Row) → 1 ≤ length a → a <ⁿ next a
unfolding next
next_above [] h = absurd (omega arith)
next_above (t ∷ []) h = differ (raised_above t)
next_above (t ∷ u ∷ a) h = same refl (next_above (u ∷ a) (omega arith))

module _ (a : Row) (h : 1 ≤ length a) where
  pub onward_rises : (j k : ℕ) → j < k → onward j a <ⁿ onward k a
  onward_rises j zero l = absurd (omega arith)
  onward_rises j (suc k) l =
      let step : onward k a <ⁿ onward (suc k) a = rw (onward_next k a) (next_above (onward k a) (omega (arith, onward_length k a))) in
      elim (ℕ_cases j k) [
        | inl g ↦ <ⁿ_trans (onward_rises j k g) step
        | inr r ↦ elim r [ inl e ↦ rw e step | inr g ↦ absurd (omega arith) ]
      ]

  pub onward_no_lower : (j k : ℕ) → j ≤ k → onward j a ≤ⁿ onward k a
  onward_no_lower j k l = elim (dec_lt j k) [
    | yes g ↦ less (onward_rises j k g)
    | no g ↦ let e : j ≡ k = omega arith in equal (ap (λ (n : ℕ). onward n a) e)
  ]

  -- two names of a run compare as their numbers
  pub onward_compare : (j k : ℕ) → compare_rows (onward j a) (onward k a) ≡ compare_ℕ j k
  onward_compare j k = elim (ℕ_cases j k) [
    | inl g ↦ row_less (onward_rises j k g) ∙ sym (ℕ_less j k g)
    | inr r ↦ elim r [
      | inl e ↦ ap (λ (i : ℕ). compare_rows (onward i a) (onward k a)) e ∙ row_same (onward k a) ∙ sym (ℕ_same j k e)
      | inr g ↦ row_more (onward_rises k j g) ∙ sym (ℕ_more j k g)
    ]
  ]

-- ── the last offset ──

-- of no tuples one that no name ends with, so that a row whose last offset is at least 0 has a tuple
unfoldable pub last_offset : Row → ℤ
last_offset [] = negsuc 0
last_offset (t ∷ []) = t.offset
last_offset (t ∷ u ∷ a) = last_offset (u ∷ a)

pub last_long : (a : Row) {n : ℕ} → last_offset a ≡ pos n → 1 ≤ length a
unfolding last_offset
last_long [] e = absurd (let z : ◌≡◌ {A = ℕ} 0 1 = cc in omega arith)
last_long (t ∷ a) e = omega arith

pub last_after : (w : Row) (t : Tuple) (a : Row) → last_offset (w ++ (t ∷ a)) ≡ last_offset (t ∷ a)
unfolding last_offset
last_after [] t a = refl
last_after (s ∷ []) t a = refl
last_after (s ∷ u ∷ w) t a = last_after (u ∷ w) t a

next_offset : (a : Row) → 1 ≤ length a → last_offset (next a) ≡ suc_ℤ (last_offset a)
unfolding next last_offset
next_offset [] h = absurd (omega arith)
next_offset (t ∷ []) h = refl
next_offset (t ∷ u ∷ []) h = refl
next_offset (t ∷ u ∷ v ∷ a) h = next_offset (u ∷ v ∷ a) (omega arith)

-- "each one more than the one before"
pub onward_offset : (k : ℕ) (a : Row) {n : ℕ} → last_offset a ≡ pos n → last_offset (onward k a) ≡ pos (n + k)
onward_offset zero a {n} e = let f : n ≡ n + 0 = omega arith in e ∙ ap pos f
onward_offset (suc k) a {n} e =
    let f : suc n + k ≡ n + suc k = omega arith in
    onward_offset k (next a) (next_offset a (last_long a e) ∙ ap suc_ℤ e) ∙ ap pos f

-- ── names ──

-- the last offset of a name is "at least 0", and at most 2147483646
between : {z : ℤ} → negsuc 0 <ᶻ z → z <ᶻ pos 2147483647 → (n : ℕ) × (z ≡ pos n) × (n ≤ 2147483646)
between (across {b}) (up h) = (b, refl, omega arith)
between (down h) k = absurd (omega arith)

ends_offset : {a : Row} → Ends a → (n : ℕ) × (last_offset a ≡ pos n) × (n ≤ 2147483646)
unfolding last_offset
ends_offset (final o h) = between h o.offset_max
ends_offset (longer {t} {a} m e) = go a (ends_offset e)
  where
    go : (a : Row) → (n : ℕ) × (last_offset a ≡ pos n) × (n ≤ 2147483646) → (n : ℕ) × (last_offset (t ∷ a) ≡ pos n) × (n ≤ 2147483646)
    go [] r = absurd (let h = last_long [] r.1 in omega arith)
    go (u ∷ a) r = r

pub name_offset : (a : Row) → is_name a ≡ true → (n : ℕ) × (last_offset a ≡ pos n) × (n ≤ 2147483646)
name_offset a e = ends_offset (valid_ends (name_valid a e))

module _ {n : ℕ} (l : n < 2147483646) where
  raised_ordinary : {t : Tuple} → Ordinary t → t.offset ≡ pos n → Ordinary (raised t)
  raised_ordinary o e = record {
    position_min = o.position_min;
    position_max = o.position_max;
    node_min = o.node_min;
    node_max = o.node_max;
    sequence_max = o.sequence_max;
    offset_min = rw e (across {a = 1} {b = suc n});
    offset_max = rw e (up {a = suc n} {b = 2147483647} (omega arith));
  }

  next_ends : {a : Row} → Ends a → last_offset a ≡ pos n → Ends (next a)
  unfolding next last_offset
  next_ends (final o h) e = final (raised_ordinary o e) (rw e (across {a = 0} {b = suc n}))
  next_ends (longer {t} {a} m r) e = go a r e (next_ends r)
    where
      go : (a : Row) → Ends a → last_offset (t ∷ a) ≡ pos n → (last_offset a ≡ pos n → Ends (next a)) → Ends (next (t ∷ a))
      go [] r e f = absurd (let h = last_long [] (ends_offset r).1 in omega arith)
      go (u ∷ a) r e f = longer m (f e)

  next_valid : (a : Row) → Valid a → last_offset a ≡ pos n → Valid (next a)
  unfolding next last_offset
  next_valid [] x'' e = elim x'' [ ]
  next_valid (t ∷ []) (valid o r) e = valid (raised_ordinary o e) (next_ends r e)
  next_valid (t ∷ u ∷ a) (valid o r) e = valid o (next_ends r e)

-- so far the names of a run are names ..
pub onward_name : (k : ℕ) (a : Row) {n : ℕ} → is_name a ≡ true → last_offset a ≡ pos n → n + k ≤ 2147483646 → is_name (onward k a) ≡ true
onward_name zero a e f h = e
onward_name (suc k) a {n} e f h =
    let l : n < 2147483646 = omega arith in
    onward_name k (next a) (valid_name (next_valid l a (name_valid a e) f)) (onward_offset 1 a f) (omega arith)

-- .. and no further
pub onward_named : (k : ℕ) (a : Row) {n : ℕ} → last_offset a ≡ pos n → is_name (onward k a) ≡ true → n + k ≤ 2147483646
onward_named k a {n} f g =
    let r = name_offset (onward k a) g in
    let o = onward_offset k a f in
    let q = r.1 in
    let e : n + k ≡ r.0 = cc in
    omega (arith, r.2)

-- what lies between two names of a run is a name
pub onward_between : (j k : ℕ) (a : Row) → is_name a ≡ true → is_name (onward k a) ≡ true → j ≤ k → is_name (onward j a) ≡ true
onward_between j k a e g h =
    let r = name_offset a e in
    onward_name j a e r.1 (omega (arith, onward_named k a r.1 g))

-- ── the last offset in bytes ──

-- the tuples before the last, and the last
pub to_last : (s : Bytes) (p n : ℕ) → 1 ≤ n → tuples_at s p n ≡ tuples_at s p (n - 1) ++ (tuple_at s (p + tuple_size * (n - 1)) ∷ [])
to_last s p n h = let e : n ≡ n - 1 + 1 = omega arith in ap (tuples_at s p) e ∙ sym (more_tuples_at s p (n - 1))

pub last_tuple : (s : Bytes) (p n : ℕ) → 1 ≤ n → last_offset (tuples_at s p n) ≡ (tuple_at s (p + tuple_size * (n - 1))).offset
unfolding last_offset
last_tuple s p n h = ap last_offset (to_last s p n h) ∙ last_after (tuples_at s p (n - 1)) (tuple_at s (p + tuple_size * (n - 1))) []

pub last_at : (s : Bytes) (p n : ℕ) → 1 ≤ n → last_offset (tuples_at s p n) ≡ signed (at32 s (p + tuple_size * n - 4))
unfolding tuple_at
last_at s p n h =
    let e : p + tuple_size * (n - 1) + 8 ≡ p + tuple_size * n - 4 = omega arith in
    last_tuple s p n h ∙ ap (λ (q : ℕ). signed (at32 s q)) e

signed_is : (v : ℕ) {n : ℕ} → signed v ≡ pos n → n ≡ v
signed_is v e = elim (dec_lt v 2147483648) [
  | yes h ↦ let f = signed_pos v h in cc
  | no h ↦ let f = signed_neg v (omega arith) in cc
]

-- a name has a tuple, and of its last offset the bits are the number
pub name_count : (s : Bytes) (p n : ℕ) → is_name (tuples_at s p n) ≡ true → 1 ≤ n
name_count s p n e = omega (arith, last_long (tuples_at s p n) (name_offset (tuples_at s p n) e).1, length_tuples_at s p n)

pub name_at : (s : Bytes) (p n : ℕ) → is_name (tuples_at s p n) ≡ true →
    (last_offset (tuples_at s p n) ≡ pos (at32 s (p + tuple_size * n - 4))) × (at32 s (p + tuple_size * n - 4) ≤ 2147483646)
name_at s p n e =
    let r = name_offset (tuples_at s p n) e in
    let v = signed_is (at32 s (p + tuple_size * n - 4)) (sym (last_at s p n (name_count s p n e)) ∙ r.1) in
    (r.1 ∙ ap pos v, omega (arith, v, r.2))

-- .. and so far it can be raised
pub onward_at : (s : Bytes) (p n k : ℕ) → is_name (tuples_at s p n) ≡ true → is_name (onward k (tuples_at s p n)) ≡ true → at32 s (p + tuple_size * n - 4) + k ≤ 2147483646
onward_at s p n k e g = onward_named k (tuples_at s p n) (name_at s p n e).0 g

-- ── the test ──

pub next_is : (a b : Row) → is_next a b ≡ true → next a ≡ b
next_is a b e = go (compare_rows (next a) b) (tri_n (next a) b) e
  where
    go : (o : Ordering) → Tri ◌<ⁿ◌ (next a) b o → is_eq o ≡ true → next a ≡ b
    go _ (below h) f = yes_no f refl
    go _ (level h) f = h
    go _ (above h) f = yes_no f refl

pub is_next_lem : (a b : Row) → next a ≡ b → is_next a b ≡ true
is_next_lem a b e = ap (λ (c : Row). is_eq (compare_rows c b)) e ∙ ap is_eq (row_same b)

pub next_not : (a b : Row) → is_next a b ≡ false → ¬ (next a ≡ b)
next_not a b f e = yes_no (is_next_lem a b e) f
