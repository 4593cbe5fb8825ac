-- What `beside_of` answers is so (`says`), the laws of specs/Laws.antt hold (`laws`), and each name of a run compares with another as
-- what `beside_of` answers tells (`compared`). Assumes nothing.
use mathlib.Core.Path.{◌≡◌, refl, sym, ap, ◌∙◌, subst}
use mathlib.Core.Logic.{inl, inr}
use mathlib.Core.List.{[], ◌∷◌, ◌++◌, append-nil}
use mathlib.Core.Bool.{Bool, true, false, cond}
use Prim.Native.Nat.{ℕ, ◌+◌, ◌-◌, ◌<◌, ◌≤◌}
use native.Mathlib.Decide.{dec_le}
use native.Mathlib.Omega.{arith}
use borrow.Author.Tests.{le-leb, lt-leb}
use lib.Dec.{leb, eqb-suc-zero}
use lib.IntN.{ℤ, pos, suc_ℤ, ℤ_discrete}
use lib.ListN.{length, length-append}
use lib.Signed.{lt_z}
use Rattle.names.specs.declared.Tuple.{Tuple}
use Rattle.std.specs.declared.cmp.Ordering.{Ordering}
use Rattle.std.specs.declared.cmp.Ordering.TheVariants.{Less, Greater}
use Rattle.names.specs.Ordering.{Row, compare_ℕ, compare_tuples, compare_rows, ◌<ᶻ◌, up, across, ◌<ᵗ◌, offset, ◌<ⁿ◌, ends, differ, same}
use Rattle.names.specs.Names.{is_name, lowered, one_below}
use Rattle.names.proofs.Laws.{Tri, below as is_below, level as is_level, above as is_above, tuple_≡, tri_t, <ᵗ_trans, <ᵗ_irrefl, <ⁿ_trans, <ⁿ_irrefl, <≤_trans, ≤<_trans, row_less, row_more, lowered_next, ++_prefix, Before as BeforeRow, prefix, apart as apart_row, before as before_row}
use Rattle.names.proofs.TestedOrder.{above_none}
use Rattle.slots.proofs.RoundTrip.{name_long}
use Rattle.runs.specs.declared.Stand.{Stand}
use Rattle.runs.specs.declared.Stand.TheVariants.{Below, Before, At, Beyond, Above}
use Rattle.runs.specs.Runs.{raised, next, onward}
use Rattle.runs.specs.Beside.{decided, compare_fronts, by_offsets, is_empty, beside_of}
use Rattle.runs.specs.Laws.{Says, below, before, at, beyond, above, Laws}
use Rattle.runs.proofs.RunNames.{next_length, onward_length, onward_after, with_offset, onward_last, lowered_raised, next_back, back_next, next_from, next_above, onward_rises, onward_no_lower, onward_compare, last_offset, last_long, name_offset}
use Rattle.runs.proofs.TupleFronts.{front_of, fronts, apart}
use Rattle.runs.proofs.ByOffsets.{is_lower, right_before, lower, lower_deeper, not_lower, reaching}

-- ── beside a run of names of one tuple ──

-- of different depths no name is next to another
not_deep : (a b : Row) → ¬ (length b ≡ length a) → ¬ (next b ≡ a)
not_deep a b n e = n (sym (next_length b) ∙ ap length e)

still_lower : {z : ℤ} {x : ℕ} (k : ℕ) → z <ᶻ pos x → z <ᶻ pos (x + k)
still_lower {x} k (up {a} h) = up {a = a} {b = x + k} (omega arith)
still_lower k across = across

-- the run begins with t, whose offset is x, and the name with u
module _ (t u : Tuple) {x : ℕ} (e : t.offset ≡ pos x) where
  abbrev SaysOne : Row → Stand → Type 0
  SaysOne b r = Says (t ∷ []) (u ∷ b) r

  under : (b : Row) → front_of u <ᵗ front_of t → (k : ℕ) → u ∷ b <ⁿ onward k (t ∷ [])
  under b h k = rw (onward_last k t e) (differ (apart u t h u.offset (pos (x + k))))

  over : (b : Row) → front_of t <ᵗ front_of u → (k : ℕ) → onward k (t ∷ []) <ⁿ u ∷ b
  over b h k = rw (onward_last k t e) (differ (apart t u h (pos (x + k)) u.offset))

  not_before : (b : Row) → front_of u <ᵗ front_of t → ¬ (next (u ∷ b) ≡ t ∷ [])
  unfolding one_below
  not_before b h f =
      let g : u ∷ b ≡ lowered t ∷ [] = next_from f in
      let i : u ≡ lowered t = cc in
      <ᵗ_irrefl (rw (ap front_of i) at h)

  -- by the offset z of u, where all before it is the same
  module _ (g : front_of t ≡ front_of u) where
    equal_to : (z : ℤ) → u.offset ≡ z → u ≡ with_offset t z
    equal_to z f = tuple_≡ (ap (λ (s : Tuple). s.position) (sym g)) (ap (λ (s : Tuple). s.node) (sym g)) (ap (λ (s : Tuple). s.sequence) (sym g)) f

    lower_than : (z : ℤ) → u.offset ≡ z → z <ᶻ pos x → (b : Row) (k : ℕ) → u ∷ b <ⁿ onward k (t ∷ [])
    lower_than z f h b k = rw (onward_last k t e, equal_to z f) (differ (offset refl refl refl (still_lower k h)))

    is_before : (z : ℤ) → u.offset ≡ z → suc_ℤ z ≡ pos x → next (u ∷ []) ≡ t ∷ []
    unfolding next
    is_before z f h = ap (λ (s : Tuple). s ∷ []) (ap raised (equal_to z f) ∙ ap (with_offset t) (h ∙ sym e))

    no_before : (z : ℤ) → u.offset ≡ z → ¬ (suc_ℤ z ≡ pos x) → ¬ (next (u ∷ []) ≡ t ∷ [])
    unfolding next
    no_before z f h i =
        let j : raised u ≡ t = cc in
        h (ap suc_ℤ (sym f) ∙ ap (λ (s : Tuple). s.offset) j ∙ e)

    under_first : (b : Row) (z : ℤ) → u.offset ≡ z → z <ᶻ pos x → SaysOne b (by_offsets (pos x) z (is_empty b))
    under_first [] z f h = elim (ℤ_discrete (suc_ℤ z) (pos x)) [
      | yes q ↦ subst (SaysOne []) (sym (right_before z x q)) (before (is_before z f q))
      | no n ↦ subst (SaysOne []) (sym (lower z x h n)) (below (lower_than z f h []) (no_before z f n))
    ]
    under_first (v ∷ b) z f h =
        subst (SaysOne (v ∷ b)) (sym (ap (by_offsets (pos x) z) (eqb-suc-zero (length b)) ∙ lower_deeper z x h))
        (below (lower_than z f h (v ∷ b)) (not_deep (t ∷ []) (u ∷ v ∷ b) (λ q. omega arith)))

    -- not below the first: the offset tells which of the run it is, or which it begins with
    the_name : (y : ℕ) → u.offset ≡ pos y → x ≤ y → u ∷ [] ≡ onward (y - x) (t ∷ [])
    the_name y f h =
        let q : y ≡ x + (y - x) = omega arith in
        ap (λ (s : Tuple). s ∷ []) (equal_to (pos y) f ∙ ap (λ (n : ℕ). with_offset t (pos n)) q) ∙ sym (onward_last (y - x) t e)

    from_first : (b : Row) (y : ℕ) → u.offset ≡ pos y → x ≤ y → SaysOne b (by_offsets (pos x) (pos y) (is_empty b))
    from_first [] y f h = subst (SaysOne []) (sym (reaching y x true h)) (at (the_name y f h))
    from_first (v ∷ b) y f h =
        subst (SaysOne (v ∷ b)) (sym (ap (by_offsets (pos x) (pos y)) (eqb-suc-zero (length b)) ∙ reaching y x false h))
        (beyond v b (ap (λ (r : Row). r ++ (v ∷ b)) (the_name y f h)))

    by_offset : (b : Row) → SaysOne b (by_offsets (pos x) u.offset (is_empty b))
    by_offset b = by (lt_z u.offset (pos x)) refl
      where
        by : (c : Bool) → lt_z u.offset (pos x) ≡ c → SaysOne b (by_offsets (pos x) u.offset (is_empty b))
        by true h = under_first b u.offset refl (is_lower u.offset x h)
        by false h =
            let r = not_lower u.offset x h in
            subst (λ (z : ℤ). SaysOne b (by_offsets (pos x) z (is_empty b))) (sym r.1) (from_first b r.0 r.1 r.2)

  one_tuple : (b : Row) → SaysOne b (decided (compare_fronts t u) (by_offsets t.offset u.offset (is_empty b)))
  one_tuple b =
      subst (λ (z : ℤ). SaysOne b (decided (compare_fronts t u) (by_offsets z u.offset (is_empty b)))) (sym e) (go (compare_fronts t u) (fronts t u))
    where
      go : (o : Ordering) → Tri ◌<ᵗ◌ (front_of t) (front_of u) o → SaysOne b (decided o (by_offsets (pos x) u.offset (is_empty b)))
      go _ (is_below h) = above (over b h)
      go _ (is_level g) = by_offset g b
      go _ (is_above h) = below (under b h) (not_before b h)

-- ── beside any run ──

-- the same tuple before both changes nothing
module _ (t : Tuple) (s : Tuple) (a : Row) where
  on : (k : ℕ) → onward k (t ∷ s ∷ a) ≡ t ∷ onward k (s ∷ a)
  on k = onward_after k (t ∷ []) s a

  back_on : (b : Row) → next b ≡ s ∷ a → next (t ∷ b) ≡ t ∷ s ∷ a
  unfolding one_below
  back_on b e = ap (λ (c : Row). next (t ∷ c)) (next_from e) ∙ back_next (t ∷ s ∷ a)

  back_off : (b : Row) → next (t ∷ b) ≡ t ∷ s ∷ a → next b ≡ s ∷ a
  unfolding one_below
  back_off b e =
      let f : t ∷ b ≡ t ∷ one_below (s ∷ a) = next_from e in
      let g : b ≡ one_below (s ∷ a) = cc in
      ap next g ∙ back_next (s ∷ a)

  not_back : (u : Tuple) (b : Row) → u <ᵗ t → ¬ (next (u ∷ b) ≡ t ∷ s ∷ a)
  unfolding one_below
  not_back u b h e =
      let f : u ∷ b ≡ t ∷ one_below (s ∷ a) = next_from e in
      let g : u ≡ t = cc in
      <ᵗ_irrefl (rw g at h)

  after_same : {b : Row} {r : Stand} → Says (s ∷ a) b r → Says (t ∷ s ∷ a) (t ∷ b) r
  after_same {b} (below f n) = below (λ k. rw (on k) (same refl (f k))) (λ e. n (back_off b e))
  after_same {b} (before e) = before (back_on b e)
  after_same (at {i} e) = at (ap (λ (c : Row). t ∷ c) e ∙ sym (on i))
  after_same (beyond {i} v w e) = beyond v w (ap (λ (c : Row). t ∷ c) e ∙ ap (λ (c : Row). c ++ (v ∷ w)) (sym (on i)))
  after_same (above f) = above (λ k. rw (on k) (same refl (f k)))

says_from : (a b : Row) {x : ℕ} → last_offset a ≡ pos x → Says a b (beside_of a b)
unfolding beside_of last_offset
says_from [] b e = absurd (let h = last_long [] e in omega arith)
says_from (t ∷ a) [] e =
    below (λ k. above_none (onward k (t ∷ a)) (omega (arith, onward_length k (t ∷ a)))) (not_deep (t ∷ a) [] (λ q. omega arith))
says_from (t ∷ []) (u ∷ b) e = one_tuple t u e b
says_from (t ∷ s ∷ a) (u ∷ b) e = go (compare_tuples t u) (tri_t t u) (says_from (s ∷ a) b e)
  where
    go : (o : Ordering) → Tri ◌<ᵗ◌ t u o → Says (s ∷ a) b (beside_of (s ∷ a) b) → Says (t ∷ s ∷ a) (u ∷ b) (decided o (beside_of (s ∷ a) b))
    go _ (is_below h) r = above (λ k. rw (on t s a k) (differ h))
    go _ (is_level q) r = rw (← q) (after_same t s a r)
    go _ (is_above h) r = below (λ k. rw (on t s a k) (differ h)) (not_back t s a u b h)

pub says : (a b : Row) → is_name a ≡ true → Says a b (beside_of a b)
says a b e = says_from a b (name_offset a e).1

-- ── what holds of runs ──

below_one : {u s : Tuple} {b : Row} → u ∷ b <ⁿ s ∷ [] → u <ᵗ s
below_one (differ h) = h
below_one {u} {s} {b} (same e h) = go b h
  where
    go : (b : Row) → b <ⁿ [] → u <ᵗ s
    go [] h = absurd (<ⁿ_irrefl h)
    go (v ∷ b) h = absurd (<ⁿ_irrefl (<ⁿ_trans h ends))

nothing_between : (a : Row) {b : Row} → a <ⁿ b → b <ⁿ next a → (t : Tuple) × (u : Row) × (b ≡ a ++ (t ∷ u))
unfolding next
nothing_between [] h k = absurd (<ⁿ_irrefl (<ⁿ_trans h k))
nothing_between (t ∷ []) (differ h) k = elim (lowered_next (below_one k)) [
  | inl e ↦ absurd (<ᵗ_irrefl (rw (e ∙ lowered_raised t) at h))
  | inr l ↦ absurd (<ᵗ_irrefl (<ᵗ_trans h (rw (lowered_raised t) at l)))
]
nothing_between (t ∷ []) (same e (ends {t = v} {b = c})) k = (v, c, ap (λ (s : Tuple). s ∷ v ∷ c) (sym e))
nothing_between (t ∷ s ∷ a) (differ h) (differ k) = absurd (<ᵗ_irrefl (<ᵗ_trans h k))
nothing_between (t ∷ s ∷ a) (differ h) (same e k) = absurd (<ᵗ_irrefl (rw e at h))
nothing_between (t ∷ s ∷ a) (same e h) (differ k) = absurd (<ᵗ_irrefl (rw (← e) at k))
nothing_between (t ∷ s ∷ a) (same e h) (same f k) =
    let r = nothing_between (s ∷ a) h k in
    (r.0, r.1, λ i. sym e i ∷ r.2 i)

pub laws : Laws
laws = record {
  rises = λ a e. next_above a (name_long a e);
  nothing_between = λ a b. nothing_between a;
  as_deep = next_length;
  one_below_lem = next_back;
  stands = says;
}

-- ── each name of a run against another ──

-- how the k-th name after the first compares with one that stands so
abbrev pub against : Stand → ℕ → Ordering
against Below k = Greater
against Before k = Greater
against (At i) k = compare_ℕ k i
against (Beyond i) k = cond (leb k i) Less Greater
against Above k = Less

module _ (a : Row) (h : 1 ≤ length a) where
  -- a name that begins with the i-th is below all that come after it
  deeper : (i k : ℕ) (w : Row) → i < k → onward i a ++ w <ⁿ onward k a
  deeper i k w l = go (before_row (onward_rises a h i k l))
    where
      go : BeforeRow (onward i a) (onward k a) → onward i a ++ w <ⁿ onward k a
      go (prefix t u e) =
          absurd (let n = ap length e ∙ length-append (onward i a) (t ∷ u) in omega (arith, onward_length i a, onward_length k a))
      go (apart_row f) = rw (append-nil (onward k a)) at (f w [])

  compared_by : {b : Row} {r : Stand} → Says a b r → (k : ℕ) → compare_rows (onward k a) b ≡ against r k
  compared_by (below f n) k = row_more (f k)
  compared_by {b} (before e) k =
      let l : 1 ≤ length b = omega (arith, next_length b, ap length e) in
      let m : b <ⁿ a = rw e at (next_above b l) in
      row_more (<≤_trans m (onward_no_lower a h 0 k (omega arith)))
  compared_by (at {i} e) k = rw e (onward_compare a h k i)
  compared_by (beyond {i} t u e) k = elim (dec_le k i) [
    | yes l ↦ rw (e, le-leb k i l) (row_less (≤<_trans (onward_no_lower a h k i l) (++_prefix (onward i a) t u)))
    | no l ↦ rw (e, lt-leb k i (omega arith)) (row_more (deeper i k (t ∷ u) (omega arith)))
  ]
  compared_by (above f) k = row_less (f k)

pub compared : (a b : Row) → is_name a ≡ true → (k : ℕ) → compare_rows (onward k a) b ≡ against (beside_of a b) k
compared a b e k = compared_by a (name_long a e) (says a b e) k
