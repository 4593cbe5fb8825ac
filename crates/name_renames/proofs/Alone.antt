-- Names that are taken back to a name that stands already (specs/Alone.antt: `alone`). What they are taken back to, bullet by bullet
-- (`alone_under`, `alone_over`, `alone_in_gap`, and `back_logged` of proofs/BackByIndex.antt), in one word (`alone_is`), and that it fits
-- (`alone_fits`). Two such names keep their order, markers or not (`alone_mono`). Assumes nothing.
use mathlib.Core.Path.{◌≡◌, refl, ◌∙◌, sym, ap, subst}
use mathlib.Core.Logic.{inl, inr}
use mathlib.Core.List.{List, [], ◌∷◌}
use mathlib.Core.Bool.{Bool, true, ◌||◌}
use Prim.Native.Nat.{ℕ, suc, ◌+◌, ◌-◌, ◌<◌, ◌≤◌}
use native.Mathlib.Decide.{dec_lt}
use native.Mathlib.Numerals.{add-one}
use native.Mathlib.Omega.{arith}
use borrow.Author.Tests.{lt-ltb, le-ltb, leb-true, le-leb}
use lib.IntN.{pos, nat_abs}
use lib.ListN.{length, drop, length-drop, drop_of_length-le}
use Rattle.names.specs.declared.Author.{Author}
use Rattle.names.specs.declared.Tuple.{Tuple}
use Rattle.names.specs.Ordering.{Row, up, ◌<ᵗ◌, position, node, sequence, offset, ◌<ⁿ◌, differ, same, ◌≤ⁿ◌, less, equal, Rising}
use Rattle.names.specs.Names.{limit, fits}
use Rattle.std.specs.List.{list_all}
use Rattle.numbers.proofs.Bools.{and_0, and_1}
use Rattle.numbers.proofs.Every.{every_each}
use Rattle.names.proofs.Laws.{<ⁿ_trans, <ⁿ_irrefl, <≤_trans, ≤<_trans}
use Rattle.names.proofs.TestedOrder.{is_under_lem}
use Rattle.name_renames.specs.Renaming.{lead, N, first_position, take_back, strip_below, strip_above}
use Rattle.name_renames.specs.Alone.{is_below, is_above, index_in, in_gap, alone_within, alone, Stays}
use Rattle.name_renames.proofs.Lists.{at, rising_below}
use Rattle.name_renames.proofs.Splits.{Half, half, is_under, at_least, if_below_lem, if_not_below_lem, if_above_lem, if_not_above_lem, clash, no_nil}
use Rattle.name_renames.proofs.Walk.{StripBelow, kept_below, cut_below, strip_below_lem, StripAbove, kept_above, cut_above, strip_above_lem}
use Rattle.name_renames.proofs.Gaps.{under_in, over_in, gap_in}
use Rattle.name_renames.proofs.Backward.{below_mono, above_mono}
use Rattle.name_renames.proofs.BackByIndex.{Within, lies_within, back_under, back_over, back_logged, back_in_gap}

module _ (author : Author) (log : List Row) where
  abbrev p : ℕ
  p = first_position log

  abbrev last : ℕ
  last = length log - 1

  -- ── the test, bullet by bullet ──

  module _ (c : Row) where
    -- "c below N(0)": v is to be below r0
    pub alone_below : c <ⁿ N p author 0 → is_below (strip_below p author c) (at log 0) ≡ alone author log c
    unfolding alone
    alone_below h = sym (if_below_lem _ _ h)

    -- "c above N(n−1)": v is to be above r(n−1)
    pub alone_above : N p author 0 ≤ⁿ c → N p author last <ⁿ c → is_above (strip_above p author last c) (at log last) ≡ alone author log c
    unfolding alone
    alone_above f h = sym (if_not_below_lem _ _ f ∙ if_above_lem _ _ h)

    -- between these
    pub alone_within_lem : N p author 0 ≤ⁿ c → c ≤ⁿ N p author last → alone_within log c ≡ alone author log c
    unfolding alone
    alone_within_lem f h = sym (if_not_below_lem _ _ f ∙ if_not_above_lem _ _ h)

    -- c = N(k)
    pub alone_short : length c < 2 → true ≡ alone_within log c
    unfolding alone_within
    alone_short h = ap (λ (b : Bool). b || in_gap log (index_in c) (drop 1 c)) (sym (lt-ltb (length c) 2 h))

    -- c = N(k)·t: t is to be above r(k) and below r(k+1)
    pub alone_long : 2 ≤ length c → in_gap log (index_in c) (drop 1 c) ≡ alone_within log c
    unfolding alone_within
    alone_long h = ap (λ (b : Bool). b || in_gap log (index_in c) (drop 1 c)) (sym (le-ltb (length c) 2 h))

  -- ── what it is taken back to ──

  module _ (c : Row) (n : 1 ≤ length log) (a : alone author log c ≡ true) where
    -- "If v is below r0 the result is v"
    pub alone_under : c <ⁿ N p author 0 → strip_below p author c ≡ take_back author log c
    alone_under h = sym (under_in (at log 0) (is_under_lem _ _ (alone_below c h ∙ a))) ∙ back_under author c log n h

    -- "If v is above r(n−1) the result is v"
    pub alone_over : N p author 0 ≤ⁿ c → N p author last <ⁿ c → strip_above p author last c ≡ take_back author log c
    alone_over f h = sym (over_in (at log last) _ (is_under_lem _ _ (alone_above c f h ∙ a))) ∙ back_over author c log last (omega arith) h

    module _ (f : N p author 0 ≤ⁿ c) (h : c ≤ⁿ N p author last) where
      in_gap_lem : (w : Within p author last c) → 2 ≤ length c → (at log w.k <ⁿ drop 1 c) × (drop 1 c <ⁿ at log (suc w.k))
      in_gap_lem w two =
          let t = drop 1 c in
          let g = alone_long c two ∙ alone_within_lem c f h ∙ a in
          let e : index_in c ≡ w.k = ap index_in w.is in
          let b = is_above t (at log (index_in c)) in
          let d = is_below t (at log (index_in c + 1)) in
          (subst (λ (j : ℕ). at log j <ⁿ t) e (is_under_lem _ t (and_0 b d g)), subst (λ (j : ℕ). t <ⁿ at log j) (add-one (index_in c) ∙ ap suc e) (is_under_lem t _ (and_1 b d g)))

      -- "Otherwise t."
      pub alone_in_gap : 2 ≤ length c → drop 1 c ≡ take_back author log c
      alone_in_gap two =
          let w = lies_within p author last c f h in
          let g = in_gap_lem w two in
          sym (gap_in (at log w.k) (at log (suc w.k)) g.0 g.1) ∙ back_in_gap author c log w.k (omega (arith, w.room two)) w.is two

  -- ── where it is put ──

  -- N(k) goes to r(k), and N(k)·t to t, which is above r(k) and below r(k+1)
  data Held (k : ℕ) (t : Row) : Row → Type 0 where
    name : t ≡ [] → Held k t (at log k)
    tuples : suc k < length log → at log k <ⁿ t → t <ⁿ at log (suc k) → Held k t t

  -- c is below N(0), and v below r0; or c is N(k)·t; or c is above N(n−1), and v above r(n−1)
  data Placed (c v : Row) : Type 0 where
    low : c <ⁿ N p author 0 → StripBelow p author c v → v <ⁿ at log 0 → Placed c v
    mid : N p author 0 ≤ⁿ c → c ≤ⁿ N p author last → (k : ℕ) (t : Row) → k < length log → c ≡ lead p author (pos k) ∷ t → Held k t v → Placed c v
    high : N p author 0 ≤ⁿ c → N p author last <ⁿ c → StripAbove p author last c v → at log last <ⁿ v → Placed c v

  placed : (c : Row) → 1 ≤ length log → alone author log c ≡ true → Placed c (take_back author log c)
  placed c n a = go (half c (N p author 0)) (half (N p author last) c)
    where
      held : (f : N p author 0 ≤ⁿ c) (h : c ≤ⁿ N p author last) (w : Within p author last c) → Held w.k (drop 1 c) (take_back author log c)
      held f h w = elim (dec_lt (length c) 2) [
        | yes i ↦ subst (Held w.k (drop 1 c)) (back_logged author c log w.k (omega (arith, w.most)) w.is i) (name (drop_of_length-le c {i = 1} (omega arith)))
        | no i ↦
            let two : 2 ≤ length c = omega arith in
            let g = in_gap_lem c n a f h w two in
            subst (Held w.k (drop 1 c)) (alone_in_gap c n a f h two) (tuples (omega (arith, w.room two)) g.0 g.1)
      ]

      go : Half c (N p author 0) → Half (N p author last) c → Placed c (take_back author log c)
      go (is_under h) y = subst (Placed c) (alone_under c n a h) (low h (strip_below_lem p author c) (is_under_lem _ _ (alone_below c h ∙ a)))
      go (at_least f) (is_under h) = subst (Placed c) (alone_over c n a f h) (high f h (strip_above_lem p author last c) (is_under_lem _ _ (alone_above c f h ∙ a)))
      go (at_least f) (at_least h) =
          let w = lies_within p author last c f h in
          mid f h w.k (drop 1 c) (omega (arith, w.most)) w.is (held f h w)

  -- ── in order ──

  pub lead_below : {k j : ℕ} → lead p author (pos k) <ᵗ lead p author (pos j) → k < j
  lead_below (position h) = absurd (omega arith)
  lead_below (node e h) = absurd (omega arith)
  lead_below (sequence e f h) = absurd (omega arith)
  lead_below (offset e f g (up h)) = h

  module _ (o : Rising log) where
    pub reach : (i j : ℕ) → i ≤ j → j < length log → at log i ≤ⁿ at log j
    reach i j h k = elim (dec_lt i j) [
      | yes g ↦ less (rising_below i j o g k)
      | no g ↦ equal (ap (at log) (omega arith))
    ]

    -- from r(k) on, below the next names, up to the last
    held_from : {k : ℕ} {t v : Row} → Held k t v → at log k ≤ⁿ v
    held_from (name e) = equal refl
    held_from (tuples i h l) = less h

    held_before : {k : ℕ} {t v : Row} (j : ℕ) → k < j → j < length log → Held k t v → v <ⁿ at log j
    held_before {k} j h b (name e) = rising_below k j o h b
    held_before {k} j h b (tuples i g l) = <≤_trans l (reach (suc k) j h b)

    held_to : {k : ℕ} {t v : Row} → k < length log → Held k t v → v ≤ⁿ at log last
    held_to {k} b (name e) = reach k last (omega arith) (omega arith)
    held_to {k} b (tuples i h l) = less (<≤_trans l (reach (suc k) last (omega arith) (omega arith)))

    -- the two of one k
    held_mono : {k j : ℕ} {t u v w : Row} → k ≡ j → t <ⁿ u → Held k t v → Held j u w → v <ⁿ w
    held_mono e l (name d) (name f) = no_nil (rw f at l)
    held_mono e l (name d) (tuples i h g) = rw e h
    held_mono e l (tuples i h g) (name f) = no_nil (rw f at l)
    held_mono e l (tuples i h g) (tuples b x y) = l

    mid_mono : {k j : ℕ} {t u v w : Row} → j < length log → lead p author (pos k) ∷ t <ⁿ lead p author (pos j) ∷ u → Held k t v → Held j u w → v <ⁿ w
    mid_mono {j} b (differ h) x y = <≤_trans (held_before j (lead_below h) b x) (held_from y)
    mid_mono b (same e h) x y = held_mono (ap (λ (s : Tuple). nat_abs s.offset) e) h x y

    placed_mono : {c d v w : Row} → 1 ≤ length log → Placed c v → Placed d w → c <ⁿ d → v <ⁿ w
    placed_mono n (low h s x) (low i t y) l = below_mono p author s t l i
    placed_mono n (low h s x) (mid f g j u b e y) l = <≤_trans (<≤_trans x (reach 0 j (omega arith) b)) (held_from y)
    placed_mono n (low h s x) (high f i t y) l = <ⁿ_trans (<≤_trans x (reach 0 last (omega arith) (omega arith))) y
    placed_mono n (mid f g k t b e x) (low i u y) l = clash (≤<_trans f l) i
    placed_mono n (mid f g k t b e x) (mid f' g' j u b' e' y) l = mid_mono b' (rw (e, e') at l) x y
    placed_mono n (mid f g k t b e x) (high f' i u y) l = ≤<_trans (held_to b x) y
    placed_mono n (high f h s x) (low i t y) l = clash (≤<_trans f l) i
    placed_mono n (high f h s x) (mid f' g j u b e y) l = absurd (<ⁿ_irrefl (<≤_trans (<ⁿ_trans h l) g))
    placed_mono n (high f h s x) (high f' i t y) l = above_mono p author s t h l

    -- Two names that are taken back alone keep their order, markers or not.
    pub alone_mono : (c d : Row) → 1 ≤ length log → alone author log c ≡ true → alone author log d ≡ true → c <ⁿ d → take_back author log c <ⁿ take_back author log d
    alone_mono c d n a b l = placed_mono n (placed c n a) (placed d n b) l

  -- ── in one word ──

  own : (cut : ℕ) {c : Row} → cut ≤ 1 → cut ≤ length c → Stays log c (drop cut c)
  own cut i h = inr (cut, i, h, refl)

  placed_is : {c v : Row} → Placed c v → Stays log c v
  placed_is (low h (kept_below f) x) = own 0 (omega arith) (omega arith)
  placed_is (low h (cut_below {h = s} {t} e f) x) = own 1 {c = s ∷ t} (omega arith) (omega arith)
  placed_is (high f h (kept_above g) x) = own 0 (omega arith) (omega arith)
  placed_is (high f h (cut_above {h = s} {t} e g) x) = own 1 {c = s ∷ t} (omega arith) (omega arith)
  placed_is (mid f h k t b e x) = among k t b e x
    where
      among : {c : Row} (k : ℕ) (t : Row) {v : Row} → k < length log → c ≡ lead p author (pos k) ∷ t → Held k t v → Stays log c v
      among k t b e (name d) = inl (k, b, refl)
      among k t b e (tuples i g l) = inr (1, omega arith, omega (arith, ap length e), sym (ap (drop 1) e))

  module _ (c : Row) (n : 1 ≤ length log) (a : alone author log c ≡ true) where
    -- What it is taken back to is a name of the log, or c without its first tuples.
    pub alone_is : Stays log c (take_back author log c)
    alone_is = placed_is (placed c n a)

    -- So it fits, where the names of the log and c fit.
    pub alone_fits : list_all fits log ≡ true → fits c ≡ true → fits (take_back author log c) ≡ true
    alone_fits e f = go alone_is
      where
        go : {x : Row} → Stays log c x → fits x ≡ true
        go (inl (k, i, q)) = rw q (every_each fits log k [] i e)
        go (inr (cut, i, h, q)) = rw q (le-leb (length (drop cut c)) limit (omega (arith, length-drop cut c, leb-true (length c) limit f)))
