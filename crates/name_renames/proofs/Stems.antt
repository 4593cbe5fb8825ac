-- Where 01's bullets put a name c: at a stem, which is a name of the log or what is left of c, alone, ahead of it or behind it (`Seat`). Names keep their
-- order there, markers or not (`seats_before`): stems rise, and of one stem first comes what is ahead of it, then itself, then what is behind it. Assumes
-- nothing.
use mathlib.Core.Path.{◌≡◌, refl, ◌∙◌, sym, ap, subst}
use mathlib.Core.Logic.{◌⊎◌, inl, inr}
use mathlib.Core.List.{List, [], ◌∷◌}
use Prim.Native.Nat.{ℕ, suc, ◌-◌, ◌<◌, ◌≤◌}
use native.Mathlib.Omega.{arith}
use lib.IntN.{pos, nat_abs}
use lib.ListN.{length, drop}
use Rattle.names.specs.declared.Author.{Author}
use Rattle.names.specs.declared.Tuple.{Tuple}
use Rattle.names.specs.Ordering.{Row, ◌<ⁿ◌, differ, same, ◌≤ⁿ◌, less, equal, Rising}
use Rattle.names.proofs.Laws.{<ⁿ_trans, <≤_trans, ≤<_trans}
use Rattle.name_renames.specs.Renaming.{lead, N, first_position, under, over, back_between, strip_below, strip_above, take_back}
use Rattle.name_renames.proofs.Lists.{at, rising_next, rising_below}
use Rattle.name_renames.proofs.Splits.{clash, no_nil}
use Rattle.name_renames.proofs.Walk.{StripBelow, strip_below_lem, StripAbove, strip_above_lem}
use Rattle.name_renames.proofs.Gaps.{under_in, under_out, over_in, over_out, gap_low, gap_in, gap_high}
use Rattle.name_renames.proofs.BackByIndex.{back_under, back_over, back_logged, back_in_gap}
use Rattle.name_renames.proofs.Backward.{below_mono, above_mono}
use Rattle.name_renames.proofs.Alone.{reach, lead_below}
use Rattle.name_renames.proofs.Apart.{Side, ahead, alone, behind, made, ahead_ahead, ahead_alone, ahead_behind, alone_behind, behind_behind, Before, stems, level}

-- ── by one name of the log, or by two ──

-- "If v is below r0 the result is v, else one below r0, then M, then v"
pub data Under (r : Row) : Row → Side → Row → Type 0 where
  stays : {v : Row} → v <ⁿ r → Under r v alone v
  put : {v : Row} → r ≤ⁿ v → Under r r ahead v

-- "If v is above r(n−1) the result is v, else r(n−1)·m·v"
pub data Over (r : Row) : Row → Side → Row → Type 0 where
  stays : {v : Row} → r <ⁿ v → Over r v alone v
  put : {v : Row} → v ≤ⁿ r → Over r r behind v

-- "if t is not above r(k), r(k)·m·t. If t is not below r(k+1), one below r(k+1), then M, then t. Otherwise t."
pub data Between (r q : Row) : Row → Side → Row → Type 0 where
  low : {t : Row} → t ≤ⁿ r → Between r q r behind t
  stays : {t : Row} → r <ⁿ t → t <ⁿ q → Between r q t alone t
  high : {t : Row} → q ≤ⁿ t → Between r q q ahead t

-- in the order of v
under_before : {r x y v w : Row} {s t : Side} → v <ⁿ w → Under r x s v → Under r y t w → Before x s v y t w
under_before l (stays h) (stays k) = stems l
under_before l (stays h) (put k) = stems h
under_before l (put h) (stays k) = clash (≤<_trans h l) k
under_before l (put h) (put k) = level refl (ahead_ahead l)

over_before : {r x y v w : Row} {s t : Side} → v <ⁿ w → Over r x s v → Over r y t w → Before x s v y t w
over_before l (stays h) (stays k) = stems l
over_before l (stays h) (put k) = clash (<≤_trans l k) h
over_before l (put h) (stays k) = stems k
over_before l (put h) (put k) = level refl (behind_behind l)

between_before : {r q x y v w : Row} {s t : Side} → r <ⁿ q → v <ⁿ w → Between r q x s v → Between r q y t w → Before x s v y t w
between_before o l (low h) (low k) = level refl (behind_behind l)
between_before o l (low h) (stays k j) = stems k
between_before o l (low h) (high k) = stems o
between_before o l (stays h i) (low k) = clash (<≤_trans l k) h
between_before o l (stays h i) (stays k j) = stems l
between_before o l (stays h i) (high k) = stems i
between_before o l (high h) (low k) = clash (≤<_trans h (<≤_trans l k)) o
between_before o l (high h) (stays k j) = clash (≤<_trans h l) j
between_before o l (high h) (high k) = level refl (ahead_ahead l)

-- what is made
under_made : {r x v : Row} {s : Side} → Under r x s v → made s x v ≡ under r v
under_made {r} (stays h) = sym (under_in r h)
under_made {r} (put h) = sym (under_out r h)

over_made : {r x v : Row} {s : Side} → Over r x s v → made s x v ≡ over r v v
over_made {r} {v = v} (stays h) = sym (over_in r v h)
over_made {r} {v = v} (put h) = sym (over_out r v h)

between_made : {r q x t : Row} {s : Side} → r <ⁿ q → Between r q x s t → made s x t ≡ back_between r q t
between_made {r} {q} o (low h) = sym (gap_low r q h)
between_made {r} {q} o (stays h k) = sym (gap_in r q h k)
between_made {r} {q} o (high h) = sym (gap_high r q (<≤_trans o h) h)

-- ── on which side of a name of the log ──

-- its stem is below r, or it is ahead of r
data Low (r : Row) : Row → Side → Type 0 where
  lower : {x : Row} {s : Side} → x <ⁿ r → Low r x s
  put : {x : Row} → x ≡ r → Low r x ahead

-- its stem is above r, or it is behind r
data Past (r : Row) : Row → Side → Type 0 where
  higher : {x : Row} {s : Side} → r <ⁿ x → Past r x s
  put : {x : Row} → r ≡ x → Past r x behind

-- or it is r
data From (r : Row) : Row → Side → Type 0 where
  past : {x : Row} {s : Side} → Past r x s → From r x s
  itself : {x : Row} → r ≡ x → From r x alone

low_from : {r q x y v w : Row} {s t : Side} → r ≤ⁿ q → Low r x s → From q y t → Before x s v y t w
low_from l (lower h) (past (higher k)) = stems (<ⁿ_trans (<≤_trans h l) k)
low_from l (lower h) (past (put f)) = stems (<≤_trans (<≤_trans h l) (equal f))
low_from l (lower h) (itself f) = stems (<≤_trans (<≤_trans h l) (equal f))
low_from l (put e) (past (higher k)) = stems (≤<_trans (equal e) (≤<_trans l k))
low_from (less h) (put e) (past (put f)) = stems (≤<_trans (equal e) (<≤_trans h (equal f)))
low_from (equal d) (put e) (past (put f)) = level (e ∙ d ∙ f) ahead_behind
low_from (less h) (put e) (itself f) = stems (≤<_trans (equal e) (<≤_trans h (equal f)))
low_from (equal d) (put e) (itself f) = level (e ∙ d ∙ f) ahead_alone

name_past : {r q y v w : Row} {t : Side} → r ≤ⁿ q → Past q y t → Before r alone v y t w
name_past l (higher k) = stems (≤<_trans l k)
name_past (less h) (put f) = stems (<≤_trans h (equal f))
name_past (equal d) (put f) = level (d ∙ f) alone_behind

under_low : {r x v : Row} {s : Side} → Under r x s v → Low r x s
under_low (stays h) = lower h
under_low (put h) = put refl

over_past : {r x v : Row} {s : Side} → Over r x s v → Past r x s
over_past (stays h) = higher h
over_past (put h) = put refl

between_low : {r q x v : Row} {s : Side} → r <ⁿ q → Between r q x s v → Low q x s
between_low o (low h) = lower o
between_low o (stays h k) = lower k
between_low o (high h) = put refl

between_past : {r q x v : Row} {s : Side} → r <ⁿ q → Between r q x s v → Past r x s
between_past o (low h) = put refl
between_past o (stays h k) = higher h
between_past o (high h) = higher o

-- ── by the log ──

module _ (author : Author) (log : List Row) where
  abbrev p : ℕ
  p = first_position log

  abbrev last : ℕ
  last = length log - 1

  -- c's stem, its side and v
  pub data Seat (c : Row) : Row → Side → Row → Type 0 where
    -- "c below N(0)"
    first : {x v : Row} {s : Side} → c <ⁿ N p author 0 → v ≡ strip_below p author c → Under (at log 0) x s v → Seat c x s v
    -- "c = N(k), 0 ≤ k < n"
    name : (k : ℕ) {v : Row} → k < length log → c ≡ N p author k → Seat c (at log k) alone v
    -- "c between N(k) and N(k+1), so c = N(k)·t"
    gap : (k : ℕ) {x v : Row} {s : Side} → suc k < length log → c ≡ lead p author (pos k) ∷ v → 1 ≤ length v → Between (at log k) (at log (suc k)) x s v → Seat c x s v
    -- "c above N(n−1)"
    final : {x v : Row} {s : Side} → N p author last <ⁿ c → v ≡ strip_above p author last c → Over (at log last) x s v → Seat c x s v

  is_low : {c v : Row} → v ≡ strip_below p author c → StripBelow p author c v
  is_low {c} e = subst (StripBelow p author c) (sym e) (strip_below_lem p author c)

  is_high : {c v : Row} → v ≡ strip_above p author last c → StripAbove p author last c v
  is_high {c} e = subst (StripAbove p author last c) (sym e) (strip_above_lem p author last c)

  -- ── what it is taken back to ──

  pub seat_back : {c x v : Row} {s : Side} → 1 ≤ length log → Rising log → Seat c x s v → made s x v ≡ take_back author log c
  seat_back {c} n o (first h e u) = under_made u ∙ ap (under (at log 0)) e ∙ back_under author c log n h
  seat_back {c} n o (name k i e) = back_logged author c log k i (e ∙ ap (λ (t : Row). lead p author (pos k) ∷ t) (sym (ap (drop 1) e))) (omega (arith, ap length e))
  seat_back {c} n o (gap k i e g z) =
      let d = ap (drop 1) e in
      between_made (rising_next k o i) z ∙ ap (back_between (at log k) (at log (suc k))) (sym d)
      ∙ back_in_gap author c log k i (e ∙ ap (λ (t : Row). lead p author (pos k) ∷ t) (sym d)) (omega (arith, ap length e))
  seat_back {c} n o (final h e u) = over_made u ∙ ap (λ (v : Row). over (at log last) v v) e ∙ back_over author c log last (omega arith) h

  -- ── N(k) and N(k)·t ──

  leads : {k j : ℕ} {t u : Row} → lead p author (pos k) ∷ t <ⁿ lead p author (pos j) ∷ u → (k < j) ⊎ ((k ≡ j) × (t <ⁿ u))
  leads (differ h) = inl (lead_below author log h)
  leads (same e h) = inr (ap (λ (s : Tuple). nat_abs s.offset) e, h)

  not_after : {k j : ℕ} {t u : Row} → (k < j) ⊎ ((k ≡ j) × (t <ⁿ u)) → k ≤ j
  not_after (inl h) = omega arith
  not_after (inr (e, h)) = omega arith

  from_first : {X : Type 0} {k : ℕ} {t : Row} → (k < 0) ⊎ ((k ≡ 0) × (t <ⁿ [])) → X
  from_first (inl h) = absurd (omega arith)
  from_first (inr (e, h)) = no_nil h

  after_last : {X : Type 0} {k : ℕ} → (last < k) ⊎ ((last ≡ k) × ([] <ⁿ [])) → k < length log → X
  after_last (inl h) i = absurd (omega arith)
  after_last (inr (e, h)) i = no_nil h

  -- ── in order ──

  module _ (o : Rising log) (n : 1 ≤ length log) where
    names_before : {v w : Row} (k j : ℕ) → j < length log → (k < j) ⊎ ((k ≡ j) × ([] <ⁿ [])) → Before (at log k) alone v (at log j) alone w
    names_before k j h (inl g) = stems (rising_below k j o g h)
    names_before k j h (inr (e, g)) = no_nil g

    gap_name : {x v w : Row} {s : Side} (k j : ℕ) → suc k < length log → j < length log → Between (at log k) (at log (suc k)) x s v →
        (k < j) ⊎ ((k ≡ j) × (v <ⁿ [])) → Before x s v (at log j) alone w
    gap_name k j i h z (inl g) = low_from (reach author log o (suc k) j g h) (between_low (rising_next k o i) z) (itself refl)
    gap_name k j i h z (inr (e, g)) = no_nil g

    gap_gap : {x y v w : Row} {s t : Side} (k j : ℕ) → suc k < length log → suc j < length log → Between (at log k) (at log (suc k)) x s v → Between (at log j) (at log (suc j)) y t w →
        (k < j) ⊎ ((k ≡ j) × (v <ⁿ w)) → Before x s v y t w
    gap_gap k j i h a b (inl g) = low_from (reach author log o (suc k) j g (omega arith)) (between_low (rising_next k o i) a) (past (between_past (rising_next j o h) b))
    gap_gap {x} {v = v} {s = s} k j i h a b (inr (e, g)) =
        between_before (rising_next j o h) g (subst (λ (k : ℕ). Between (at log k) (at log (suc k)) x s v) e a) b

    pub seats_before : {c d x y v w : Row} {s t : Side} → Seat c x s v → Seat d y t w → c <ⁿ d → Before x s v y t w
    seats_before (first h a u) (first i b z) l = under_before (below_mono p author (is_low a) (is_low b) l i) u z
    seats_before (first h a u) (name k i e) l = low_from (reach author log o 0 k (omega arith) i) (under_low u) (itself refl)
    seats_before (first h a u) (gap k i e g z) l = low_from (reach author log o 0 k (omega arith) (omega arith)) (under_low u) (past (between_past (rising_next k o i) z))
    seats_before (first h a u) (final i b z) l = low_from (reach author log o 0 last (omega arith) (omega arith)) (under_low u) (past (over_past z))
    seats_before (name k i e) (first j b z) l = from_first (leads (rw e at (<ⁿ_trans l j)))
    seats_before (name k i e) (name j h f) l = names_before k j h (leads (rw (e, f) at l))
    seats_before (name k i e) (gap j h f g z) l = name_past (reach author log o k j (not_after (leads (rw (e, f) at l))) (omega arith)) (between_past (rising_next j o h) z)
    seats_before (name k i e) (final h b z) l = name_past (reach author log o k last (omega arith) (omega arith)) (over_past z)
    seats_before (gap k i e g z) (first j b y) l = from_first (leads (rw e at (<ⁿ_trans l j)))
    seats_before (gap k i e g z) (name j h f) l = gap_name k j i h z (leads (rw (e, f) at l))
    seats_before (gap k i e g z) (gap j h f q y) l = gap_gap k j i h z y (leads (rw (e, f) at l))
    seats_before (gap k i e g z) (final h b y) l = low_from (reach author log o (suc k) last (omega arith) (omega arith)) (between_low (rising_next k o i) z) (past (over_past y))
    seats_before (final h a u) (first i b z) l = from_first (leads (<ⁿ_trans h (<ⁿ_trans l i)))
    seats_before (final h a u) (name k i e) l = after_last (leads (rw e at (<ⁿ_trans h l))) i
    seats_before (final h a u) (gap k i e g z) l = absurd (omega (arith, not_after (leads (rw e at (<ⁿ_trans h l)))))
    seats_before (final h a u) (final i b z) l = over_before (above_mono p author (is_high a) (is_high b) h l) u z
