-- The shape that 01's bullets end in (`shape_of`): it stands in log and name, and where (`found`), and its row is what the name is taken back to
-- (`shape_means`). Assumes nothing.
use mathlib.Core.Path.{◌≡◌, refl, ◌∙◌, sym, ap, subst}
use mathlib.Core.List.{List, [], ◌∷◌}
use mathlib.Core.Bool.{Bool, cond}
use Prim.Native.Nat.{ℕ, suc, ◌+◌, ◌-◌, ◌<◌, ◌≤◌}
use native.Mathlib.Decide.{dec_lt}
use native.Mathlib.Numerals.{add-one}
use native.Mathlib.Omega.{arith}
use borrow.Author.Tests.{lt-ltb, le-ltb}
use lib.IntN.{pos}
use lib.ListN.{length, drop, length-drop, drop_of_length-le}
use Rattle.names.specs.declared.Author.{Author}
use Rattle.names.specs.declared.Tuple.{Tuple}
use Rattle.names.specs.Ordering.{Row, ◌<ⁿ◌, ◌≤ⁿ◌, Rising}
use Rattle.name_renames.specs.Renaming.{first_position, lead, N, strip_below, strip_above, take_back}
use Rattle.name_renames.specs.Alone.{index_in}
use Rattle.name_renames.proofs.Lists.{at}
use Rattle.name_renames.proofs.Splits.{Half, half, is_under, at_least, if_below_lem, if_not_below_lem, if_above_lem, if_not_above_lem}
use Rattle.name_renames.proofs.Walk.{StripBelow, kept_below, cut_below, strip_below_lem, StripAbove, kept_above, cut_above, strip_above_lem}
use Rattle.name_renames.proofs.BackByIndex.{Within, lies_within}
use Rattle.name_renames.proofs.Apart.{Side, ahead, alone, behind, made}
use Rattle.name_renames.proofs.Stems.{stays, put, low, high, Seat, first, name, gap, final, seat_back}
use Rattle.one_name.specs.declared.Back.{Back}
use Rattle.one_name.specs.declared.Back.TheVariants.{Restored, Own, Behind, Ahead}
use Rattle.one_name.specs.Backs.{shaped, Stands, Means, under_shape, over_shape, between_shape, within_shape, cut_of, shape_of}
use Rattle.one_name.specs.Stems.{stem}

-- a shape as a side of its stem, and the v that it has there
abbrev pub side : Back → Side
side (Restored k) = alone
side (Own cut) = alone
side (Behind k cut) = behind
side (Ahead k cut) = ahead

abbrev pub rest : Row → Back → Row
rest c (Restored k) = []
rest c (Own cut) = drop cut c
rest c (Behind k cut) = drop cut c
rest c (Ahead k cut) = drop cut c

pub as_made : (c : Row) (log : List Row) (b : Back) → shaped c log b ≡ made (side b) (stem c log b) (rest c b)
as_made c log (Restored k) = refl
as_made c log (Own cut) = refl
as_made c log (Behind k cut) = refl
as_made c log (Ahead k cut) = refl

-- ── v, by what c is without ──

abbrev Cut : Row → Row → ℕ → Type 0
Cut c v cut = (drop cut c ≡ v) × (cut ≤ length c) × (cut ≤ 1)

cut_none : (c : Row) → Cut c c (cut_of c c)
cut_none c =
    let none : length c - length c ≡ 0 = omega arith in
    (ap (λ (n : ℕ). drop n c) none, omega arith, omega arith)

cut_one : (h : Tuple) (t : Row) → Cut (h ∷ t) t (cut_of (h ∷ t) t)
cut_one h t =
    let one : length (h ∷ t) - length t ≡ 1 = omega arith in
    (ap (λ (n : ℕ). drop n (h ∷ t)) one, omega arith, omega arith)

module _ (p : ℕ) (author : Author) where
  cut_below_lem : {c v : Row} → StripBelow p author c v → Cut c v (cut_of c v)
  cut_below_lem (kept_below {c} s) = cut_none c
  cut_below_lem (cut_below {h} {t} e k) = cut_one h t

  cut_above_lem : {k : ℕ} {c v : Row} → StripAbove p author k c v → Cut c v (cut_of c v)
  cut_above_lem (kept_above {c} s) = cut_none c
  cut_above_lem (cut_above {h} {t} e k) = cut_one h t

-- ── where c has that shape ──

module _ (author : Author) (log : List Row) where
  abbrev p : ℕ
  p = first_position log

  abbrev last : ℕ
  last = length log - 1

  pub record Found (c : Row) (b : Back) : Type 0 where
    pub stands : Stands c log b
    pub seat : Seat author log c (stem c log b) (side b) (rest c b)

  module _ (c : Row) (n : 1 ≤ length log) where
    -- "c below N(0)"
    by_under : (cut : ℕ) → c <ⁿ N p author 0 → Cut c (strip_below p author c) cut → Found c (under_shape c log 0 cut)
    by_under cut h (e, i, j) = go (half (drop cut c) (at log 0))
      where
        go : Half (drop cut c) (at log 0) → Found c (under_shape c log 0 cut)
        go (is_under l) = subst (Found c) (sym (if_below_lem _ _ l)) (record { stands = (i, j); seat = first h e (stays l) })
        go (at_least l) = subst (Found c) (sym (if_not_below_lem _ _ l)) (record { stands = (n, (i, j)); seat = first h e (put l) })

    -- "c above N(n−1)"
    by_over : (cut : ℕ) → N p author last <ⁿ c → Cut c (strip_above p author last c) cut → Found c (over_shape c log last cut)
    by_over cut h (e, i, j) = go (half (at log last) (drop cut c))
      where
        go : Half (at log last) (drop cut c) → Found c (over_shape c log last cut)
        go (is_under l) = subst (Found c) (sym (if_above_lem _ _ l)) (record { stands = (i, j); seat = final h e (stays l) })
        go (at_least l) = subst (Found c) (sym (if_not_above_lem _ _ l)) (record { stands = (omega arith, (i, j)); seat = final h e (put l) })

    module _ (k : ℕ) (e : c ≡ lead p author (pos k) ∷ drop 1 c) where
      -- "c = N(k), 0 ≤ k < n"
      by_name : k < length log → length c < 2 → Found c (Restored k)
      by_name i h = record { stands = i; seat = name k i (e ∙ ap (λ (t : Row). lead p author (pos k) ∷ t) (drop_of_length-le c {i = 1} (omega arith))) }

      -- "c between N(k) and N(k+1), so c = N(k)·t"
      by_gap : suc k < length log → 2 ≤ length c → Found c (between_shape c log k)
      by_gap i h = go (half (at log k) t) (half t (at log (k + 1)))
        where
          t : Row
          t = drop 1 c

          next : at log (k + 1) ≡ at log (suc k)
          next = ap (at log) (add-one k)

          some : 1 ≤ length t
          some = omega (arith, ap length e)

          cuts : (1 ≤ length c) × (1 ≤ 1)
          cuts = (omega arith, omega arith)

          go : Half (at log k) t → Half t (at log (k + 1)) → Found c (between_shape c log k)
          go (at_least l) y = subst (Found c) (sym (if_not_above_lem _ _ l)) (record { stands = (omega arith, cuts); seat = gap k i e some (low l) })
          go (is_under l) (is_under j) =
              subst (Found c) (sym (if_above_lem _ _ l ∙ if_below_lem _ _ j)) (record { stands = cuts; seat = gap k i e some (stays l (subst (λ (y : Row). t <ⁿ y) next j)) })
          go (is_under l) (at_least j) =
              let g = gap k i e some (high (subst (λ (y : Row). y ≤ⁿ t) next j)) in
              subst (Found c) (sym (if_above_lem _ _ l ∙ if_not_below_lem _ _ j)) (record { stands = (omega arith, cuts); seat = subst (λ (y : Row). Seat author log c y ahead t) (sym next) g })

    within_short : length c < 2 → within_shape c log ≡ Restored (index_in c)
    unfolding within_shape
    within_short h = ap (λ (b : Bool). cond b (Restored (index_in c)) (between_shape c log (index_in c))) (lt-ltb (length c) 2 h)

    within_long : 2 ≤ length c → within_shape c log ≡ between_shape c log (index_in c)
    unfolding within_shape
    within_long h = ap (λ (b : Bool). cond b (Restored (index_in c)) (between_shape c log (index_in c))) (le-ltb (length c) 2 h)

    by_within : Within p author last c → Found c (within_shape c log)
    by_within w =
        let e : index_in c ≡ w.k = ap index_in w.is in
        elim (dec_lt (length c) 2) [
          | yes h ↦ subst (Found c) (sym (within_short h ∙ ap Restored e)) (by_name w.k w.is (omega (arith, w.most)) h)
          | no h ↦
              let two : 2 ≤ length c = omega arith in
              subst (Found c) (sym (within_long two ∙ ap (between_shape c log) e)) (by_gap w.k w.is (omega (arith, w.room two)) two)
        ]

    pub found : Found c (shape_of author log c)
    unfolding shape_of
    found = go (half c (N p author 0)) (half (N p author last) c)
      where
        go : Half c (N p author 0) → Half (N p author last) c → Found c (shape_of author log c)
        go (is_under h) y = subst (Found c) (sym (if_below_lem _ _ h)) (by_under _ h (cut_below_lem p author (strip_below_lem p author c)))
        go (at_least f) (is_under h) = subst (Found c) (sym (if_not_below_lem _ _ f ∙ if_above_lem _ _ h)) (by_over _ h (cut_above_lem p author (strip_above_lem p author last c)))
        go (at_least f) (at_least h) = subst (Found c) (sym (if_not_below_lem _ _ f ∙ if_not_above_lem _ _ h)) (by_within (lies_within p author last c f h))

    -- ── as the code comes to it: v is c without so many tuples ──

    cut_is : (cut : ℕ) (v : Row) → cut ≤ length c → drop cut c ≡ v → cut ≡ cut_of c v
    cut_is cut v h e = omega (arith, length-drop cut c, ap length e)

    pub shape_low : c <ⁿ N p author 0 → (cut : ℕ) → cut ≤ length c → drop cut c ≡ strip_below p author c → under_shape c log 0 cut ≡ shape_of author log c
    unfolding shape_of
    shape_low h cut i e = ap (under_shape c log 0) (cut_is cut _ i e) ∙ sym (if_below_lem _ _ h)

    pub shape_high : N p author 0 ≤ⁿ c → N p author last <ⁿ c → (cut : ℕ) → cut ≤ length c → drop cut c ≡ strip_above p author last c → over_shape c log last cut ≡ shape_of author log c
    unfolding shape_of
    shape_high f h cut i e = ap (over_shape c log last) (cut_is cut _ i e) ∙ sym (if_not_below_lem _ _ f ∙ if_above_lem _ _ h)

    pub shape_within : N p author 0 ≤ⁿ c → c ≤ⁿ N p author last → within_shape c log ≡ shape_of author log c
    unfolding shape_of
    shape_within f h = sym (if_not_below_lem _ _ f ∙ if_not_above_lem _ _ h)

    -- ── its row ──

    pub shape_means : Rising log → Means c log (shape_of author log c) (take_back author log c)
    shape_means o = (found.stands, as_made c log (shape_of author log c) ∙ seat_back author log n o found.seat)
