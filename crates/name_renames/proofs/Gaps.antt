-- Where the rows that taking back makes of markers stand: r·m·v goes just above r and (one below r)·M·v just below r, each in
-- the order of v; and the same of `under` and `over`. Assumes nothing.
use mathlib.Core.Path.{◌≡◌, refl}
use mathlib.Core.Logic.{◌⊎◌, inl, inr}
use mathlib.Core.List.{List, [], ◌∷◌, ◌++◌}
use native.Mathlib.Omega.{arith}
use Rattle.names.specs.declared.Tuple.{Tuple}
use Rattle.names.specs.Ordering.{Row, ◌<ᵗ◌, position, ◌<ⁿ◌, ends, differ, same, ◌≤ⁿ◌, less, equal}
use Rattle.names.specs.Names.{m, M, lowered, one_below}
use Rattle.names.proofs.Laws.{row_less, row_more, row_same, lowered_below, lowered_next, ++_left, ++_prefix, <≤_trans, ≤<_trans}
use Rattle.names.proofs.Validity.{Ordinary}
use Rattle.name_renames.specs.Renaming.{under, over, back_between}
use Rattle.name_renames.proofs.Splits.{Half, half, is_under, at_least, if_below_lem, if_not_below_lem, if_not_above_lem, clash, no_nil}
use Rattle.name_renames.proofs.Lists.{All, nil, cons, all_each}

-- ── between the markers ──

-- no marker anywhere
abbrev pub MarkerFree : Row → Type 0
MarkerFree x = All Ordinary x

-- a tuple strictly between the markers
pub record Inner (t : Tuple) : Type 0 where
  pub low : m <ᵗ t
  pub high : t <ᵗ M

pub ordinary_inner : {t : Tuple} → Ordinary t → Inner t
ordinary_inner o = record { low = position o.position_min; high = position (omega arith) }

pub all_inner : {x : Row} → MarkerFree x → All Inner x
all_inner is = all_each (λ t i. ordinary_inner i) is

pub log_inner : {log : List Row} → All MarkerFree log → All (All Inner) log
log_inner is = all_each (λ x i. all_inner i) is

abbrev pub BelowM : Row → Type 0
BelowM x = All (λ t. t <ᵗ M) x

pub inner_below_M : {x : Row} → All Inner x → BelowM x
inner_below_M is = all_each (λ t i. i.high) is

-- r·m·v has every tuple below M
pub over_below_M : {r v : Row} → All Inner r → All Inner v → BelowM (r ++ (m ∷ v))
over_below_M nil b = cons {x = m} (position (omega arith)) (inner_below_M b)
over_below_M (cons i a) b = cons i.high (over_below_M a b)

-- ── r·m·v and (one below r)·M·v ──

-- r·m·v is below whatever is above r
pub over_low : {r x : Row} (v : Row) → r <ⁿ x → All Inner x → r ++ (m ∷ v) <ⁿ x
over_low v ends (cons i a) = differ i.low
over_low v (differ h) (cons i a) = differ h
over_low v (same e h) (cons i a) = same e (over_low v h a)

-- (one below r)·M·v is above whatever is below r
pub under_high : (r : Row) {x : Row} (v : Row) → x <ⁿ r → BelowM x → x <ⁿ one_below r ++ (M ∷ v)
unfolding one_below
under_high (t ∷ []) v (same {s = s} e h) a = elim h [ ]
under_high [] v x4 a = elim x4 [ ]
under_high (t ∷ []) v ends a = ends
under_high (t ∷ []) v (differ {s} h) (cons i a) = go (lowered_next h) a
  where
    go : {x : Row} → (s ≡ lowered t) ⊎ (s <ᵗ lowered t) → BelowM x → s ∷ x <ⁿ lowered t ∷ M ∷ v
    go (inl e) nil = same e ends
    go (inl e) (cons j b) = same e (differ j)
    go (inr k) b = differ k
under_high (t ∷ u ∷ r) v ends a = ends
under_high (t ∷ u ∷ r) v (differ h) a = differ h
under_high (t ∷ u ∷ r) v (same e h) (cons i a) = same e (under_high (u ∷ r) v h a)

-- it is below r, which is not empty, as something is below it
pub under_low : {x r : Row} → x <ⁿ r → (v : Row) → one_below r ++ (M ∷ v) <ⁿ r
unfolding one_below
under_low {r = []} h v = no_nil h
under_low {r = t ∷ []} h v = differ (lowered_below t)
under_low {r = t ∷ u ∷ r} h v = same refl (under_low {x = []} {r = u ∷ r} ends v)

-- ── `under` and `over` ──

module _ (r : Row) where
  pub under_in : {v : Row} → v <ⁿ r → under r v ≡ v
  unfolding under
  under_in h = if_below_lem _ _ h

  pub under_out : {v : Row} → r ≤ⁿ v → under r v ≡ one_below r ++ (M ∷ v)
  unfolding under
  under_out h = if_not_below_lem _ _ h

  pub over_in : {v : Row} (w : Row) → r <ⁿ v → over r v w ≡ w
  unfolding over
  over_in w h = rw (row_more h)

  pub over_out : {v : Row} (w : Row) → v ≤ⁿ r → over r v w ≡ r ++ (m ∷ v)
  unfolding over
  over_out w h = if_not_above_lem _ _ h

  pub under_above : {x v : Row} → x <ⁿ v → x <ⁿ r → BelowM x → x <ⁿ under r v
  under_above {x} {v} h k b = go (half v r)
    where
      go : Half v r → x <ⁿ under r v
      go (is_under l) = rw (under_in l) h
      go (at_least l) = rw (under_out l) (under_high r v k b)

  pub under_below : {x : Row} (v : Row) → x <ⁿ r → under r v <ⁿ r
  under_below v k = go (half v r)
    where
      go : Half v r → under r v <ⁿ r
      go (is_under l) = rw (under_in l) l
      go (at_least l) = rw (under_out l) (under_low k v)

  pub under_mono : {v w : Row} → v <ⁿ w → BelowM v → under r v <ⁿ under r w
  under_mono {v} {w} l b = go (half v r) (half w r)
    where
      go : Half v r → Half w r → under r v <ⁿ under r w
      go (is_under h) (is_under k) = rw (under_in h, under_in k) l
      go (is_under h) (at_least k) = rw (under_in h, under_out k) (under_high r w h b)
      go (at_least h) (is_under k) = clash (≤<_trans h l) k
      go (at_least h) (at_least k) = rw (under_out h, under_out k) (++_left (one_below r) (same refl l))

  pub over_above : (v : Row) {w : Row} → (r <ⁿ v → r <ⁿ w) → r <ⁿ over r v w
  over_above v {w} f = go (half r v)
    where
      go : Half r v → r <ⁿ over r v w
      go (is_under h) = rw (over_in w h) (f h)
      go (at_least h) = rw (over_out w h) (++_prefix r m v)

  pub over_below : (v : Row) {w u : Row} → r ++ (m ∷ v) <ⁿ u → w <ⁿ u → over r v w <ⁿ u
  over_below v {w} {u} h k = go (half r v)
    where
      go : Half r v → over r v w <ⁿ u
      go (is_under l) = rw (over_in w l) k
      go (at_least l) = rw (over_out w l) h

  pub over_mono : {v v' w w' : Row} → v <ⁿ v' → w <ⁿ w' → (r <ⁿ v' → r ++ (m ∷ v) <ⁿ w') → over r v w <ⁿ over r v' w'
  over_mono {v} {v'} {w} {w'} l f g = go (half r v) (half r v')
    where
      go : Half r v → Half r v' → over r v w <ⁿ over r v' w'
      go (is_under h) (is_under k) = rw (over_in w h, over_in w' k) f
      go (is_under h) (at_least k) = clash (<≤_trans l k) h
      go (at_least h) (is_under k) = rw (over_out w h, over_in w' k) (g k)
      go (at_least h) (at_least k) = rw (over_out w h, over_out w' k) (++_left r (same refl l))

-- ── between two logged names ──

module _ (r q : Row) {t : Row} where
  pub gap_low : t ≤ⁿ r → back_between r q t ≡ r ++ (m ∷ t)
  gap_low (less h) = rw (row_less h)
  gap_low (equal e) = rw (e, row_same r)

  pub gap_high : r <ⁿ t → q ≤ⁿ t → back_between r q t ≡ one_below q ++ (M ∷ t)
  gap_high h (less k) = rw (row_more h, row_more k)
  gap_high h (equal e) = rw (row_more h, e, row_same t)

  pub gap_in : r <ⁿ t → t <ⁿ q → back_between r q t ≡ t
  gap_in h k = rw (row_more h, row_less k)

-- `under` of the one name, within `over` of the other
pub gap_is : (r q t : Row) → back_between r q t ≡ over r t (under q t)
unfolding under over
gap_is r q t = refl
