-- Taking back as 01's four bullets have it, the log read by index: `bullet_logged`, `bullet_below`, `bullet_between`,
-- `bullet_above`. The walk along the log may begin at any r(k) whose N(k) is not above the name (`back_at`). What is stripped is
-- said as a statement (`StripBelow`, `StripAbove`). Assumes nothing.
use mathlib.Core.Path.{◌≡◌, refl, sym, ◌∙◌}
use mathlib.Core.Logic.{◌⊎◌, inl, inr}
use mathlib.Core.List.{List, [], ◌∷◌}
use Prim.Native.Nat.{ℕ, zero, suc, ◌<◌}
use native.Mathlib.Omega.{arith}
use lib.IntN.{pos, negsuc}
use lib.ListN.{length, drop, drop_of_length-le}
use lib.Seq.{drop-cons}
use Rattle.names.specs.declared.Author.{Author}
use Rattle.names.specs.declared.Tuple.{Tuple}
use Rattle.names.specs.Ordering.{Row, offset, ◌<ᵗ◌, ◌<ⁿ◌, differ, same, ◌≤ⁿ◌, less, equal}
use Rattle.names.specs.Names.{lowered}
use Rattle.names.proofs.Laws.{<ᵗ_trans, <ᵗ_irrefl, row_less, row_more, row_same, lowered_next, <≤_trans}
use Rattle.name_renames.specs.Renaming.{lead, N, tail, strip_below, strip_above, back_below, back_between, back_above, back_from, back_of}
use Rattle.name_renames.proofs.Lists.{at}
use Rattle.name_renames.proofs.Splits.{SplitT, is_below, is_level, is_above, split_t, Half, half, is_under, at_least, if_below_lem, if_not_below_lem, if_above_lem, no_nil, next}

-- ── names between two leads ──

-- c begins with h, and goes on above a
pub data Starts (h : Tuple) (a : Row) : Row → Type 0 where
  starts : {s : Tuple} {t : Row} → s ≡ h → a <ⁿ t → Starts h a (s ∷ t)

-- between (u one offset lower)·a and u there are only names that begin with (u one offset lower)
pub squeeze : {u : Tuple} {a c : Row} → lowered u ∷ a <ⁿ c → c <ⁿ u ∷ [] → Starts (lowered u) a c
squeeze {u} (differ {t = h} l) (differ k) = go (lowered_next k)
  where
    go : {X : Type 0} → (h ≡ lowered u) ⊎ (h <ᵗ lowered u) → X
    go (inl e) = absurd (<ᵗ_irrefl (rw e at l))
    go (inr j) = absurd (<ᵗ_irrefl (<ᵗ_trans l j))
squeeze (same e h) (differ k) = starts (sym e) h
squeeze (differ h) (same f k) = no_nil k
squeeze (same e h) (same f k) = no_nil k

-- and between h·a and h·b only names that begin with h
pub squeeze_same : {h : Tuple} {a b c : Row} → h ∷ a <ⁿ c → c <ⁿ h ∷ b → Starts h a c
squeeze_same (differ h) (differ k) = absurd (<ᵗ_irrefl (<ᵗ_trans h k))
squeeze_same (same e h) (differ k) = starts (sym e) h
squeeze_same (differ h) (same f k) = absurd (<ᵗ_irrefl (rw f at h))
squeeze_same (same e h) (same f k) = starts f h

-- c begins with h
starts_is : {h : Tuple} {a c : Row} → Starts h a c → c ≡ h ∷ tail c
starts_is (starts e k) = cc

module _ (p : ℕ) (author : Author) where
  -- ── what is stripped, as a statement ──

  unfoldable pub StaysBelow : Row → Type 0
  StaysBelow [] = Unit
  StaysBelow (h ∷ t) = h ≡ lead p author (negsuc 0) → t <ⁿ N p author 0

  pub data StripBelow : Row → Row → Type 0 where
    kept_below : {c : Row} → StaysBelow c → StripBelow c c
    cut_below : {h : Tuple} {t : Row} → h ≡ lead p author (negsuc 0) → N p author 0 ≤ⁿ t → StripBelow (h ∷ t) t

  pub strip_below_lem : (c : Row) → StripBelow c (strip_below p author c)
  unfolding strip_below StaysBelow
  strip_below_lem [] = kept_below tt
  strip_below_lem (h ∷ t) = go (split_t h (lead p author (negsuc 0))) (half t (N p author 0))
    where
      go : SplitT h (lead p author (negsuc 0)) → Half t (N p author 0) → StripBelow (h ∷ t) (strip_below p author (h ∷ t))
      go (is_below k e) b = rw e (kept_below {c = h ∷ t} (λ d. absurd (<ᵗ_irrefl (rw d at k))))
      go (is_level k e) (is_under b) = rw (e, if_below_lem) (kept_below {c = h ∷ t} (λ _. b))
      go (is_level k e) (at_least b) = rw (e, if_not_below_lem) (cut_below k b)
      go (is_above k e) b = rw e (kept_below {c = h ∷ t} (λ d. absurd (<ᵗ_irrefl (rw d at k))))

  unfoldable pub StaysAbove : ℕ → Row → Type 0
  StaysAbove k [] = Unit
  StaysAbove k (h ∷ t) = h ≡ lead p author (pos k) → N p author k ≤ⁿ t

  pub data StripAbove (k : ℕ) : Row → Row → Type 0 where
    kept_above : {c : Row} → StaysAbove k c → StripAbove k c c
    cut_above : {h : Tuple} {t : Row} → h ≡ lead p author (pos k) → t <ⁿ N p author k → StripAbove k (h ∷ t) t

  pub strip_above_lem : (k : ℕ) (c : Row) → StripAbove k c (strip_above p author k c)
  unfolding strip_above StaysAbove
  strip_above_lem k [] = kept_above tt
  strip_above_lem k (h ∷ t) = go (split_t h (lead p author (pos k))) (half t (N p author k))
    where
      go : SplitT h (lead p author (pos k)) → Half t (N p author k) → StripAbove k (h ∷ t) (strip_above p author k (h ∷ t))
      go (is_below j e) b = rw e (kept_above {c = h ∷ t} (λ d. absurd (<ᵗ_irrefl (rw d at j))))
      go (is_level j e) (is_under b) = rw (e, if_below_lem) (cut_above j b)
      go (is_level j e) (at_least b) = rw (e, if_not_below_lem) (kept_above {c = h ∷ t} (λ _. b))
      go (is_above j e) b = rw e (kept_above {c = h ∷ t} (λ d. absurd (<ᵗ_irrefl (rw d at j))))

  -- ── the walk, step by step ──

  pub back_N : (k : ℕ) (r : Row) (rest : List Row) → back_from p author k r rest (N p author k) ≡ r
  unfolding back_from
  back_N k r [] = rw (row_same (N p author k))
  back_N k r (q ∷ rest) = rw (row_less {a = N p author k} {b = N p author (suc k)} (differ (offset refl refl refl next)), row_same (N p author k))

  pub back_past : (k : ℕ) (r q : Row) (rest : List Row) {c : Row} → N p author (suc k) ≤ⁿ c → back_from p author k r (q ∷ rest) c ≡ back_from p author (suc k) q rest c
  unfolding back_from
  back_past k r q rest h = if_not_below_lem _ _ h

  pub back_gap : (k : ℕ) (r q : Row) (rest : List Row) {c : Row} → N p author k <ⁿ c → c <ⁿ N p author (suc k) → back_from p author k r (q ∷ rest) c ≡ back_between r q (tail c)
  unfolding back_from
  back_gap k r q rest h l = rw (row_less l, row_more h)

  pub back_end : (k : ℕ) (r : Row) {c : Row} → N p author k <ⁿ c → back_from p author k r [] c ≡ back_above p author k r c
  unfolding back_from
  back_end k r h = if_above_lem _ _ h

  module _ (r : Row) (rest : List Row) {c : Row} where
    pub back_low : c <ⁿ N p author 0 → back_of p author (r ∷ rest) c ≡ back_below p author r c
    unfolding back_of
    back_low h = if_below_lem _ _ h

    pub back_high : N p author 0 ≤ⁿ c → back_of p author (r ∷ rest) c ≡ back_from p author 0 r rest c
    unfolding back_of
    back_high h = if_not_below_lem _ _ h

  module _ (r : Row) (rest : List Row) where
    abbrev whole : List Row
    whole = r ∷ rest

    -- taking back c, which is not below N(k), may begin at r(k)
    pub back_at : (k : ℕ) {c : Row} → k < length whole → N p author k ≤ⁿ c → back_of p author whole c ≡ back_from p author k (at whole k) (drop (suc k) whole) c
    back_at zero i h = back_high r rest h
    back_at (suc k) i h =
        back_at k (omega arith) (less (<≤_trans (differ (offset refl refl refl next)) h))
        ∙ rw (drop-cons whole (suc k) [] i) (back_past k (at whole k) (at whole (suc k)) (drop (suc (suc k)) whole) h)

-- ── 01's bullets ──

module _ (p : ℕ) (author : Author) (r : Row) (rest : List Row) where
  abbrev log : List Row
  log = r ∷ rest

  -- "c = N(k), 0 ≤ k < n: r(k)."
  pub bullet_logged : (k : ℕ) → k < length log → back_of p author log (N p author k) ≡ at log k
  bullet_logged k i = back_at p author r rest k i (equal refl) ∙ back_N p author k (at log k) (drop (suc k) log)

  -- "c below N(0): .."
  pub bullet_below : {c : Row} → c <ⁿ N p author 0 → back_of p author log c ≡ back_below p author r c
  bullet_below h = back_low p author r rest h

  -- "c between N(k) and N(k+1), so c = N(k)·t: .."
  abbrev BackInGap : ℕ → Row → Type 0
  BackInGap k c = (c ≡ lead p author (pos k) ∷ tail c) × (back_of p author log c ≡ back_between (at log k) (at log (suc k)) (tail c))

  pub bullet_between : (k : ℕ) {c : Row} → suc k < length log → N p author k <ⁿ c → c <ⁿ N p author (suc k) → BackInGap k c
  bullet_between k {c} i h l =
      let after = drop (suc (suc k)) log in
      let gap = back_gap p author k (at log k) (at log (suc k)) after h l in
      (starts_is (squeeze h l), back_at p author r rest k (omega arith) (less h) ∙ rw (drop-cons log (suc k) [] i) gap)

  -- "c above N(n−1): .."
  pub bullet_above : (k : ℕ) {c : Row} → suc k ≡ length log → N p author k <ⁿ c → back_of p author log c ≡ back_above p author k (at log k) c
  bullet_above k {c} i h = back_at p author r rest k (omega arith) (less h) ∙ go (drop_of_length-le log {i = suc k} (omega arith))
    where
      go : drop (suc k) log ≡ [] → back_from p author k (at log k) (drop (suc k) log) c ≡ back_above p author k (at log k) c
      go e = rw e (back_end p author k (at log k) h)
