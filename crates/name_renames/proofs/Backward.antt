-- Taking back keeps the order strictly where no name of the log and neither of the two names has a marker: `take_back_mono`,
-- and of rising lists `take_back_rising`. (With a marker it may not: proofs/Laws.antt.) `below_first`,
-- `above_logged` and `below_logged` say between which logged names a name is put. Assumes nothing.
use mathlib.Core.Path.{◌≡◌, sym, ◌∙◌}
use mathlib.Core.List.{List, [], ◌∷◌, map}
use Prim.Native.Nat.{ℕ, suc, ◌<◌}
use native.Mathlib.Omega.{arith}
use lib.IntN.{pos, negsuc}
use lib.ListN.{length, drop}
use lib.Seq.{drop-cons}
use Rattle.names.specs.declared.Author.{Author}
use Rattle.names.specs.declared.Tuple.{Tuple}
use Rattle.names.specs.Ordering.{Row, ◌<ⁿ◌, ◌≤ⁿ◌, less, equal, Rising, more}
use Rattle.names.proofs.Laws.{<ⁿ_trans, <≤_trans, ≤<_trans}
use Rattle.name_renames.specs.Renaming.{lead, N, first_position, take_back, tail, strip_above, back_from, back_of}
use Rattle.name_renames.proofs.Splits.{Half, half, is_under, at_least, clash, same_head}
use Rattle.name_renames.proofs.Lists.{All, at, nil, cons, all_drop, rising_drop, rising_map}
use Rattle.name_renames.proofs.Walk.{Starts, starts, squeeze, squeeze_same, StaysBelow, StripBelow, kept_below, cut_below, strip_below_lem, StaysAbove, StripAbove, kept_above, cut_above, strip_above_lem, back_N, back_past, back_gap, back_end, back_low, back_high, back_at}
use Rattle.name_renames.proofs.Gaps.{MarkerFree, Inner, all_inner, log_inner, inner_below_M, over_below_M, over_low, under_above, under_below, under_mono, over_above, over_below, over_mono, gap_is}

tail_inner : {c : Row} → All Inner c → All Inner (tail c)
tail_inner nil = nil
tail_inner (cons i a) = a

module _ (p : ℕ) (author : Author) where
  -- ── what is stripped keeps the order ──

  below_inner : {c v : Row} → StripBelow p author c v → All Inner c → All Inner v
  below_inner (kept_below f) a = a
  below_inner (cut_below e k) (cons i a) = a

  pub below_mono : {c d v w : Row} → StripBelow p author c v → StripBelow p author d w → c <ⁿ d → d <ⁿ N p author 0 → v <ⁿ w
  unfolding StaysBelow
  below_mono (kept_below f) (kept_below g) l b = l
  below_mono (kept_below f) (cut_below e k) l b = <≤_trans (<ⁿ_trans l b) k
  below_mono (cut_below e k) (cut_below d j) l b = same_head (e ∙ sym d) l
  below_mono (cut_below {t = t} e k) (kept_below {c = c} g) l b = go (squeeze (rw e at l) b) g
    where
      go : {X : Type 0} {c : Row} → Starts (lead p author (negsuc 0)) t c → StaysBelow p author c → X
      go (starts d j) f = clash (≤<_trans k j) (f d)

  above_inner : {k : ℕ} {c v : Row} → StripAbove p author k c v → All Inner c → All Inner v
  above_inner (kept_above f) a = a
  above_inner (cut_above e k) (cons i a) = a

  pub above_mono : {k : ℕ} {c d v w : Row} → StripAbove p author k c v → StripAbove p author k d w → N p author k <ⁿ c → c <ⁿ d → v <ⁿ w
  unfolding StaysAbove
  above_mono (kept_above f) (kept_above g) b l = l
  above_mono (cut_above e j) (kept_above g) b l = <ⁿ_trans j (<ⁿ_trans b l)
  above_mono (cut_above e j) (cut_above d i) b l = same_head (e ∙ sym d) l
  above_mono {k} (kept_above f) (cut_above {t = t} e j) b l = go (squeeze_same b (rw e at l)) f (rw e at l)
    where
      go : {X : Type 0} {c : Row} → Starts (lead p author (pos k)) [] c → StaysAbove p author k c → c <ⁿ lead p author (pos k) ∷ t → X
      go (starts d i) f l = clash (≤<_trans (f d) (same_head d l)) j

  -- ── the walk along the log ──

  -- what is above N(k) goes above r(k)
  pub back_above_lem : (k : ℕ) (r : Row) (rest : List Row) {c : Row} → Rising (r ∷ rest) → All (All Inner) (r ∷ rest) → N p author k <ⁿ c → r <ⁿ back_from p author k r rest c
  back_above_lem k r [] {c} o is h = rw (back_end p author k r h) (over_above r (strip_above p author k c) (λ x. x))
  back_above_lem k r (q ∷ rest) {c} (more l o) (cons i is) h = go (half c (N p author (suc k))) (λ j. back_above_lem (suc k) q rest o is j)
    where
      go : Half c (N p author (suc k)) → (N p author (suc k) <ⁿ c → q <ⁿ back_from p author (suc k) q rest c) → r <ⁿ back_from p author k r (q ∷ rest) c
      go (is_under j) f = rw (back_gap p author k r q rest h j, gap_is r q (tail c)) (over_above r (tail c) (λ x. under_above q x l (inner_below_M i)))
      go (at_least (less j)) f = rw (back_past p author k r q rest (less j)) (<ⁿ_trans l (f j))
      go (at_least (equal e)) f = rw (back_past p author k r q rest (equal e), ← e, back_N p author (suc k) q rest) l

  back_from_lem : (k : ℕ) (r : Row) (rest : List Row) {c : Row} → Rising (r ∷ rest) → All (All Inner) (r ∷ rest) → N p author k ≤ⁿ c → r ≤ⁿ back_from p author k r rest c
  back_from_lem k r rest o is (less h) = less (back_above_lem k r rest o is h)
  back_from_lem k r rest o is (equal e) = equal (rw (← e, back_N p author k r rest))

  -- what is not below N(k), and below N(k+1), goes below r(k+1)
  pub back_below_lem : (k : ℕ) (r q : Row) (rest : List Row) {c : Row} → r <ⁿ q → All Inner q → N p author k ≤ⁿ c → c <ⁿ N p author (suc k) → back_from p author k r (q ∷ rest) c <ⁿ q
  back_below_lem k r q rest {c} l i (less h) j = rw (back_gap p author k r q rest h j, gap_is r q (tail c)) (over_below r (tail c) (over_low (tail c) l i) (under_below q (tail c) l))
  back_below_lem k r q rest {c} l i (equal e) j = rw (← e, back_N p author k r (q ∷ rest)) l

  tails : {k : ℕ} {c d : Row} → N p author k <ⁿ c → c <ⁿ d → d <ⁿ N p author (suc k) → tail c <ⁿ tail d
  tails h l j = go (squeeze h (<ⁿ_trans l j)) (squeeze (<ⁿ_trans h l) j) l
    where
      go : {u : Tuple} {a c d : Row} → Starts u a c → Starts u a d → c <ⁿ d → tail c <ⁿ tail d
      go (starts e h) (starts f k) l = same_head (e ∙ sym f) l

  module _ (c d : Row) (ci : All Inner c) (di : All Inner d) (l : c <ⁿ d) where
    -- c and d, taken back from r(k) on, keep their order
    abbrev Kept : ℕ → Row → List Row → Type 0
    Kept k r rest = back_from p author k r rest c <ⁿ back_from p author k r rest d

    -- N(k) itself goes to r(k)
    back_first : (k : ℕ) (r : Row) (rest : List Row) → Rising (r ∷ rest) → All (All Inner) (r ∷ rest) → N p author k ≡ c → Kept k r rest
    back_first k r rest o is e = rw (← e, back_N p author k r rest) (back_above_lem k r rest o is (rw (← e) at l))

    pub back_mono : (k : ℕ) (r : Row) (rest : List Row) → Rising (r ∷ rest) → All (All Inner) (r ∷ rest) → N p author k ≤ⁿ c → Kept k r rest
    back_mono k r [] o is b = go b
      where
        go : N p author k ≤ⁿ c → Kept k r []
        go (equal e) = back_first k r [] o is e
        go (less h) =
            let v = above_mono (strip_above_lem p author k c) (strip_above_lem p author k d) h l in
            let w = above_inner (strip_above_lem p author k d) di in
            rw (back_end p author k r h, back_end p author k r (<ⁿ_trans h l)) (over_mono r v v (λ x. over_low _ x w))
    back_mono k r (q ∷ rest) (more u o) (cons i (cons j is)) b = go b (half c (N p author (suc k))) (half d (N p author (suc k))) (λ x. back_mono (suc k) q rest o (cons j is) x)
      where
        Sides : Row → Type 0
        Sides c = Half c (N p author (suc k))

        go : N p author k ≤ⁿ c → Sides c → Sides d → (N p author (suc k) ≤ⁿ c → Kept (suc k) q rest) → Kept k r (q ∷ rest)
        go (equal e) x y f = back_first k r (q ∷ rest) (more u o) (cons i (cons j is)) e
        go (less h) (is_under x) (is_under y) f =
            let t = tails h l y in
            let a = tail_inner ci in
            let b = tail_inner di in
            rw (back_gap p author k r q rest h x, back_gap p author k r q rest (<ⁿ_trans h l) y, gap_is r q (tail c), gap_is r q (tail d))
            (over_mono r t (under_mono q t (inner_below_M a)) (λ z. under_above q (over_low _ z b) (over_low _ u j) (over_below_M i a)))
        go (less h) (is_under x) (at_least y) f =
            <≤_trans (back_below_lem k r q rest u j (less h) x) (rw (back_past p author k r q rest y) (back_from_lem (suc k) q rest o (cons j is) y))
        go (less h) (at_least x) (is_under y) f = clash (≤<_trans x l) y
        go (less h) (at_least x) (at_least y) f = rw (back_past p author k r q rest x, back_past p author k r q rest y) (f x)

    back_of_mono : (r : Row) (rest : List Row) → [] <ⁿ r → Rising (r ∷ rest) → All (All Inner) (r ∷ rest) → back_of p author (r ∷ rest) c <ⁿ back_of p author (r ∷ rest) d
    back_of_mono r rest e o is = go (half c (N p author 0)) (half d (N p author 0))
      where
        go : Half c (N p author 0) → Half d (N p author 0) → back_of p author (r ∷ rest) c <ⁿ back_of p author (r ∷ rest) d
        go (is_under x) (is_under y) =
            let v = below_mono (strip_below_lem p author c) (strip_below_lem p author d) l y in
            let i = inner_below_M (below_inner (strip_below_lem p author c) ci) in
            rw (back_low p author r rest x, back_low p author r rest y) (under_mono r v i)
        go (is_under x) (at_least y) = rw (back_low p author r rest x, back_high p author r rest y) (<≤_trans (under_below r _ e) (back_from_lem 0 r rest o is y))
        go (at_least x) (is_under y) = clash (≤<_trans x l) y
        go (at_least x) (at_least y) = rw (back_high p author r rest x, back_high p author r rest y) (back_mono 0 r rest o is x)

-- ── where taking back puts a name ──

module _ (p : ℕ) (author : Author) (r : Row) (rest : List Row) where
  abbrev log : List Row
  log = r ∷ rest

  -- what is below N(0) goes below r0
  pub below_first : {c : Row} → [] <ⁿ r → c <ⁿ N p author 0 → back_of p author log c <ⁿ r
  below_first {c} e h = rw (back_low p author r rest h) (under_below r _ e)

  module _ (o : Rising log) (is : All MarkerFree log) where
    -- the log from k on
    from : (k : ℕ) → k < length log → Rising (at log k ∷ drop (suc k) log) × All (All Inner) (at log k ∷ drop (suc k) log)
    from k i = rw (← (drop-cons log k [] i)) (rising_drop k o, all_drop k (log_inner is))

    -- what is above N(k) goes above r(k)
    pub above_logged : (k : ℕ) {c : Row} → k < length log → N p author k <ⁿ c → at log k <ⁿ back_of p author log c
    above_logged k i h = rw (back_at p author r rest k i (less h)) (back_above_lem p author k (at log k) (drop (suc k) log) (from k i).0 (from k i).1 h)

    -- what is between N(k) and N(k+1) goes below r(k+1)
    pub below_logged : (k : ℕ) {c : Row} → suc k < length log → N p author k <ⁿ c → c <ⁿ N p author (suc k) → back_of p author log c <ⁿ at log (suc k)
    below_logged k {c} i h l = rw (back_at p author r rest k (omega arith) (less h), e) (go (rw e at w.0) (rw e at w.1))
      where
        next : Row
        next = at log (suc k)

        after : List Row
        after = drop (suc (suc k)) log

        e : drop (suc k) log ≡ at log (suc k) ∷ drop (suc (suc k)) log
        e = drop-cons log (suc k) [] i

        w : Rising (at log k ∷ drop (suc k) log) × All (All Inner) (at log k ∷ drop (suc k) log)
        w = from k (omega arith)

        go : Rising (at log k ∷ next ∷ after) → All (All Inner) (at log k ∷ next ∷ after) → back_from p author k (at log k) (next ∷ after) c <ⁿ next
        go (more u o) (cons i (cons j is)) = back_below_lem p author k (at log k) next after u j (less h) l

-- ── the theorem ──

-- over a rising log whose first name is not empty
module _ (author : Author) (r : Row) (rest : List Row) where
  abbrev whole : List Row
  whole = r ∷ rest

  pub take_back_mono : {c d : Row} → [] <ⁿ r → Rising whole → All MarkerFree whole → MarkerFree c → MarkerFree d → c <ⁿ d → take_back author whole c <ⁿ take_back author whole d
  unfolding take_back
  take_back_mono {c} {d} e o is ci di l = back_of_mono (first_position whole) author c d (all_inner ci) (all_inner di) l r rest e o (log_inner is)

  -- the order half of demand 3: a rising list of names without markers, taken back, is rising
  pub take_back_rising : {names : List Row} → [] <ⁿ r → Rising whole → All MarkerFree whole → All MarkerFree names → Rising names → Rising (map (take_back author whole) names)
  take_back_rising e o is cs q = rising_map (take_back author whole) (λ a b i j l. take_back_mono e o is i j l) cs q
