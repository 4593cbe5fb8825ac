-- Where a name stands in a rising log (`stands`), and the case of 01's table that follows from its place: `case_here`, `case_first`,
-- `case_gap`, `case_last`. Names that rise stand at places that do not fall (`place_grows`). Assumes nothing.
use mathlib.Core.Path.{◌≡◌, refl, subst}
use mathlib.Core.List.{List, [], ◌∷◌}
use mathlib.Core.Bool.{Bool, true, false, cond}
use Prim.Native.Nat.{ℕ, zero, suc, ◌<◌, ◌≤◌}
use native.Mathlib.Nat.{not-suc-le-zero}
use native.Mathlib.Omega.{arith}
use lib.ListN.{length, get_or}
use Rattle.names.specs.declared.Author.{Author}
use Rattle.std.specs.declared.cmp.Ordering.{Ordering}
use Rattle.names.specs.Ordering.{Row, compare_rows, ◌<ⁿ◌, Rising}
use Rattle.std.specs.Ordering.{is_lt}
use Rattle.names.proofs.Laws.{tail_rising, <ⁿ_trans, Tri, below as is_below, level, above, tri_n, row_less}
use Rattle.pages.specs.declared.Place.{Place}
use Rattle.pages.specs.declared.Place.TheVariants.{Here, Gap}
use Rattle.pages.specs.Places.{below, has, place_of}
use Rattle.pages.proofs.FindByHalving.{index_below, to_right, found, missed}
use Rattle.name_renames.specs.declared.Case.TheVariants.{KeepBelow, PutBelow, Logged, Between, PutAbove, KeepAbove}
use Rattle.name_renames.specs.Renaming.{N, case_of, if_below}
use Rattle.name_renames.proofs.CaseByIndex.{case_before, case_equal, case_between, case_after}

-- ── the place of x among the names l ──

-- the names before the k-th are below x; those from the k-th on are above
abbrev Before : Row → List Row → ℕ → Type 0
Before x l k = (i : ℕ) → i < k → get_or l i [] <ⁿ x

abbrev After : Row → List Row → ℕ → Type 0
After x l k = (i : ℕ) → k ≤ i → i < length l → x <ⁿ get_or l i []

pub data Stands (x : Row) (l : List Row) : Place → Type 0 where
  here : {k : ℕ} → k < length l → get_or l k [] ≡ x → Stands x l (Here k)
  gap : {k : ℕ} → k ≤ length l → Before x l k → After x l k → Stands x l (Gap k)

-- after a name that is below x
after : {x r : Row} {l : List Row} → r <ⁿ x → {p : Place} → Stands x l p → (q : Place) × Stands x (r ∷ l) q
after h (here {k} i e) = (Here (suc k), here {k = suc k} (omega arith) e)
after {x} {r} {l} h (gap {k} i f g) = (Gap (suc k), gap {k = suc k} (omega arith) (first h f) (last g))
  where
    first : r <ⁿ x → Before x l k → Before x (r ∷ l) (suc k)
    first h f zero j = h
    first h f (suc i) j = f i (omega arith)

    last : After x l k → After x (r ∷ l) (suc k)
    last g zero j m = absurd (not-suc-le-zero j)
    last g (suc i) j m = g i (omega arith) (omega arith)

somewhere : (x : Row) (l : List Row) → Rising l → (p : Place) × Stands x l p
somewhere x [] o = (Gap 0, gap {k = 0} (omega arith) (λ i h. absurd (not-suc-le-zero h)) (λ i h j. absurd (not-suc-le-zero j)))
somewhere x (r ∷ l) o = go (compare_rows r x) (tri_n r x) (somewhere x l (tail_rising o))
  where
    go : (c : Ordering) → Tri ◌<ⁿ◌ r x c → (p : Place) × Stands x l p → (p : Place) × Stands x (r ∷ l) p
    go _ (is_below h) (p, s) = after h s
    go _ (level e) s = (Here 0, here {k = 0} (omega arith) e)
    go _ (above h) s = (Gap 0, gap {k = 0} (omega arith) (λ i j. absurd (not-suc-le-zero j)) (to_right o 0 (omega arith) h))

pub stands : (x : Row) (l : List Row) → Rising l → Stands x l (place_of x l)
stands x l o = go (somewhere x l o).1
  where
    go : {p : Place} → Stands x l p → Stands x l (place_of x l)
    go (here {k} h e) = subst (Stands x l) (found x l k o h e) (here h e)
    go (gap {k} h f g) = subst (Stands x l) (missed x l k h f g) (gap h f g)

of_here : {x : Row} {l : List Row} {k : ℕ} → Stands x l (Here k) → (k < length l) × (get_or l k [] ≡ x)
of_here (here h e) = (h, e)

of_gap : {x : Row} {l : List Row} {k : ℕ} → Stands x l (Gap k) → (k ≤ length l) × Before x l k × After x l k
of_gap (gap h f g) = (h, f, g)

-- ── by the number of names below ──

abbrev pub index : Place → ℕ
index (Here k) = k
index (Gap k) = k

pub index_is : (x : Row) (l : List Row) → index (place_of x l) ≡ below x l
index_is x l = go (has x l)
  where
    go : (b : Bool) → index (cond b (Here (below x l)) (Gap (below x l))) ≡ below x l
    go true = refl
    go false = refl

before : {x : Row} {l : List Row} {p : Place} → Rising l → Stands x l p → (i : ℕ) → i < index p → get_or l i [] <ⁿ x
before o (here {k} h e) i j = rw e at (index_below o i k j h)
before o (gap h f g) i j = f i j

pub below_before : (x : Row) (l : List Row) → Rising l → (i : ℕ) → i < below x l → get_or l i [] <ⁿ x
below_before x l o i h = before o (stands x l o) i (omega (arith, index_is x l))

within : {x : Row} {l : List Row} {p : Place} → Stands x l p → index p ≤ length l
within (here h e) = omega arith
within (gap h f g) = h

pub below_within : (x : Row) (l : List Row) → Rising l → below x l ≤ length l
below_within x l o = omega (arith, within (stands x l o), index_is x l)

pub place_grows : (x y : Row) (l : List Row) → x <ⁿ y → below x l ≤ below y l
place_grows x y [] h = omega arith
place_grows x y (r ∷ l) h = go (compare_rows r x) (tri_n r x) refl (is_lt (compare_rows r y)) refl (place_grows x y l h)
  where
    go : (o : Ordering) → Tri ◌<ⁿ◌ r x o → compare_rows r x ≡ o → (b : Bool) → is_lt (compare_rows r y) ≡ b → below x l ≤ below y l →
        below x (r ∷ l) ≤ below y (r ∷ l)
    go o (is_below k) d b e f = rw (row_less k, row_less (<ⁿ_trans k h)) (omega arith)
    go o (level k) d true e f = rw (d, e) (omega arith)
    go o (level k) d false e f = rw (d, e) f
    go o (above k) d true e f = rw (d, e) (omega arith)
    go o (above k) d false e f = rw (d, e) f

-- ── the case of 01's table ──

module _ (p : ℕ) (author : Author) (x : Row) (log : List Row) (o : Rising log) where
  pub case_here : (k : ℕ) → place_of x log ≡ Here k → case_of p author log x ≡ Logged k
  case_here k e =
      let s = of_here (rw e at (stands x log o)) in
      case_equal p author x log k o s.0 s.1

  pub case_first : 1 ≤ length log → place_of x log ≡ Gap 0 → case_of p author log x ≡ if_below x (N p author 0) KeepBelow PutBelow
  case_first n e =
      let s = of_gap (rw e at (stands x log o)) in
      case_before p author x log n (s.2 0 (omega arith) n)

  pub case_gap : (k : ℕ) → suc k < length log → place_of x log ≡ Gap (suc k) → case_of p author log x ≡ Between k
  case_gap k h e =
      let s = of_gap (rw e at (stands x log o)) in
      case_between p author x log k h s.1 (s.2 (suc k) (omega arith) h)

  pub case_last : (k : ℕ) → length log ≤ suc k → place_of x log ≡ Gap (suc k) →
      (suc k ≡ length log) × (case_of p author log x ≡ if_below x (N p author k) (PutAbove k) KeepAbove)
  case_last k h e =
      let s = of_gap (rw e at (stands x log o)) in
      let g = s.0 in
      let n : suc k ≡ length log = omega arith in
      (n, case_after p author x log k n s.1)
