-- A slot at its rising place, and a row without a name, by the number of names below: `placed_split`, `without_split`.
-- Assumes nothing.
use mathlib.Core.Path.{◌≡◌, refl, ◌∙◌, sym, ap}
use mathlib.Core.List.{List, [], ◌∷◌, ◌++◌, map}
use mathlib.Core.Bool.{Bool, true, false, cond, ◌||◌}
use Prim.Native.Nat.{ℕ, suc, ◌<◌, ◌≤◌}
use native.Mathlib.Omega.{arith}
use lib.ListN.{length, take, drop}
use Rattle.std.specs.declared.cmp.Ordering.{Ordering}
use Rattle.std.specs.declared.cmp.Ordering.TheVariants.{Equal}
use Rattle.names.specs.Ordering.{Row, compare_rows, ◌<ⁿ◌, Rising, one, more}
use Rattle.std.specs.Ordering.{is_lt, is_eq}
use Rattle.names.proofs.Laws.{tail_rising, <ⁿ_trans, Tri, below as is_below, level, above, tri_n, row_less, row_more, row_same}
use Rattle.numbers.proofs.Bools.{yes_no}
use Rattle.slots.specs.Slots.{Slot}
use Rattle.pages.specs.Pages.{name_in}
use Rattle.pages.specs.declared.Place.TheVariants.{Here, Gap}
use Rattle.pages.specs.Places.{below, has, place_of}
use Rattle.edits.specs.Edits.{placed, without}

-- ── above the first, above all ──

-- every name of the row is above a
pub data Over (a : Row) : List Row → Type 0 where
  over_none : Over a []
  over_more : {x : Row} {l : List Row} → a <ⁿ x → Over a l → Over a (x ∷ l)

pub lift : {a b : Row} {l : List Row} → a <ⁿ b → Over b l → Over a l
lift h over_none = over_none
lift h (over_more k o) = over_more (<ⁿ_trans h k) (lift h o)

pub rising_over : {a : Row} {l : List Row} → Rising (a ∷ l) → Over a l
rising_over one = over_none
rising_over (more h r) = over_more h (lift h (rising_over r))

over_below : {a : Row} {l : List Row} → Over a l → below a l ≡ 0
over_below over_none = refl
over_below (over_more h o) = rw (row_more h) (over_below o)

over_has : {a : Row} {l : List Row} → Over a l → has a l ≡ false
over_has over_none = refl
over_has (over_more h o) = rw (row_more h) (over_has o)

-- ── insert ──

pub placed_over : (x : Slot) (l : List Slot) → Over x.name (map name_in l) → placed x l ≡ x ∷ l
placed_over x [] o = refl
placed_over x (y ∷ l) (over_more h o) = rw (row_less h)

-- the row with x before slot k, and the row without slot k
abbrev with_at : Slot → ℕ → List Slot → List Slot
with_at x k l = take k l ++ (x ∷ drop k l)

abbrev without_at : ℕ → List Slot → List Slot
without_at k l = take k l ++ drop (suc k) l

pub placed_split : (x : Slot) (l : List Slot) → Rising (map name_in l) → has x.name (map name_in l) ≡ false → placed x l ≡ with_at x (below x.name (map name_in l)) l
placed_split x [] r e = refl
placed_split x (y ∷ l) r e = go (compare_rows y.name x.name) (tri_n y.name x.name) (placed_split x l (tail_rising r))
  where
    go :
        (o : Ordering) → Tri ◌<ⁿ◌ y.name x.name o →
        (has x.name (map name_in l) ≡ false → placed x l ≡ with_at x (below x.name (map name_in l)) l) →
        placed x (y ∷ l) ≡ with_at x (below x.name (map name_in (y ∷ l))) (y ∷ l)
    go _ (is_below h) f =
        let n : has x.name (map name_in l) ≡ false = sym (ap (λ (o : Ordering). is_eq o || has x.name (map name_in l)) (row_less h)) ∙ e in
        rw (row_more h, row_less h) (ap (λ (r : List Slot). y ∷ r) (f n))
    go _ (level h) f =
        let s : compare_rows y.name x.name ≡ Equal = ap (λ (a : Row). compare_rows a x.name) h ∙ row_same x.name in
        yes_no (ap (λ (o : Ordering). is_eq o || has x.name (map name_in l)) s) e
    go _ (above h) f =
        let b = over_below (lift h (rising_over r)) in
        rw (row_less h, row_more h, b)

-- ── remove ──

pub without_over : (a : Row) (l : List Slot) → Over a (map name_in l) → without a l ≡ l
without_over a [] o = refl
without_over a (y ∷ l) (over_more h o) = rw (row_more h) (ap (λ (r : List Slot). y ∷ r) (without_over a l o))

pub without_split : (a : Row) (l : List Slot) → Rising (map name_in l) → has a (map name_in l) ≡ true → without a l ≡ without_at (below a (map name_in l)) l
without_split a [] r e = yes_no e refl
without_split a (y ∷ l) r e = go (compare_rows y.name a) (tri_n y.name a) (without_split a l (tail_rising r))
  where
    go :
        (o : Ordering) → Tri ◌<ⁿ◌ y.name a o →
        (has a (map name_in l) ≡ true → without a l ≡ without_at (below a (map name_in l)) l) →
        without a (y ∷ l) ≡ without_at (below a (map name_in (y ∷ l))) (y ∷ l)
    go _ (is_below h) f =
        let n : has a (map name_in l) ≡ true = sym (ap (λ (o : Ordering). is_eq o || has a (map name_in l)) (row_less h)) ∙ e in
        rw (row_less h) (ap (λ (r : List Slot). y ∷ r) (f n))
    go _ (level h) f =
        let s : compare_rows y.name a ≡ Equal = ap (λ (b : Row). compare_rows b a) h ∙ row_same a in
        let o : Over a (map name_in l) = rw h at (rising_over r) in
        rw (s, over_below o) (without_over a l o)
    go _ (above h) f =
        let n : has a (map name_in l) ≡ true = sym (ap (λ (o : Ordering). is_eq o || has a (map name_in l)) (row_more h)) ∙ e in
        yes_no n (over_has (lift h (rising_over r)))

-- ── where ──

pub below_most : (a : Row) (l : List Row) → below a l ≤ length l
below_most a [] = omega arith
below_most a (x ∷ l) = go (is_lt (compare_rows x a)) (below_most a l)
  where
    go : (b : Bool) → below a l ≤ length l → cond b (suc (below a l)) (below a l) ≤ suc (length l)
    go true h = omega arith
    go false h = omega arith

pub below_less : (a : Row) (l : List Row) → Rising l → has a l ≡ true → below a l < length l
below_less a [] r e = yes_no e refl
below_less a (x ∷ l) r e = go (compare_rows x a) (tri_n x a) (below_less a l (tail_rising r))
  where
    go : (o : Ordering) → Tri ◌<ⁿ◌ x a o → (has a l ≡ true → below a l < length l) → below a (x ∷ l) < suc (length l)
    go _ (is_below h) f =
        let n : has a l ≡ true = sym (ap (λ (o : Ordering). is_eq o || has a l) (row_less h)) ∙ e in
        rw (row_less h) (let g = f n in omega arith)
    go _ (level h) f =
        let s : compare_rows x a ≡ Equal = ap (λ (b : Row). compare_rows b a) h ∙ row_same a in
        let o : Over a l = rw h at (rising_over r) in
        rw (s, over_below o) (omega arith)
    go _ (above h) f =
        let n : has a l ≡ true = sym (ap (λ (o : Ordering). is_eq o || has a l) (row_more h)) ∙ e in
        yes_no n (over_has (lift h (rising_over r)))

-- what a place says
place_by : (b : Bool) (k n : ℕ) → cond b (Here n) (Gap n) ≡ Gap k → (b ≡ false) × (n ≡ k)
place_by true k n e = absurd (let z : ◌≡◌ {A = ℕ} 0 1 = cc in omega arith)
place_by false k n e = (refl, cc)

place_at : (b : Bool) (k n : ℕ) → cond b (Here n) (Gap n) ≡ Here k → (b ≡ true) × (n ≡ k)
place_at true k n e = (refl, cc)
place_at false k n e = absurd (let z : ◌≡◌ {A = ℕ} 0 1 = cc in omega arith)

pub is_gap : (a : Row) (l : List Row) (k : ℕ) → place_of a l ≡ Gap k → (has a l ≡ false) × (below a l ≡ k)
is_gap a l k e = place_by (has a l) k (below a l) e

pub is_here_lem : (a : Row) (l : List Row) (k : ℕ) → place_of a l ≡ Here k → (has a l ≡ true) × (below a l ≡ k)
is_here_lem a l k e = place_at (has a l) k (below a l) e
