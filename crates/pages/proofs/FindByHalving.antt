-- The place of a name in a rising row of names. Assumes nothing.
use mathlib.Core.Path.{◌≡◌, refl, ◌∙◌, ap}
use mathlib.Core.List.{List, [], ◌∷◌}
use mathlib.Core.Bool.{or-true, true, false}
use Prim.Native.Nat.{ℕ, zero, suc, ◌+◌, ◌<◌, ◌≤◌}
use native.Mathlib.Decide.{dec_lt}
use native.Mathlib.Nat.{not-suc-le-zero, le_of_suc-le-suc}
use native.Mathlib.Omega.{arith}
use lib.ListN.{length, get_or}
use Rattle.std.specs.declared.cmp.Ordering.{Ordering}
use Rattle.names.specs.Ordering.{Row, compare_rows, ◌<ⁿ◌, Rising}
use Rattle.std.specs.Ordering.{is_lt, is_eq}
use Rattle.names.proofs.Laws.{head_below, tail_rising, <ⁿ_trans, <ⁿ_irrefl, Tri, below as is_below, level, above, tri_n, row_less, row_same}
use Rattle.pages.specs.declared.Place.TheVariants.{Here, Gap}
use Rattle.pages.specs.Places.{below, has, place_of}

-- ── names of a rising row, by their index ──

pub index_below : {l : List Row} → Rising l → (i j : ℕ) → i < j → j < length l → get_or l i [] <ⁿ get_or l j []
index_below {l = []} r i j h k = absurd (not-suc-le-zero k)
index_below {l = a ∷ l} r i zero h k = absurd (not-suc-le-zero h)
index_below {l = a ∷ l} r zero (suc j) h k = head_below j r (le_of_suc-le-suc k)
index_below {l = a ∷ l} r (suc i) (suc j) h k = index_below (tail_rising r) i j (le_of_suc-le-suc h) (le_of_suc-le-suc k)

-- what is below a, or above it, at one place is so at those before, or after
module _ {a : Row} {l : List Row} (r : Rising l) (m : ℕ) (h : m < length l) where
  pub to_left : get_or l m [] <ⁿ a → (i : ℕ) → i < m + 1 → get_or l i [] <ⁿ a
  to_left t i k = elim (dec_lt i m) [
    | yes g ↦ <ⁿ_trans (index_below r i m g h) t
    | no g ↦ let e : m ≡ i = omega arith in rw e at t
  ]

  pub to_right : a <ⁿ get_or l m [] → (i : ℕ) → m ≤ i → i < length l → a <ⁿ get_or l i []
  to_right t i k g = elim (dec_lt m i) [
    | yes j ↦ <ⁿ_trans t (index_below r m i j g)
    | no j ↦ let e : m ≡ i = omega arith in rw e at t
  ]

-- ── counting ──

not_less : (x a : Row) → ¬ (x <ⁿ a) → is_lt (compare_rows x a) ≡ false
not_less x a h = go (compare_rows x a) (tri_n x a)
  where
    go : (o : Ordering) → Tri ◌<ⁿ◌ x a o → is_lt o ≡ false
    go _ (is_below k) = absurd (h k)
    go _ (level e) = refl
    go _ (above k) = refl

not_same : (x a : Row) → ¬ (x ≡ a) → is_eq (compare_rows x a) ≡ false
not_same x a h = go (compare_rows x a) (tri_n x a)
  where
    go : (o : Ordering) → Tri ◌<ⁿ◌ x a o → is_eq o ≡ false
    go _ (is_below k) = refl
    go _ (level e) = absurd (h e)
    go _ (above k) = refl

-- those before k are below a, and none from k on
pub below_is : (a : Row) (l : List Row) (k : ℕ) → k ≤ length l → ((i : ℕ) → i < k → get_or l i [] <ⁿ a) → ((i : ℕ) → k ≤ i → i < length l → ¬ (get_or l i [] <ⁿ a)) → below a l ≡ k
below_is a [] zero h f g = refl
below_is a [] (suc k) h f g = absurd (not-suc-le-zero h)
below_is a (x ∷ l) zero h f g =
    rw (not_less x a (g 0 (omega arith) (omega arith))) (below_is a l 0 (omega arith) (λ i p. absurd (not-suc-le-zero p)) (λ i p q. g (suc i) (omega arith) (omega arith)))
below_is a (x ∷ l) (suc k) h f g =
    rw (row_less (f 0 (omega arith))) (ap suc (below_is a l k (omega arith) (λ i p. f (suc i) (omega arith)) (λ i p q. g (suc i) (omega arith) (omega arith))))

has_yes : (a : Row) (l : List Row) (k : ℕ) → k < length l → get_or l k [] ≡ a → has a l ≡ true
has_yes a [] k h e = absurd (not-suc-le-zero h)
has_yes a (x ∷ l) zero h e = let q = ap is_eq (ap (λ (y : Row). compare_rows y a) e ∙ row_same a) in rw q
has_yes a (x ∷ l) (suc k) h e = rw (has_yes a l k (le_of_suc-le-suc h) e) (or-true (is_eq (compare_rows x a)))

has_no : (a : Row) (l : List Row) → ((i : ℕ) → i < length l → ¬ (get_or l i [] ≡ a)) → has a l ≡ false
has_no a [] f = refl
has_no a (x ∷ l) f = rw (not_same x a (f 0 (omega arith))) (has_no a l (λ i h. f (suc i) (omega arith)))

-- ── the two ways out ──

pub found : (a : Row) (l : List Row) (k : ℕ) → Rising l → k < length l → get_or l k [] ≡ a → Here k ≡ place_of a l
found a l k r h e =
    let b : below a l ≡ k = below_is a l k (omega arith) (λ i p. rw e at (index_below r i k p h)) (λ i p q. after i p q) in
    rw (has_yes a l k h e, b)
  where
    after : (i : ℕ) → k ≤ i → i < length l → ¬ (get_or l i [] <ⁿ a)
    after i p q t = elim (dec_lt k i) [
      | yes g ↦ <ⁿ_irrefl (<ⁿ_trans (rw e at (index_below r k i g q)) t)
      | no g ↦ let s : i ≡ k = omega arith in <ⁿ_irrefl (rw (ap (λ (j : ℕ). get_or l j []) s ∙ e) at t)
    ]

pub missed : (a : Row) (l : List Row) (k : ℕ) → k ≤ length l → ((i : ℕ) → i < k → get_or l i [] <ⁿ a) → ((i : ℕ) → k ≤ i → i < length l → a <ⁿ get_or l i []) → Gap k ≡ place_of a l
missed a l k h f g =
    let b : below a l ≡ k = below_is a l k h f (λ i p q t. <ⁿ_irrefl (<ⁿ_trans t (g i p q))) in
    rw (has_no a l differs, b)
  where
    differs : (i : ℕ) → i < length l → ¬ (get_or l i [] ≡ a)
    differs i p e = elim (dec_lt i k) [
      | yes q ↦ <ⁿ_irrefl (rw e at (f i q))
      | no q ↦ <ⁿ_irrefl (rw e at (g i (omega arith) p))
    ]
