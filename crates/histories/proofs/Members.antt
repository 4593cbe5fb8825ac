-- Members of a list: what holds of all holds of each (`in_all`, `fixed`) and the reverse (`all_in`); the place of one (`place`), the one
-- at a place (`at_in`), and what a function makes of the list there (`map_at`); one that fails a test that not all pass (`some_not`).
-- Of a page with a slot more (`in_placed_self`, `placed_in`) or less (`without_in`), and of the lines that are left (`in_others`,
-- `others_in`). Assumes nothing.
use mathlib.Core.Path.{◌≡◌, refl, ◌∙◌, sym, ap}
use mathlib.Core.List.Memᴰ
use mathlib.Core.List.{List, [], ◌∷◌, map, Memᴰ as In}
use mathlib.Core.Logic.{◌⊎◌, inl, inr}
use mathlib.Core.Bool.{Bool, true, false, cond, ◌&&◌}
use Prim.Native.Nat.{ℕ, zero, suc, ◌<◌}
use native.Mathlib.Nat.{le_of_suc-le-suc, not-suc-le-zero}
use native.Mathlib.Omega.{arith}
use lib.ListN.{length, get_or}
use Rattle.std.specs.declared.cmp.Ordering.{Ordering}
use Rattle.names.specs.Ordering.{Row, compare_rows, ◌<ⁿ◌}
use Rattle.std.specs.Ordering.{is_lt, is_eq}
use Rattle.numbers.proofs.Bools.{yes_no}
use Rattle.names.proofs.Laws.{Tri, below, level, above, tri_n, <ⁿ_irrefl}
use Rattle.name_renames.proofs.Lists.{All, nil, cons}
use Rattle.numbers.specs.Bytes.{Bytes}
use Rattle.std.specs.List.{list_all}
use Rattle.slots.specs.Slots.{Slot}
use Rattle.pages.specs.Pages.{name_in}
use Rattle.edits.specs.Edits.{placed, without}
use Rattle.histories.specs.Demand.{others}

pub in_all : {A : Type 0} {P : A → Type 0} {l : List A} {x : A} → All P l → In x l → P x
in_all nil m = absurd (Memᴰ.not-nil m)
in_all (cons p ps) m = elim (Memᴰ.cases_cons m) [ inl e ↦ rw e p | inr k ↦ in_all ps k ]

pub all_in : {A : Type 0} {P : A → Type 0} (l : List A) → ((x : A) → In x l → P x) → All P l
all_in [] f = nil
all_in (x ∷ l) f = cons (f x (In.head refl)) (all_in l (λ y m. f y (In.tail m)))

pub place : {A : Type 0} {x : A} {l : List A} (d : A) → In x l → (k : ℕ) × (k < length l) × (get_or l k d ≡ x)
place d (In.head e) = (0, omega arith, sym e)
place d (In.tail m) = let t = place d m in (suc t.0, omega (arith, t.1), t.2)

pub at_in : {A : Type 0} (l : List A) (k : ℕ) (d : A) → k < length l → In (get_or l k d) l
at_in [] k d h = absurd (not-suc-le-zero h)
at_in (x ∷ l) zero d h = In.head refl
at_in (x ∷ l) (suc k) d h = In.tail (at_in l k d (le_of_suc-le-suc h))

pub map_at : {A B : Type 0} (f : A → B) (l : List A) (k : ℕ) (d : A) (d' : B) {x : A} → k < length l → get_or l k d ≡ x → get_or (map f l) k d' ≡ f x
map_at f [] k d d' h e = absurd (not-suc-le-zero h)
map_at f (y ∷ l) zero d d' h e = ap f e
map_at f (y ∷ l) (suc k) d d' h e = map_at f l k d d' (le_of_suc-le-suc h) e

-- a function that leaves the list as it is leaves each as it is
pub fixed : {A : Type 0} (f : A → A) (l : List A) {x : A} → map f l ≡ l → In x l → f x ≡ x
fixed f [] e m = absurd (Memᴰ.not-nil m)
fixed f (y ∷ l) e m =
    let h : f y ≡ y = cc in
    let t : map f l ≡ l = cc in
    elim (Memᴰ.cases_cons m) [ inl q ↦ ap f q ∙ h ∙ sym q | inr k ↦ fixed f l t k ]

pub some_not : {A : Type 0} (f : A → Bool) (l : List A) → list_all f l ≡ false → (x : A) × In x l × (f x ≡ false)
some_not f [] e = yes_no refl e
some_not {A} f (x ∷ l) e = go (f x) refl e (λ q. some_not f l q)
  where
    go :
        (b : Bool) → f x ≡ b → b && list_all f l ≡ false → (list_all f l ≡ false → (y : A) × In y l × (f y ≡ false)) →
        (y : A) × In y (x ∷ l) × (f y ≡ false)
    go true q e r = let t = r e in (t.0, In.tail t.1, t.2)
    go false q e r = (x, In.head refl, q)

-- ── a page with a slot more ──

pub in_placed_self : (x : Slot) (l : List Slot) → In x (placed x l)
in_placed_self x [] = In.head refl
in_placed_self x (y ∷ l) = by (is_lt (compare_rows x.name y.name)) (in_placed_self x l)
  where
    by : (b : Bool) → In x (placed x l) → In x (cond b (x ∷ y ∷ l) (y ∷ placed x l))
    by true m = In.head refl
    by false m = In.tail m

pub placed_in : (x : Slot) (l : List Slot) {z : Slot} → In z (placed x l) → (z ≡ x) ⊎ In z l
placed_in x [] m = Memᴰ.cases_cons m
placed_in x (y ∷ l) {z} m = by (is_lt (compare_rows x.name y.name)) (λ k. placed_in x l k) m
  where
    by : (b : Bool) → (In z (placed x l) → (z ≡ x) ⊎ In z l) → In z (cond b (x ∷ y ∷ l) (y ∷ placed x l)) → (z ≡ x) ⊎ In z (y ∷ l)
    by true f k = Memᴰ.cases_cons k
    by false f k = elim (Memᴰ.cases_cons k) [
      | inl e ↦ inr (In.head e)
      | inr j ↦ elim (f j) [ inl e ↦ inl e | inr i ↦ inr (In.tail i) ]
    ]

-- ── without the slot of a name ──

differs : {a b : Row} (o : Ordering) → Tri ◌<ⁿ◌ a b o → is_eq o ≡ false → ¬ (a ≡ b)
differs _ (below h) e q = <ⁿ_irrefl (rw q at h)
differs _ (level h) e q = yes_no refl e
differs _ (above h) e q = <ⁿ_irrefl (rw q at h)

pub without_in : (a : Row) (l : List Slot) {z : Slot} → In z (without a l) → In z l × (¬ (z.name ≡ a))
without_in a [] m = absurd (Memᴰ.not-nil m)
without_in a (y ∷ l) {z} m = by (is_eq (compare_rows y.name a)) refl (λ k. without_in a l k) m
  where
    by :
        (b : Bool) → is_eq (compare_rows y.name a) ≡ b → (In z (without a l) → In z l × (¬ (z.name ≡ a))) →
        In z (cond b (without a l) (y ∷ without a l)) → In z (y ∷ l) × (¬ (z.name ≡ a))
    by true q f k = let t = f k in (In.tail t.0, t.1)
    by false q f k = elim (Memᴰ.cases_cons k) [
      | inl e ↦ (In.head e, λ n. differs (compare_rows y.name a) (tri_n y.name a) q (ap name_in (sym e) ∙ n))
      | inr j ↦ let t = f j in (In.tail t.0, t.1)
    ]

-- ── the lines that are left ──

module _ (nameNow : Bytes → Row) (a : Row) where
  pub others_in : (l : List Bytes) {z : Bytes} → In z (others nameNow a l) → In z l × (¬ (nameNow z ≡ a))
  others_in [] m = absurd (Memᴰ.not-nil m)
  others_in (y ∷ l) {z} m = by (is_eq (compare_rows (nameNow y) a)) refl (λ k. others_in l k) m
    where
      by :
          (b : Bool) → is_eq (compare_rows (nameNow y) a) ≡ b → (In z (others nameNow a l) → In z l × (¬ (nameNow z ≡ a))) →
          In z (cond b (others nameNow a l) (y ∷ others nameNow a l)) → In z (y ∷ l) × (¬ (nameNow z ≡ a))
      by true q f k = let t = f k in (In.tail t.0, t.1)
      by false q f k = elim (Memᴰ.cases_cons k) [
        | inl e ↦ (In.head e, λ n. differs (compare_rows (nameNow y) a) (tri_n (nameNow y) a) q (ap nameNow (sym e) ∙ n))
        | inr j ↦ let t = f j in (In.tail t.0, t.1)
      ]

  pub in_others : (l : List Bytes) {z : Bytes} → ¬ (nameNow z ≡ a) → In z l → In z (others nameNow a l)
  in_others [] h m = absurd (Memᴰ.not-nil m)
  in_others (y ∷ l) {z} h m = by (compare_rows (nameNow y) a) (tri_n (nameNow y) a) (λ k. in_others l h k)
    where
      step : (In z l → In z (others nameNow a l)) → In z (y ∷ others nameNow a l)
      step f = elim (Memᴰ.cases_cons m) [ inl e ↦ In.head e | inr k ↦ In.tail (f k) ]

      by :
          (o : Ordering) → Tri ◌<ⁿ◌ (nameNow y) a o → (In z l → In z (others nameNow a l)) →
          In z (cond (is_eq o) (others nameNow a l) (y ∷ others nameNow a l))
      by _ (below q) f = step f
      by _ (above q) f = step f
      by _ (level q) f = elim (Memᴰ.cases_cons m) [ inl e ↦ absurd (h (ap nameNow e ∙ q)) | inr k ↦ f k ]
