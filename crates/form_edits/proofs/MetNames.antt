-- What it says of a name where it was met in a group: within its run (`met_inside`), as a name of it (`met_here`), or above all of it (`met_after`).
-- Assumes nothing.
use mathlib.Core.Path.{◌≡◌, refl, ◌∙◌, sym, ap, subst}
use mathlib.Core.Bool.{Bool, true, false, cond}
use Prim.Native.Nat.{ℕ, ◌+◌, ◌<◌, ◌≤◌}
use native.Mathlib.Omega.{arith}
use native.Mathlib.Decide.{dec_le}
use borrow.Author.Tests.{ltb-true, ltb-false, eqb-true, le-leb, eq-eqb}
use lib.Dec.{eqb, ltb, leb}
use Rattle.std.specs.declared.cmp.Ordering.{Ordering}
use Rattle.std.specs.declared.cmp.Ordering.TheVariants.{Less, Equal, Greater}
use Rattle.names.specs.Ordering.{Row, compare_rows, ◌<ⁿ◌}
use Rattle.names.specs.Names.{is_name}
use Rattle.names.proofs.Laws.{ℕ_less, less_row, row_same}
use Rattle.numbers.proofs.Bools.{yes_no}
use Rattle.runs.specs.Runs.{onward}
use Rattle.runs.specs.Beside.{beside_of}
use Rattle.runs.specs.Laws.{Says, at}
use Rattle.runs.specs.declared.Stand.{Stand}
use Rattle.runs.specs.declared.Stand.TheVariants.{Below, Before, At, Beyond, Above}
use Rattle.runs.proofs.RunLaws.{against, says, compared}
use Rattle.groups.specs.Groups.{Group, size, name_after}
use Rattle.std.specs.Ordering.{is_le}
use Rattle.form_edits.specs.declared.Met.TheVariants.{Here, Inside, After}
use Rattle.form_edits.specs.Choices.{met_by}

-- ── by the answer ──

at_after : (b : Bool) (i : ℕ) (c j : Bool) → cond b (Here i) (After c) ≡ After j → (b ≡ false) × (c ≡ j)
at_after true i c j e = absurd (let z : ◌≡◌ {A = ℕ} 0 1 = cc in omega arith)
at_after false i c j e = (refl, let same : After c ≡ After j = e in cc)

at_here : (b : Bool) (i : ℕ) (c : Bool) (j : ℕ) → cond b (Here i) (After c) ≡ Here j → (b ≡ true) × (i ≡ j)
at_here true i c j e = (refl, let same : Here i ≡ Here j = e in cc)
at_here false i c j e = absurd (let z : ◌≡◌ {A = ℕ} 0 1 = cc in omega arith)

at_inside : (b : Bool) (i : ℕ) (c : Bool) (j : ℕ) → ¬ (cond b (Here i) (After c) ≡ Inside j)
at_inside true i c j e = let z : ◌≡◌ {A = ℕ} 0 1 = cc in omega arith
at_inside false i c j e = let z : ◌≡◌ {A = ℕ} 0 1 = cc in omega arith

beyond_after : (b : Bool) (i : ℕ) (j : Bool) → cond b (Inside i) (After false) ≡ After j → (b ≡ false) × (false ≡ j)
beyond_after true i j e = absurd (let z : ◌≡◌ {A = ℕ} 0 1 = cc in omega arith)
beyond_after false i j e = (refl, let same : After false ≡ After j = e in cc)

beyond_here : (b : Bool) (i j : ℕ) → ¬ (cond b (Inside i) (After false) ≡ Here j)
beyond_here true i j e = let z : ◌≡◌ {A = ℕ} 0 1 = cc in omega arith
beyond_here false i j e = let z : ◌≡◌ {A = ℕ} 0 1 = cc in omega arith

beyond_inside : (b : Bool) (i j : ℕ) → cond b (Inside i) (After false) ≡ Inside j → (b ≡ true) × (i ≡ j)
beyond_inside true i j e = (refl, let same : Inside i ≡ Inside j = e in cc)
beyond_inside false i j e = absurd (let z : ◌≡◌ {A = ℕ} 0 1 = cc in omega arith)

after_is : (j : Bool) → After false ≡ After j → false ≡ j
after_is j e = cc

not_here : (j : ℕ) → ¬ (After false ≡ Here j)
not_here j e = let z : ◌≡◌ {A = ℕ} 0 1 = cc in omega arith

not_inside : (j : ℕ) → ¬ (After false ≡ Inside j)
not_inside j e = let z : ◌≡◌ {A = ℕ} 0 1 = cc in omega arith

-- ── of a group and a name that is not below its first ──

-- above all of its names, and the next of its run or not
pub record AboveAll (g : Group) (x : Row) (joins : Bool) : Type 0 where
  pub under : (k : ℕ) → k < size g → onward k g.first <ⁿ x
  pub next : joins ≡ true → name_after g ≡ x
  pub other : joins ≡ false → ¬ (name_after g ≡ x)

module _ (g : Group) (x : Row) (named : is_name g.first ≡ true) (low : is_le (compare_rows g.first x) ≡ true) where
  compares : {s : Stand} → beside_of g.first x ≡ s → (k : ℕ) → compare_rows (onward k g.first) x ≡ against s k
  compares e k = compared g.first x named k ∙ ap (λ (s : Stand). against s k) e

  -- it is not below
  not_below : {s : Stand} → beside_of g.first x ≡ s → ¬ (against s 0 ≡ Greater)
  not_below e m = yes_no low (ap is_le (compares e 0 ∙ m))

  differs : {o : Ordering} → compare_rows (name_after g) x ≡ o → ¬ (o ≡ Equal) → ¬ (name_after g ≡ x)
  differs c n e = n (sym c ∙ ap (λ (y : Row). compare_rows y x) e ∙ row_same x)

  pub met_after : (j : Bool) → met_by (beside_of g.first x) (size g) ≡ After j → AboveAll g x j
  met_after j m = go (beside_of g.first x) refl m
    where
      go : (s : Stand) → beside_of g.first x ≡ s → met_by s (size g) ≡ After j → AboveAll g x j
      go Below e m = absurd (not_below e refl)
      go Before e m = absurd (not_below e refl)
      go (At i) e m =
          let v = at_after (ltb i (size g)) i (eqb i (size g)) j m in
          let h = ltb-false i (size g) v.0 in
          record {
            under = λ k l. less_row (onward k g.first) x (compares e k ∙ ℕ_less k i (omega arith));
            next = λ q. let n = eqb-true i (size g) (v.1 ∙ q) in ap (λ (z : ℕ). onward z g.first) (sym n) ∙ sym (is_at (subst (Says g.first x) e (says g.first x named)));
            other = λ q. differs (compares e (size g) ∙ ℕ_less (size g) i (apart i h (v.1 ∙ q))) (λ z. less_same z);
          }
        where
          is_at : {i : ℕ} → Says g.first x (At i) → x ≡ onward i g.first
          is_at (at q) = q

          apart : (i : ℕ) → size g ≤ i → eqb i (size g) ≡ false → size g < i
          apart i h q = elim (dec_le i (size g)) [ yes l ↦ absurd (yes_no (eq-eqb i (size g) (omega arith)) q) | no l ↦ omega arith ]

          less_same : ¬ (Less ≡ Equal)
          less_same z = let w : ◌≡◌ {A = ℕ} 0 1 = cc in omega arith
      go (Beyond i) e m =
          let v = beyond_after (ltb (i + 1) (size g)) (i + 1) j m in
          let h = ltb-false (i + 1) (size g) v.0 in
          record {
            under = λ k l. less_row (onward k g.first) x (compares e k ∙ ap (λ (b : Bool). cond b Less Greater) (le-leb k i (omega arith)));
            next = λ q. absurd (yes_no q (sym v.1));
            other = λ q. differs (compares e (size g)) (either (leb (size g) i));
          }
        where
          either : (b : Bool) → ¬ (cond b Less Greater ≡ Equal)
          either true z = let w : ◌≡◌ {A = ℕ} 0 1 = cc in omega arith
          either false z = let w : ◌≡◌ {A = ℕ} 0 1 = cc in omega arith
      go Above e m = record {
        under = λ k l. less_row (onward k g.first) x (compares e k);
        next = λ q. absurd (yes_no q (sym (after_is j m)));
        other = λ q. differs (compares e (size g)) (λ z. let w : ◌≡◌ {A = ℕ} 0 1 = cc in omega arith);
      }

  pub met_inside : (j : ℕ) → met_by (beside_of g.first x) (size g) ≡ Inside j → (i : ℕ) × (beside_of g.first x ≡ Beyond i) × (i + 1 ≡ j) × (i + 1 < size g)
  met_inside j m = go (beside_of g.first x) refl m
    where
      go : (s : Stand) → beside_of g.first x ≡ s → met_by s (size g) ≡ Inside j → (i : ℕ) × (beside_of g.first x ≡ Beyond i) × (i + 1 ≡ j) × (i + 1 < size g)
      go Below e m = absurd (not_below e refl)
      go Before e m = absurd (not_below e refl)
      go (At i) e m = absurd (at_inside (ltb i (size g)) i (eqb i (size g)) j m)
      go (Beyond i) e m = let v = beyond_inside (ltb (i + 1) (size g)) (i + 1) j m in (i, e, v.1, ltb-true (i + 1) (size g) v.0)
      go Above e m = absurd (not_inside j m)

  pub met_here : (j : ℕ) → met_by (beside_of g.first x) (size g) ≡ Here j → (beside_of g.first x ≡ At j) × (j < size g)
  met_here j m = go (beside_of g.first x) refl m
    where
      go : (s : Stand) → beside_of g.first x ≡ s → met_by s (size g) ≡ Here j → (beside_of g.first x ≡ At j) × (j < size g)
      go Below e m = absurd (not_below e refl)
      go Before e m = absurd (not_below e refl)
      go (At i) e m = let v = at_here (ltb i (size g)) i (eqb i (size g)) j m in (e ∙ ap At v.1, let l = ltb-true i (size g) v.0 in let q = v.1 in omega arith)
      go (Beyond i) e m = absurd (beyond_here (ltb (i + 1) (size g)) (i + 1) j m)
      go Above e m = absurd (not_here j m)
