-- The step from c towards d by recursion, the epoch index d falling at each call: there it stays (`step_there`); where d is below c it
-- goes up (`step_up`); to a child it goes down (`step_child`); else it is the step towards d's parent (`step_higher`). Assumes nothing.
use mathlib.Core.Path.{◌≡◌, refl, sym, ap, ◌∙◌}
use mathlib.Core.List.{List, [], ◌∷◌, ◌++◌}
use mathlib.Core.Bool.{Bool, true, false, cond}
use Prim.Native.Nat.{ℕ, zero, suc, ◌<◌, ◌≤◌}
use native.Mathlib.Omega.{arith}
use borrow.Author.Tests.{eqb-true, eq-eqb}
use lib.Dec.{eqb}
use Rattle.epoch_tree.specs.declared.Step.{Step}
use Rattle.epoch_tree.specs.declared.Step.TheVariants.{Stay, Up, Down}
use Rattle.epoch_tree.specs.Tables.{Entry}
use Rattle.epoch_tree.specs.Tree.{parent_of, route, step_along, step_to}
use Rattle.epoch_tree.proofs.TableFacts.{Table}
use Rattle.epoch_tree.proofs.Routes.{route_suc, route_same}
use Rattle.epoch_tree.proofs.Walk.{Edge, stays, goes_up, goes_down, edge}

-- one index that both have first
along_one : (p i : ℕ) (l r : List ℕ) → step_along p (i ∷ l) (i ∷ r) ≡ step_along p l r
along_one p i l r = ap (λ (b : Bool). cond b (step_along p l r) (Up p)) (eq-eqb i i refl)

along_self : (p : ℕ) (l : List ℕ) → step_along p l l ≡ Stay
along_self p [] = refl
along_self p (i ∷ l) = along_one p i l l ∙ along_self p l

along_child : (p : ℕ) (l : List ℕ) (x : ℕ) → step_along p l (l ++ (x ∷ [])) ≡ Down x
along_child p [] x = refl
along_child p (i ∷ l) x = along_one p i l (l ++ (x ∷ [])) ∙ along_child p l x

-- an index more at the end of the way
along_more : (p : ℕ) (l r : List ℕ) (x : ℕ) → (l ≡ r → ⊥) → (l ≡ r ++ (x ∷ []) → ⊥) → step_along p l (r ++ (x ∷ [])) ≡ step_along p l r
along_more p [] [] x f g = absurd (f refl)
along_more p [] (j ∷ r) x f g = refl
along_more p (i ∷ l) [] x f g = go (eqb i x) refl l refl
  where
    go : (b : Bool) → eqb i x ≡ b → (k : List ℕ) → l ≡ k → cond b (step_along p k []) (Up p) ≡ Up p
    go false e k q = refl
    go true e [] q = absurd (g (λ z. eqb-true i x e z ∷ q z))
    go true e (y ∷ k) q = refl
along_more p (i ∷ l) (j ∷ r) x f g = go (eqb i j) refl (λ a b. along_more p l r x a b)
  where
    go :
        (b : Bool) → eqb i j ≡ b → ((l ≡ r → ⊥) → (l ≡ r ++ (x ∷ []) → ⊥) → step_along p l (r ++ (x ∷ [])) ≡ step_along p l r) →
        cond b (step_along p l (r ++ (x ∷ []))) (Up p) ≡ cond b (step_along p l r) (Up p)
    go false e k = refl
    go true e k = k (λ q. f (λ z. eqb-true i j e z ∷ q z)) (λ q. g (λ z. eqb-true i j e z ∷ q z))

pub step_there : (t : List Entry) (c : ℕ) → step_to t c c ≡ Stay
step_there t c = along_self (parent_of t c) (route t c)

module _ (t : List Entry) (h : Table t) where
  pub step_up : (d c : ℕ) → d < c → step_to t d c ≡ Up (parent_of t c)
  step_up d c l = go (edge t h d c)
    where
      go : {s : Step} → Edge t d c s → s ≡ Up (parent_of t c)
      go (stays q) = absurd (omega arith)
      go (goes_up n q) = refl
      go (goes_down zero n k p q) = absurd (omega arith)
      go (goes_down (suc i) n k p q) = absurd (let w : parent_of t (suc i) ≤ i = h.parent i in omega arith)

  pub step_child : (d c : ℕ) → c < d → parent_of t d ≡ c → step_to t d c ≡ Down d
  step_child zero c l e = absurd (omega arith)
  step_child (suc i) c l e =
      ap (step_along (parent_of t c) (route t c)) (route_suc t h i ∙ ap (λ (j : ℕ). route t j ++ (suc i ∷ [])) e)
      ∙ along_child (parent_of t c) (route t c) (suc i)

  pub step_higher : (d c : ℕ) → c < d → (parent_of t d ≡ c → ⊥) → step_to t d c ≡ step_to t (parent_of t d) c
  step_higher zero c l f = absurd (omega arith)
  step_higher (suc i) c l f =
      ap (step_along (parent_of t c) (route t c)) (route_suc t h i)
      ∙ along_more (parent_of t c) (route t c) (route t (parent_of t (suc i))) (suc i) not_parent not_d
    where
      not_parent : route t c ≡ route t (parent_of t (suc i)) → ⊥
      not_parent q = f (sym (route_same t h c (parent_of t (suc i)) q))

      not_d : route t c ≡ route t (parent_of t (suc i)) ++ (suc i ∷ []) → ⊥
      not_d q = let z : c ≡ suc i = route_same t h c (suc i) (q ∙ sym (route_suc t h i)) in omega arith
