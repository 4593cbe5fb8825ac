-- Routes and paths. The route of an epoch other than 0 is its parent's and then its own index (`route_suc`, `route_ind`); it begins
-- with 0 (`route_begins`), ends in its index (`route_ends`), which it determines (`route_same`), and is at most one longer than that
-- (`route_length`, `route_few`); each beginning of it is the route of an epoch with no greater index (`beginning`). The path likewise (`path_suc`,
-- `path_ends`). Assumes nothing.
use mathlib.Core.Path.{◌≡◌, refl, sym, ap, ◌∙◌}
use mathlib.Core.List.{List, [], ◌∷◌, ◌++◌, map, map-append, append_assoc, head-eq_of_cons-eq, tail-eq_of_cons-eq}
use Prim.Native.Nat.{ℕ, zero, suc, ◌+◌, ◌<◌, ◌≤◌}
use native.Mathlib.Nat.{le_refl}
use native.Mathlib.Omega.{arith}
use lib.ListN.{length, length-append}
use Rattle.epoch_tree.specs.Tables.{Entry, max_entries, entry_at}
use Rattle.epoch_tree.specs.Tree.{parent_of, route_within, route, path}
use Rattle.epoch_tree.proofs.TableFacts.{Table}

-- ── lists seen from their end ──

module _ {A : Type 0} where
  -- a list with an element at its end has one
  pub snoc_length : (a : List A) (x : A) (u : List A) → length (a ++ (x ∷ u)) ≡ suc (length a + length u)
  snoc_length a x u = let e : length (a ++ (x ∷ u)) ≡ length a + length (x ∷ u) = length-append a (x ∷ u) in omega arith

  pub snoc_same : (a b : List A) (x y : A) → a ++ (x ∷ []) ≡ b ++ (y ∷ []) → (a ≡ b) × (x ≡ y)
  snoc_same [] [] x y e = (refl, head-eq_of_cons-eq e)
  snoc_same [] (z ∷ b) x y e =
      let l : ◌≡◌ {A = ℕ} 0 (length (b ++ (y ∷ []))) = ap length (tail-eq_of_cons-eq e) in
      let k = snoc_length b y [] in
      absurd (omega arith)
  snoc_same (z ∷ a) [] x y e =
      let l : length (a ++ (x ∷ [])) ≡ 0 = ap length (tail-eq_of_cons-eq e) in
      let k = snoc_length a x [] in
      absurd (omega arith)
  snoc_same (z ∷ a) (w ∷ b) x y e = let k = snoc_same a b x y (tail-eq_of_cons-eq e) in ((λ i. head-eq_of_cons-eq e i ∷ k.0 i), k.1)

  pub data Snoc : List A → Type 0 where
    none : Snoc []
    some : (l : List A) (x : A) → Snoc (l ++ (x ∷ []))

  pub snoc : (l : List A) → Snoc l
  snoc [] = none
  snoc (x ∷ l) = go (snoc l)
    where
      go : {l : List A} → Snoc l → Snoc (x ∷ l)
      go none = some [] x
      go (some l y) = some (x ∷ l) y

-- ── routes ──

module _ (t : List Entry) (h : Table t) where
  -- a larger bound than the index changes nothing
  enough : (b c i : ℕ) → i ≤ b → i ≤ c → route_within b t i ≡ route_within c t i
  enough zero zero i p q = refl
  enough zero (suc c) zero p q = refl
  enough zero (suc c) (suc i) p q = absurd (omega arith)
  enough (suc b) zero zero p q = refl
  enough (suc b) zero (suc i) p q = absurd (omega arith)
  enough (suc b) (suc c) zero p q = refl
  enough (suc b) (suc c) (suc i) p q =
      let k : parent_of t (suc i) ≤ i = h.parent i in
      ap (λ (l : List ℕ). l ++ (suc i ∷ [])) (enough b c (parent_of t (suc i)) (omega arith) (omega arith))

  -- the parent's route, and then the index
  pub route_suc : (i : ℕ) → route t (suc i) ≡ route t (parent_of t (suc i)) ++ (suc i ∷ [])
  route_suc i = ap (λ (l : List ℕ). l ++ (suc i ∷ [])) (enough i (parent_of t (suc i)) (parent_of t (suc i)) (h.parent i) (le_refl (parent_of t (suc i))))

  climb : (P : ℕ → Type 0) → P 0 → ((i : ℕ) → P (parent_of t (suc i)) → P (suc i)) → (b i : ℕ) → i ≤ b → P i
  climb P base step zero zero p = base
  climb P base step zero (suc i) p = absurd (omega arith)
  climb P base step (suc b) zero p = base
  climb P base step (suc b) (suc i) p = let k : parent_of t (suc i) ≤ i = h.parent i in step i (climb P base step b (parent_of t (suc i)) (omega arith))

  -- what holds of 0, and of an epoch where it holds of its parent, holds of all
  pub route_ind : (P : ℕ → Type 0) → P 0 → ((i : ℕ) → P (parent_of t (suc i)) → P (suc i)) → (i : ℕ) → P i
  route_ind P base step i = climb P base step i i (le_refl i)

  pub route_ends : (i : ℕ) → (l : List ℕ) × (route t i ≡ l ++ (i ∷ []))
  route_ends zero = ([], refl)
  route_ends (suc i) = (route t (parent_of t (suc i)), route_suc i)

  pub route_same : (i j : ℕ) → route t i ≡ route t j → i ≡ j
  route_same i j e =
      let a = route_ends i in
      let b = route_ends j in
      (snoc_same a.0 b.0 i j (sym a.1 ∙ e ∙ b.1)).1

  pub route_begins : (i : ℕ) → (l : List ℕ) × (route t i ≡ 0 ∷ l)
  route_begins = route_ind (λ i. (l : List ℕ) × (route t i ≡ 0 ∷ l)) ([], refl) step
    where
      step : (i : ℕ) → (l : List ℕ) × (route t (parent_of t (suc i)) ≡ 0 ∷ l) → (l : List ℕ) × (route t (suc i) ≡ 0 ∷ l)
      step i k = (k.0 ++ (suc i ∷ []), route_suc i ∙ ap (λ (l : List ℕ). l ++ (suc i ∷ [])) k.1)

  pub route_length : (i : ℕ) → length (route t i) ≤ suc i
  route_length = route_ind (λ i. length (route t i) ≤ suc i) (le_refl 1) step
    where
      step : (i : ℕ) → length (route t (parent_of t (suc i))) ≤ suc (parent_of t (suc i)) → length (route t (suc i)) ≤ suc (suc i)
      step i k =
          let e : length (route t (suc i)) ≡ suc (length (route t (parent_of t (suc i))) + 0) = ap length (route_suc i) ∙ snoc_length (route t (parent_of t (suc i))) (suc i) [] in
          let q : parent_of t (suc i) ≤ i = h.parent i in
          omega arith

  -- so of a table's epoch it has at most 32 indices
  pub route_few : (i : ℕ) → i < length t → length (route t i) ≤ max_entries
  route_few i l = let a = route_length i in let b : length t ≤ 32 = h.few in omega arith

  -- a beginning of a route, up to x, is the route of x
  abbrev Beginnings : ℕ → Type 0
  Beginnings d = (l : List ℕ) (x : ℕ) (u : List ℕ) → route t d ≡ l ++ (x ∷ u) → (route t x ≡ l ++ (x ∷ [])) × (x ≤ d)

  pub beginning : (d : ℕ) → Beginnings d
  beginning = route_ind Beginnings base step
    where
      base : Beginnings 0
      base [] zero u e = (refl, le_refl 0)
      base [] (suc x) u e = absurd (let k : 0 ≡ suc x = head-eq_of_cons-eq e in omega arith)
      base (y ∷ l) x u e = absurd (let k : ◌≡◌ {A = ℕ} 0 (length (l ++ (x ∷ u))) = ap length (tail-eq_of_cons-eq e) in let q = snoc_length l x u in omega arith)

      step : (i : ℕ) → Beginnings (parent_of t (suc i)) → Beginnings (suc i)
      step i f l x u e = go (snoc u) e
        where
          go : {u : List ℕ} → Snoc u → route t (suc i) ≡ l ++ (x ∷ u) → (route t x ≡ l ++ (x ∷ [])) × (x ≤ suc i)
          go none e =
              let k : suc i ≡ x = (snoc_same (route t (parent_of t (suc i))) l (suc i) x (sym (route_suc i) ∙ e)).1 in
              (ap (route t) (sym k) ∙ e, omega arith)
          go (some u z) e =
              let g = sym (route_suc i) ∙ e ∙ sym (append_assoc l (x ∷ u) (z ∷ [])) in
              let k = f l x u (snoc_same (route t (parent_of t (suc i))) (l ++ (x ∷ u)) (suc i) z g).0 in
              let q : parent_of t (suc i) ≤ i = h.parent i in
              let r : x ≤ parent_of t (suc i) = k.1 in
              (k.0, omega arith)

  -- ── paths ──

  -- the parent's path, and then the entry
  pub path_suc : (i : ℕ) → path t (suc i) ≡ path t (parent_of t (suc i)) ++ (entry_at t (suc i) ∷ [])
  path_suc i = ap (map (entry_at t)) (route_suc i) ∙ map-append (entry_at t) (route t (parent_of t (suc i))) (suc i ∷ [])

  pub path_ends : (i : ℕ) → (p : List Entry) × (path t i ≡ p ++ (entry_at t i ∷ []))
  path_ends zero = ([], refl)
  path_ends (suc i) = (path t (parent_of t (suc i)), path_suc i)
