-- The comparison of two epochs by recursion, the epoch index falling at each call: an epoch is the same as itself (`same_epoch`); epoch 0
-- is the smallest (`root_first`, `root_second`); with the same parent the keys decide (`siblings`); else the one with the greater parent
-- index is compared by its parent, which is above it in the tree (`up_first`, `up_second`). Epochs of one key are one (`key_index`).
-- Assumes nothing.
use mathlib.Core.Path.{◌≡◌, refl, sym, ap, ◌∙◌}
use mathlib.Core.List.{List, [], ◌∷◌, ◌++◌, map, append_assoc}
use Prim.Native.Nat.{ℕ, zero, suc, ◌+◌, ◌<◌, ◌≤◌}
use native.Mathlib.Omega.{arith}
use lib.ListN.{length}
use Rattle.std.specs.declared.cmp.Ordering.{Ordering}
use Rattle.std.specs.declared.cmp.Ordering.TheVariants.{Less, Equal, Greater}
use Rattle.std.specs.Ordering.{ordering_then}
use Rattle.names.proofs.Laws.{then_same, tuple_same, same_tuple}
use Rattle.epoch_tree.specs.Tables.{Entry, entry_at}
use Rattle.epoch_tree.specs.Tree.{parent_of, route, path, compare_keys, compare_paths, compare_epochs}
use Rattle.epoch_tree.proofs.TableFacts.{Table}
use Rattle.epoch_tree.proofs.Routes.{Snoc, none, some, snoc, snoc_length, snoc_same, route_suc, route_ends, route_begins, route_same, beginning, path_suc}
use Rattle.epoch_tree.proofs.OrderAndTarget.{key_tuple, keys_tuples, keys_index}

pub key_same : (e : Entry) → compare_keys e e ≡ Equal
key_same e = keys_tuples e e ∙ tuple_same (key_tuple e)

last_differ : (p : List Entry) (e f : Entry) → compare_paths (p ++ (e ∷ [])) (p ++ (f ∷ [])) ≡ compare_keys e f
last_differ [] e f = then_same (compare_keys e f)
last_differ (x ∷ p) e f = ap (λ (o : Ordering). ordering_then o (compare_paths (p ++ (e ∷ [])) (p ++ (f ∷ [])))) (key_same x) ∙ last_differ p e f

paths_same : (p : List Entry) → compare_paths p p ≡ Equal
paths_same [] = refl
paths_same (e ∷ p) = ap (λ (o : Ordering). ordering_then o (compare_paths p p)) (key_same e) ∙ paths_same p

pub same_epoch : (t : List Entry) (i : ℕ) → compare_epochs t i i ≡ Equal
same_epoch t i = paths_same (path t i)

module _ (t : List Entry) (h : Table t) where
  pub key_index : (i j : ℕ) → i < length t → j < length t → compare_keys (entry_at t i) (entry_at t j) ≡ Equal → i ≡ j
  key_index i j a b e = keys_index t h i j a b (same_tuple (key_tuple (entry_at t i)) (key_tuple (entry_at t j)) (sym (keys_tuples (entry_at t i) (entry_at t j)) ∙ e))

  -- each index of the list is in the table
  abbrev Inside : List ℕ → Type 0
  Inside r = (l : List ℕ) (x : ℕ) (u : List ℕ) → r ≡ l ++ (x ∷ u) → x < length t

  -- the first is not above the second in the tree
  abbrev NotOver : List ℕ → List ℕ → Type 0
  NotOver p q = (j : ℕ) (u : List ℕ) → q ≡ p ++ (j ∷ u) → ⊥

  inner : {y : ℕ} {q : List ℕ} → Inside (y ∷ q) → Inside q
  inner {y} f l x u e = f (y ∷ l) x u (ap (λ (r : List ℕ). y ∷ r) e)

  abbrev entries : List ℕ → List Entry
  entries r = map (entry_at t) r

  longer :
      (p q : List ℕ) (i : ℕ) → Inside p → Inside q → NotOver p q →
      compare_paths (entries (p ++ (i ∷ []))) (entries q) ≡ ordering_then (compare_paths (entries p) (entries q)) Greater
  longer [] [] i a b n = refl
  longer [] (y ∷ q) i a b n = absurd (n y q refl)
  longer (x ∷ p) [] i a b n = refl
  longer (x ∷ p) (y ∷ q) i a b n = go (compare_keys (entry_at t x) (entry_at t y)) refl (λ e. longer p q i (inner a) (inner b) (λ k u d. n k u (λ z. sym e z ∷ d z)))
    where
      go :
          (o : Ordering) → compare_keys (entry_at t x) (entry_at t y) ≡ o →
          (x ≡ y → compare_paths (entries (p ++ (i ∷ []))) (entries q) ≡ ordering_then (compare_paths (entries p) (entries q)) Greater) →
          ordering_then o (compare_paths (entries (p ++ (i ∷ []))) (entries q)) ≡ ordering_then (ordering_then o (compare_paths (entries p) (entries q))) Greater
      go Less e f = refl
      go Equal e f = f (key_index x y (a [] x p refl) (b [] y q refl) e)
      go Greater e f = refl

  longer_second :
      (p q : List ℕ) (j : ℕ) → Inside p → Inside q → NotOver q p →
      compare_paths (entries p) (entries (q ++ (j ∷ []))) ≡ ordering_then (compare_paths (entries p) (entries q)) Less
  longer_second [] [] j a b n = refl
  longer_second [] (y ∷ q) j a b n = refl
  longer_second (x ∷ p) [] j a b n = absurd (n x p refl)
  longer_second (x ∷ p) (y ∷ q) j a b n = go (compare_keys (entry_at t x) (entry_at t y)) refl (λ e. longer_second p q j (inner a) (inner b) (λ k u d. n k u (λ z. e z ∷ d z)))
    where
      go :
          (o : Ordering) → compare_keys (entry_at t x) (entry_at t y) ≡ o →
          (x ≡ y → compare_paths (entries p) (entries (q ++ (j ∷ []))) ≡ ordering_then (compare_paths (entries p) (entries q)) Less) →
          ordering_then o (compare_paths (entries p) (entries (q ++ (j ∷ [])))) ≡ ordering_then (ordering_then o (compare_paths (entries p) (entries q))) Less
      go Less e f = refl
      go Equal e f = f (key_index x y (a [] x p refl) (b [] y q refl) e)
      go Greater e f = refl

  inside : (d : ℕ) → d < length t → Inside (route t d)
  inside d k l x u e = let b : x ≤ d = (beginning t h d l x u e).1 in omega arith

  -- an epoch whose index is greater than that of j's parent is not above j
  not_over : (p j : ℕ) → parent_of t j < p → NotOver (route t p) (route t j)
  not_over p zero l x u e =
      let b = route_ends t h p in
      let c : length (route t p) ≡ suc (length b.0 + 0) = ap length b.1 ∙ snoc_length b.0 p [] in
      let d : 1 ≡ suc (length (route t p) + length u) = ap length e ∙ snoc_length (route t p) x u in
      omega arith
  not_over p (suc j) l x u e = go (snoc u) e
    where
      go : {u : List ℕ} → Snoc u → route t (suc j) ≡ route t p ++ (x ∷ u) → ⊥
      go none e =
          let k : parent_of t (suc j) ≡ p = route_same t h (parent_of t (suc j)) p (snoc_same (route t (parent_of t (suc j))) (route t p) (suc j) x (sym (route_suc t h j) ∙ e)).0 in
          omega arith
      go (some u z) e =
          let b = route_ends t h p in
          let f = sym (route_suc t h j) ∙ e ∙ sym (append_assoc (route t p) (x ∷ u) (z ∷ [])) in
          let k : route t (parent_of t (suc j)) ≡ route t p ++ (x ∷ u) = (snoc_same (route t (parent_of t (suc j))) (route t p ++ (x ∷ u)) (suc j) z f).0 in
          let g = k ∙ ap (λ (r : List ℕ). r ++ (x ∷ u)) b.1 ∙ append_assoc b.0 (p ∷ []) (x ∷ u) in
          let d : p ≤ parent_of t (suc j) = (beginning t h (parent_of t (suc j)) b.0 p (x ∷ u) g).1 in
          omega arith

  -- ── the cases ──

  -- the route of an epoch other than 0: 0, and at least one index more
  more_than_root : (i : ℕ) → (l : List ℕ) × (route t (suc i) ≡ 0 ∷ (l ++ (suc i ∷ [])))
  more_than_root i = let b = route_begins t h (parent_of t (suc i)) in (b.0, route_suc t h i ∙ ap (λ (r : List ℕ). r ++ (suc i ∷ [])) b.1)

  pub root_first : (i j : ℕ) → i < 1 → (i ≡ j → ⊥) → compare_epochs t i j ≡ Less
  root_first zero zero l f = absurd (f refl)
  root_first zero (suc j) l f =
      let b = more_than_root j in
      ap (λ (r : List ℕ). compare_paths (path t 0) (entries r)) b.1
      ∙ ap (λ (o : Ordering). ordering_then o (compare_paths [] (entries (b.0 ++ (suc j ∷ []))))) (key_same (entry_at t 0))
      ∙ go b.0
    where
      go : (l : List ℕ) → compare_paths [] (entries (l ++ (suc j ∷ []))) ≡ Less
      go [] = refl
      go (x ∷ l) = refl
  root_first (suc i) j l f = absurd (omega arith)

  pub root_second : (i j : ℕ) → 1 ≤ i → j < 1 → compare_epochs t i j ≡ Greater
  root_second zero j k l = absurd (omega arith)
  root_second (suc i) (suc j) k l = absurd (omega arith)
  root_second (suc i) zero k l =
      let b = more_than_root i in
      ap (λ (r : List ℕ). compare_paths (entries r) (path t 0)) b.1
      ∙ ap (λ (o : Ordering). ordering_then o (compare_paths (entries (b.0 ++ (suc i ∷ []))) [])) (key_same (entry_at t 0))
      ∙ go b.0
    where
      go : (l : List ℕ) → compare_paths (entries (l ++ (suc i ∷ []))) [] ≡ Greater
      go [] = refl
      go (x ∷ l) = refl

  -- two epochs with one parent
  pub siblings : (i j : ℕ) → 1 ≤ i → 1 ≤ j → parent_of t i ≡ parent_of t j → compare_epochs t i j ≡ compare_keys (entry_at t i) (entry_at t j)
  siblings zero j k l e = absurd (omega arith)
  siblings (suc i) zero k l e = absurd (omega arith)
  siblings (suc i) (suc j) k l e =
      (λ z. compare_paths ((path_suc t h i ∙ ap (λ (p : ℕ). path t p ++ (entry_at t (suc i) ∷ [])) e) z) (path_suc t h j z))
      ∙ last_differ (path t (parent_of t (suc j))) (entry_at t (suc i)) (entry_at t (suc j))

  -- the first has the greater parent index
  pub up_first :
      (i j : ℕ) → i < length t → j < length t → 1 ≤ i → parent_of t j < parent_of t i →
      compare_epochs t i j ≡ ordering_then (compare_epochs t (parent_of t i) j) Greater
  up_first zero j a b n l = absurd (omega arith)
  up_first (suc i) j a b n l =
      let k : parent_of t (suc i) ≤ i = h.parent i in
      ap (λ (r : List ℕ). compare_paths (map (entry_at t) r) (path t j)) (route_suc t h i)
      ∙ longer (route t (parent_of t (suc i))) (route t j) (suc i) (inside (parent_of t (suc i)) (omega arith)) (inside j b) (not_over (parent_of t (suc i)) j l)

  -- the second has
  pub up_second :
      (i j : ℕ) → i < length t → j < length t → 1 ≤ j → parent_of t i < parent_of t j →
      compare_epochs t i j ≡ ordering_then (compare_epochs t i (parent_of t j)) Less
  up_second i zero a b n l = absurd (omega arith)
  up_second i (suc j) a b n l =
      let k : parent_of t (suc j) ≤ j = h.parent j in
      ap (λ (r : List ℕ). compare_paths (path t i) (map (entry_at t) r)) (route_suc t h j)
      ∙ longer_second (route t i) (route t (parent_of t (suc j))) (suc j) (inside i a) (inside (parent_of t (suc j)) (omega arith)) (not_over (parent_of t (suc j)) i l)
