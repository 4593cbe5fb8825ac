-- The walk to the target. Each step is one edge, up to the parent or down to a child, and brings the other end one edge nearer; a step
-- stays only there (`Edge`, `edge`). The number of edges is that of the way back (`edges_back`), 0 only from an epoch to itself
-- (`edges_self`, `edges_none`), and at most 31 (`edges_few`). So following the next step reaches the target after exactly the number
-- of edges between the two (`walk_edges`, `walk_reaches`, `walk_31`, `walk_not_before`), stays there and nowhere else (`stay_at_target`,
-- `stay_only`) and never leaves the table (`walk_in`). Assumes nothing.
use mathlib.Core.Path.{◌≡◌, refl, sym, ap, subst, ◌∙◌}
use mathlib.Core.Logic.{inl, inr}
use mathlib.Core.List.{List, [], ◌∷◌, ◌++◌, append-nil, append_assoc, head-eq_of_cons-eq, tail-eq_of_cons-eq}
use mathlib.Core.Bool.{Bool, true, false, cond}
use Prim.Native.Nat.{ℕ, zero, suc, ◌+◌, ◌-◌, ◌<◌, ◌≤◌}
use native.Mathlib.Nat.{le_refl}
use native.Mathlib.Omega.{arith}
use borrow.Author.Tests.{eqb-true, eqb-false, eq-eqb, ne_eqb}
use lib.Dec.{eqb}
use lib.ListN.{length}
use Rattle.names.proofs.Laws.{ℕ_cases}
use Rattle.epoch_tree.specs.declared.Step.{Step}
use Rattle.epoch_tree.specs.declared.Step.TheVariants.{Stay, Up, Down}
use Rattle.epoch_tree.specs.Tables.{Entry}
use Rattle.epoch_tree.specs.Tree.{parent_of, route, target, step_along, step_to, next_step, after, walk, apart, edges}
use Rattle.epoch_tree.proofs.TableFacts.{Table}
use Rattle.epoch_tree.proofs.Routes.{snoc_length, snoc_same, route_suc, route_begins, route_same, beginning}
use Rattle.epoch_tree.proofs.OrderAndTarget.{target_in}

-- ── what is left of two routes ──

apart_same : (i j : ℕ) (l r : List ℕ) → eqb i j ≡ true → apart (i ∷ l) (j ∷ r) ≡ apart l r
apart_same i j l r e = ap (λ (b : Bool). cond b (apart l r) (length (i ∷ l) + length (j ∷ r))) e

apart_differ : (i j : ℕ) (l r : List ℕ) → eqb i j ≡ false → apart (i ∷ l) (j ∷ r) ≡ length (i ∷ l) + length (j ∷ r)
apart_differ i j l r e = ap (λ (b : Bool). cond b (apart l r) (length (i ∷ l) + length (j ∷ r))) e

apart_nil : (l : List ℕ) → apart l [] ≡ length l
apart_nil [] = refl
apart_nil (i ∷ l) = refl

apart_prefix : (l u : List ℕ) → apart l (l ++ u) ≡ length u
apart_prefix [] u = refl
apart_prefix (i ∷ l) u = apart_same i i l (l ++ u) (eq-eqb i i refl) ∙ apart_prefix l u

apart_self : (l : List ℕ) → apart l l ≡ 0
apart_self l = ap (apart l) (sym (append-nil l)) ∙ apart_prefix l []

apart_back : (l r : List ℕ) → apart l r ≡ apart r l
apart_back [] r = sym (apart_nil r)
apart_back (i ∷ l) [] = refl
apart_back (i ∷ l) (j ∷ r) = go (eqb i j) refl (apart_back l r)
  where
    go : (b : Bool) → eqb i j ≡ b → apart l r ≡ apart r l → apart (i ∷ l) (j ∷ r) ≡ apart (j ∷ r) (i ∷ l)
    go true e f = apart_same i j l r e ∙ f ∙ sym (apart_same j i r l (eq-eqb j i (sym (eqb-true i j e))))
    go false e f =
        let a = apart_differ i j l r e in
        let b = apart_differ j i r l (ne_eqb j i (λ q. eqb-false i j e (sym q))) in
        a ∙ (let k : length (i ∷ l) + length (j ∷ r) ≡ length (j ∷ r) + length (i ∷ l) = omega arith in k) ∙ sym b

-- what a step says of the two routes
data Told (p : ℕ) (l r : List ℕ) : Step → Type 0 where
  there : l ≡ r → Told p l r Stay
  over : (j : ℕ) (u : List ℕ) → r ≡ l ++ (j ∷ u) → Told p l r (Down j)
  off : 0 < length l → ((k : List ℕ) (i : ℕ) → l ≡ k ++ (i ∷ []) → apart l r ≡ suc (apart k r)) → Told p l r (Up p)

told : (p : ℕ) (l r : List ℕ) → Told p l r (step_along p l r)
told p [] [] = there refl
told p [] (j ∷ r) = over j r refl
told p (i ∷ l) [] = off (omega arith) go
  where
    go : (k : List ℕ) (x : ℕ) → i ∷ l ≡ k ++ (x ∷ []) → apart (i ∷ l) [] ≡ suc (apart k [])
    go k x e =
        let a : length (i ∷ l) ≡ suc (length k + 0) = ap length e ∙ snoc_length k x [] in
        let b = apart_nil k in
        omega arith
told p (i ∷ l) (j ∷ r) = go (eqb i j) refl (told p l r)
  where
    same :
        eqb i j ≡ true → 0 < length l → ((k : List ℕ) (x : ℕ) → l ≡ k ++ (x ∷ []) → apart l r ≡ suc (apart k r)) →
        (k : List ℕ) (x : ℕ) → i ∷ l ≡ k ++ (x ∷ []) → apart (i ∷ l) (j ∷ r) ≡ suc (apart k (j ∷ r))
    same e n f [] x q = absurd (let z : length l ≡ 0 = ap length (tail-eq_of_cons-eq q) in omega arith)
    same e n f (y ∷ k) x q =
        let w : y ≡ j = sym (head-eq_of_cons-eq q) ∙ eqb-true i j e in
        apart_same i j l r e ∙ f k x (tail-eq_of_cons-eq q) ∙ ap suc (sym (apart_same y j k r (eq-eqb y j w)))

    differ : eqb i j ≡ false → (k : List ℕ) (x : ℕ) → i ∷ l ≡ k ++ (x ∷ []) → apart (i ∷ l) (j ∷ r) ≡ suc (apart k (j ∷ r))
    differ e [] x q = let a = apart_differ i j l r e in let z : length l ≡ 0 = ap length (tail-eq_of_cons-eq q) in omega arith
    differ e (y ∷ k) x q =
        let a = apart_differ i j l r e in
        let b = apart_differ y j k r (ne_eqb y j (λ w. eqb-false i j e (head-eq_of_cons-eq q ∙ w))) in
        let c : length l ≡ suc (length k + 0) = ap length (tail-eq_of_cons-eq q) ∙ snoc_length k x [] in
        omega arith

    one : eqb i j ≡ true → {s : Step} → Told p l r s → Told p (i ∷ l) (j ∷ r) s
    one e (there f) = there (λ z. eqb-true i j e z ∷ f z)
    one e (over x u f) = over x u (λ z. sym (eqb-true i j e) z ∷ f z)
    one e (off n f) = off (omega arith) (same e n f)

    go : (b : Bool) → eqb i j ≡ b → Told p l r (step_along p l r) → Told p (i ∷ l) (j ∷ r) (cond b (step_along p l r) (Up p))
    go true e v = one e v
    go false e v = off (omega arith) (differ e)

-- ── one step ──

-- A step from c on the way to d: it stays only where c is d; else it is one edge of the tree, and one edge less is left.
pub data Edge (t : List Entry) (d c : ℕ) : Step → Type 0 where
  stays : c ≡ d → Edge t d c Stay
  goes_up : 0 < c → edges t c d ≡ suc (edges t (parent_of t c) d) → Edge t d c (Up (parent_of t c))
  goes_down : (i : ℕ) → 0 < i → i ≤ d → parent_of t i ≡ c → edges t c d ≡ suc (edges t i d) → Edge t d c (Down i)

-- from an epoch to itself there is no edge
pub edges_self : (t : List Entry) (c : ℕ) → edges t c c ≡ 0
edges_self t c = apart_self (route t c)

pub edges_back : (t : List Entry) (c d : ℕ) → edges t c d ≡ edges t d c
edges_back t c d = apart_back (route t c) (route t d)

module _ (t : List Entry) (h : Table t) where
  child : (c d j : ℕ) (u : List ℕ) → route t d ≡ route t c ++ (j ∷ u) → route t j ≡ route t c ++ (j ∷ []) → j ≤ d → Edge t d c (Down j)
  child c d zero u e b k = absurd (
      let l = route_begins t h c in
      let x : length (route t c) ≡ suc (length l.0) = ap length l.1 in
      let y : 1 ≡ suc (length (route t c) + 0) = ap length b ∙ snoc_length (route t c) 0 [] in
      omega arith
      )
  child c d (suc i) u e b k = goes_down (suc i) (omega arith) k up (far ∙ ap suc (sym near))
    where
      up : parent_of t (suc i) ≡ c
      up = route_same t h (parent_of t (suc i)) c (snoc_same (route t (parent_of t (suc i))) (route t c) (suc i) (suc i) (sym (route_suc t h i) ∙ b)).0

      far : edges t c d ≡ suc (length u)
      far = ap (apart (route t c)) e ∙ apart_prefix (route t c) (suc i ∷ u)

      near : edges t (suc i) d ≡ length u
      near =
          (λ z. apart (b z) ((e ∙ sym (append_assoc (route t c) (suc i ∷ []) u)) z))
          ∙ apart_prefix (route t c ++ (suc i ∷ [])) u

  no_parent :
      (c d : ℕ) → ((k : List ℕ) (i : ℕ) → route t c ≡ k ++ (i ∷ []) → edges t c d ≡ suc (apart k (route t d))) →
      Edge t d c (Up (parent_of t c))
  no_parent zero d f = absurd (
      let l = route_begins t h d in
      let x : apart (0 ∷ []) (0 ∷ l.0) ≡ suc (apart [] (0 ∷ l.0)) = subst (λ (r : List ℕ). apart (0 ∷ []) r ≡ suc (apart [] r)) l.1 (f [] 0 refl) in
      let y : apart (0 ∷ []) (0 ∷ l.0) ≡ length l.0 = apart_same 0 0 [] l.0 (eq-eqb 0 0 refl) in
      let z : apart [] (0 ∷ l.0) ≡ suc (length l.0) = refl in
      omega arith
      )
  no_parent (suc i) d f = goes_up (omega arith) (f (route t (parent_of t (suc i))) (suc i) (route_suc t h i))

  pub edge : (d c : ℕ) → Edge t d c (step_to t d c)
  edge d c = go (told (parent_of t c) (route t c) (route t d))
    where
      go : {s : Step} → Told (parent_of t c) (route t c) (route t d) s → Edge t d c s
      go (there e) = stays (route_same t h c d e)
      go (over j u e) = let b = beginning t h d (route t c) j u e in child c d j u e b.0 b.1
      go (off n f) = no_parent c d f

  pub edges_none : (c d : ℕ) → edges t c d ≡ 0 → c ≡ d
  edges_none c d e = go (edge d c)
    where
      go : {s : Step} → Edge t d c s → c ≡ d
      go (stays q) = q
      go (goes_up n q) = absurd (omega arith)
      go (goes_down i n k p q) = absurd (omega arith)

  -- the way from the greater index goes up
  closer : (c d : ℕ) → d < c → edges t c d ≡ suc (edges t (parent_of t c) d)
  closer c d l = go (edge d c)
    where
      go : {s : Step} → Edge t d c s → edges t c d ≡ suc (edges t (parent_of t c) d)
      go (stays q) = absurd (omega arith)
      go (goes_up n q) = q
      go (goes_down zero n k p q) = absurd (omega arith)
      go (goes_down (suc i) n k p q) = absurd (let w : parent_of t (suc i) ≤ i = h.parent i in omega arith)

  parent_to : (c n : ℕ) → c ≤ suc n → 0 < c → parent_of t c ≤ n
  parent_to zero n k l = absurd (omega arith)
  parent_to (suc i) n k l = let w : parent_of t (suc i) ≤ i = h.parent i in omega arith

  -- no more edges than the greater of the two indices
  edges_to : (n c d : ℕ) → c ≤ n → d ≤ n → edges t c d ≤ n
  edges_to zero zero zero a b = le_refl 0
  edges_to zero zero (suc d) a b = absurd (omega arith)
  edges_to zero (suc c) d a b = absurd (omega arith)
  edges_to (suc n) c d a b = elim (ℕ_cases c d) [
    | inl l ↦
        let e = edges_back t c d in
        let f = closer d c l in
        let g : edges t (parent_of t d) c ≤ n = edges_to n (parent_of t d) c (parent_to d n b (omega arith)) (omega arith) in
        omega arith
    | inr r ↦ elim r [
      | inl e ↦ let f : edges t c d ≡ 0 = ap (edges t c) (sym e) ∙ edges_self t c in omega arith
      | inr l ↦
          let f = closer c d l in
          let g : edges t (parent_of t c) d ≤ n = edges_to n (parent_of t c) d (parent_to c n a (omega arith)) (omega arith) in
          omega arith
    ]
  ]

  -- "at most 31"
  pub edges_few : (c d : ℕ) → c < length t → d < length t → edges t c d ≤ 31
  edges_few c d a b = let k : length t ≤ 32 = h.few in edges_to 31 c d (omega arith) (omega arith)

  -- ── the walk ──

  step_edges : (c : ℕ) → edges t (after (next_step t c) c) (target t) ≡ edges t c (target t) - 1
  step_edges c = go (edge (target t) c)
    where
      go : {s : Step} → Edge t (target t) c s → edges t (after s c) (target t) ≡ edges t c (target t) - 1
      go (stays q) = let z : edges t c (target t) ≡ 0 = ap (edges t c) (sym q) ∙ edges_self t c in omega arith
      go (goes_up n q) = omega arith
      go (goes_down i n k p q) = omega arith

  step_in : (c : ℕ) → c < length t → after (next_step t c) c < length t
  step_in c l = go (edge (target t) c)
    where
      go : {s : Step} → Edge t (target t) c s → after s c < length t
      go (stays q) = l
      go (goes_up n q) = let w : parent_of t c ≤ c = parent_to c c (omega arith) n in omega arith
      go (goes_down i n k p q) = let w : target t < length t = target_in t h in omega arith

  pub walk_in : (k c : ℕ) → c < length t → walk t k c < length t
  walk_in zero c l = l
  walk_in (suc k) c l = walk_in k (after (next_step t c) c) (step_in c l)

  -- after k steps there are k edges less
  pub walk_edges : (k c : ℕ) → edges t (walk t k c) (target t) ≡ edges t c (target t) - k
  walk_edges zero c = omega arith
  walk_edges (suc k) c =
      let a = walk_edges k (after (next_step t c) c) in
      let b = step_edges c in
      omega arith

  -- "Following it reaches the target and then stays": from the number of edges on ..
  pub walk_reaches : (k c : ℕ) → edges t c (target t) ≤ k → walk t k c ≡ target t
  walk_reaches k c l = edges_none (walk t k c) (target t) (let a = walk_edges k c in omega arith)

  -- .. and so from 31 on, wherever it began
  pub walk_31 : (c : ℕ) → c < length t → walk t 31 c ≡ target t
  walk_31 c l = walk_reaches 31 c (edges_few c (target t) l (target_in t h))

  -- .. and not before
  pub walk_not_before : (k c : ℕ) → k < edges t c (target t) → ¬ (walk t k c ≡ target t)
  walk_not_before k c l e =
      let a = walk_edges k c in
      let b : edges t (walk t k c) (target t) ≡ 0 = ap (λ (x : ℕ). edges t x (target t)) e ∙ edges_self t (target t) in
      omega arith

  -- the step is to stay at the target ..
  pub stay_at_target : (c : ℕ) → c ≡ target t → next_step t c ≡ Stay
  stay_at_target c e = go (edge (target t) c)
    where
      none : edges t c (target t) ≡ 0
      none = ap (edges t c) (sym e) ∙ edges_self t c

      go : {s : Step} → Edge t (target t) c s → s ≡ Stay
      go (stays q) = refl
      go (goes_up n q) = absurd (let z : edges t c (target t) ≡ 0 = none in omega arith)
      go (goes_down i n k p q) = absurd (let z : edges t c (target t) ≡ 0 = none in omega arith)

  -- .. and there only
  pub stay_only : (c : ℕ) → next_step t c ≡ Stay → c ≡ target t
  stay_only c e =
      let a = step_edges c in
      let b : edges t (after (next_step t c) c) (target t) ≡ edges t c (target t) = ap (λ (s : Step). edges t (after s c) (target t)) e in
      edges_none c (target t) (omega arith)
