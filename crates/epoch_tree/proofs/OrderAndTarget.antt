-- The comparison of paths is the comparison of rows of tuples (`paths_rows`), so its laws are those of names. On the epochs of a table
-- it is a strict total order: `smaller_tri`, `smaller_trans`, `smaller_irrefl`; different epochs have different paths
-- (`epochs_same`). The target is one of them (`target_in`), and greater than each other (`target_greatest`, `none_above`). Paths
-- that agree do with an entry more (`agree_on`). Assumes nothing.
use mathlib.Core.Path.{◌≡◌, refl, sym, ap, subst, ◌∙◌}
use mathlib.Core.Logic.{◌⊎◌, inl, inr}
use mathlib.Core.List.{List, [], ◌∷◌, ◌++◌, map, map-append}
use mathlib.Core.Bool.{Bool, true, false, cond}
use Prim.Native.Nat.{ℕ, zero, suc, ◌-◌, ◌<◌, ◌≤◌}
use native.Mathlib.Nat.{le_refl}
use native.Mathlib.Omega.{arith}
use lib.IntN.{pos}
use lib.ListN.{length}
use Rattle.names.specs.declared.Tuple.{Tuple}
use Rattle.std.specs.declared.cmp.Ordering.{Ordering}
use Rattle.std.specs.declared.cmp.Ordering.TheVariants.{Equal}
use Rattle.names.specs.Ordering.{Row, compare_ℕ, compare_tuples, compare_rows, ◌<ⁿ◌}
use Rattle.std.specs.Ordering.{ordering_then, is_lt}
use Rattle.names.proofs.Laws.{then_same, ℕ_cases, Tri, below, level, above, tri_n, <ⁿ_trans, <ⁿ_irrefl, row_less, row_same, less_row, same_row, same_tuple}
use Rattle.epoch_tree.specs.Tables.{Entry, entry_at}
use Rattle.epoch_tree.specs.Tree.{path, compare_keys, compare_paths, compare_epochs, Smaller, greatest_to, target}
use Rattle.epoch_tree.proofs.TableFacts.{Table}
use Rattle.epoch_tree.proofs.Routes.{snoc_same, path_ends}

-- ── an entry's key as a tuple ──

abbrev pub key_tuple : Entry → Tuple
key_tuple e = record { position = e.count; node = e.node; sequence = e.sequence; offset = pos 0 }

abbrev pub key_row : List Entry → Row
key_row p = map key_tuple p

pub keys_tuples : (e f : Entry) → compare_keys e f ≡ compare_tuples (key_tuple e) (key_tuple f)
unfolding compare_tuples
keys_tuples e f =
    ap (λ (o : Ordering). ordering_then (compare_ℕ e.count f.count) (ordering_then (compare_ℕ e.node f.node) o)) (sym (then_same (compare_ℕ e.sequence f.sequence)))

pub paths_rows : (p q : List Entry) → compare_paths p q ≡ compare_rows (key_row p) (key_row q)
unfolding compare_rows
paths_rows [] [] = refl
paths_rows [] (f ∷ q) = refl
paths_rows (e ∷ p) [] = refl
paths_rows (e ∷ p) (f ∷ q) = λ i. ordering_then (keys_tuples e f i) (paths_rows p q i)

-- ── paths that agree ──

pub same_rows : (p q : List Entry) → compare_paths p q ≡ Equal → key_row p ≡ key_row q
same_rows p q e = same_row (key_row p) (key_row q) (sym (paths_rows p q) ∙ e)

key_end : (p : List Entry) (e : Entry) → key_row (p ++ (e ∷ [])) ≡ key_row p ++ (key_tuple e ∷ [])
key_end p e = map-append key_tuple p (e ∷ [])

-- each with one entry more, of one key
pub agree_on : (p q : List Entry) (e f : Entry) → compare_paths p q ≡ Equal → compare_keys e f ≡ Equal → compare_paths (p ++ (e ∷ [])) (q ++ (f ∷ [])) ≡ Equal
agree_on p q e f a b =
    let rows = same_rows p q a in
    let keys = same_tuple (key_tuple e) (key_tuple f) (sym (keys_tuples e f) ∙ b) in
    let longer : key_row (p ++ (e ∷ [])) ≡ key_row (q ++ (f ∷ [])) = key_end p e ∙ (λ z. rows z ++ (keys z ∷ [])) ∙ sym (key_end q f) in
    paths_rows (p ++ (e ∷ [])) (q ++ (f ∷ []))
    ∙ ap (compare_rows (key_row (p ++ (e ∷ [])))) (sym longer)
    ∙ row_same (key_row (p ++ (e ∷ [])))

-- the last entries of two tables' paths, which are the epochs' own
pub last_key :
    (t u : List Entry) → Table t → Table u → (i j : ℕ) →
    key_row (path t i) ≡ key_row (path u j) → key_tuple (entry_at t i) ≡ key_tuple (entry_at u j)
last_key t u h k i j e =
    let a = path_ends t h i in
    let b = path_ends u k j in
    let x = ap key_row a.1 ∙ key_end a.0 (entry_at t i) in
    let y = ap key_row b.1 ∙ key_end b.0 (entry_at u j) in
    (snoc_same (key_row a.0) (key_row b.0) (key_tuple (entry_at t i)) (key_tuple (entry_at u j)) (sym x ∙ e ∙ y)).1

-- ── a strict total order on the epochs ──

module _ (t : List Entry) where
  pub smaller_row : (i j : ℕ) → Smaller t i j → key_row (path t i) <ⁿ key_row (path t j)
  smaller_row i j e = less_row (key_row (path t i)) (key_row (path t j)) (sym (paths_rows (path t i) (path t j)) ∙ e)

  pub row_smaller : (i j : ℕ) → key_row (path t i) <ⁿ key_row (path t j) → Smaller t i j
  row_smaller i j h = paths_rows (path t i) (path t j) ∙ row_less h

  pub smaller_trans : (i j k : ℕ) → Smaller t i j → Smaller t j k → Smaller t i k
  smaller_trans i j k a b = row_smaller i k (<ⁿ_trans (smaller_row i j a) (smaller_row j k b))

  pub smaller_irrefl : (i : ℕ) → ¬ (Smaller t i i)
  smaller_irrefl i a = <ⁿ_irrefl (smaller_row i i a)

  module _ (h : Table t) where
    -- different epochs have different pairs ..
    pub same_epochs :
        (i j : ℕ) → i < length t → j < length t → (entry_at t i).node ≡ (entry_at t j).node →
        (entry_at t i).sequence ≡ (entry_at t j).sequence → i ≡ j
    same_epochs i j a b n s = elim (ℕ_cases i j) [
      | inl l ↦ absurd (h.pair i j l b (sym n) (sym s))
      | inr r ↦ elim r [ inl q ↦ q | inr l ↦ absurd (h.pair j i l a n s) ]
    ]

    -- .. and so different keys
    pub keys_index : (i j : ℕ) → i < length t → j < length t → key_tuple (entry_at t i) ≡ key_tuple (entry_at t j) → i ≡ j
    keys_index i j a b k = same_epochs i j a b (ap (λ (u : Tuple). u.node) k) (ap (λ (u : Tuple). u.sequence) k)

    rows_same : (i j : ℕ) → i < length t → j < length t → key_row (path t i) ≡ key_row (path t j) → i ≡ j
    rows_same i j a b e = keys_index i j a b (last_key t t h h i j e)

    pub smaller_tri : (i j : ℕ) → i < length t → j < length t → Tri (Smaller t) i j (compare_epochs t i j)
    smaller_tri i j a b = subst (Tri (Smaller t) i j) (sym (paths_rows (path t i) (path t j))) (go (tri_n (key_row (path t i)) (key_row (path t j))))
      where
        go : {o : Ordering} → Tri ◌<ⁿ◌ (key_row (path t i)) (key_row (path t j)) o → Tri (Smaller t) i j o
        go (below l) = below (row_smaller i j l)
        go (level e) = level (rows_same i j a b e)
        go (above l) = above (row_smaller j i l)

    -- different epochs have different paths
    pub epochs_same : (i j : ℕ) → i < length t → j < length t → path t i ≡ path t j → i ≡ j
    epochs_same i j a b e = rows_same i j a b (ap key_row e)

    -- ── the target ──

    pub greatest_in : (n : ℕ) → greatest_to t n ≤ n
    greatest_in zero = le_refl 0
    greatest_in (suc n) = go (is_lt (compare_epochs t (greatest_to t n) (suc n))) (greatest_in n)
      where
        go : (b : Bool) → greatest_to t n ≤ n → cond b (suc n) (greatest_to t n) ≤ suc n
        go true k = le_refl (suc n)
        go false k = omega arith

    pub greatest_to_lem : (n : ℕ) → n < length t → (i : ℕ) → i ≤ n → (i ≡ greatest_to t n) ⊎ Smaller t i (greatest_to t n)
    greatest_to_lem zero l i k = inl (omega arith)
    greatest_to_lem (suc n) l i k =
        let q : greatest_to t n ≤ n = greatest_in n in
        go (smaller_tri (greatest_to t n) (suc n) (omega arith) l) (λ q. greatest_to_lem n (omega arith) i q)
      where
        in_n : greatest_to t n ≤ n
        in_n = greatest_in n

        go :
            {o : Ordering} → Tri (Smaller t) (greatest_to t n) (suc n) o → (i ≤ n → (i ≡ greatest_to t n) ⊎ Smaller t i (greatest_to t n)) →
            (i ≡ cond (is_lt o) (suc n) (greatest_to t n)) ⊎ Smaller t i (cond (is_lt o) (suc n) (greatest_to t n))
        go (below s) f = elim (ℕ_cases i (suc n)) [
          | inl q ↦ elim (f (omega arith)) [
            | inl e ↦ inr (subst (λ (x : ℕ). Smaller t x (suc n)) (sym e) s)
            | inr u ↦ inr (smaller_trans i (greatest_to t n) (suc n) u s)
          ]
          | inr r ↦ elim r [ inl e ↦ inl e | inr q ↦ absurd (omega arith) ]
        ]
        go (level e) f = absurd (let q : greatest_to t n ≤ n = in_n in omega arith)
        go (above s) f = elim (ℕ_cases i (suc n)) [
          | inl q ↦ f (omega arith)
          | inr r ↦ elim r [ inl e ↦ inr (subst (λ (x : ℕ). Smaller t x (greatest_to t n)) (sym e) s) | inr q ↦ absurd (omega arith) ]
        ]

    -- the target is an epoch of the table ..
    pub target_in : target t < length t
    target_in = let k : greatest_to t (length t - 1) ≤ length t - 1 = greatest_in (length t - 1) in let s : 0 < length t = h.some in omega arith

    -- .. and each other is smaller
    target_or : (i : ℕ) → i < length t → (i ≡ target t) ⊎ Smaller t i (target t)
    target_or i l = let s : 0 < length t = h.some in greatest_to_lem (length t - 1) (omega arith) i (omega arith)

    pub target_greatest : (i : ℕ) → i < length t → ¬ (i ≡ target t) → Smaller t i (target t)
    target_greatest i l f = elim (target_or i l) [ inl e ↦ absurd (f e) | inr s ↦ s ]

    pub none_above : (i : ℕ) → i < length t → ¬ (Smaller t (target t) i)
    none_above i l s = elim (target_or i l) [
      | inl e ↦ smaller_irrefl (target t) (subst (Smaller t (target t)) e s)
      | inr u ↦ smaller_irrefl i (smaller_trans i (target t) i u s)
    ]
