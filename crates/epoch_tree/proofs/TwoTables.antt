-- Two tables that list the same epochs, in whatever order. They have the same target (`same_target`), a (node, sequence) stands for one
-- epoch in both (`same_pair_lem`), and they still list the same epochs when the same is added to each (`same_added`). Assumes nothing.
use mathlib.Core.Path.{◌≡◌, refl, sym, ap, subst, ◌∙◌}
use mathlib.Core.Logic.{inl, inr}
use mathlib.Core.List.{List}
use Prim.Native.Nat.{ℕ, ◌<◌}
use native.Mathlib.Omega.{arith}
use lib.ListN.{length}
use Rattle.names.specs.declared.Tuple.{Tuple}
use Rattle.std.specs.declared.cmp.Ordering.{Ordering}
use Rattle.std.specs.declared.cmp.Ordering.TheVariants.{Equal}
use Rattle.names.specs.Ordering.{Row, compare_tuples, compare_rows, ◌<ⁿ◌}
use Rattle.names.proofs.Laws.{ℕ_cases, Tri, below, level, above, tri_n, row_same, same_tuple, tuple_same}
use Rattle.epoch_tree.specs.Tables.{Entry, entry_at, added}
use Rattle.epoch_tree.specs.Tree.{path, compare_keys, compare_paths, target}
use Rattle.epoch_tree.specs.Laws.{Addable, Covered, SameEpochs, SameEpoch}
use Rattle.epoch_tree.proofs.TableFacts.{Table}
use Rattle.epoch_tree.proofs.OrderAndTarget.{key_tuple, key_row, keys_tuples, paths_rows, same_rows, last_key, agree_on, same_epochs, row_smaller, target_in, none_above}
use Rattle.epoch_tree.proofs.AddedEpoch.{added_length, added_path, new_path}

-- paths that agree end in entries of one key
one_epoch : (t u : List Entry) → Table t → Table u → (i j : ℕ) → compare_paths (path t i) (path u j) ≡ Equal → SameEpoch t i u j
one_epoch t u h k i j e =
    let key = last_key t u h k i j (same_rows (path t i) (path u j) e) in
    record {
      paths = e;
      node = ap (λ (x : Tuple). x.node) key;
      sequence = ap (λ (x : Tuple). x.sequence) key;
      count = ap (λ (x : Tuple). x.position) key;
    }

-- ── the target ──

-- no path of u is above t's target, where each is one of t
under_target : (t u : List Entry) → Table t → Covered u t → (j : ℕ) → j < length u → ¬ (key_row (path t (target t)) <ⁿ key_row (path u j))
under_target t u h f j l s =
    let (i, k, e) = f j l in
    none_above t h i k (row_smaller t (target t) i (subst (λ (r : Row). key_row (path t (target t)) <ⁿ r) (same_rows (path u j) (path t i) e) s))

module _ (t u : List Entry) (h : Table t) (k : Table u) (f : Covered t u) (g : Covered u t) where
  targets_agree : compare_paths (path t (target t)) (path u (target u)) ≡ Equal
  targets_agree = paths_rows (path t (target t)) (path u (target u)) ∙ go (tri_n (key_row (path t (target t))) (key_row (path u (target u))))
    where
      go : {o : Ordering} → Tri ◌<ⁿ◌ (key_row (path t (target t))) (key_row (path u (target u))) o → o ≡ Equal
      go (below l) = absurd (under_target t u h g (target u) (target_in u k) l)
      go (level e) = refl
      go (above l) = absurd (under_target u t k f (target t) (target_in t h) l)

  pub same_target : SameEpoch t (target t) u (target u)
  same_target = one_epoch t u h k (target t) (target u) targets_agree

-- ── the same epoch by its pair ──

pub same_pair_lem :
    (t u : List Entry) → Table t → Table u → SameEpochs t u → (i j : ℕ) → i < length t → j < length u →
    (entry_at t i).node ≡ (entry_at u j).node → (entry_at t i).sequence ≡ (entry_at u j).sequence → SameEpoch t i u j
same_pair_lem t u h k s i j a b n q =
    let (l, c, e) = s.0 i a in
    let there = one_epoch t u h k i l e in
    let one = same_epochs u k l j c b (sym there.node ∙ n) (sym there.sequence ∙ q) in
    subst (SameEpoch t i u) one there

-- ── adding to both ──

-- paths that agree do the other way round, and so do keys
paths_turned : (p q : List Entry) → compare_paths p q ≡ Equal → compare_paths q p ≡ Equal
paths_turned p q e = paths_rows q p ∙ ap (compare_rows (key_row q)) (same_rows p q e) ∙ row_same (key_row q)

keys_turned : (e f : Entry) → compare_keys e f ≡ Equal → compare_keys f e ≡ Equal
keys_turned e f s =
    let same = same_tuple (key_tuple e) (key_tuple f) (sym (keys_tuples e f) ∙ s) in
    keys_tuples f e ∙ ap (compare_tuples (key_tuple f)) same ∙ tuple_same (key_tuple f)

still_covered :
    (t u : List Entry) → Table t → Table u → Covered t u → (e f : Entry) → Addable t e → Addable u f →
    compare_keys e f ≡ Equal → compare_paths (path t e.parent) (path u f.parent) ≡ Equal → Covered (added t e) (added u f)
still_covered t u h k c e f m o key parents i l = elim (ℕ_cases i (length t)) [
  | inl a ↦
      let (j, b, s) = c i a in
      (j, (let n = added_length u k f in omega arith), (λ z. compare_paths (added_path t h e i a z) (added_path u k f j b z)) ∙ s)
  | inr r ↦ elim r [
    | inl a ↦ (
      length u,
      (let n = added_length u k f in omega arith),
      (λ z. compare_paths ((ap (path (added t e)) a ∙ new_path t h e m) z) (new_path u k f o z))
          ∙ agree_on (path t e.parent) (path u f.parent) e f parents key,
    )
    | inr a ↦ absurd (let n = added_length t h e in omega arith)
  ]
]

pub same_added :
    (t u : List Entry) → Table t → Table u → SameEpochs t u → (e f : Entry) → Addable t e → Addable u f →
    compare_keys e f ≡ Equal → SameEpoch t e.parent u f.parent → SameEpochs (added t e) (added u f)
same_added t u h k s e f m o key parents = (
  still_covered t u h k s.0 e f m o key parents.paths,
  still_covered u t k h s.1 f e o m (keys_turned e f key) (paths_turned (path t e.parent) (path u f.parent) parents.paths),
)
