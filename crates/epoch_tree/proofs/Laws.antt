-- The laws of specs/Laws.antt hold (`laws`). Assumes nothing.
use mathlib.Core.Path.{◌≡◌, refl}
use mathlib.Core.Logic.{◌⊎◌, inl, inr}
use mathlib.Core.List.{List, [], ◌∷◌, ◌++◌}
use mathlib.Core.Bool.{true}
use Prim.Native.Nat.{ℕ, zero, suc, ◌<◌, ◌≤◌}
use native.Mathlib.Nat.{le_refl}
use native.Mathlib.Omega.{arith}
use borrow.Author.Tests.{leb-true}
use lib.Dec.{leb}
use lib.ListN.{length}
use Rattle.numbers.proofs.Bools.{and_0, and_1}
use Rattle.std.specs.declared.cmp.Ordering.{Ordering}
use Rattle.names.proofs.Laws.{Tri, below, level, above}
use Rattle.epoch_tree.specs.declared.Step.{Step}
use Rattle.epoch_tree.specs.Tables.{Entry, entry_at, is_table}
use Rattle.epoch_tree.specs.Tree.{parent_of, path, Smaller, target, edges, walk}
use Rattle.epoch_tree.specs.Laws.{OneEdge, OfTable, Laws}
use Rattle.epoch_tree.proofs.TableFacts.{Table, table, parent_below}
use Rattle.epoch_tree.proofs.Routes.{path_suc}
use Rattle.epoch_tree.proofs.OrderAndTarget.{smaller_irrefl, smaller_trans, smaller_tri, same_epochs, target_in, target_greatest, none_above, agree_on}
use Rattle.epoch_tree.proofs.Walk.{Edge, stays, goes_up, goes_down, edge, edges_few, walk_in, walk_edges, walk_reaches, walk_not_before, stay_at_target}
use Rattle.epoch_tree.proofs.AddedEpoch.{added_table, new_path, added_path, new_target}
use Rattle.epoch_tree.proofs.TwoTables.{same_target, same_pair_lem, same_added}
use Rattle.epoch_tree.proofs.TableBytes.{written_table, entries_back, table_back}

module _ (t : List Entry) (k : is_table t ≡ true) where
  h : Table t
  h = table t k

  node_at : (i : ℕ) → 1 ≤ i → i < length t → 1 ≤ (entry_at t i).node
  node_at zero a l = absurd (omega arith)
  node_at (suc i) a l = h.node i l

  count_at : (i : ℕ) → 1 ≤ i → i < length t → (1 ≤ (entry_at t i).count) × ((entry_at t i).count ≤ 256)
  count_at zero a l = absurd (omega arith)
  count_at (suc i) a l =
      let n = (entry_at t (suc i)).count in
      let c = h.count i l in
      (leb-true 1 n (and_0 (leb 1 n) (leb n 256) c), leb-true n 256 (and_1 (leb 1 n) (leb n 256) c))

  traced_at : (i : ℕ) → 1 ≤ i → i < length t → path t i ≡ path t (parent_of t i) ++ (entry_at t i ∷ [])
  traced_at zero a l = absurd (omega arith)
  traced_at (suc i) a l = path_suc t h i

  two : (i j : ℕ) → ¬ (i ≡ j) → {o : Ordering} → Tri (Smaller t) i j o → Smaller t i j ⊎ Smaller t j i
  two i j f (below l) = inl l
  two i j f (level e) = absurd (f e)
  two i j f (above l) = inr l

  one_edge : (c : ℕ) → c < length t → {s : Step} → Edge t (target t) c s → OneEdge t c s
  one_edge c l (stays q) = q
  one_edge c l (goes_up n q) = record { below_first = omega arith; in_table = l; under = refl }
  one_edge c l (goes_down i n k p q) = let w : target t < length t = target_in t h in record { below_first = omega arith; in_table = omega arith; under = p }

  of_table : OfTable t
  of_table = record {
    entries = record {
      some = h.some;
      few = h.few;
      first = h.first;
      node = node_at;
      parent = λ i a l. parent_below t h i a;
      pair = same_epochs t h;
      count = count_at;
    };
    traced = record { from_first = refl; to_it = traced_at };
    ordered = record {
      not_itself = smaller_irrefl t;
      onwards = smaller_trans t;
      of_two = λ i j a b f. two i j f (smaller_tri t h i j a b);
    };
    greatest = record { in_table = target_in t h; above = target_greatest t h; none_above = none_above t h };
    steps = λ c l. one_edge c l (edge t h (target t) c);
    follows = λ c l. record {
      nearer = λ k. walk_edges t h k c;
      in_table = λ k. walk_in t h k c l;
      reaches = walk_reaches t h (edges t c (target t)) c (le_refl (edges t c (target t)));
      not_before = λ k. walk_not_before t h k c;
      stays = λ k e. stay_at_target t h (walk t k c) (walk_reaches t h k c e);
      few = edges_few t h c (target t) l (target_in t h);
    };
    adding = λ e m. record {
      is_table_lem = added_table t h e m;
      new_path = new_path t h e m;
      old_path = added_path t h e;
      new_target = new_target t h e m;
    };
    written = record { keeps = written_table t k; entries_back = entries_back t };
  }

pub laws : Laws
laws = record {
  of_table = of_table;
  bytes_back = table_back;
  agree_on = agree_on;
  same_target = λ t u a b. same_target t u (table t a) (table u b);
  same_pair_lem = λ t u a b. same_pair_lem t u (table t a) (table u b);
  same_added = λ t u a b. same_added t u (table t a) (table u b);
}
