-- The laws of specs/Laws.antt hold (`laws`). Assumes nothing.
use mathlib.Core.Path.{◌≡◌, sym, ap, subst, ◌∙◌}
use mathlib.Core.List.{[], ◌∷◌}
use mathlib.Core.Bool.{true}
use Prim.Native.Nat.{ℕ}
use native.Mathlib.Omega.{arith}
use borrow.Author.Tests.{ltb-true}
use lib.ListN.{length, length-map}
use Rattle.names.specs.declared.Author.{Author}
use Rattle.numbers.specs.Bytes.{Bytes}
use Rattle.answers.specs.Answers.{Outcome, ◌else◌, count_of}
use Rattle.answers.specs.declared.Refusal.{Refusal}
use Rattle.answers.specs.declared.Refusal.TheVariants.{BadTable}
use Rattle.std.specs.declared.result.Result.TheVariants.{Ok, Err}
use Rattle.answers.proofs.Outcomes.{no_answer}
use Rattle.answers.proofs.Refusals.{reached}
use Rattle.epoch_tree.specs.declared.Step.{Step}
use Rattle.epoch_tree.specs.Tables.{entries_of, entry_bytes, entry_pieces, keeps_table, added}
use Rattle.epoch_tree.specs.Tree.{next_step}
use Rattle.epoch_tree.specs.Laws.{OfTable, OneEdge}
use Rattle.epoch_tree.proofs.Laws as tables
use Rattle.epoch_tree.proofs.TableBytes.{entries_table, entries_back, added_written}
use Rattle.epochs.specs.Calls.{epoch_tests, check_table, next_step_outcome, entry_by, add_outcome}
use Rattle.epochs.specs.Laws.{Stepped, Added, Laws}
use Rattle.epochs.proofs.AddOutcomes as outcomes

of_table : (s : Bytes) → keeps_table s ≡ true → OfTable (entries_of s)
of_table s h = (tables.laws).of_table (entries_of s) (entries_table s h)

checks : (s : Bytes) (n : ℕ) → check_table s ≡ Ok n → OfTable (entries_of s) × (length (entries_of s) ≡ n)
unfolding check_table
checks s n h =
    let tests = keeps_table s else BadTable ∷ [] in
    let k = reached (λ x. x ≡ (Ok n)) Err (Ok (length (entries_of s))) (λ r e. no_answer r n e) tests h in
    (of_table s k.0.0, ap count_of k.1)

no_step : (step : Step) (r : Refusal) → Err r ≡ Ok step → ⊥
no_step step r e = let z : ◌≡◌ {A = ℕ} 0 1 = cc in omega arith

steps : (s : Bytes) (current : ℕ) (step : Step) → next_step_outcome s current ≡ Ok step → Stepped s current step
unfolding next_step_outcome
steps s current step h =
    let k = reached (λ x. x ≡ (Ok step)) Err (Ok (next_step (entries_of s) current)) (no_step step) (epoch_tests s current) h in
    let same : next_step (entries_of s) current ≡ step = let e = k.1 in cc in
    let table = of_table s k.0.0 in
    let inside = ltb-true current (length (entries_of s)) k.0.1.0 in
    record { is_table_lem = table; in_table = inside; one_edge = subst (OneEdge (entries_of s) current) same (table.steps current inside) }

adds :
    (s : Bytes) (parent : ℕ) (author : Author) (count room n : ℕ) → (add_outcome s parent author count room).answer ≡ Ok n →
    Added s parent author count n (add_outcome s parent author count room).bytes
adds s parent author count room n h =
    let a = outcomes.adds s parent author count room n h in
    let e = entry_by author parent count in
    let more = ap (λ (x : Outcome). entries_of x.bytes) a.wrote ∙ entries_back (added (entries_of s) e) in
    let written : length (entry_pieces (added (entries_of s) e)) ≡ n = ap (λ (x : Outcome). count_of x.answer) (sym a.wrote) ∙ ap count_of h in
    record {
      is_table_lem = of_table s a.kept;
      addable = a.may;
      adding = (of_table s a.kept).adding e a.may;
      second_table = ap (λ (x : Outcome). keeps_table x.bytes) a.wrote ∙ added_written s a.kept e a.may;
      one_more = more;
      counted = ap length more ∙ sym (length-map (added (entries_of s) e) entry_bytes) ∙ written;
    }

pub laws : Laws
laws = record { checks = checks; steps = steps; adds = adds }
