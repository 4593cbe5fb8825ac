-- `epochs::next_step` meets its contract. Assumes nothing.
use Rattle.std.proofs.Common.{sym, ap, ◌∙◌, ◌<◌, ◌≤◌, length, List, lt-ltb, le-ltb, arith}
use Rattle.std.proofs.lemmas.Result.{err_from_is_err_and}
use Rattle.std.specs.declared.result.Result.TheVariants.{Ok}
use Rattle.numbers.specs.Bytes.{Bytes}
use Rattle.epoch_tree.specs.Tables.{entries_in, entries_of, is_table}
use Rattle.epoch_tree.specs.Tree.{next_step as step_from}
use Rattle.epoch_tree.proofs.TableBytes.{entries_table}
use Rattle.epochs.specs.Calls.{next_step_outcome}
use Rattle.epochs.proofs.Checks.{checked, unchecked}
use Rattle.epochs.proofs.next_step.Goals as goal

pub returns-in_err-n : goal.returns-in_err-n
unfolding next_step_outcome
returns-in_err-n c =
    let told = err_from_is_err_and c.from_residual.result c.from_residual.ensures.1 in
    let bad = unchecked c.args.table.now _ (sym c.check_table.ensures ∙ c.in_err-n.was) in
    rw (told.1, told.2, bad.1) (simp bad.0)

pub returns-then-n-current : goal.returns-then-n-current
unfolding next_step_outcome
returns-then-n-current c =
    let kept = checked c.args.table.now _ (sym c.check_table.ensures ∙ c.in_ok-n.was) in
    let past : length (entries_of c.args.table.now) ≤ c.args.current = omega arith in
    simp (kept.0, le-ltb c.args.current (length (entries_of c.args.table.now)) past)

pub invariant_of-tree : goal.invariant_of-tree
invariant_of-tree c =
    let kept = checked c.args.table.now _ (sym c.check_table.ensures ∙ c.in_ok-n.was) in
    record { is_table = ap (λ (b : List Bytes). is_table (entries_in b)) c.as_chunks.ensures.front ∙ entries_table c.args.table.now kept.0 }

pub next_step-requires : goal.next_step-requires
next_step-requires c =
    let kept = checked c.args.table.now _ (sym c.check_table.ensures ∙ c.in_ok-n.was) in
    omega (arith, c.as_chunks.ensures.front_len)

pub returns : goal.returns
unfolding next_step_outcome
returns c =
    let kept = checked c.args.table.now _ (sym c.check_table.ensures ∙ c.in_ok-n.was) in
    let inside : c.args.current < length (entries_of c.args.table.now) = omega arith in
    let step = ap (λ (b : List Bytes). step_from (entries_in b) c.args.current) c.as_chunks.ensures.front in
    simp (kept.0, lt-ltb c.args.current (length (entries_of c.args.table.now)) inside) (ap Ok (c.next_step.ensures ∙ step))
