-- `kadalumbir::kadalumbir_next_step` meets its contract. Assumes nothing.
use mathlib.Core.Path.{◌≡◌, ap, ◌∙◌}
use native.Mathlib.Omega.{arith}
use Rattle.kadalumbir.specs.Library.{packed}
use Rattle.epochs.specs.Calls.{number_in, index_in, answer_of, next_step_outcome}
use Rattle.kadalumbir.proofs.Counts.{step_count, step_index_lem}
use Rattle.kadalumbir.proofs.kadalumbir_next_step.Goals as goal

pub overflow_cast-index : goal.overflow_cast-index
overflow_cast-index c =
    let e : c.step_index.result ≡ index_in (next_step_outcome c.args.table.now c.args.current) = c.step_index.ensures ∙ ap index_in c.next_step-next.ensures in
    let b = step_index_lem c.args.table.now c.args.current in
    omega arith

pub pack-requires : goal.pack-requires
pack-requires c = rw c.answer.ensures (step_count c.next_step-next.result)

pub returns : goal.returns
returns c =
    record {
      value = c.pack.ensures ∙ ap packed (c.answer.ensures ∙ ap answer_of c.next_step-next.ensures);
      step_after = c.step_number.ensures ∙ ap number_in c.next_step-next.ensures;
      index_after = c.step_index.ensures ∙ ap index_in c.next_step-next.ensures;
    }
