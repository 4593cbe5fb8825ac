-- `one_name::begins` meets its contract. Assumes nothing.
use mathlib.Core.Path.{◌∙◌, ap}
use native.Mathlib.Omega.{arith}
use borrow.Author.Tests.{le-ltb}
use Rattle.std.specs.Ordering.{is_eq}
use Rattle.names.proofs.TestedOrder.{first_none}
use Rattle.slots.specs.Tuples.{row_at}
use Rattle.slots.proofs.TuplesInBytes.{length_tuples_at}
use Rattle.one_name.proofs.begins.Goals as goal

pub returns-else-x-gt0 : goal.returns-else-x-gt0
returns-else-x-gt0 c =
    let x = c.args.x in
    let l = length_tuples_at c.args.s.now x.at x.count in
    le-ltb 0 x.count c.if-x-gt0.false ∙ ap is_eq (first_none (row_at c.args.s.now x) c.args.t (omega (arith, l, c.if-x-gt0.false)))
