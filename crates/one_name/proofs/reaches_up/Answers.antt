-- `one_name::reaches_up` meets its contract. Assumes nothing.
use mathlib.Core.Path.{◌∙◌, sym}
use mathlib.Core.Bool.{◌&&◌}
use Rattle.slots.proofs.TuplesInBytes.{length_tuples_at}
use Rattle.one_name.specs.Stems.{marked_at, home, row_of_stem}
use Rattle.one_name.proofs.reaches_up.Goals as goal

pub returns-then-x : goal.returns-then-x
returns-then-x c =
    let s = c.args.s.now in
    let log = c.args.log.now in
    let x = c.args.x in
    c.marked_at.ensures ∙ sym (λ i. c.if-x.true i && marked_at (row_of_stem s log c.args.y) (length_tuples_at (home s log x) x.row.at x.row.count i))
