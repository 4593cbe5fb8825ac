-- `one_name::reaches_down` meets its contract. Assumes nothing.
use mathlib.Core.Path.{◌∙◌, sym}
use mathlib.Core.Bool.{◌&&◌}
use Rattle.slots.proofs.TuplesInBytes.{length_tuples_at}
use Rattle.one_name.specs.Stems.{marked_at, home, row_of_stem}
use Rattle.one_name.proofs.reaches_down.Goals as goal

pub returns-then-y : goal.returns-then-y
returns-then-y c =
    let s = c.args.s.now in
    let log = c.args.log.now in
    let y = c.args.y in
    c.marked_at.ensures ∙ sym (λ i. c.if-y.true i && marked_at (row_of_stem s log c.args.x) (length_tuples_at (home s log y) y.row.at y.row.count i))
