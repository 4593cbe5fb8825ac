-- `one_name::is_above` meets its contract. Assumes nothing.
use mathlib.Core.Path.{◌∙◌, ap}
use mathlib.Core.List.{[], ◌∷◌}
use Rattle.std.specs.Ordering.{is_gt}
use Rattle.slots.specs.Tuples.{row_at}
use Rattle.one_name.proofs.TestedSides.{turned}
use Rattle.one_name.proofs.is_above.Goals as goal

pub returns : goal.returns
returns c = c.is_gt.ensures ∙ ap is_gt c.compare_to_one.ensures ∙ turned (row_at c.args.s.now c.args.x) (c.args.t ∷ [])
