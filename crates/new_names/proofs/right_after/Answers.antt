-- `new_names::right_after` meets its contract. Assumes nothing.
use mathlib.Core.List.{[], ◌∷◌, ◌++◌}
use mathlib.Core.Option.{some}
use Rattle.slots.specs.Tuples.{row_at}
use Rattle.new_names.proofs.PartsOfNames.{given}
use Rattle.new_names.proofs.right_after.Goals as goal

pub returns : goal.returns
returns c = λ s l. given s c.one_more.result (λ i. some (row_at s c.args.a ++ (c.own.ensures i ∷ []))) (c.one_more.ensures s l)
