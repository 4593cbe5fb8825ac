-- `renamed_slots::own` meets its contract. Assumes nothing.
use mathlib.Core.Path.{◌∙◌, ap}
use lib.ListN.{drop}
use Rattle.renamed_slots.proofs.own.Goals as goal

pub returns : goal.returns
returns c =
    let part = c.without.ensures in
    (part.0, part.1 ∙ ap (drop c.args.cut) c.name_in.ensures.1)
