-- `renamed_slots::tuple_of` meets its contract. Assumes nothing.
use mathlib.Core.Path.{◌∙◌, sym}
use Rattle.slots.proofs.TuplesInBytes.{get_or_tuples_at}
use Rattle.renamed_slots.proofs.tuple_of.Goals as goal

pub returns : goal.returns
returns c =
    let a = c.args in
    c.read_tuple.ensures ∙ sym (get_or_tuples_at a.s.now a.x.at a.x.count a.i c.requires.1)
