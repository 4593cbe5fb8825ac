-- `renamed_slots::name_in` meets its contract. Assumes nothing.
use mathlib.Core.Path.{◌∙◌, sym, ap}
use native.Mathlib.Omega.{arith}
use lib.ListN.{length}
use Rattle.names.specs.Names.{limit}
use Rattle.slots.specs.Slots.{head_size}
use Rattle.slots.proofs.RoundTrip.{kept}
use Rattle.slots.proofs.TuplesInBytes.{length_tuples_at}
use Rattle.slots.proofs.NameTests.{name_over_lem}
use Rattle.renamed_slots.proofs.name_in.Goals as goal

pub depth-requires : goal.depth-requires
depth-requires c = omega (arith, (kept c.args.slot.now c.requires).long)

pub returns : goal.returns
returns c =
    let s = c.args.slot.now in
    let v = kept s c.requires in
    let long = v.long in
    let fit = v.fit in
    let row = name_over_lem limit s c.depth.result c.depth.ensures in
    ((omega arith, omega arith), row, sym (length_tuples_at s head_size c.depth.result) ∙ ap length row)
