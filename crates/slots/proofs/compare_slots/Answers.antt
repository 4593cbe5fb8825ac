-- `slots::compare_slots` meets its contract. Assumes nothing.
use Rattle.std.proofs.Common.{◌∙◌}
use Rattle.names.specs.Ordering.{compare_rows}
use Rattle.slots.proofs.NameTests.{name_over_lem}
use Rattle.slots.proofs.compare_slots.Goals as goal

pub returns : goal.returns
returns c =
    let first = name_over_lem c.args.room c.args.a.now c.depth_over.result c.depth_over.ensures in
    let second = name_over_lem c.args.room c.args.b.now c.depth_over-2.result c.depth_over-2.ensures in
    c.compare_rows.ensures ∙ (λ i. compare_rows (first i) (second i))
