use Rattle.std.proofs.Common.{◌∙◌, sym, arith}
use Rattle.slots.proofs.PackedTuples.{alike_more}
use Rattle.slots.proofs.alike.Goals as goal

pub loop-i-preserved : goal.loop-i-preserved
loop-i-preserved c =
    let x = c.args in
    (omega arith, alike_more x.a.now x.p x.b.now x.q c.loop-i.i c.loop-i.invariant.1 (sym c.same_tuples.ensures ∙ c.if-not-same_tuples.false))
