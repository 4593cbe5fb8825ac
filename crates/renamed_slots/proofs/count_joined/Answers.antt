-- `renamed_slots::count_joined` meets its contract. Assumes nothing.
use Prim.Native.Nat.{◌+◌}
use Rattle.renamed_slots.proofs.ReadTuples.{count_of}
use Rattle.renamed_slots.proofs.count_joined.Goals as goal

pub returns : goal.returns
returns c =
    let r = count_of c.args.log.now c.span_of.result c.span_of.ensures.1 in
    let v = count_of c.args.slot.now c.own.result c.own.ensures.1 in
    λ i. r i + 1 + v i
