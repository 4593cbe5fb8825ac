use Rattle.std.proofs.Common.{◌+◌, sym, refl, ◌∙◌, arith}
use Rattle.slots.proofs.PackedTuples.{left_from, left_all, left_at, left_end, differs, agrees}
use Rattle.slots.proofs.compare_rows.Goals as goal

pub loop-i-init : goal.loop-i-init
loop-i-init c =
    let x = c.args in
    (omega arith, left_all x.a.now x.p x.n x.b.now x.q x.m)

pub returns-then-is_ne : goal.returns-then-is_ne
returns-then-is_ne c =
    let x = c.args in
    let i = c.loop-i.i in
    differs c.compare_tuples-order.result (left_from x.a.now x.p x.n x.b.now x.q x.m (i + 1)) (sym c.is_ne.ensures ∙ c.if-is_ne.true)
    ∙ left_at x.a.now x.p x.n x.b.now x.q x.m i c.compare_tuples-order.ensures refl (omega arith) (omega arith)
    ∙ c.loop-i.invariant.1

pub loop-i-preserved : goal.loop-i-preserved
loop-i-preserved c =
    let x = c.args in
    let i = c.loop-i.i in (
      omega arith,
      agrees c.compare_tuples-order.result (left_from x.a.now x.p x.n x.b.now x.q x.m (i + 1)) (sym c.is_ne.ensures ∙ c.if-is_ne.false)
          ∙ left_at x.a.now x.p x.n x.b.now x.q x.m i c.compare_tuples-order.ensures refl (omega arith) (omega arith)
          ∙ c.loop-i.invariant.1,
    )

pub returns-then-most-i : goal.returns-then-most-i
returns-then-most-i c =
    let x = c.args in
    c.compare_lengths.ensures ∙ left_end x.a.now x.p x.n x.b.now x.q x.m c.loop-i.i (omega arith) ∙ c.loop-i.invariant.1
