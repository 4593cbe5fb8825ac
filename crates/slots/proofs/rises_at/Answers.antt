-- `slots::rises_at` meets its contract. Assumes nothing.
use Rattle.std.proofs.Common.{ap, ◌∙◌, arith, le-leb, le-ltb}
use Rattle.std.specs.Ordering.{is_lt}
use Rattle.slots.proofs.PackedTuples.{left_less, left_not, left_differ, left_alike}
use Rattle.slots.proofs.rises_at.Goals as goal

pub returns-else-i-d : goal.returns-else-i-d
returns-else-i-d c =
    let x = c.args in
    let a = x.a.now in
    let s = x.s.now in
    le-ltb _ _ c.if-i-d.false
    ∙ left_not a x.p x.n s x.q x.d x.i c.if-i-d.false
    ∙ ap is_lt (left_alike a x.p s x.q x.i c.requires.i_value.0 x.n x.d (omega arith) (omega arith))

pub returns-then-n-i : goal.returns-then-n-i
returns-then-n-i c =
    let x = c.args in
    let a = x.a.now in
    let s = x.s.now in
    le-leb _ _ c.if-n-i.true
    ∙ ap is_lt
    (left_less a x.p x.n s x.q x.d x.i c.if-n-i.true c.if-i-d.true
    ∙ left_alike a x.p s x.q x.i c.requires.i_value.0 x.n x.d (omega arith) (omega arith))

pub returns-else-n-i : goal.returns-else-n-i
returns-else-n-i c =
    let x = c.args in
    let a = x.a.now in
    let s = x.s.now in
    let h = c.if-n-i.false in
    let g = c.if-i-d.true in
    c.is_lt.ensures
    ∙ ap is_lt c.compare_tuples.ensures
    ∙ left_differ a x.p x.n s x.q x.d x.i h g (c.requires.i_value.1 h g)
    ∙ ap is_lt (left_alike a x.p s x.q x.i c.requires.i_value.0 x.n x.d (omega arith) (omega arith))
