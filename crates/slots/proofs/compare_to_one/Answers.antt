-- `slots::compare_to_one` meets its contract. Assumes nothing.
use Rattle.std.proofs.Common.{sym, refl, ◌∙◌, arith}
use Rattle.std.specs.Ordering.{ordering_then}
use Rattle.names.proofs.CompareTuples.{to_none}
use Rattle.names.proofs.DerivedOrder.{nat_is}
use Rattle.slots.specs.Tuples.{tuples_at}
use Rattle.slots.proofs.TuplesInBytes.{length_tuples_at}
use Rattle.slots.proofs.PackedTuples.{first_tuple, after_one}
use Rattle.slots.proofs.compare_to_one.Goals as goal

pub returns-then-n-eq0 : goal.returns-then-n-eq0
returns-then-n-eq0 c =
    let x = c.args in
    let l = length_tuples_at x.a.now x.p x.n in
    to_none (tuples_at x.a.now x.p x.n) x.t (omega arith)

pub returns : goal.returns
returns c =
    let x = c.args in
    let more = c.cmp.ensures ∙ sym (nat_is x.n 1) ∙ after_one x.a.now x.p x.n (omega arith) in
    c.then.ensures
    ∙ (λ i. ordering_then c.compare_tuple.result (more i))
    ∙ first_tuple x.a.now x.p x.n x.t (omega arith) c.compare_tuple.ensures refl
