use Rattle.std.proofs.Common.{◌≡◌, ◌+◌, ◌*◌, length, refl, arith, length-set, below_none}
use Rattle.names.specs.Names.{m, limit}
use Rattle.slots.specs.Tuples.{tuple_at, tuple_size}
use Rattle.numbers.proofs.Lists.{filled_more}
use Rattle.slots.proofs.TuplesInBytes.{filled_all}
use Rattle.slots.proofs.read_row.Goals as goal

pub loop-k-init : goal.loop-k-init
loop-k-init c = (refl, below_none _)

pub loop-k-preserved : goal.loop-k-preserved
loop-k-preserved c =
    let v = c.loop-k.invariant in
    let e : length c.loop-k.tuples ≡ limit = v.0 in
    (simp length-set v.0, filled_more m (λ j. tuple_at c.args.s.now (c.args.p + tuple_size * j)) c.loop-k.tuples c.loop-k.k _ (omega arith) v.1 c.read_tuple.ensures)

pub returns : goal.returns
returns c =
    let v = c.loop-k.invariant in
    let e : length c.loop-k.tuples ≡ limit = v.0 in
    filled_all c.args.s.now c.args.p c.args.n c.loop-k.tuples (omega arith) (λ j h. v.1 j (omega arith))
