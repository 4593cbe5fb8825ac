-- `slots::zero_at` meets its contract. Assumes nothing.
use Rattle.std.proofs.Common.{sym, ◌∙◌, arith, ne_eqb}
use Rattle.slots.proofs.ZeroTuples.{zero96}
use Rattle.slots.proofs.zero_at.Goals as goal

pub returns-else-front-eq0 : goal.returns-else-front-eq0
returns-else-front-eq0 c =
    let e = ne_eqb _ _ c.if-front-eq0.false in
    e ∙ sym (zero96 c.args.s.now c.args.p (omega arith) ∙ simp (sym c.read_u64-front.ensures, e))
