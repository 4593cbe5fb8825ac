-- `slots::zero_ends` meets its contract. Assumes nothing.
use Rattle.std.proofs.Common.{◌+◌, ◌-◌, ◌*◌, ◌∙◌, arith}
use Rattle.slots.specs.Tuples.{tuple_size}
use Rattle.slots.specs.Slots.{head_size}
use Rattle.slots.proofs.ZeroTuples.{zeros_ends}
use Rattle.slots.proofs.zero_ends.Goals as goal

pub returns : goal.returns
returns c =
    let x = c.args in
    c.zero_runs.ensures
    ∙ zeros_ends x.s.now (head_size + tuple_size * x.d) (tuple_size * x.n) (head_size + tuple_size * (x.room - x.n)) (omega arith) (omega arith) (omega arith)
