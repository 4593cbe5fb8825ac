-- `slots::write_rest` meets its contract. Assumes nothing.
use Rattle.std.proofs.Common.{◌≡◌, ℕ, ◌+◌, ◌-◌, ◌*◌, replicate, ap, ◌∙◌, arith}
use Rattle.names.specs.Names.{limit}
use Rattle.numbers.specs.Bytes.{put}
use Rattle.slots.specs.Tuples.{tuple_size}
use Rattle.slots.specs.Slots.{head_size}
use Rattle.slots.proofs.write_rest.Goals as goal

pub returns : goal.returns
returns c =
    let d = c.args.d in
    let e : 4 * (3 * (limit - d)) ≡ tuple_size * (limit - d) = omega arith in
    c.write_zeros.ensures
    ∙ ap (λ (n : ℕ). put c.args.out.now (c.args.p + head_size + tuple_size * d) (replicate n 0)) e
