-- `slots::read_tuple` meets its contract. Assumes nothing.
use Rattle.std.proofs.Common.{ap, ◌∙◌, w32}
use mir.ValLaws.{to_z-of_z}
use Rattle.numbers.specs.Bytes.{signed}
use Rattle.slots.specs.Tuples.{tuple_at}
use Rattle.slots.proofs.read_tuple.Goals as goal

pub returns : goal.returns
unfolding tuple_at
returns c =
    let o = to_z-of_z w32 c.to_signed-offset.result (record { sfits = c.to_signed-offset.type_inv }) ∙ c.to_signed-offset.ensures ∙ ap signed c.read_u32.ensures in
    λ i. record { position = c.read_u16-position.ensures i; node = c.read_u16-node.ensures i; sequence = c.read_u32-sequence.ensures i; offset = o i }
