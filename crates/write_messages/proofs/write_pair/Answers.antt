-- `write_messages::write_pair` meets its contract. Assumes nothing.
use mathlib.Core.Path.{◌≡◌, refl}
use mathlib.Core.List.{◌∷◌, ◌++◌}
use Prim.Native.Nat.{◌+◌, ◌≤◌}
use native.Mathlib.Omega.{arith}
use lib.ListN.{length}
use Rattle.numbers.specs.Bytes.{bytes16, bytes32}
use Rattle.numbers.proofs.Put.{put_more}
use Rattle.fields.specs.Fields.{field_head}
use Rattle.messages.specs.Messages.{pair_size, sequence_place}
use Rattle.write_messages.proofs.write_pair.Goals as goal

pub returns : goal.returns
returns c =
    let o = c.args.out.now in
    let p = c.args.p in
    let x = c.args.x in
    let h : p ≤ length o = omega arith in
    let head = c.args.tag ∷ bytes16 pair_size in
    let d = put_more o p h head (bytes16 x.node) c.write_field_head.ensures refl c.write_u16.ensures in
    let q : p + field_head + sequence_place ≡ p + length (head ++ bytes16 x.node) = omega arith in
    put_more o p h (head ++ bytes16 x.node) (bytes32 x.sequence) d q c.write_u32.ensures
