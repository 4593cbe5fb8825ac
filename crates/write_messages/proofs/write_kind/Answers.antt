-- `write_messages::write_kind` meets its contract. Assumes nothing.
use mathlib.Core.Path.{refl}
use mathlib.Core.List.{[], ◌∷◌}
use Prim.Native.Nat.{◌+◌}
use native.Mathlib.Omega.{arith}
use lib.Seq.{sets-eq}
use Rattle.numbers.specs.Bytes.{bytes16}
use Rattle.numbers.proofs.Put.{put_more}
use Rattle.fields.specs.Fields.{field_head}
use Rattle.messages.specs.Messages.{kind_tag, kind_size}
use Rattle.write_messages.proofs.write_kind.Goals as goal

pub returns : goal.returns
returns c =
    let o = c.args.out.now in
    let p = c.args.p in
    let k = c.args.kind in
    let d = c.write_field_head.new.out in
    let l = c.write_field_head.auto.out in
    let head = c.write_field_head.ensures in
    put_more o p (omega arith) (kind_tag ∷ bytes16 kind_size) (k ∷ []) head refl (sets-eq (k ∷ []) d (p + field_head) (omega arith))
