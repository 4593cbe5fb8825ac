-- `write_messages::write_numbers` meets its contract. Assumes nothing.
use mathlib.Core.Path.{refl}
use mathlib.Core.List.{[], ◌∷◌, ◌++◌}
use Prim.Native.Nat.{◌≤◌}
use native.Mathlib.Omega.{arith}
use lib.ListN.{length}
use Rattle.numbers.proofs.Put.{put_more}
use Rattle.fields.specs.Fields.{field_bytes}
use Rattle.messages.specs.Messages.{kind_tag, epoch_tag, author_tag, pair_bytes}
use Rattle.write_messages.proofs.write_numbers.Goals as goal

pub returns : goal.returns
returns c =
    let o = c.args.out.now in
    let x = c.args.x in
    let h : 0 ≤ length o = omega arith in
    let kind = field_bytes kind_tag (x.kind ∷ []) in
    let epoch = field_bytes epoch_tag (pair_bytes x.epoch) in
    let d = put_more o 0 h kind epoch c.write_kind.ensures refl c.write_pair.ensures in
    put_more o 0 h (kind ++ epoch) (field_bytes author_tag (pair_bytes x.author)) d refl c.write_pair-2.ensures
