-- `slots::write_head` meets its contract. Assumes nothing.
use Rattle.std.proofs.Common.{◌*◌, ◌++◌, refl, ap, ◌∙◌, arith}
use Rattle.numbers.specs.Bytes.{Bytes, put, bytes32}
use Rattle.numbers.proofs.Put.{put_more}
use Rattle.slots.proofs.WrittenSlots.{depth_bytes}
use Rattle.slots.proofs.write_head.Goals as goal

pub returns : goal.returns
returns c =
    let o = c.args.out.now in
    let p = c.args.p in
    let d = c.args.d in
    let line = bytes32 c.args.line in
    put_more o p (omega arith) (bytes32 (d * 16777216)) line c.write_u32.ensures refl c.write_u32-2.ensures
    ∙ ap (λ (w : Bytes). put o p (w ++ line)) (depth_bytes d)
