-- `slots::write_three` meets its contract. Assumes nothing.
use Rattle.std.proofs.Common.{◌≤◌, ◌++◌, length, refl, arith}
use Rattle.numbers.specs.Bytes.{bytes32}
use Rattle.numbers.proofs.Put.{put_more}
use Rattle.slots.proofs.write_three.Goals as goal

pub returns : goal.returns
returns c =
    let o = c.args.out.now in
    let p = c.args.p in
    let x = bytes32 c.args.x in
    let y = bytes32 c.args.y in
    let z = bytes32 c.args.z in
    let fits : p ≤ length o = omega arith in
    let two = put_more o p fits x y c.write_u32.ensures refl c.write_u32-2.ensures in
    put_more o p fits (x ++ y) z two refl c.write_u32-3.ensures
