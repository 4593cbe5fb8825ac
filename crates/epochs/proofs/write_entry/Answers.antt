use Rattle.std.proofs.Common.{refl, ◌≤◌, length, ◌++◌, arith}
use Rattle.numbers.specs.Bytes.{bytes16, bytes32}
use Rattle.numbers.proofs.Put.{put_more}
use Rattle.epochs.proofs.write_entry.Goals as goal

pub returns : goal.returns
returns c =
    let o = c.args.out.now in
    let p = c.args.p in
    let a = c.args.author in
    let pair = bytes16 a.node ++ bytes32 a.sequence in
    let fits : p ≤ length o = omega arith in
    let two = put_more o p fits (bytes16 a.node) (bytes32 a.sequence) c.write_u16.ensures refl c.write_u32.ensures in
    let three = put_more o p fits pair (bytes16 c.args.parent) two refl c.write_u16-2.ensures in
    put_more o p fits (pair ++ bytes16 c.args.parent) (bytes16 c.args.count) three refl c.write_u16-3.ensures
