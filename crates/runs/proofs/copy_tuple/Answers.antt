-- `runs::copy_tuple` meets its contract. Assumes nothing.
use mathlib.Core.Path.{refl, ap, ◌∙◌}
use mathlib.Core.List.{◌++◌}
use Prim.Native.Nat.{◌+◌, ◌≤◌}
use native.Mathlib.Omega.{arith}
use lib.ListN.{length}
use Rattle.numbers.specs.Bytes.{Octets, bytes32, put}
use Rattle.numbers.proofs.Put.{put_more}
use Rattle.slots.proofs.CopiedTuples.{three_words}
use Rattle.runs.proofs.copy_tuple.Goals as goal

pub returns : goal.returns
returns c =
    let o = c.args.out.now in
    let p = c.args.p in
    let s = c.args.s.now in
    let at = c.args.at in
    let x = bytes32 c.read_u32-x.result in
    let y = bytes32 c.read_u32-y.result in
    let z = bytes32 c.read_u32-z.result in
    let fits : p ≤ length o = omega arith in
    let octets : Octets s = λ i. omega (arith, c.type_inv.s i) in
    let words = three_words s octets at (at + 4) (at + 8) c.requires.1 refl refl in
    let two = put_more o p fits x y c.write_u32.ensures refl c.write_u32-2.ensures in
    put_more o p fits (x ++ y) z two refl c.write_u32-3.ensures
    ∙ ap (put o p) (words c.read_u32-x.ensures c.read_u32-y.ensures c.read_u32-z.ensures)
