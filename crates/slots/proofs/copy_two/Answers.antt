-- `slots::copy_two` meets its contract. Assumes nothing.
use Rattle.std.proofs.Common.{◌+◌, refl, ap, ◌∙◌, arith}
use Rattle.numbers.specs.Bytes.{Octets, put}
use Rattle.slots.specs.Tuples.{tuple_size}
use Rattle.slots.proofs.CopiedTuples.{three_words, copied_on}
use Rattle.slots.proofs.copy_two.Goals as goal

pub returns : goal.returns
returns c =
    let o = c.args.out.now in
    let p = c.args.p in
    let s = c.args.s.now in
    let at = c.args.at in
    let octets : Octets s = λ i. omega (arith, c.type_inv.s i) in
    let one = three_words s octets at (at + 4) (at + 8) (omega arith) refl refl c.read_u32-x.ensures c.read_u32-y.ensures c.read_u32-z.ensures in
    let two = three_words s octets (at + 12) (at + 16) (at + 20) (omega arith) (omega arith) (omega arith) c.read_u32-u.ensures c.read_u32-v.ensures c.read_u32-w.ensures in
    let d = c.write_three.new.out in
    copied_on o s p at tuple_size tuple_size (omega arith) (omega arith)
    (c.write_three.ensures ∙ ap (put o p) one)
    (c.write_three-2.ensures ∙ ap (put d (p + 12)) two)
