-- `slots::copy_four` meets its contract. Assumes nothing.
use Rattle.std.proofs.Common.{◌+◌, ◌≤◌, length, refl, ap, ◌∙◌, arith}
use Rattle.numbers.specs.Bytes.{Octets, put}
use Rattle.slots.proofs.CopiedTuples.{three_words, copied_on}
use Rattle.slots.proofs.copy_four.Goals as goal

-- from here on `omega` does not reach the start from `c`: it is bound, in the end by way of places between
pub overflow_add-at-11 : goal.overflow_add-at-11
overflow_add-at-11 c = omega (arith, c.requires.1)

pub read_u32-l-requires : goal.read_u32-l-requires
read_u32-l-requires c = omega (arith, c.requires.1)

pub write_three-requires : goal.write_three-requires
write_three-requires c = omega (arith, c.requires.0)

pub overflow_add-p : goal.overflow_add-p
overflow_add-p c = omega (arith, c.requires.0)

pub write_three-requires-2 : goal.write_three-requires-2
write_three-requires-2 c = omega (arith, c.requires.0)

pub overflow_add-p-2 : goal.overflow_add-p-2
overflow_add-p-2 c = omega (arith, c.requires.0)

pub write_three-requires-3 : goal.write_three-requires-3
write_three-requires-3 c = omega (arith, c.requires.0)

pub overflow_add-p-3 : goal.overflow_add-p-3
overflow_add-p-3 c = omega (arith, c.requires.0)

pub write_three-requires-4 : goal.write_three-requires-4
write_three-requires-4 c = omega (arith, c.requires.0)

pub shape_of-out : goal.shape_of-out
shape_of-out c = c.write_three-4.auto.out ∙ c.write_three-3.auto.out ∙ c.write_three-2.auto.out ∙ c.write_three.auto.out

pub returns : goal.returns
returns c =
    let o = c.args.out.now in
    let p = c.args.p in
    let s = c.args.s.now in
    let at = c.args.at in
    let room : at + 48 ≤ length s = c.requires.1 in
    let fits : p ≤ length o = omega (arith, c.requires.0) in
    let octets : Octets s = λ i. omega (arith, c.type_inv.s i) in
    let one = three_words s octets at (at + 4) (at + 8) (omega (arith, room)) refl refl c.read_u32-a.ensures c.read_u32-b.ensures c.read_u32-c.ensures in
    let two = three_words s octets (at + 12) (at + 16) (at + 20) (omega (arith, room)) (omega arith) (omega arith) c.read_u32-d.ensures c.read_u32-e.ensures c.read_u32-f.ensures in
    let three = three_words s octets (at + 24) (at + 28) (at + 32) (omega (arith, room)) (omega arith) (omega arith) c.read_u32-g.ensures c.read_u32-h.ensures c.read_u32-i.ensures in
    let four = three_words s octets (at + 36) (at + 40) (at + 44) (omega (arith, room)) (omega arith) (omega arith) c.read_u32-j.ensures c.read_u32-k.ensures c.read_u32-l.ensures in
    let d = c.write_three.new.out in
    let d2 = c.write_three-2.new.out in
    let d3 = c.write_three-3.new.out in
    copied_on o s p at 36 12 fits (omega (arith, room))
    (copied_on o s p at 24 12 fits (omega (arith, room))
    (copied_on o s p at 12 12 fits (omega (arith, room)) (c.write_three.ensures ∙ ap (put o p) one) (c.write_three-2.ensures ∙ ap (put d (p + 12)) two))
    (c.write_three-3.ensures ∙ ap (put d2 (p + 24)) three))
    (c.write_three-4.ensures ∙ ap (put d3 (p + 36)) four)
