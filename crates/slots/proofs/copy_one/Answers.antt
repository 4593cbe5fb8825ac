-- `slots::copy_one` meets its contract. Assumes nothing.
use Rattle.std.proofs.Common.{◌+◌, refl, ap, ◌∙◌, arith}
use Rattle.numbers.specs.Bytes.{put}
use Rattle.slots.proofs.CopiedTuples.{three_words}
use Rattle.slots.proofs.copy_one.Goals as goal

pub returns : goal.returns
returns c =
    let s = c.args.s.now in
    let at = c.args.at in
    let words = three_words s (λ i. omega (arith, c.type_inv.s i)) at (at + 4) (at + 8) c.requires.1 refl refl in
    c.write_three.ensures
    ∙ ap (put c.args.out.now c.args.p) (words c.read_u32-x.ensures c.read_u32-y.ensures c.read_u32-z.ensures)
