-- `slots::last_at` meets its contract. Assumes nothing.
use Rattle.std.proofs.Common.{◌+◌, ◌&&◌, ltb, sym, ◌∙◌}
use Rattle.numbers.specs.Bytes.{at32}
use Rattle.slots.proofs.TupleTests.{last_by}
use Rattle.slots.proofs.last_at.Goals as goal

pub returns-then-ordinary_at : goal.returns-then-ordinary_at
returns-then-ordinary_at c = sym (last_by c.args.s.now c.args.p ∙ (λ i. (sym c.ordinary_at.ensures ∙ c.if-ordinary_at.true) i && ltb (sym c.read_u32.ensures i) 2147483648))

pub returns-else-ordinary_at : goal.returns-else-ordinary_at
returns-else-ordinary_at c =
    let fails = sym c.ordinary_at.ensures ∙ c.if-ordinary_at.false in
    c.if-ordinary_at.false ∙ sym (last_by c.args.s.now c.args.p ∙ (λ i. fails i && ltb (at32 c.args.s.now (c.args.p + 8)) 2147483648))
