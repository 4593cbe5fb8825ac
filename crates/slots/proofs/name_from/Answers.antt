-- `slots::name_from` meets its contract. Assumes nothing.
use Rattle.std.proofs.Common.{◌-◌, sym, refl, ◌∙◌, arith}
use mathlib.Core.Bool.{and-true, and-false}
use Rattle.slots.specs.Tuples.{tuples_at}
use Rattle.slots.specs.Looks.{leads}
use Rattle.slots.proofs.NameTests.{name_by}
use Rattle.slots.proofs.name_from.Goals as goal

pub returns-then-last_at : goal.returns-then-last_at
returns-then-last_at c =
    let last = sym c.if-last_at.true ∙ c.last_at.ensures in
    sym (and-true c.leads_from.result) ∙ name_by c.args.s.now c.args.p c.args.n (omega arith) c.leads_from.ensures last

pub returns-else-last_at : goal.returns-else-last_at
returns-else-last_at c =
    let s = c.args.s.now in
    let p = c.args.p in
    let n = c.args.n in
    let last = sym c.if-last_at.false ∙ c.last_at.ensures in
    c.if-last_at.false ∙ sym (and-false (leads (tuples_at s p (n - 1)))) ∙ name_by s p n (omega arith) refl last
