-- `slots::follows` meets its contract. Assumes nothing.
use Rattle.std.proofs.Common.{sym, ap, ◌∙◌, arith}
use Rattle.slots.specs.Looks.{leads}
use Rattle.slots.proofs.NameTests.{leads_fewer}
use Rattle.slots.proofs.follows.Goals as goal

pub name_from-requires : goal.name_from-requires
name_from-requires c =
    let x = c.args in
    let same = c.alike-i.ensures.upper_bound in
    let known = leads_fewer x.a.now x.p c.alike-i.result x.n same.0 c.requires.n_in_bounds.1 in
    (omega arith, omega arith, omega arith, ap leads (sym same.2) ∙ known)
