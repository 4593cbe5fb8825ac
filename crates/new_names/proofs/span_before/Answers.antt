-- `new_names::span_before` meets its contract. Assumes nothing.
use native.Mathlib.Omega.{arith}
use mathlib.Core.Path.{◌∙◌}
use Rattle.pages.specs.Pages.{names_of}
use Rattle.new_names.proofs.Prefixes.{before_zero, before_suc}
use Rattle.new_names.proofs.span_before.Goals as goal

pub returns-then-gap-lt1 : goal.returns-then-gap-lt1
returns-then-gap-lt1 c = ((omega arith, omega arith), before_zero c.args.gap (names_of c.args.page.now) c.if-gap-lt1.true)

pub returns : goal.returns
returns c =
    let e = before_suc c.args.gap (names_of c.args.page.now) c.if-gap-lt1.false in
    (c.span_of.ensures.0, c.span_of.ensures.1 ∙ e)
