-- `new_names::first_position` meets its contract. Assumes nothing.
use native.Mathlib.Omega.{arith}
use mathlib.Core.Path.{◌∙◌}
use Rattle.new_names.proofs.Prefixes.{first_none, first_some}
use Rattle.new_names.proofs.first_position.Goals as goal

pub returns-then-name-lt1 : goal.returns-then-name-lt1
returns-then-name-lt1 c = (c.from.ensures ∙ first_none c.args.page.now c.args.name.at c.args.missing c.args.name.count c.if-name-lt1.true, omega arith)

pub returns : goal.returns
returns c =
    (c.from-2.ensures ∙ c.read_u16.ensures ∙ first_some c.args.page.now c.args.name.at c.args.missing c.args.name.count c.if-name-lt1.false, omega arith)
