-- `one_name::first_position` meets its contract. Assumes nothing.
use mathlib.Core.Path.{◌∙◌}
use native.Mathlib.Omega.{arith}
use Rattle.one_name.proofs.CheckedLog.{logged, first_at}
use Rattle.one_name.proofs.first_position.Goals as goal

pub read_u16-requires : goal.read_u16-requires
read_u16-requires c = let l = logged c.args.log.now c.requires in omega (arith, l.some, l.count)

pub returns : goal.returns
returns c = c.read_u16.ensures ∙ first_at c.args.log.now c.requires
