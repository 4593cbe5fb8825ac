-- `new_names::more` meets its contract. Assumes nothing.
use native.Mathlib.Omega.{arith}
use Rattle.new_names.proofs.PartsOfNames.{deep, grown}
use Rattle.new_names.proofs.more.Goals as goal

pub returns-then-depth-gt-LIMIT : goal.returns-then-depth-gt-LIMIT
returns-then-depth-gt-LIMIT c = λ s l. deep s c.args.a c.args.first c.args.second c.args.n c.requires.1 (omega arith)

pub returns : goal.returns
returns c = λ s l. grown s c.args.a c.args.first c.args.second c.args.n c.requires.1 (omega arith) l
