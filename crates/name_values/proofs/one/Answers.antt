-- `name_values::one` meets its contract. Assumes nothing.
use native.Mathlib.Omega.{arith}
use mathlib.Core.Path.{ap, ◌∙◌}
use mathlib.Core.List.{[], ◌∷◌, ◌++◌}
use lib.ListN.{length}
use Rattle.names.specs.Ordering.{Row}
use Rattle.names.specs.Names.{value_of}
use Rattle.name_values.proofs.JoinedRows.{value_of_lem, row_of_lem}
use Rattle.name_values.proofs.one.Goals as goal

pub push-requires : goal.push-requires
push-requires c = let l = ap length (row_of_lem [] c.empty.ensures) in (value_of_lem [] c.empty.ensures, omega arith)

pub returns : goal.returns
returns c = c.push.ensures ∙ ap (λ (r : Row). value_of (r ++ (c.args.t ∷ []))) (row_of_lem [] c.empty.ensures)
