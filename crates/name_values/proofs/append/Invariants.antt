-- `name_values::append` meets its contract. Assumes nothing.
use mathlib.Core.List.{◌++◌}
use lib.ListN.{take}
use Rattle.names.specs.Names.{row_of, value_of}
use mathlib.Core.Path.{◌≡◌}
use Rattle.name_values.proofs.append.Given as goal

abbrev pub invariant-loop-t : goal.invariant-loop-t
invariant-loop-t l = l.r ≡ value_of (row_of l.initial.r ++ take l.t-index l.t-items)
