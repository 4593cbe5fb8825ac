-- `new_names::made` meets its contract. Assumes nothing.
use mathlib.Core.Path.{◌≡◌}
use lib.ListN.{take}
use Rattle.names.specs.declared.Name.{Name}
use Rattle.names.specs.Names.{value_of}
use Rattle.new_names.specs.FoundParts.{parts_of}
use Rattle.new_names.proofs.made.Given as goal

-- the name of the first k
abbrev pub invariant-loop-k : goal.invariant-loop-k
invariant-loop-k l = ◌≡◌ {A = Name} (record { depth = l.k; tuples = l.tuples }) (value_of (take l.k (parts_of l.page l.p)))
