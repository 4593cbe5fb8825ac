-- `one_name::all_unmarked` meets its contract. Assumes nothing.
use mathlib.Core.Path.{◌≡◌}
use lib.ListN.{drop}
use Rattle.std.specs.List.{list_all}
use Rattle.pages.specs.Pages.{names_of}
use Rattle.one_name.specs.Markers.{unmarked_from}
use Rattle.one_name.proofs.all_unmarked.Given as goal

abbrev pub invariant-loop-k : goal.invariant-loop-k
invariant-loop-k l = list_all (unmarked_from l.from) (drop l.k (names_of l.log)) ≡ list_all (unmarked_from l.from) (names_of l.log)
