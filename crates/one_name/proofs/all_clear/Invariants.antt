-- `one_name::all_clear` meets its contract. Assumes nothing.
use mathlib.Core.Path.{◌≡◌}
use lib.ListN.{drop}
use Rattle.std.specs.List.{list_all}
use Rattle.pages.specs.Pages.{names_of}
use Rattle.one_name.specs.Stems.{clear_from}
use Rattle.one_name.proofs.all_clear.Given as goal

abbrev pub invariant-loop-k : goal.invariant-loop-k
invariant-loop-k l = list_all (clear_from l.author (names_of l.log) l.from) (drop l.k (names_of l.page)) ≡ list_all (clear_from l.author (names_of l.log) l.from) (names_of l.page)
