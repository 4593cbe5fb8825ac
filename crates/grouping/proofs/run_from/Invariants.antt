-- `grouping::run_from` meets its contract. Assumes nothing.
use Rattle.pages.specs.Pages.{slots_of}
use Rattle.grouping.proofs.FirstRun.{Along}
use Rattle.grouping.proofs.run_from.Given as goal

abbrev pub invariant-loop-i : goal.invariant-loop-i
invariant-loop-i l = Along (slots_of l.page) l.k l.i
