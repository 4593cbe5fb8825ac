-- `grouping::form_size` meets its contract. Assumes nothing.
use Rattle.pages.specs.Pages.{slots_of}
use Rattle.grouping.proofs.SizeBySlot.{Summing}
use Rattle.grouping.proofs.form_size.Given as goal

abbrev pub invariant-loop-k : goal.invariant-loop-k
invariant-loop-k l = Summing (slots_of l.page) l.k l.size
