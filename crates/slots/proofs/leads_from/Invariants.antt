-- `slots::leads_from` meets its contract. Assumes nothing.
use Rattle.std.proofs.Common.{◌≡◌, true}
use Rattle.slots.specs.Tuples.{tuples_at}
use Rattle.slots.specs.Looks.{leads}
use Rattle.slots.proofs.leads_from.Given as goal

abbrev pub invariant-loop-i : goal.invariant-loop-i
invariant-loop-i l = leads (tuples_at l.s l.p l.i) ≡ true
