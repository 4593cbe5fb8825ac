-- `grouping::form_size` meets its contract. Assumes nothing.
use native.Mathlib.Omega.{arith}
use Rattle.pages.proofs.SlotBySlot.{length_slots}
use Rattle.grouping.proofs.SizeBySlot.{summing_on, summing_end}
use Rattle.grouping.proofs.form_size.Goals as goal

pub slot_size-size-requires : goal.slot_size-size-requires
slot_size-size-requires c = (c.requires, omega (arith, length_slots c.args.page.now))

pub loop-k-preserved : goal.loop-k-preserved
loop-k-preserved c =
    let size = c.slot_size-size in
    summing_on c.loop-k.invariant size.result (omega (arith, length_slots c.args.page.now)) size.ensures.0 size.ensures.1

pub returns : goal.returns
returns c = summing_end c.loop-k.invariant (omega (arith, length_slots c.args.page.now))
