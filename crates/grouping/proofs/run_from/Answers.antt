-- `grouping::run_from` meets its contract. Assumes nothing.
use native.Mathlib.Omega.{arith}
use Rattle.pages.specs.Pages.{slots_of}
use Rattle.pages.proofs.SlotBySlot.{length_slots}
use Rattle.grouping.proofs.FirstRun.{along_first, along_on, along_ends, along_last}
use Rattle.grouping.proofs.run_from.Goals as goal

pub overflow_step-i : goal.overflow_step-i
overflow_step-i c = omega (arith, length_slots c.args.page.now)

pub loop-i-init : goal.loop-i-init
loop-i-init c = along_first (slots_of c.args.page.now) c.args.k c.requires.1

pub is_next-requires : goal.is_next-requires
is_next-requires c =
    let some = c.loop-i.invariant.some in
    (c.requires.0, omega arith, omega (arith, length_slots c.args.page.now))

pub loop-i-preserved : goal.loop-i-preserved
loop-i-preserved c = along_on c.loop-i.invariant (omega (arith, length_slots c.args.page.now)) c.is_next.ensures c.if-not-is_next.false

pub returns-then-not-is_next : goal.returns-then-not-is_next
returns-then-not-is_next c =
    let v = c.loop-i.invariant in
    let some = v.some in
    let n = length_slots c.args.page.now in
    (along_ends v (omega arith) c.is_next.ensures c.if-not-is_next.true, omega arith, omega arith)

pub overflow_sub-result-2 : goal.overflow_sub-result-2
overflow_sub-result-2 c = omega (arith, length_slots c.args.page.now)

pub returns : goal.returns
returns c =
    let v = c.loop-i.invariant in
    let few = v.few in
    let some = v.some in
    let n = length_slots c.args.page.now in
    let last = along_last v (omega arith) in
    (omega arith, omega arith, omega arith)
