-- `grouping::write_slots` meets its contract. Assumes nothing.
use mathlib.Core.Path.{sym, subst}
use Prim.Native.Nat.{◌+◌, ◌*◌, ◌≤◌}
use native.Mathlib.Omega.{arith}
use lib.ListN.{length}
use Rattle.slots.specs.Slots.{slot_size}
use Rattle.grouping.proofs.SlotsWritten.{Ungrouping, ungrouping_first, ungrouping_end, group_there, group_sound, group_further, group_fits, ungrouping_on}
use Rattle.grouping.proofs.write_slots.Goals as goal

pub loop-at-init : goal.loop-at-init
loop-at-init c = ungrouping_first c.args.form.now c.args.out.now c.requires.0

pub block_here-block-requires : goal.block_here-block-requires
block_here-block-requires c = (omega arith, group_there c.loop-at.invariant (omega arith))

pub write_run-requires : goal.write_run-requires
write_run-requires c =
    let room : slot_size * (c.loop-at.i + c.block_here-block.result.count) ≤ length c.loop-at.out = group_fits c.loop-at.invariant c.loop-at-test.true c.block_here-block.result c.block_here-block.ensures.value c.requires.1 in
    let here = c.block_here-block in
    (here.ensures.stood, group_sound c.loop-at.invariant c.loop-at-test.true here.result here.ensures.value, room)

pub overflow_add-i : goal.overflow_add-i
overflow_add-i c =
    let room : slot_size * (c.loop-at.i + c.block_here-block.result.count) ≤ length c.loop-at.out = group_fits c.loop-at.invariant c.loop-at-test.true c.block_here-block.result c.block_here-block.ensures.value c.requires.1 in
    omega (arith, room)

pub loop-at-smaller : goal.loop-at-smaller
loop-at-smaller c =
    let here = c.block_here-block in
    omega (arith, group_further c.loop-at.invariant c.loop-at-test.true here.result here.ensures.value)

pub loop-at-preserved : goal.loop-at-preserved
loop-at-preserved c =
    let here = c.block_here-block in
    let x = here.result in
    let o = c.write_run.new.out in
    subst (Ungrouping c.args.form.now c.args.out.now o (c.loop-at.i + x.count)) (sym c.end_of-at.ensures)
    (ungrouping_on c.loop-at.invariant c.loop-at-test.true x here.ensures.value c.requires.1 o c.write_run.ensures here.ensures.stood.1)

pub returns : goal.returns
returns c = ungrouping_end c.loop-at.invariant (omega arith)
