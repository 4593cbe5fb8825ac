-- `renamed_slots::write_restored` meets its contract. Assumes nothing.
use mathlib.Core.Path.{refl, ◌∙◌, ap}
use Prim.Native.Nat.{◌*◌, ◌<◌}
use native.Mathlib.Omega.{arith}
use lib.ListN.{length}
use Rattle.names.specs.Names.{limit}
use Rattle.numbers.specs.Bytes.{put}
use Rattle.slots.specs.Slots.{slot_size, line_of, slot_bytes}
use Prim.Native.Nat.{◌/◌}
use Rattle.names.specs.Ordering.{Row}
use Rattle.pages.proofs.SlotBySlot.{lent_keeps, lent_name}
use Rattle.pages.proofs.RoundTrip.{laid}
use Rattle.one_name.proofs.CheckedLog.{logged}
use Rattle.renamed_slots.proofs.write_restored.Goals as goal

pub overflow_mul-at : goal.overflow_mul-at
overflow_mul-at c = omega (arith, (logged c.args.log.now c.requires.2).count, c.requires.3)

pub overflow_add-at : goal.overflow_add-at
overflow_add-at c = omega (arith, (logged c.args.log.now c.requires.2).count, c.requires.3)

pub slice_bounds-write_name_of-end : goal.slice_bounds-write_name_of-end
slice_bounds-write_name_of-end c = omega (arith, (logged c.args.log.now c.requires.2).count, c.requires.3)

pub write_name_of-requires : goal.write_name_of-requires
write_name_of-requires c =
    let l = c.args.log.now in
    let g = logged l c.requires.2 in
    let k : c.args.k < length l / slot_size = omega (arith, g.count, c.requires.3) in
    (c.requires.0, c.requires.1, lent_keeps limit l (length l / slot_size) c.args.k k (laid l g.layout).good)

pub returns : goal.returns
returns c =
    let x = c.args in
    let l = x.log.now in
    let g = logged l c.requires.2 in
    let k : x.k < length l / slot_size = omega (arith, g.count, c.requires.3) in
    c.write_name_of.ensures
    ∙ ap (λ (a : Row). put x.out.now x.p (slot_bytes (record { line = line_of x.slot.now; name = a }))) (lent_name l (length l / slot_size) x.k (slot_size * x.k) refl k)
