use mathlib.Core.Path.{refl, ◌∙◌, sym}
use Prim.Native.Nat.{◌+◌, ◌*◌, ◌-◌, ◌/◌, ◌<◌}
use native.Mathlib.Omega.{arith}
use native.Mathlib.Nat.{not-suc-le-zero}
use lib.ListN.{length}
use Rattle.names.proofs.Laws.{rising_Rising, less_row, same_row, more_row}
use Rattle.slots.specs.Slots.{slot_size, name_of}
use Rattle.pages.specs.Pages.{names_of}
use Rattle.pages.proofs.SlotBySlot.{lent_length, lent_name, length_names}
use Rattle.pages.proofs.FindByHalving.{found, missed, to_right, to_left}
use Rattle.pages.proofs.find.Goals as goal

pub loop-low-init : goal.loop-low-init
loop-low-init c = (omega arith, omega arith, λ i h. absurd (not-suc-le-zero h), λ i h k. absurd (omega (arith, length_names c.args.page.now (length c.args.page.now / slot_size))))

pub compare_slots-requires : goal.compare_slots-requires
compare_slots-requires c =
    let s = c.args.page.now in
    let m = c.loop-low.low + (c.loop-low.high - c.loop-low.low) / 2 in
    (lent_length s (length s / slot_size) m (slot_size * m) refl (omega arith) refl, c.requires.0)

pub loop-low-preserved-in-Less : goal.loop-low-preserved-in-Less
loop-low-preserved-in-Less c =
    let s = c.args.page.now in
    let m = c.loop-low.low + (c.loop-low.high - c.loop-low.low) / 2 in
    let h : m < length s / slot_size = omega arith in
    let l : m < length (names_of s) = rw (length_names s (length s / slot_size)) h in
    let t = rw (lent_name s (length s / slot_size) m (slot_size * m) refl h) at (less_row _ _ (sym c.compare_slots.ensures ∙ c.in-Less.is)) in
    (omega arith, omega arith, to_left (rising_Rising (names_of s) c.requires.1) m l t, c.loop-low.invariant.3)

pub returns-in-Equal : goal.returns-in-Equal
returns-in-Equal c =
    let s = c.args.page.now in
    let m = c.loop-low.low + (c.loop-low.high - c.loop-low.low) / 2 in
    let h : m < length s / slot_size = omega arith in
    let l : m < length (names_of s) = rw (length_names s (length s / slot_size)) h in
    found (name_of c.args.slot.now) (names_of s) m (rising_Rising (names_of s) c.requires.1) l
    (sym (lent_name s (length s / slot_size) m (slot_size * m) refl h) ∙ same_row _ _ (sym c.compare_slots.ensures ∙ c.in-Equal.is))

pub loop-low-preserved : goal.loop-low-preserved
loop-low-preserved c =
    let s = c.args.page.now in
    let m = c.loop-low.low + (c.loop-low.high - c.loop-low.low) / 2 in
    let h : m < length s / slot_size = omega arith in
    let l : m < length (names_of s) = rw (length_names s (length s / slot_size)) h in
    let t = rw (lent_name s (length s / slot_size) m (slot_size * m) refl h) at (more_row _ _ (sym c.compare_slots.ensures ∙ c.in-Greater.is)) in
    (omega arith, omega arith, c.loop-low.invariant.2, to_right (rising_Rising (names_of s) c.requires.1) m l t)

pub returns : goal.returns
returns c =
    let s = c.args.page.now in
    let l = length_names s (length s / slot_size) in
    missed (name_of c.args.slot.now) (names_of s) c.loop-low.low (omega (arith, l)) c.loop-low.invariant.2 (λ i p q. c.loop-low.invariant.3 i (omega arith) q)
