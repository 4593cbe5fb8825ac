-- `read_messages::write_slots` meets its contract. Assumes nothing.
use Prim.Native.Nat.{◌<◌}
use native.Mathlib.Omega.{arith}
use Rattle.read_messages.proofs.SecondPassSlots.{placing_first, placing_on, placing_end}
use Rattle.read_messages.proofs.write_slots.Goals as goal

pub returns-then-n-eq1 : goal.returns-then-n-eq1
returns-then-n-eq1 c =
    let a = c.args in
    let v = placing_first a.message.now a.cursor.at a.n a.out.now c.requires.0 c.requires.1 in
    let h : 0 < a.n = omega (arith, c.if-n-eq1.true) in
    let o = c.write_slot.new.out in
    placing_end (placing_on v h o c.requires.2 c.write_slot.ensures) (omega (arith, c.if-n-eq1.true))
