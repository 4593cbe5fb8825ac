-- `read_messages::write_each` meets its contract. Assumes nothing.
use mathlib.Core.Path.{sym, subst}
use Prim.Native.Nat.{ℕ, ◌+◌}
use native.Mathlib.Omega.{arith}
use Rattle.name_fields.proofs.NameAt.{name_long}
use Rattle.messages.specs.Messages.{name_tag}
use Rattle.read_messages.proofs.SecondPassSlots.{Placing, placing_first, placing_stands, placing_few, placing_on, placing_end}
use Rattle.read_messages.proofs.write_each.Goals as goal

pub loop-i-init : goal.loop-i-init
loop-i-init c = placing_first c.args.message.now c.args.cursor.at c.args.n c.args.out.now c.requires.0 c.requires.1

pub write_slot-requires : goal.write_slot-requires
write_slot-requires c =
    let v = c.loop-i.invariant in
    let h = c.loop-i-test.true in
    (placing_stands v h, placing_few v h, let r = v.room in omega arith)

pub after_field-here-requires : goal.after_field-here-requires
after_field-here-requires c = name_long name_tag c.args.message.now c.loop-i.here.at (placing_stands c.loop-i.invariant c.loop-i-test.true)

pub loop-i-preserved : goal.loop-i-preserved
loop-i-preserved c =
    let v = placing_on c.loop-i.invariant c.loop-i-test.true c.write_slot.new.out c.requires.2 c.write_slot.ensures in
    subst (λ (p : ℕ). Placing c.args.message.now c.args.cursor.at c.args.n c.args.out.now c.write_slot.new.out p (c.loop-i.i + 1)) (sym c.after_field-here.ensures) v

pub returns : goal.returns
returns c = placing_end c.loop-i.invariant (omega arith)
