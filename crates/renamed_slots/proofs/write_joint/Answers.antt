-- `renamed_slots::write_joint` meets its contract. Assumes nothing.
use mathlib.Core.Path.{◌∙◌, ap}
use mathlib.Core.List.{[], ◌∷◌}
use Prim.Native.Nat.{◌≤◌}
use native.Mathlib.Omega.{arith}
use borrow.Author.Tests.{leb-true}
use lib.ListN.{length, drop, get_or}
use Rattle.names.specs.Ordering.{Row}
use Rattle.names.specs.Names.{limit}
use Rattle.numbers.specs.Bytes.{Bytes, put}
use Rattle.slots.specs.Slots.{name_of, line_of, slot_bytes}
use Rattle.pages.specs.Pages.{names_of}
use Rattle.one_name.specs.Backs.{shaped}
use Rattle.renamed_slots.specs.Joints.{joint}
use Rattle.renamed_slots.proofs.JoinedRows.{ended, logged_long, joint_stands, joint_length, joint_row}
use Rattle.renamed_slots.proofs.write_joint.Goals as goal

pub last_of-last-requires : goal.last_of-last-requires
last_of-last-requires c =
    let x = c.args in
    let j = x.joint in
    (c.requires.2, (joint_stands (name_of x.slot.now) (names_of x.log.now) j.k j.cut j.lowered c.requires.3).0)

pub write_joined-requires : goal.write_joined-requires
write_joined-requires c =
    let x = c.args in
    let j = x.joint in
    let name = name_of x.slot.now in
    let l = names_of x.log.now in
    let a = shaped name l (joint j) in
    let few : length a ≤ limit = leb-true (length a) limit c.requires.4 in
    let deep = joint_length name l j.k j.cut j.lowered in
    let h = joint_stands name l j.k j.cut j.lowered c.requires.3 in
    record {
      slot_size_in_bounds = (c.requires.0, c.requires.1, h.1);
      log_value = (c.requires.2, h.0, omega arith);
    }

pub returns : goal.returns
returns c =
    let x = c.args in
    let j = x.joint in
    let s = x.slot.now in
    let l = names_of x.log.now in
    let h = joint_stands (name_of s) l j.k j.cut j.lowered c.requires.3 in
    let some = logged_long x.log.now j.k c.requires.2 h.0 in
    let slot : Row → Bytes = λ a. put x.out.now x.p (slot_bytes (record { line = line_of s; name = a })) in
    c.write_joined.ensures
    ∙ (λ i. slot (ended (get_or l j.k []) (c.last_of-last.ensures i) (c.marker_of-marker.ensures i ∷ drop j.cut (name_of s))))
    ∙ ap slot (joint_row (name_of s) l j.k j.cut j.lowered some)
