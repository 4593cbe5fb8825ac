-- `renamed_slots::write_back` meets its contract. Assumes nothing.
use mathlib.Core.Path.{◌≡◌, ◌∙◌, sym, ap, subst}
use Prim.Native.Nat.{ℕ}
use Rattle.names.specs.Names.{fits}
use Rattle.numbers.specs.Bytes.{Bytes, put}
use Rattle.slots.specs.Slots.{line_of, name_of, slot_bytes}
use Rattle.slots.proofs.RoundTrip.{kept}
use Rattle.pages.specs.Pages.{names_of}
use Rattle.one_name.specs.declared.Back.{Back}
use Rattle.one_name.specs.Backs.{shaped, Stands}
use Rattle.renamed_slots.specs.Joints.{joint}
use Rattle.renamed_slots.proofs.write_back.Goals as goal
use Rattle.renamed_slots.proofs.write_back.Goals.{in-Behind, in-Ahead}

-- the bytes o, at p the slot s with its name taken back
abbrev written : Bytes → ℕ → Bytes → Bytes → Back → Bytes
written o p s log b = put o p (slot_bytes (record { line = line_of s; name = shaped (name_of s) (names_of log) b }))

pub write_restored-requires : goal.write_restored-requires
write_restored-requires c =
    let x = c.args in
    let s = x.slot.now in
    let l = names_of x.log.now in
    let h = subst (Stands (name_of s) l) c.in-Restored.is c.requires.3 in
    (c.requires.0, (kept s c.requires.1).long, c.requires.2, h)

pub returns-in-Restored : goal.returns-in-Restored
returns-in-Restored c =
    let x = c.args in
    c.write_restored.ensures ∙ ap (written x.out.now x.p x.slot.now x.log.now) (sym c.in-Restored.is)

pub write_own-requires : goal.write_own-requires
write_own-requires c =
    let x = c.args in
    let s = x.slot.now in
    let l = names_of x.log.now in
    let h = subst (Stands (name_of s) l) c.in-Own.is c.requires.3 in
    (c.requires.0, c.requires.1, h.1)

pub returns-in-Own : goal.returns-in-Own
returns-in-Own c =
    let x = c.args in
    c.write_own.ensures ∙ ap (written x.out.now x.p x.slot.now x.log.now) (sym c.in-Own.is)

pub write_joint-requires : goal.write_joint-requires
write_joint-requires c =
    let x = c.args in
    let s = x.slot.now in
    let l = names_of x.log.now in
    let e : x.back ≡ joint c.match-back.joint = elim c.match-back.branch [
      | in-Behind w ↦ w.in-Behind.is ∙ ap joint (sym w.joint-is)
      | in-Ahead w ↦ w.in-Ahead.is ∙ ap joint (sym w.joint-is)
    ] in
    (c.requires.0, c.requires.1, c.requires.2, subst (Stands (name_of s) l) e c.requires.3, ap (λ (q : Back). fits (shaped (name_of s) l q)) (sym e) ∙ c.requires.4)

pub returns : goal.returns
returns c =
    let x = c.args in
    let e : x.back ≡ joint c.match-back.joint = elim c.match-back.branch [
      | in-Behind w ↦ w.in-Behind.is ∙ ap joint (sym w.joint-is)
      | in-Ahead w ↦ w.in-Ahead.is ∙ ap joint (sym w.joint-is)
    ] in
    c.write_joint.ensures ∙ ap (written x.out.now x.p x.slot.now x.log.now) (sym e)
