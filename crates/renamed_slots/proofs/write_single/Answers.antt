-- `renamed_slots::write_single` meets its contract. Assumes nothing.
use mathlib.Core.Path.{◌∙◌, sym, ap, subst}
use Rattle.numbers.specs.Bytes.{put}
use Rattle.slots.specs.Slots.{line_of, name_of, slot_bytes}
use Rattle.slots.proofs.RoundTrip.{kept}
use Rattle.pages.specs.Pages.{names_of}
use Rattle.one_name.specs.declared.Single.{Single}
use Rattle.one_name.specs.Backs.{shaped, Stands, single}
use Rattle.renamed_slots.proofs.write_single.Goals as goal

pub write_restored-requires : goal.write_restored-requires
write_restored-requires c =
    let x = c.args in
    let s = x.slot.now in
    let l = names_of x.log.now in
    let h = subst (λ (q : Single). Stands (name_of s) l (single q)) c.in-Logged.is c.requires.3 in
    (c.requires.0, (kept s c.requires.1).long, c.requires.2, h)

pub write_own-requires : goal.write_own-requires
write_own-requires c =
    let x = c.args in
    let s = x.slot.now in
    let l = names_of x.log.now in
    let h = subst (λ (q : Single). Stands (name_of s) l (single q)) c.in-Own.is c.requires.3 in
    (c.requires.0, c.requires.1, h.1)

pub returns-in-Logged : goal.returns-in-Logged
returns-in-Logged c =
    let x = c.args in
    let s = x.slot.now in
    c.write_restored.ensures ∙ ap (λ (q : Single). put x.out.now x.p (slot_bytes (record { line = line_of s; name = shaped (name_of s) (names_of x.log.now) (single q) }))) (sym c.in-Logged.is)

pub returns-in-Own : goal.returns-in-Own
returns-in-Own c =
    let x = c.args in
    let s = x.slot.now in
    c.write_own.ensures ∙ ap (λ (q : Single). put x.out.now x.p (slot_bytes (record { line = line_of s; name = shaped (name_of s) (names_of x.log.now) (single q) }))) (sym c.in-Own.is)
