-- `renamed_slots::write_changed` meets its contract. Assumes nothing.
use mathlib.Core.Path.{◌≡◌, ◌∙◌, sym, ap, subst}
use mathlib.Core.Bool.{true}
use Prim.Native.Nat.{◌+◌, ◌≤◌}
use native.Mathlib.Numerals.{add-one}
use native.Mathlib.Omega.{arith}
use borrow.Author.Tests.{leb-true}
use lib.ListN.{length}
use Rattle.names.specs.Names.{limit, fits}
use Rattle.numbers.specs.Bytes.{Octets, put}
use Rattle.slots.specs.Slots.{line_of, name_of, slot_bytes}
use Rattle.slots.proofs.RoundTrip.{kept, bytes_back}
use Rattle.one_name.specs.declared.Change.{Change}
use Rattle.one_name.specs.Changes.{changed_by}
use Rattle.renamed_slots.proofs.CopiedTuples.{name_length}
use Rattle.renamed_slots.proofs.write_changed.Goals as goal

pub copy-requires : goal.copy-requires
copy-requires c = omega (arith, (kept c.args.slot.now c.requires.1).long)

pub write_alone-requires : goal.write_alone-requires
write_alone-requires c = (c.requires.0, (kept c.args.slot.now c.requires.1).long)

pub write_led-requires : goal.write_led-requires
write_led-requires c =
    let s = c.args.slot.now in
    let octets : Octets s = λ i. omega (arith, c.type_inv.slot i) in
    let h = subst (λ (q : Change). fits (changed_by q (name_of s)) ≡ true) c.in-Led.is c.requires.2 in
    let n = name_length s octets (kept s c.requires.1) in
    let few : length (name_of s) + 1 ≤ limit = leb-true (length (name_of s) + 1) limit (rw add-one h) in
    (c.requires.0, c.requires.1, omega arith)

pub returns-in-Kept : goal.returns-in-Kept
returns-in-Kept c =
    let o = c.args.out.now in
    let p = c.args.p in
    let s = c.args.slot.now in
    let octets : Octets s = λ i. omega (arith, c.type_inv.slot i) in
    c.copy.ensures
    ∙ ap (put o p) (sym (bytes_back s octets (kept s c.requires.1)))
    ∙ ap (λ (q : Change). put o p (slot_bytes (record { line = line_of s; name = changed_by q (name_of s) }))) (sym c.in-Kept.is)

pub returns-in-Alone : goal.returns-in-Alone
returns-in-Alone c =
    let o = c.args.out.now in
    let p = c.args.p in
    let s = c.args.slot.now in
    c.write_alone.ensures ∙ ap (λ (q : Change). put o p (slot_bytes (record { line = line_of s; name = changed_by q (name_of s) }))) (sym c.in-Alone.is)

pub returns-in-Led : goal.returns-in-Led
returns-in-Led c =
    let o = c.args.out.now in
    let p = c.args.p in
    let s = c.args.slot.now in
    c.write_led.ensures ∙ ap (λ (q : Change). put o p (slot_bytes (record { line = line_of s; name = changed_by q (name_of s) }))) (sym c.in-Led.is)
