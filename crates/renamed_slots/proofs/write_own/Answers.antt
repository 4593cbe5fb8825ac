-- `renamed_slots::write_own` meets its contract. Assumes nothing.
use mathlib.Core.Path.{◌≡◌, ◌∙◌, sym, ap}
use Prim.Native.Nat.{ℕ}
use native.Mathlib.Omega.{arith}
use lib.ListN.{drop}
use Rattle.numbers.specs.Bytes.{Octets, put}
use Rattle.slots.specs.Slots.{line_of, name_of, slot_bytes}
use Rattle.slots.proofs.RoundTrip.{kept, bytes_back}
use Rattle.renamed_slots.proofs.write_own.Goals as goal

pub copy-requires : goal.copy-requires
copy-requires c = omega (arith, (kept c.args.slot.now c.requires.1).long)

pub returns-then-cut-lt1 : goal.returns-then-cut-lt1
returns-then-cut-lt1 c =
    let o = c.args.out.now in
    let p = c.args.p in
    let s = c.args.slot.now in
    let octets : Octets s = λ i. omega (arith, c.type_inv.slot i) in
    let none : 0 ≡ c.args.cut = omega (arith, c.if-cut-lt1.true) in
    c.copy.ensures
    ∙ ap (put o p) (sym (bytes_back s octets (kept s c.requires.1)))
    ∙ ap (λ (n : ℕ). put o p (slot_bytes (record { line = line_of s; name = drop n (name_of s) }))) none

pub returns-else-cut-lt1 : goal.returns-else-cut-lt1
returns-else-cut-lt1 c =
    let o = c.args.out.now in
    let p = c.args.p in
    let s = c.args.slot.now in
    let one : 1 ≡ c.args.cut = omega (arith, c.if-cut-lt1.false, c.requires.2) in
    c.write_tail.ensures ∙ ap (λ (n : ℕ). put o p (slot_bytes (record { line = line_of s; name = drop n (name_of s) }))) one
