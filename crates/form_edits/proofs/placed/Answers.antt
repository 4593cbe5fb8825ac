-- `form_edits::placed` meets its contract. Assumes nothing.
use mathlib.Core.Path.{◌≡◌, sym, ap, ◌∙◌, subst}
use Prim.Native.Nat.{ℕ}
use native.Mathlib.Omega.{arith}
use Rattle.numbers.specs.Bytes.{Octets}
use Rattle.numbers.proofs.Bools.{yes_no}
use Rattle.form_edits.specs.Choices.{is_here}
use Rattle.form_edits.specs.Edits.{Inserts}
use Rattle.form_edits.proofs.Chosen.{Found, found, chosen_inside}
use Rattle.form_edits.proofs.Asked.{met_bounds, inside_index}
use Rattle.form_edits.proofs.placed.Goals as goal

pub splits-requires : goal.splits-requires
splits-requires c =
    let octets : Octets c.args.form.now = λ i. omega (arith, c.type_inv.form i) in
    let slot_octets : Octets c.args.slot.now = λ i. omega (arith, c.type_inv.slot i) in
    let reached : Found c.args.form.now c.args.slot.now octets slot_octets c.args.name c.requires.0 c.args.block =
    subst (Found c.args.form.now c.args.slot.now octets slot_octets c.args.name c.requires.0) (sym c.requires.1)
    (found c.args.form.now c.args.slot.now octets slot_octets c.args.name c.requires.0) in
    let s = c.args.form.now in
    let t = c.args.slot.now in
    let b = c.args.block in
    let e = c.requires.0 in
    let n = sym c.requires.2 ∙ c.in-Inside.is in
    let v = met_bounds s t octets slot_octets c.args.name e b reached _ n (λ z. let w : ◌≡◌ {A = ℕ} 0 1 = cc in omega arith) in
    let h = inside_index s t octets slot_octets c.args.name e b reached _ n in
    let a = v.few in
    let d = v.end in
    (omega arith, omega arith, omega arith)

pub placed_after-requires : goal.placed_after-requires
placed_after-requires c = (c.requires.0, c.requires.1, sym c.requires.2 ∙ c.in-After.is)

pub returns-in-Here : goal.returns-in-Here
returns-in-Here c = yes_no (ap is_here c.in-Here.is) c.requires.3

pub returns-in-Inside : goal.returns-in-Inside
returns-in-Inside c =
    let octets : Octets c.args.form.now = λ i. omega (arith, c.type_inv.form i) in
    let slot_octets : Octets c.args.slot.now = λ i. omega (arith, c.type_inv.slot i) in
    let reached : Found c.args.form.now c.args.slot.now octets slot_octets c.args.name c.requires.0 c.args.block =
    subst (Found c.args.form.now c.args.slot.now octets slot_octets c.args.name c.requires.0) (sym c.requires.1)
    (found c.args.form.now c.args.slot.now octets slot_octets c.args.name c.requires.0) in
    let s = c.args.form.now in
    let t = c.args.slot.now in
    let b = c.args.block in
    let e = c.requires.0 in
    let n = sym c.requires.2 ∙ c.in-Inside.is in
    subst (Inserts s t) (sym c.splits.ensures) (chosen_inside s t octets slot_octets c.args.name e b reached _ n)
