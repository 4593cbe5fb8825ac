-- `form_edits::placed_after` meets its contract. Assumes nothing.
use mathlib.Core.Path.{◌≡◌, sym, ap, ◌∙◌, subst}
use mathlib.Core.Bool.{true}
use Prim.Native.Nat.{ℕ, ◌≤◌}
use native.Mathlib.Omega.{arith}
use lib.Dec.{ltb}
use lib.ListN.{length, drop}
use Rattle.numbers.specs.Bytes.{Octets}
use Rattle.slots.specs.Slots.{name_of}
use Rattle.groups.specs.Forms.{group_stands}
use Rattle.forms.specs.declared.Block.{Block}
use Rattle.form_edits.specs.declared.Met.TheVariants.{After}
use Rattle.form_edits.specs.Choices.{after_block, precedes_in, between_by}
use Rattle.form_edits.specs.Edits.{next_in, Inserts}
use Rattle.form_edits.proofs.Chosen.{Found, found, end_stands, chosen_after, given_named}
use Rattle.form_edits.proofs.Asked.{Bounds, block_within, met_bounds, next_bounds, precedes_some}
use Rattle.form_edits.proofs.placed_after.Goals as goal

pub after_place-end-requires : goal.after_place-end-requires
after_place-end-requires c =
    let octets : Octets c.args.form.now = λ i. omega (arith, c.type_inv.form i) in
    let slot_octets : Octets c.args.slot.now = λ i. omega (arith, c.type_inv.slot i) in
    let reached : Found c.args.form.now c.args.slot.now octets slot_octets c.args.name c.requires.0 c.args.block =
    subst (Found c.args.form.now c.args.slot.now octets slot_octets c.args.name c.requires.0) (sym c.requires.1)
    (found c.args.form.now c.args.slot.now octets slot_octets c.args.name c.requires.0) in
    let w = block_within c.args.form.now c.args.slot.now octets slot_octets c.args.name c.requires.0 c.args.block reached in
    omega arith

pub block_by-next-requires : goal.block_by-next-requires
block_by-next-requires c =
    let octets : Octets c.args.form.now = λ i. omega (arith, c.type_inv.form i) in
    let slot_octets : Octets c.args.slot.now = λ i. omega (arith, c.type_inv.slot i) in
    let reached : Found c.args.form.now c.args.slot.now octets slot_octets c.args.name c.requires.0 c.args.block =
    subst (Found c.args.form.now c.args.slot.now octets slot_octets c.args.name c.requires.0) (sym c.requires.1)
    (found c.args.form.now c.args.slot.now octets slot_octets c.args.name c.requires.0) in
    let s = c.args.form.now in
    let z = c.after_place-end.ensures in
    λ t.
    subst (λ (n : ℕ). (n ≤ length s) × (group_stands (drop n s) ≡ true)) (sym z)
    (end_stands s c.args.slot.now octets slot_octets c.args.name c.requires.0 c.args.block reached (ap (λ (n : ℕ). ltb n (length s)) (sym z) ∙ t))

pub comes_before-first-requires : goal.comes_before-first-requires
comes_before-first-requires c =
    let octets : Octets c.args.form.now = λ i. omega (arith, c.type_inv.form i) in
    let slot_octets : Octets c.args.slot.now = λ i. omega (arith, c.type_inv.slot i) in
    let reached : Found c.args.form.now c.args.slot.now octets slot_octets c.args.name c.requires.0 c.args.block =
    subst (Found c.args.form.now c.args.slot.now octets slot_octets c.args.name c.requires.0) (sym c.requires.1)
    (found c.args.form.now c.args.slot.now octets slot_octets c.args.name c.requires.0) in
    let s = c.args.form.now in
    let t = c.args.slot.now in
    let b = c.args.block in
    let e = c.requires.0 in
    let n : c.block_by-next.result ≡ next_in s (after_block b) = c.block_by-next.ensures.value ∙ ap (next_in s) c.after_place-end.ensures in
    record {
      within = (c.block_by-next.ensures.stood.0, λ l. (subst (Bounds s) (sym n) (next_bounds s t octets slot_octets c.args.name e b reached (let m = ap (λ (x : Block). x.count) n in omega arith))).named);
      within_2 = (e.lies.0, given_named s t octets slot_octets c.args.name e);
    }

pub between-requires : goal.between-requires
between-requires c =
    let octets : Octets c.args.form.now = λ i. omega (arith, c.type_inv.form i) in
    let slot_octets : Octets c.args.slot.now = λ i. omega (arith, c.type_inv.slot i) in
    let reached : Found c.args.form.now c.args.slot.now octets slot_octets c.args.name c.requires.0 c.args.block =
    subst (Found c.args.form.now c.args.slot.now octets slot_octets c.args.name c.requires.0) (sym c.requires.1)
    (found c.args.form.now c.args.slot.now octets slot_octets c.args.name c.requires.0) in
    let s = c.args.form.now in
    let t = c.args.slot.now in
    let b = c.args.block in
    let e = c.requires.0 in
    let n : c.block_by-next.result ≡ next_in s (after_block b) = c.block_by-next.ensures.value ∙ ap (next_in s) c.after_place-end.ensures in
    record {
      block_bound = (λ j.
          let v = met_bounds s t octets slot_octets c.args.name e b reached (After true) (c.requires.2 ∙ ap After j) (λ z. let w : ◌≡◌ {A = ℕ} 0 1 = cc in omega arith) in
          (let u = v.end in omega arith, let u = v.few in omega arith));
      field_head_le_at = (λ j.
          let m = precedes_some s _ c.block_by-next.result (sym c.comes_before-first.ensures ∙ j) in
          let v = subst (Bounds s) (sym n) (next_bounds s t octets slot_octets c.args.name e b reached (let m' = ap (λ (x : Block). x.count) n in omega arith)) in
          (v.start, let u = v.few in omega arith));
    }

pub returns : goal.returns
returns c =
    let octets : Octets c.args.form.now = λ i. omega (arith, c.type_inv.form i) in
    let slot_octets : Octets c.args.slot.now = λ i. omega (arith, c.type_inv.slot i) in
    let reached : Found c.args.form.now c.args.slot.now octets slot_octets c.args.name c.requires.0 c.args.block =
    subst (Found c.args.form.now c.args.slot.now octets slot_octets c.args.name c.requires.0) (sym c.requires.1)
    (found c.args.form.now c.args.slot.now octets slot_octets c.args.name c.requires.0) in
    let s = c.args.form.now in
    let t = c.args.slot.now in
    let b = c.args.block in
    let j = c.args.joins in
    let e = c.requires.0 in
    let z = c.after_place-end.ensures in
    let n : c.block_by-next.result ≡ next_in s (after_block b) = c.block_by-next.ensures.value ∙ ap (next_in s) z in
    let q : c.comes_before-first.result ≡ precedes_in s (name_of t) (next_in s (after_block b)) = c.comes_before-first.ensures ∙ (λ i. precedes_in s (e.named i) (n i)) in
    let r : c.between.result ≡ between_by b (next_in s (after_block b)) (after_block b) j (precedes_in s (name_of t) (next_in s (after_block b))) c.args.name =
    c.between.ensures ∙ (λ i. between_by b (n i) (z i) j (q i) c.args.name) in
    subst (Inserts s t) (sym r) (chosen_after s t octets slot_octets c.args.name e b reached j c.requires.2)
