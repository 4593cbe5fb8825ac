-- `form_edits::remove_from` meets its contract. Assumes nothing.
use mathlib.Core.Path.{◌≡◌, sym, ap, ◌∙◌, subst}
use mathlib.Core.Bool.{true}
use Prim.Native.Nat.{◌≤◌}
use native.Mathlib.Omega.{arith}
use lib.Dec.{ltb}
use lib.ListN.{length, drop}
use Rattle.names.specs.Ordering.{Row, compare_rows}
use Rattle.numbers.specs.Bytes.{Octets}
use Rattle.slots.specs.Slots.{name_of}
use Rattle.groups.specs.Forms.{group_stands}
use Rattle.forms.specs.declared.Block.{Block}
use Rattle.forms.specs.declared.Place.{Place}
use Rattle.std.specs.Ordering.{is_le}
use Rattle.answers.specs.Answers.{Outcome, leaves}
use Rattle.answers.proofs.Outcomes.{refused}
use Rattle.slots.specs.Tuples.{row_at}
use Rattle.form_edits.specs.Choices.{block_by, met_in}
use Rattle.form_edits.specs.Edits.{reached_in, preceded_in, taken_in}
use Rattle.form_edits.proofs.Chosen.{Found, found, chosen_inside, chosen_after, chosen_out, Removes, is_here_lem, given_named}
use Rattle.form_edits.proofs.Asked.{reached_stands, preceded_stands, block_low}
use Rattle.form_edits.proofs.Outcomes.{remove_absent, remove_done}
use mathlib.Core.Logic.{inl, inr}
use mathlib.Core.List.{map}
use mathlib.Core.Bool.{false}
use Rattle.pages.specs.Pages.{name_in}
use Rattle.pages.specs.Places.{has}
use Rattle.groups.specs.Forms.{slots_of_form}
use Rattle.form_edits.proofs.remove_from.Goals as goal

pub block_by-block-requires : goal.block_by-block-requires
block_by-block-requires c =
    let octets : Octets c.args.form.now = λ i. omega (arith, c.type_inv.form i) in
    let slot_octets : Octets c.args.slot.now = λ i. omega (arith, c.type_inv.slot i) in
    let s = c.args.form.now in
    let z = c.requires.1 in
    λ t.
    subst (λ (p : Place). (p.here ≤ length s) × (group_stands (drop p.here s) ≡ true)) (sym z)
    (reached_stands s c.args.slot.now octets slot_octets c.args.name c.requires.0 (ap (λ (p : Place). ltb 0 p.groups) (sym z) ∙ t))

pub block_by-before-requires : goal.block_by-before-requires
block_by-before-requires c =
    let octets : Octets c.args.form.now = λ i. omega (arith, c.type_inv.form i) in
    let slot_octets : Octets c.args.slot.now = λ i. omega (arith, c.type_inv.slot i) in
    let s = c.args.form.now in
    let z = c.requires.1 in
    λ t.
    subst (λ (p : Place). (p.before ≤ length s) × (group_stands (drop p.before s) ≡ true)) (sym z)
    (preceded_stands s c.args.slot.now octets slot_octets c.args.name c.requires.0 (ap (λ (p : Place). ltb 1 p.groups) (sym z) ∙ t))

pub meet-requires : goal.meet-requires
meet-requires c =
    let octets : Octets c.args.form.now = λ i. omega (arith, c.type_inv.form i) in
    let slot_octets : Octets c.args.slot.now = λ i. omega (arith, c.type_inv.slot i) in
    let is_reached : c.block_by-block.result ≡ reached_in c.args.form.now (name_of c.args.slot.now) =
    c.block_by-block.ensures.value ∙ ap (λ (p : Place). block_by c.args.form.now (ltb 0 p.groups) p.here) c.requires.1 in
    let s = c.args.form.now in
    let t = c.args.slot.now in
    let e = c.requires.0 in
    let b = c.block_by-block.result in
    let f = subst (Found s t octets slot_octets c.args.name e) (sym is_reached) (found s t octets slot_octets c.args.name e) in
    record {
      within = (c.block_by-block.ensures.stood.0, e.lies, given_named s t octets slot_octets c.args.name e);
      name_value = λ l.
          let v = block_low s t octets slot_octets c.args.name e b f l in
          (v.0, ap (λ (r : Row). is_le (compare_rows (row_at s b.name) r)) e.named ∙ v.1);
    }

pub taken_out-requires : goal.taken_out-requires
taken_out-requires c =
    let is_reached : c.block_by-block.result ≡ reached_in c.args.form.now (name_of c.args.slot.now) =
    c.block_by-block.ensures.value ∙ ap (λ (p : Place). block_by c.args.form.now (ltb 0 p.groups) p.here) c.requires.1 in
    let is_preceded : c.block_by-before.result ≡ preceded_in c.args.form.now (name_of c.args.slot.now) =
    c.block_by-before.ensures.value ∙ ap (λ (p : Place). block_by c.args.form.now (ltb 1 p.groups) p.before) c.requires.1 in
    let s = c.args.form.now in
    let e = c.requires.0 in
    record {
      edited = (e, is_preceded, is_reached);
      slot_value = ap (met_in s c.block_by-block.result) (sym e.named) ∙ sym c.meet.ensures ∙ c.in-Here.is;
    }

pub cut_out-requires : goal.cut_out-requires
cut_out-requires c =
    let octets : Octets c.args.form.now = λ i. omega (arith, c.type_inv.form i) in
    let slot_octets : Octets c.args.slot.now = λ i. omega (arith, c.type_inv.slot i) in
    let is_reached : c.block_by-block.result ≡ reached_in c.args.form.now (name_of c.args.slot.now) =
    c.block_by-block.ensures.value ∙ ap (λ (p : Place). block_by c.args.form.now (ltb 0 p.groups) p.here) c.requires.1 in
    let is_preceded : c.block_by-before.result ≡ preceded_in c.args.form.now (name_of c.args.slot.now) =
    c.block_by-before.ensures.value ∙ ap (λ (p : Place). block_by c.args.form.now (ltb 1 p.groups) p.before) c.requires.1 in
    let removal : Removes c.args.form.now c.args.slot.now octets slot_octets c.args.name c.requires.0 c.taken_out.result =
    let s = c.args.form.now in
    let t = c.args.slot.now in
    let e = c.requires.0 in
    let b = c.block_by-block.result in
    let f = subst (Found s t octets slot_octets c.args.name e) (sym is_reached) (found s t octets slot_octets c.args.name e) in
    let n = ap (met_in s b) (sym e.named) ∙ sym c.meet.ensures ∙ c.in-Here.is in
    subst (Removes s t octets slot_octets c.args.name e) (sym (c.taken_out.ensures ∙ ap (λ (p : Block). taken_in s p b c.in-Here.i) is_preceded))
    (chosen_out s t octets slot_octets c.args.name e b f c.in-Here.i n) in
    removal.fits

pub returns-in-Here : goal.returns-in-Here
returns-in-Here c =
    let octets : Octets c.args.form.now = λ i. omega (arith, c.type_inv.form i) in
    let slot_octets : Octets c.args.slot.now = λ i. omega (arith, c.type_inv.slot i) in
    let is_reached : c.block_by-block.result ≡ reached_in c.args.form.now (name_of c.args.slot.now) =
    c.block_by-block.ensures.value ∙ ap (λ (p : Place). block_by c.args.form.now (ltb 0 p.groups) p.here) c.requires.1 in
    let is_preceded : c.block_by-before.result ≡ preceded_in c.args.form.now (name_of c.args.slot.now) =
    c.block_by-before.ensures.value ∙ ap (λ (p : Place). block_by c.args.form.now (ltb 1 p.groups) p.before) c.requires.1 in
    let removal : Removes c.args.form.now c.args.slot.now octets slot_octets c.args.name c.requires.0 c.taken_out.result =
    let s = c.args.form.now in
    let t = c.args.slot.now in
    let e = c.requires.0 in
    let b = c.block_by-block.result in
    let f = subst (Found s t octets slot_octets c.args.name e) (sym is_reached) (found s t octets slot_octets c.args.name e) in
    let n = ap (met_in s b) (sym e.named) ∙ sym c.meet.ensures ∙ c.in-Here.is in
    subst (Removes s t octets slot_octets c.args.name e) (sym (c.taken_out.ensures ∙ ap (λ (p : Block). taken_in s p b c.in-Here.i) is_preceded))
    (chosen_out s t octets slot_octets c.args.name e b f c.in-Here.i n) in
    let s = c.args.form.now in
    let t = c.args.slot.now in
    let o = c.args.out.now in
    let e = c.requires.0 in
    let b = c.block_by-block.result in
    let f = subst (Found s t octets slot_octets c.args.name e) (sym is_reached) (found s t octets slot_octets c.args.name e) in
    let n = ap (met_in s b) (sym e.named) ∙ sym c.meet.ensures ∙ c.in-Here.is in
    let d =
    remove_done s t slot_octets c.args.name e (length o) octets c.taken_out.result
    (is_here_lem s t octets slot_octets c.args.name e b f _ n) removal in
    record {
      value = c.cut_out.ensures.value ∙ ap (λ (x : Outcome). x.answer) d;
      out_after = c.cut_out.ensures.out_after ∙ ap (λ (x : Outcome). leaves x o) d;
    }

pub returns-in-Inside : goal.returns-in-Inside
returns-in-Inside c =
    let octets : Octets c.args.form.now = λ i. omega (arith, c.type_inv.form i) in
    let slot_octets : Octets c.args.slot.now = λ i. omega (arith, c.type_inv.slot i) in
    let is_reached : c.block_by-block.result ≡ reached_in c.args.form.now (name_of c.args.slot.now) =
    c.block_by-block.ensures.value ∙ ap (λ (p : Place). block_by c.args.form.now (ltb 0 p.groups) p.here) c.requires.1 in
    let s = c.args.form.now in
    let t = c.args.slot.now in
    let e = c.requires.0 in
    let b = c.block_by-block.result in
    let f = subst (Found s t octets slot_octets c.args.name e) (sym is_reached) (found s t octets slot_octets c.args.name e) in
    let absent : has (name_of t) (map name_in (slots_of_form s)) ≡ false =
    elim c.in-Inside.is [
      | inl w ↦ (chosen_inside s t octets slot_octets c.args.name e b f w.0 (ap (met_in s b) (sym e.named) ∙ sym c.meet.ensures ∙ w.1)).absent
      | inr w ↦ (chosen_after s t octets slot_octets c.args.name e b f w.0 (ap (met_in s b) (sym e.named) ∙ sym c.meet.ensures ∙ w.1)).absent
    ] in
    let both = refused _ _ _ (remove_absent s t slot_octets c.args.name e (length c.args.out.now) absent)
    in record { value = both.0; out_after = both.1 }
