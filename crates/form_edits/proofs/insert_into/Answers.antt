-- `form_edits::insert_into` meets its contract. Assumes nothing.
use mathlib.Core.Path.{◌≡◌, sym, ap, ◌∙◌, subst}
use mathlib.Core.Bool.{true}
use Prim.Native.Nat.{◌≤◌}
use native.Mathlib.Omega.{arith}
use lib.Dec.{ltb}
use lib.ListN.{length, drop}
use Rattle.names.specs.Ordering.{Row, compare_rows}
use Rattle.numbers.specs.Bytes.{Octets}
use Rattle.slots.specs.Slots.{name_of}
use Rattle.groups.specs.Forms.{group_stands}
use Rattle.forms.specs.declared.Place.{Place}
use Rattle.std.specs.Ordering.{is_le}
use Rattle.slots.specs.Tuples.{row_at}
use Rattle.answers.specs.Answers.{Outcome, leaves}
use Rattle.answers.proofs.Outcomes.{refused}
use Rattle.form_edits.specs.Choices.{block_by, is_here, met_in}
use Rattle.form_edits.specs.Edits.{reached_in}
use Rattle.form_edits.proofs.Chosen.{Found, found, is_present, given_named}
use Rattle.form_edits.proofs.Asked.{reached_stands, block_low}
use Rattle.form_edits.proofs.Outcomes.{insert_present, insert_full, insert_done}
use Rattle.form_edits.proofs.insert_into.Goals as goal

pub block_by-block-requires : goal.block_by-block-requires
block_by-block-requires c =
    let octets : Octets c.args.form.now = λ i. omega (arith, c.type_inv.form i) in
    let slot_octets : Octets c.args.slot.now = λ i. omega (arith, c.type_inv.slot i) in
    let s = c.args.form.now in
    let z = c.requires.2 in
    λ t.
    subst (λ (p : Place). (p.here ≤ length s) × (group_stands (drop p.here s) ≡ true)) (sym z)
    (reached_stands s c.args.slot.now octets slot_octets c.args.name c.requires.0 (ap (λ (p : Place). ltb 0 p.groups) (sym z) ∙ t))

pub meet-met-requires : goal.meet-met-requires
meet-met-requires c =
    let octets : Octets c.args.form.now = λ i. omega (arith, c.type_inv.form i) in
    let slot_octets : Octets c.args.slot.now = λ i. omega (arith, c.type_inv.slot i) in
    let is_reached : c.block_by-block.result ≡ reached_in c.args.form.now (name_of c.args.slot.now) =
    c.block_by-block.ensures.value ∙ ap (λ (p : Place). block_by c.args.form.now (ltb 0 p.groups) p.here) c.requires.2 in
    let s = c.args.form.now in
    let t = c.args.slot.now in
    let e = c.requires.0 in
    let b = c.block_by-block.result in
    let f = subst (Found s t octets slot_octets c.args.name e) (sym is_reached) (found s t octets slot_octets c.args.name e) in
    record {
      within = (c.block_by-block.ensures.stood.0, e.lies, given_named s t octets slot_octets c.args.name e);
      name_value = λ l.
          let v = block_low s t octets slot_octets c.args.name e b f l in
          (v.0, ap (λ (y : Row). is_le (compare_rows (row_at s b.name) y)) e.named ∙ v.1);
    }

pub returns-then-is_here : goal.returns-then-is_here
returns-then-is_here c =
    let octets : Octets c.args.form.now = λ i. omega (arith, c.type_inv.form i) in
    let slot_octets : Octets c.args.slot.now = λ i. omega (arith, c.type_inv.slot i) in
    let is_reached : c.block_by-block.result ≡ reached_in c.args.form.now (name_of c.args.slot.now) =
    c.block_by-block.ensures.value ∙ ap (λ (p : Place). block_by c.args.form.now (ltb 0 p.groups) p.here) c.requires.2 in
    let is_met : c.meet-met.result ≡ met_in c.args.form.now c.block_by-block.result (name_of c.args.slot.now) =
    c.meet-met.ensures ∙ ap (met_in c.args.form.now c.block_by-block.result) c.requires.0.named in
    let s = c.args.form.now in
    let t = c.args.slot.now in
    let e = c.requires.0 in
    let f = subst (Found s t octets slot_octets c.args.name e) (sym is_reached) (found s t octets slot_octets c.args.name e) in
    let both =
    refused _ _ _
    (insert_present s t slot_octets c.args.name e (length c.args.out.now)
    (is_present s t octets slot_octets c.args.name e c.block_by-block.result f (sym (c.is_here.ensures ∙ ap is_here is_met) ∙ c.if-is_here.true)))
    in record { value = both.0; out_after = both.1 }

pub placed-insertion-requires : goal.placed-insertion-requires
placed-insertion-requires c =
    let is_reached : c.block_by-block.result ≡ reached_in c.args.form.now (name_of c.args.slot.now) =
    c.block_by-block.ensures.value ∙ ap (λ (p : Place). block_by c.args.form.now (ltb 0 p.groups) p.here) c.requires.2 in
    let is_met : c.meet-met.result ≡ met_in c.args.form.now c.block_by-block.result (name_of c.args.slot.now) =
    c.meet-met.ensures ∙ ap (met_in c.args.form.now c.block_by-block.result) c.requires.0.named in
    (c.requires.0, is_reached, is_met, sym c.is_here.ensures ∙ c.if-is_here.false)

pub returns-then-slots-ge-SLOTS : goal.returns-then-slots-ge-SLOTS
returns-then-slots-ge-SLOTS c =
    let slot_octets : Octets c.args.slot.now = λ i. omega (arith, c.type_inv.slot i) in
    let n = c.requires.1 in
    let both =
    refused _ _ _
    (insert_full c.args.form.now c.args.slot.now slot_octets c.args.name c.requires.0 (length c.args.out.now)
    c.placed-insertion.ensures.absent (omega arith))
    in record { value = both.0; out_after = both.1 }

pub put_in-requires : goal.put_in-requires
put_in-requires c = (c.placed-insertion.ensures.fits, c.placed-insertion.ensures.stands)

pub returns : goal.returns
returns c =
    let slot_octets : Octets c.args.slot.now = λ i. omega (arith, c.type_inv.slot i) in
    let o = c.args.out.now in
    let n = c.requires.1 in
    let e =
    insert_done c.args.form.now c.args.slot.now slot_octets c.args.name c.requires.0 (length o)
    c.placed-insertion.result c.placed-insertion.ensures (omega arith) in
    record {
      value = c.put_in.ensures.value ∙ ap (λ (x : Outcome). x.answer) e;
      out_after = c.put_in.ensures.out_after ∙ ap (λ (x : Outcome). leaves x o) e;
    }
