-- `edits::insert_at` meets its contract. Assumes nothing.
use native.Mathlib.Omega.{arith}
use lib.ListN.{length}
use Rattle.answers.proofs.Outcomes.{refused, accepted}
use Rattle.edits.proofs.Outcomes.{AtGap, gap_within, slot_long, insert_full, insert_short, insert_done}
use Rattle.std.specs.Prelude.{◌≡◌}
use Rattle.answers.specs.Answers.{leaves}
use Rattle.edits.specs.Edits.{insert_outcome}
use Rattle.edits.proofs.insert_at.Goals as goal

pub returns-then-page-ge-PAGE : goal.returns-then-page-ge-PAGE
returns-then-page-ge-PAGE c =
    let at_gap : AtGap c.args.page.now c.args.slot.now c.args.k =
    record {
      octets = λ i. omega (arith, c.type_inv.page i);
      slot_octets = λ i. omega (arith, c.type_inv.slot i);
      layout = c.requires.page_value.0;
      slot_layout = c.requires.page_value.1;
      order = c.requires.page_value.2;
      place = c.requires.page_value_2;
    } in
    let both : (_ ≡ (insert_outcome c.args.page.now c.args.slot.now (length c.args.out.now)).answer) × (_ ≡ leaves (insert_outcome c.args.page.now c.args.slot.now (length c.args.out.now)) c.args.out.now) =
    refused _ _ _ (insert_full at_gap _ (omega arith))
    in record { value = both.0; out_after = both.1 }

pub returns-then-out-page : goal.returns-then-out-page
returns-then-out-page c =
    let at_gap : AtGap c.args.page.now c.args.slot.now c.args.k =
    record {
      octets = λ i. omega (arith, c.type_inv.page i);
      slot_octets = λ i. omega (arith, c.type_inv.slot i);
      layout = c.requires.page_value.0;
      slot_layout = c.requires.page_value.1;
      order = c.requires.page_value.2;
      place = c.requires.page_value_2;
    } in
    let both : (_ ≡ (insert_outcome c.args.page.now c.args.slot.now (length c.args.out.now)).answer) × (_ ≡ leaves (insert_outcome c.args.page.now c.args.slot.now (length c.args.out.now)) c.args.out.now) =
    refused _ _ _ (insert_short at_gap _ (omega arith) (omega arith))
    in record { value = both.0; out_after = both.1 }

pub write_with-requires : goal.write_with-requires
write_with-requires c =
    let at_gap : AtGap c.args.page.now c.args.slot.now c.args.k =
    record {
      octets = λ i. omega (arith, c.type_inv.page i);
      slot_octets = λ i. omega (arith, c.type_inv.slot i);
      layout = c.requires.page_value.0;
      slot_layout = c.requires.page_value.1;
      order = c.requires.page_value.2;
      place = c.requires.page_value_2;
    } in
    let g = gap_within at_gap in
    let l = slot_long at_gap in
    (omega arith, l, omega arith)

pub returns : goal.returns
returns c =
    let at_gap : AtGap c.args.page.now c.args.slot.now c.args.k =
    record {
      octets = λ i. omega (arith, c.type_inv.page i);
      slot_octets = λ i. omega (arith, c.type_inv.slot i);
      layout = c.requires.page_value.0;
      slot_layout = c.requires.page_value.1;
      order = c.requires.page_value.2;
      place = c.requires.page_value_2;
    } in
    let both : (_ ≡ (insert_outcome c.args.page.now c.args.slot.now (length c.args.out.now)).answer) × (_ ≡ leaves (insert_outcome c.args.page.now c.args.slot.now (length c.args.out.now)) c.args.out.now) =
    accepted _ _ _ _ _ (insert_done at_gap (length c.args.out.now) (omega arith) (omega arith)) c.write_with.ensures
    in record { value = both.0; out_after = both.1 }
