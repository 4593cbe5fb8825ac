-- `edits::remove_at` meets its contract. Assumes nothing.
use native.Mathlib.Omega.{arith}
use lib.ListN.{length}
use Rattle.answers.proofs.Outcomes.{refused, accepted}
use Rattle.edits.proofs.Outcomes.{AtSlot, here_within, whole_page, remove_short, remove_done}
use Rattle.std.specs.Prelude.{◌≡◌}
use Rattle.answers.specs.Answers.{leaves}
use Rattle.edits.specs.Edits.{remove_outcome}
use Rattle.edits.proofs.remove_at.Goals as goal

pub overflow_sub-page : goal.overflow_sub-page
overflow_sub-page c =
    let at_slot : AtSlot c.args.page.now c.args.slot.now c.args.k =
    record {
      octets = λ i. omega (arith, c.type_inv.page i);
      layout = c.requires.page_value.0;
      slot_layout = c.requires.page_value.1;
      order = c.requires.page_value.2;
      place = c.requires.page_value_2;
    } in
    let g = here_within at_slot in
    let w = whole_page at_slot in
    omega arith

pub returns-then-out-page : goal.returns-then-out-page
returns-then-out-page c =
    let at_slot : AtSlot c.args.page.now c.args.slot.now c.args.k =
    record {
      octets = λ i. omega (arith, c.type_inv.page i);
      layout = c.requires.page_value.0;
      slot_layout = c.requires.page_value.1;
      order = c.requires.page_value.2;
      place = c.requires.page_value_2;
    } in
    let both : (_ ≡ (remove_outcome c.args.page.now c.args.slot.now (length c.args.out.now)).answer) × (_ ≡ leaves (remove_outcome c.args.page.now c.args.slot.now (length c.args.out.now)) c.args.out.now) =
    refused _ _ _ (remove_short at_slot _ (omega arith))
    in record { value = both.0; out_after = both.1 }

pub write_without-requires : goal.write_without-requires
write_without-requires c =
    let at_slot : AtSlot c.args.page.now c.args.slot.now c.args.k =
    record {
      octets = λ i. omega (arith, c.type_inv.page i);
      layout = c.requires.page_value.0;
      slot_layout = c.requires.page_value.1;
      order = c.requires.page_value.2;
      place = c.requires.page_value_2;
    } in
    let g = here_within at_slot in
    let w = whole_page at_slot in
    (omega arith, omega arith)

pub overflow_sub-result : goal.overflow_sub-result
overflow_sub-result c =
    let at_slot : AtSlot c.args.page.now c.args.slot.now c.args.k =
    record {
      octets = λ i. omega (arith, c.type_inv.page i);
      layout = c.requires.page_value.0;
      slot_layout = c.requires.page_value.1;
      order = c.requires.page_value.2;
      place = c.requires.page_value_2;
    } in
    let g = here_within at_slot in
    let w = whole_page at_slot in
    omega arith

pub returns : goal.returns
returns c =
    let at_slot : AtSlot c.args.page.now c.args.slot.now c.args.k =
    record {
      octets = λ i. omega (arith, c.type_inv.page i);
      layout = c.requires.page_value.0;
      slot_layout = c.requires.page_value.1;
      order = c.requires.page_value.2;
      place = c.requires.page_value_2;
    } in
    let both : (_ ≡ (remove_outcome c.args.page.now c.args.slot.now (length c.args.out.now)).answer) × (_ ≡ leaves (remove_outcome c.args.page.now c.args.slot.now (length c.args.out.now)) c.args.out.now) =
    accepted _ _ _ _ _ (remove_done at_slot (length c.args.out.now) (omega arith)) c.write_without.ensures
    in record { value = both.0; out_after = both.1 }
