-- `edits::insert` meets its contract. Assumes nothing.
use mathlib.Core.Path.{◌∙◌, sym}
use Rattle.slots.proofs.RoundTrip.{kept}
use Rattle.answers.proofs.Outcomes.{refused}
use Rattle.std.proofs.lemmas.Result.{err_from_is_err_and}
use Rattle.edits.proofs.Outcomes.{checked, insert_refused, insert_present}
use Rattle.std.specs.Prelude.{◌≡◌, length}
use Rattle.answers.specs.Answers.{leaves}
use Rattle.edits.specs.Edits.{insert_outcome}
use Rattle.edits.proofs.insert.Goals as goal

pub returns-in_err-check_edit-clause-value : goal.returns-in_err-check_edit-clause-value
returns-in_err-check_edit-clause-value c =
    let told = err_from_is_err_and c.from_residual.result c.from_residual.ensures.1 in
    rw (told.1, told.2) (refused _ _ c.args.out.now (insert_refused c.args.page.now c.args.slot.now _ _ (sym c.check_edit.ensures ∙ c.in_err-check_edit.was))).0

pub returns-in_err-check_edit-clause-out_after : goal.returns-in_err-check_edit-clause-out_after
returns-in_err-check_edit-clause-out_after c =
    (refused _ _ c.args.out.now (insert_refused c.args.page.now c.args.slot.now _ _ (sym c.check_edit.ensures ∙ c.in_err-check_edit.was))).1

pub find-requires : goal.find-requires
find-requires c =
    let slot = c.args.slot.now in
    let p = checked c.args.page.now slot (sym c.check_edit.ensures ∙ c.in_ok-check_edit.was) in
    ((kept slot p.1.0).long, p.1.1.0)

pub insert_at-requires : goal.insert_at-requires
insert_at-requires c =
    let p = checked c.args.page.now c.args.slot.now (sym c.check_edit.ensures ∙ c.in_ok-check_edit.was) in
    record {
      page_value = (p.0, p.1.0, p.1.1.0);
      page_value_2 = sym c.find.ensures ∙ c.in-Gap.is;
    }

pub returns-in-Here : goal.returns-in-Here
returns-in-Here c =
    let page = c.args.page.now in
    let slot = c.args.slot.now in
    let p = checked page slot (sym c.check_edit.ensures ∙ c.in_ok-check_edit.was) in
    let both : (_ ≡ (insert_outcome c.args.page.now c.args.slot.now (length c.args.out.now)).answer) × (_ ≡ leaves (insert_outcome c.args.page.now c.args.slot.now (length c.args.out.now)) c.args.out.now) =
    refused _ _ _ (insert_present page slot _ _ p (sym c.find.ensures ∙ c.in-Here.is))
    in record { value = both.0; out_after = both.1 }
