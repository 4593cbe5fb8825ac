-- `page_renames::take_back` meets its contract. Assumes nothing.
use Rattle.std.proofs.lemmas.Result.{err_from_is_err_and}
use Rattle.answers.proofs.Checked.{turns_away}
use Rattle.answers.proofs.Outcomes.{refused}
use Rattle.page_renames.specs.Renames.{opening_tests, take_back_outcome}
use Rattle.std.specs.Prelude.{◌≡◌, length}
use Rattle.answers.specs.Answers.{leaves}
use Rattle.page_renames.proofs.take_back.Goals as goal

pub returns-in_err-check : goal.returns-in_err-check
unfolding take_back_outcome
returns-in_err-check c =
    let a = c.args in
    let told = err_from_is_err_and c.from_residual.result c.from_residual.ensures.1 in
    let stopped = turns_away (opening_tests a.page.now a.log.now a.author) c.check.ensures _ c.in_err-check.was in
    let both : (_ ≡ (take_back_outcome c.args.page.now c.args.log.now c.args.author (length c.args.out.now)).answer) × (_ ≡ leaves (take_back_outcome c.args.page.now c.args.log.now c.args.author (length c.args.out.now)) c.args.out.now) =
    refused _ _ _ stopped
    in record { value = rw (told.1, told.2) both.0; out_after = both.1 }
