-- `page_renames::rename_checked` meets its contract. Assumes nothing.
use native.Mathlib.Omega.{arith}
use Rattle.std.proofs.lemmas.Result.{err_from_is_err_and}
use lib.ListN.{length}
use Rattle.pages.specs.Pages.{names_of}
use Rattle.answers.proofs.Outcomes.{refused, accepted}
use Rattle.name_renames.specs.Renaming.{rename}
use Rattle.page_renames.specs.Renames.{rename_tests, rename_outcome}
use Rattle.page_renames.proofs.LastRefusal.{own_refused, short, done, renamed_fit}
use Rattle.std.specs.Prelude.{◌≡◌}
use Rattle.answers.specs.Answers.{leaves}
use Rattle.page_renames.proofs.rename_checked.Goals as goal

-- 8
pub returns-then-out-page : goal.returns-then-out-page
unfolding rename_outcome
returns-then-out-page c =
    let a = c.args in
    let s = a.page.now in
    let g = a.log.now in
    let own = rename_tests s g a.author in
    let f = rename a.author (names_of g) in
    let room = length a.out.now in
    let fit = renamed_fit s g a.author in
    let both : (_ ≡ (rename_outcome c.args.page.now c.args.log.now c.args.author (length c.args.out.now)).answer) × (_ ≡ leaves (rename_outcome c.args.page.now c.args.log.now c.args.author (length c.args.out.now)) c.args.out.now) =
    refused _ _ _ (short s g a.author own f fit room c.requires c.check_rename.ensures c.in_ok-check_rename.was (omega arith))
    in record { value = both.0; out_after = both.1 }

-- the call's own refusals
pub returns-in_err-check_rename : goal.returns-in_err-check_rename
unfolding rename_outcome
returns-in_err-check_rename c =
    let a = c.args in
    let s = a.page.now in
    let g = a.log.now in
    let own = rename_tests s g a.author in
    let f = rename a.author (names_of g) in
    let room = length a.out.now in
    let fit = renamed_fit s g a.author in
    let told = err_from_is_err_and c.from_residual.result c.from_residual.ensures.1 in
    let both : (_ ≡ (rename_outcome c.args.page.now c.args.log.now c.args.author (length c.args.out.now)).answer) × (_ ≡ leaves (rename_outcome c.args.page.now c.args.log.now c.args.author (length c.args.out.now)) c.args.out.now) =
    refused _ _ _ (own_refused s g a.author own f fit room c.requires c.check_rename.ensures _ c.in_err-check_rename.was)
    in record { value = rw (told.1, told.2) both.0; out_after = both.1 }

pub returns : goal.returns
unfolding rename_outcome
returns c =
    let a = c.args in
    let s = a.page.now in
    let g = a.log.now in
    let own = rename_tests s g a.author in
    let f = rename a.author (names_of g) in
    let room = length a.out.now in
    let fit = renamed_fit s g a.author in
    let whole = done s g a.author own f fit room c.requires c.check_rename.ensures c.in_ok-check_rename.was (omega arith) in
    let both : (_ ≡ (rename_outcome c.args.page.now c.args.log.now c.args.author (length c.args.out.now)).answer) × (_ ≡ leaves (rename_outcome c.args.page.now c.args.log.now c.args.author (length c.args.out.now)) c.args.out.now) =
    accepted _ _ _ _ _ whole c.write_renamed.ensures
    in record { value = both.0; out_after = both.1 }
