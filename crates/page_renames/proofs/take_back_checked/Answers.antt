-- `page_renames::take_back_checked` meets its contract. Assumes nothing.
use mathlib.Core.Path.{◌∙◌, sym}
use native.Mathlib.Omega.{arith}
use Rattle.std.proofs.lemmas.Result.{err_from_is_err_and}
use lib.ListN.{length}
use Rattle.pages.specs.Pages.{names_of}
use Rattle.answers.proofs.Outcomes.{refused, accepted}
use Rattle.name_renames.specs.Renaming.{take_back}
use Rattle.page_renames.specs.Renames.{take_back_tests, take_back_outcome}
use Rattle.page_renames.proofs.Books.{all_asked}
use Rattle.page_renames.proofs.LastRefusal.{own_refused, all_fit_lem, short, done, back_fit}
use Rattle.std.specs.Prelude.{◌≡◌}
use Rattle.answers.specs.Answers.{leaves}
use Rattle.page_renames.proofs.take_back_checked.Goals as goal

-- 8
pub returns-then-out-page : goal.returns-then-out-page
unfolding take_back_outcome
returns-then-out-page c =
    let a = c.args in
    let s = a.page.now in
    let g = a.log.now in
    let own = take_back_tests s g a.author in
    let f = take_back a.author (names_of g) in
    let room = length a.out.now in
    let fit = back_fit s g a.author in
    let both : (_ ≡ (take_back_outcome c.args.page.now c.args.log.now c.args.author (length c.args.out.now)).answer) × (_ ≡ leaves (take_back_outcome c.args.page.now c.args.log.now c.args.author (length c.args.out.now)) c.args.out.now) =
    refused _ _ _ (short s g a.author own f fit room c.requires c.check_names.ensures c.in_ok-check_names.was (omega arith))
    in record { value = both.0; out_after = both.1 }

pub write_back-requires : goal.write_back-requires
write_back-requires c =
    let a = c.args in
    let s = a.page.now in
    let g = a.log.now in
    let own = take_back_tests s g a.author in
    let f = take_back a.author (names_of g) in
    let room = length a.out.now in
    let fit = back_fit s g a.author in
    let v = all_asked s g a.author c.requires in
    let fits = all_fit_lem s g a.author own f fit room c.requires c.check_names.ensures c.in_ok-check_names.was in
    record {
      page_value = (v.layout, v.logged, omega arith);
      page_value_2 = fits;
      page_value_3 = λ e. sym c.all_alone-alone.ensures ∙ e;
    }

-- the call's own refusals
pub returns-in_err-check_names : goal.returns-in_err-check_names
unfolding take_back_outcome
returns-in_err-check_names c =
    let a = c.args in
    let s = a.page.now in
    let g = a.log.now in
    let own = take_back_tests s g a.author in
    let f = take_back a.author (names_of g) in
    let room = length a.out.now in
    let fit = back_fit s g a.author in
    let told = err_from_is_err_and c.from_residual.result c.from_residual.ensures.1 in
    let both : (_ ≡ (take_back_outcome c.args.page.now c.args.log.now c.args.author (length c.args.out.now)).answer) × (_ ≡ leaves (take_back_outcome c.args.page.now c.args.log.now c.args.author (length c.args.out.now)) c.args.out.now) =
    refused _ _ _ (own_refused s g a.author own f fit room c.requires c.check_names.ensures _ c.in_err-check_names.was)
    in record { value = rw (told.1, told.2) both.0; out_after = both.1 }

pub returns : goal.returns
unfolding take_back_outcome
returns c =
    let a = c.args in
    let s = a.page.now in
    let g = a.log.now in
    let own = take_back_tests s g a.author in
    let f = take_back a.author (names_of g) in
    let room = length a.out.now in
    let fit = back_fit s g a.author in
    let whole = done s g a.author own f fit room c.requires c.check_names.ensures c.in_ok-check_names.was (omega arith) in
    let both : (_ ≡ (take_back_outcome c.args.page.now c.args.log.now c.args.author (length c.args.out.now)).answer) × (_ ≡ leaves (take_back_outcome c.args.page.now c.args.log.now c.args.author (length c.args.out.now)) c.args.out.now) =
    accepted _ _ _ _ _ whole c.write_back.ensures
    in record { value = both.0; out_after = both.1 }
