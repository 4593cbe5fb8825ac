-- `grouping::ungroup` meets its contract. Assumes nothing.
use mathlib.Core.Path.{◌≡◌, ◌∙◌, sym, ap}
use mathlib.Core.List.{[], map}
use mathlib.Core.Bool.{true, false, not}
use borrow.Author.Rules.{rules}
use borrow.Author.Tests.{not-true, not-false}
use native.Mathlib.Omega.{arith}
use lib.ListN.{length}
use Rattle.std.proofs.lemmas.Result.{err_from_is_err_and}
use Rattle.std.specs.declared.result.Result.TheVariants.{Err}
use Rattle.names.specs.Ordering.{rising}
use Rattle.answers.specs.declared.Refusal.{Refusal}
use Rattle.answers.specs.declared.Refusal.TheVariants.{Malformed}
use Rattle.answers.specs.Answers.{Answer, leaves}
use Rattle.answers.proofs.Outcomes.{refused, accepted}
use Rattle.pages.specs.Pages.{name_in}
use Rattle.groups.specs.Forms.{slots_of_form, keeps_form}
use Rattle.groups.specs.Calls.{ungroup_outcome}
use Rattle.forms.specs.declared.Looked.{Looked}
use Rattle.forms.proofs.Looking.{none_looked, some_looked, look_passed, look_refused}
use Rattle.grouping.proofs.Outcomes.{ungroup_malformed, ungroup_not_rising, ungroup_full, ungroup_short, ungroup_done}
use Rattle.grouping.proofs.ungroup.Goals as goal

pub returns-in_err-looked : goal.returns-in_err-looked
returns-in_err-looked c =
    let s = c.args.form.now in
    let told = err_from_is_err_and c.from_residual.result c.from_residual.ensures.1 in
    let none = look_refused c.look.result c.ok_or.ensures.value c.in_err-looked.was in
    let answer : ◌≡◌ {A = Answer} c.from_residual.result (Err Malformed) = told.1 ∙ ap (λ (r : Refusal). Err r) (told.2 ∙ none.1) in
    let both : (_ ≡ (ungroup_outcome s (length c.args.out.now)).answer) × (_ ≡ leaves (ungroup_outcome s (length c.args.out.now)) c.args.out.now) =
    refused _ _ _ (ungroup_malformed s _ (none_looked s [] (none.0 ∙ c.look.ensures)))
    in record { value = answer ∙ both.0; out_after = both.1 }

pub returns-then-not-looked : goal.returns-then-not-looked
returns-then-not-looked c =
    let s = c.args.form.now in
    let told = some_looked s [] (look_passed c.ok_or.ensures.ok_part c.in_ok-looked.was ∙ c.look.ensures) in
    let keeps : keeps_form s ≡ true = told.0 in
    let both : (_ ≡ (ungroup_outcome s (length c.args.out.now)).answer) × (_ ≡ leaves (ungroup_outcome s (length c.args.out.now)) c.args.out.now) =
    refused _ _ _ (ungroup_not_rising s _ keeps (sym (ap (λ (l : Looked). l.rises) told.1) ∙ not-true c.in_ok-looked.looked.rises c.if-not-looked.true))
    in record { value = both.0; out_after = both.1 }

-- that the names rise is found by what it says: must-fail/full_before_falling.edit tests it later, under another name
pub returns-then-looked-gt-SLOTS : goal.returns-then-looked-gt-SLOTS
returns-then-looked-gt-SLOTS c =
    let s = c.args.form.now in
    let told = some_looked s [] (look_passed c.ok_or.ensures.ok_part c.in_ok-looked.was ∙ c.look.ensures) in
    let keeps : keeps_form s ≡ true = told.0 in
    let passed : not c.in_ok-looked.looked.rises ≡ false = search rules in
    let rise : rising (map name_in (slots_of_form s)) ≡ true = sym (ap (λ (l : Looked). l.rises) told.1) ∙ not-false c.in_ok-looked.looked.rises passed in
    let counted : c.in_ok-looked.looked.slots ≡ length (slots_of_form s) = ap (λ (l : Looked). l.slots) told.1 in
    let both : (_ ≡ (ungroup_outcome s (length c.args.out.now)).answer) × (_ ≡ leaves (ungroup_outcome s (length c.args.out.now)) c.args.out.now) =
    refused _ _ _ (ungroup_full s _ keeps rise (omega (arith, counted)))
    in record { value = both.0; out_after = both.1 }

pub returns-then-out-looked : goal.returns-then-out-looked
returns-then-out-looked c =
    let s = c.args.form.now in
    let told = some_looked s [] (look_passed c.ok_or.ensures.ok_part c.in_ok-looked.was ∙ c.look.ensures) in
    let keeps : keeps_form s ≡ true = told.0 in
    let rise : rising (map name_in (slots_of_form s)) ≡ true = sym (ap (λ (l : Looked). l.rises) told.1) ∙ not-false c.in_ok-looked.looked.rises c.if-not-looked.false in
    let counted : c.in_ok-looked.looked.slots ≡ length (slots_of_form s) = ap (λ (l : Looked). l.slots) told.1 in
    let both : (_ ≡ (ungroup_outcome s (length c.args.out.now)).answer) × (_ ≡ leaves (ungroup_outcome s (length c.args.out.now)) c.args.out.now) =
    refused _ _ _ (ungroup_short s _ keeps rise (omega arith) (omega arith))
    in record { value = both.0; out_after = both.1 }

pub write_slots-requires : goal.write_slots-requires
write_slots-requires c =
    let s = c.args.form.now in
    let told = some_looked s [] (look_passed c.ok_or.ensures.ok_part c.in_ok-looked.was ∙ c.look.ensures) in
    let keeps : keeps_form s ≡ true = told.0 in
    let counted : c.in_ok-looked.looked.slots ≡ length (slots_of_form s) = ap (λ (l : Looked). l.slots) told.1 in
    (keeps, omega arith)

pub returns : goal.returns
returns c =
    let s = c.args.form.now in
    let told = some_looked s [] (look_passed c.ok_or.ensures.ok_part c.in_ok-looked.was ∙ c.look.ensures) in
    let keeps : keeps_form s ≡ true = told.0 in
    let rise : rising (map name_in (slots_of_form s)) ≡ true = sym (ap (λ (l : Looked). l.rises) told.1) ∙ not-false c.in_ok-looked.looked.rises c.if-not-looked.false in
    let counted : c.in_ok-looked.looked.slots ≡ length (slots_of_form s) = ap (λ (l : Looked). l.slots) told.1 in
    let both : (_ ≡ (ungroup_outcome s (length c.args.out.now)).answer) × (_ ≡ leaves (ungroup_outcome s (length c.args.out.now)) c.args.out.now) =
    accepted _ _ _ _ _ (ungroup_done s (length c.args.out.now) keeps rise (omega arith) c.in_ok-looked.looked.slots counted (omega arith)) c.write_slots.ensures
    in record { value = both.0; out_after = both.1 }
