-- `form_edits::check_edit` meets its contract. Assumes nothing.
use mathlib.Core.Path.{◌≡◌, refl, sym, ap, ◌∙◌}
use mathlib.Core.List.{map}
use mathlib.Core.Bool.{true}
use native.Mathlib.Omega.{arith}
use borrow.Author.Tests.{not-true, not-false, le-leb, lt-leb}
use lib.Dec.{leb}
use lib.ListN.{length}
use Rattle.std.specs.declared.result.Result.{Result}
use Rattle.std.specs.declared.result.Result.TheVariants.{Ok, Err}
use Rattle.std.proofs.lemmas.Result.{err_from_is_err_and}
use Rattle.names.specs.Ordering.{rising}
use Rattle.slots.specs.Tuples.{row_at}
use Rattle.answers.specs.declared.Refusal.{Refusal}
use Rattle.answers.specs.Laws.{here, later}
use Rattle.answers.proofs.Refusals.{passed, failed}
use Rattle.pages.specs.Pages.{max_slots, name_in}
use Rattle.groups.specs.Forms.{slots_of_form}
use Rattle.forms.specs.declared.Looked.{Looked}
use Rattle.forms.specs.Blocks.{all_told}
use Rattle.forms.proofs.Looking.{none_looked, some_looked, look_passed, look_refused}
use Rattle.form_edits.specs.Edits.{edit_tests}
use Rattle.form_edits.proofs.check_edit.Goals as goal

pub returns-in_err-looked : goal.returns-in_err-looked
returns-in_err-looked c =
    let s = c.args.form.now in
    let t = c.args.slot.now in
    let x = row_at t c.args.name in
    let end : Result Looked Refusal = Ok (all_told s x) in
    let told = err_from_is_err_and c.from_residual.result c.from_residual.ensures.1 in
    let none = look_refused c.look.result c.ok_or.ensures.value c.in_err-looked.was in
    told.1 ∙ ap (λ (r : Refusal). Err r) (told.2 ∙ none.1) ∙ sym (failed Err end (edit_tests s t) (here (none_looked s x (none.0 ∙ c.look.ensures)) refl))

pub returns-then-not-looked : goal.returns-then-not-looked
returns-then-not-looked c =
    let s = c.args.form.now in
    let t = c.args.slot.now in
    let x = row_at t c.args.name in
    let told = some_looked s x (look_passed c.ok_or.ensures.ok_part c.in_ok-looked.was ∙ c.look.ensures) in
    let end : Result Looked Refusal = Ok (all_told s x) in
    let falls = sym (ap (λ (l : Looked). l.rises) told.1) ∙ not-true c.in_ok-looked.looked.rises c.if-not-looked.true in
    sym (failed Err end (edit_tests s t) (later told.0 (here falls refl)))

pub returns-then-looked-gt-SLOTS : goal.returns-then-looked-gt-SLOTS
returns-then-looked-gt-SLOTS c =
    let s = c.args.form.now in
    let t = c.args.slot.now in
    let x = row_at t c.args.name in
    let told = some_looked s x (look_passed c.ok_or.ensures.ok_part c.in_ok-looked.was ∙ c.look.ensures) in
    let end : Result Looked Refusal = Ok (all_told s x) in
    let rise : rising (map name_in (slots_of_form s)) ≡ true = sym (ap (λ (l : Looked). l.rises) told.1) ∙ not-false c.in_ok-looked.looked.rises c.if-not-looked.false in
    let many = lt-leb (length (slots_of_form s)) max_slots (omega (arith, ap (λ (l : Looked). l.slots) told.1)) in
    sym (failed Err end (edit_tests s t) (later told.0 (later rise (here many refl))))

pub returns-then-not-slot_ok : goal.returns-then-not-slot_ok
returns-then-not-slot_ok c =
    let s = c.args.form.now in
    let t = c.args.slot.now in
    let x = row_at t c.args.name in
    let told = some_looked s x (look_passed c.ok_or.ensures.ok_part c.in_ok-looked.was ∙ c.look.ensures) in
    let end : Result Looked Refusal = Ok (all_told s x) in
    let rise : rising (map name_in (slots_of_form s)) ≡ true = sym (ap (λ (l : Looked). l.rises) told.1) ∙ not-false c.in_ok-looked.looked.rises c.if-not-looked.false in
    let few : leb (length (slots_of_form s)) max_slots ≡ true = le-leb (length (slots_of_form s)) max_slots (omega (arith, ap (λ (l : Looked). l.slots) told.1)) in
    let broken = sym c.slot_ok.ensures ∙ c.if-not-slot_ok.true in
    sym (failed Err end (edit_tests s t) (later told.0 (later rise (later few (here broken refl)))))

pub returns : goal.returns
returns c =
    let s = c.args.form.now in
    let t = c.args.slot.now in
    let x = row_at t c.args.name in
    let told = some_looked s x (look_passed c.ok_or.ensures.ok_part c.in_ok-looked.was ∙ c.look.ensures) in
    let end : Result Looked Refusal = Ok (all_told s x) in
    let rise : rising (map name_in (slots_of_form s)) ≡ true = sym (ap (λ (l : Looked). l.rises) told.1) ∙ not-false c.in_ok-looked.looked.rises c.if-not-looked.false in
    let few : leb (length (slots_of_form s)) max_slots ≡ true = le-leb (length (slots_of_form s)) max_slots (omega (arith, ap (λ (l : Looked). l.slots) told.1)) in
    let kept = sym c.slot_ok.ensures ∙ c.if-not-slot_ok.false in
    ap (λ (l : Looked). Ok l) told.1 ∙ sym (passed Err end (edit_tests s t) (told.0, (rise, (few, (kept, tt)))))
