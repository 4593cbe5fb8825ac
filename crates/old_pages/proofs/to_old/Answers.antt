-- `old_pages::to_old` meets its contract. Assumes nothing.
use mathlib.Core.Path.{◌≡◌, ◌∙◌, sym, ap}
use mathlib.Core.Bool.{true}
use native.Mathlib.Omega.{arith}
use lib.ListN.{length}
use Rattle.std.specs.declared.result.Result.TheVariants.{Ok}
use Rattle.std.specs.List.{list_all}
use Rattle.std.proofs.lemmas.Result.{err_from_is_err_and}
use Rattle.std.proofs.lemmas.List.Folds.{list_all-map}
use Rattle.names.specs.Names.{limit}
use Rattle.numbers.specs.Bytes.{Bytes, Octets}
use Rattle.slots.specs.Slots.{name_of, slot_of}
use Rattle.pages.specs.Pages.{name_in, names_of, parts_of, slots_of}
use Rattle.answers.proofs.Outcomes.{refused, accepted}
use Rattle.answers.specs.Answers.{leaves}
use Rattle.old_pages.specs.OldPages.{fits_old, to_old_outcome}
use Rattle.pages.proofs.Checked.{page_counts}
use Rattle.old_pages.proofs.Outcomes.{to_refused, to_too_deep, to_short, to_done}
use Rattle.old_pages.proofs.to_old.Goals as goal

-- the names' depths are those of the slots
over_names : (s : Bytes) → list_all fits_old (names_of s) ≡ list_all (λ x. fits_old (name_of x)) (parts_of s)
over_names s = list_all-map fits_old name_in (slots_of s) ∙ list_all-map (λ x. fits_old (name_in x)) slot_of (parts_of s)

pub returns-in_err-n-clause-value : goal.returns-in_err-n-clause-value
returns-in_err-n-clause-value c =
    let told = err_from_is_err_and c.from_residual.result c.from_residual.ensures.1 in
    rw (told.1, told.2) (refused _ _ c.args.out.now (to_refused c.args.page.now (length c.args.out.now) (sym c.check_page.ensures ∙ c.in_err-n.was))).0

pub returns-in_err-n-clause-out_after : goal.returns-in_err-n-clause-out_after
returns-in_err-n-clause-out_after c =
    (refused _ _ c.args.out.now (to_refused c.args.page.now (length c.args.out.now) (sym c.check_page.ensures ∙ c.in_err-n.was))).1

pub overflow_mul-n : goal.overflow_mul-n
overflow_mul-n c =
    let sound = page_counts limit c.args.page.now (sym c.check_page.ensures ∙ c.in_ok-n.was) in
    omega arith

pub returns-then-not-depths_fit : goal.returns-then-not-depths_fit
returns-then-not-depths_fit c =
    let page = c.args.page.now in
    let sound = page_counts limit page (sym c.check_page.ensures ∙ c.in_ok-n.was) in
    let both : (_ ≡ (to_old_outcome page (length c.args.out.now)).answer) × (_ ≡ leaves (to_old_outcome page (length c.args.out.now)) c.args.out.now) =
    refused _ _ _ (to_too_deep page _ sound.0 sound.1 (over_names page ∙ sym c.depths_fit.ensures ∙ c.if-not-depths_fit.true))
    in record { value = both.0; out_after = both.1 }

pub returns-then-out-n : goal.returns-then-out-n
returns-then-out-n c =
    let page = c.args.page.now in
    let sound = page_counts limit page (sym c.check_page.ensures ∙ c.in_ok-n.was) in
    let octets : Octets page = λ i. omega (arith, c.type_inv.page i) in
    let shallow : list_all fits_old (names_of page) ≡ true = over_names page ∙ sym c.depths_fit.ensures ∙ c.if-not-depths_fit.false in
    let both : (_ ≡ (to_old_outcome page (length c.args.out.now)).answer) × (_ ≡ leaves (to_old_outcome page (length c.args.out.now)) c.args.out.now) =
    refused _ _ _ (to_short page _ octets sound.0 sound.1 shallow (omega arith))
    in record { value = both.0; out_after = both.1 }

pub write_old-requires : goal.write_old-requires
write_old-requires c =
    let page = c.args.page.now in
    let sound = page_counts limit page (sym c.check_page.ensures ∙ c.in_ok-n.was) in
    (sound.0, over_names page ∙ sym c.depths_fit.ensures ∙ c.if-not-depths_fit.false, omega arith)

pub returns : goal.returns
returns c =
    let page = c.args.page.now in
    let sound = page_counts limit page (sym c.check_page.ensures ∙ c.in_ok-n.was) in
    let octets : Octets page = λ i. omega (arith, c.type_inv.page i) in
    let shallow : list_all fits_old (names_of page) ≡ true = over_names page ∙ sym c.depths_fit.ensures ∙ c.if-not-depths_fit.false in
    let both : (_ ≡ (to_old_outcome page (length c.args.out.now)).answer) × (_ ≡ leaves (to_old_outcome page (length c.args.out.now)) c.args.out.now) =
    accepted _ _ _ _ _ (to_done page (length c.args.out.now) octets sound.0 sound.1 shallow (omega arith)) c.write_old.ensures
    in record { value = ap Ok sound.2 ∙ both.0; out_after = both.1 }
