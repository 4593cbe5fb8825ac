-- `form_edits::insert` meets its contract. Assumes nothing.
use mathlib.Core.Path.{sym, ap, ◌∙◌}
use native.Mathlib.Omega.{arith}
use lib.ListN.{length}
use Rattle.std.proofs.lemmas.Result.{err_from_is_err_and}
use Rattle.numbers.specs.Bytes.{Octets}
use Rattle.slots.specs.Tuples.{row_at}
use Rattle.slots.proofs.RoundTrip.{kept}
use Rattle.answers.proofs.Outcomes.{refused}
use Rattle.forms.specs.declared.Looked.{Looked}
use Rattle.form_edits.specs.Edits.{place_in, Edited}
use Rattle.form_edits.proofs.Outcomes.{all_passed, insert_refused}
use Rattle.form_edits.proofs.insert.Goals as goal

pub insert_into-requires : goal.insert_into-requires
insert_into-requires c =
    let s = c.args.form.now in
    let t = c.args.slot.now in
    let p = all_passed s t (row_at t c.name_in-name.result) (sym c.check_edit.ensures ∙ c.in_ok-looked.was) in
    let n = c.name_in-name.ensures.result_value (kept t p.1).long in
    let e : Edited s t c.name_in-name.result = record { tests = p.0; keeps = p.1; lies = c.name_in-name.ensures.lies; named = n } in
    (e, ap (λ (l : Looked). l.slots) p.2, ap (λ (l : Looked). l.place) p.2 ∙ ap (place_in s) n)

pub returns-in_err-looked-clause-value : goal.returns-in_err-looked-clause-value
returns-in_err-looked-clause-value c =
    let slot_octets : Octets c.args.slot.now = λ i. omega (arith, c.type_inv.slot i) in
    let told = err_from_is_err_and c.from_residual.result c.from_residual.ensures.1 in
    rw (told.1, told.2)
    (refused _ _ c.args.out.now
    (insert_refused c.args.form.now c.args.slot.now (row_at c.args.slot.now c.name_in-name.result) slot_octets (length c.args.out.now) _ (sym c.check_edit.ensures ∙ c.in_err-looked.was))).0

pub returns-in_err-looked-clause-out_after : goal.returns-in_err-looked-clause-out_after
returns-in_err-looked-clause-out_after c =
    let slot_octets : Octets c.args.slot.now = λ i. omega (arith, c.type_inv.slot i) in
    (refused _ _ c.args.out.now
    (insert_refused c.args.form.now c.args.slot.now (row_at c.args.slot.now c.name_in-name.result) slot_octets (length c.args.out.now) _ (sym c.check_edit.ensures ∙ c.in_err-looked.was))).1
