-- `old_pages::from_old` meets its contract. Assumes nothing.
use mathlib.Core.Path.{ap, ◌≡◌, ◌∙◌, sym}
use native.Mathlib.Omega.{arith}
use lib.ListN.{length}
use Rattle.std.proofs.lemmas.Result.{err_from_is_err_and}
use Rattle.std.specs.declared.result.Result.TheVariants.{Ok}
use Rattle.numbers.specs.Bytes.{Octets}
use Rattle.answers.proofs.Outcomes.{refused, accepted}
use Rattle.answers.specs.Answers.{leaves}
use Rattle.old_pages.specs.OldPages.{old_limit, from_old_outcome}
use Rattle.pages.proofs.Checked.{page_counts}
use Rattle.old_pages.proofs.Outcomes.{from_refused, from_short, from_done}
use Rattle.old_pages.proofs.from_old.Goals as goal

pub returns-in_err-n-clause-value : goal.returns-in_err-n-clause-value
returns-in_err-n-clause-value c =
    let told = err_from_is_err_and c.from_residual.result c.from_residual.ensures.1 in
    rw (told.1, told.2) (refused _ _ c.args.out.now (from_refused c.args.old.now (length c.args.out.now) (sym c.check_over.ensures ∙ c.in_err-n.was))).0

pub returns-in_err-n-clause-out_after : goal.returns-in_err-n-clause-out_after
returns-in_err-n-clause-out_after c =
    (refused _ _ c.args.out.now (from_refused c.args.old.now (length c.args.out.now) (sym c.check_over.ensures ∙ c.in_err-n.was))).1

pub overflow_mul-n : goal.overflow_mul-n
overflow_mul-n c =
    let sound = page_counts old_limit c.args.old.now (sym c.check_over.ensures ∙ c.in_ok-n.was) in
    omega arith

pub returns-then-out-n : goal.returns-then-out-n
returns-then-out-n c =
    let old = c.args.old.now in
    let sound = page_counts old_limit old (sym c.check_over.ensures ∙ c.in_ok-n.was) in
    let octets : Octets old = λ i. omega (arith, c.type_inv.old i) in
    let both : (_ ≡ (from_old_outcome old (length c.args.out.now)).answer) × (_ ≡ leaves (from_old_outcome old (length c.args.out.now)) c.args.out.now) =
    refused _ _ _ (from_short old _ octets sound.0 sound.1 (omega arith))
    in record { value = both.0; out_after = both.1 }

pub write_new-requires : goal.write_new-requires
write_new-requires c =
    let sound = page_counts old_limit c.args.old.now (sym c.check_over.ensures ∙ c.in_ok-n.was) in
    (sound.0, omega arith)

pub returns : goal.returns
returns c =
    let old = c.args.old.now in
    let sound = page_counts old_limit old (sym c.check_over.ensures ∙ c.in_ok-n.was) in
    let octets : Octets old = λ i. omega (arith, c.type_inv.old i) in
    let both : (_ ≡ (from_old_outcome old (length c.args.out.now)).answer) × (_ ≡ leaves (from_old_outcome old (length c.args.out.now)) c.args.out.now) =
    accepted _ _ _ _ _ (from_done old (length c.args.out.now) octets sound.0 sound.1 (omega arith)) c.write_new.ensures
    in record { value = ap Ok sound.2 ∙ both.0; out_after = both.1 }
