-- `kadalumbir::write_name` meets its contract. Assumes nothing.
use mathlib.Core.Path.{◌≡◌, ap, ◌∙◌}
use lib.ListN.{length}
use borrow.Author.Tests.{le-leb, lt-leb}
use Rattle.std.specs.declared.result.Result.{Result}
use Rattle.std.specs.declared.result.Result.TheVariants.{Ok}
use Rattle.names.specs.declared.Name.{Name}
use Rattle.names.specs.Names.{row_of}
use Rattle.slots.specs.Slots.{slot_size, slot_bytes}
use Rattle.answers.specs.Answers.{refuse, leaves}
use Rattle.answers.specs.declared.Refusal.{Refusal}
use Rattle.answers.specs.declared.Refusal.TheVariants.{Short}
use Rattle.answers.proofs.Outcomes.{refused, accepted}
use Rattle.kadalumbir.specs.Library.{written}
use Rattle.kadalumbir.proofs.write_name.Goals as goal

pub returns-then-out-lt-SLOT : goal.returns-then-out-lt-SLOT
returns-then-out-lt-SLOT c =
    let o = c.args.out.now in
    let s : written (Ok c.in_ok-name.name) (length o) ≡ refuse Short = simp (lt-leb slot_size (length o) c.if-out-lt-SLOT.true) in
    let both : (_ ≡ (written c.args.made (length o)).answer) × (_ ≡ leaves (written c.args.made (length o)) o) =
    refused _ _ o (ap (λ (a : Result Name Refusal). written a (length o)) c.in_ok-name.was ∙ s)
    in record { value = both.0; out_after = both.1 }

pub returns : goal.returns
returns c =
    let o = c.args.out.now in
    let name = c.in_ok-name.name in
    let s : written (Ok name) (length o) ≡ record { answer = Ok 0; bytes = slot_bytes (record { line = 0; name = row_of name }) } = simp (le-leb slot_size (length o) c.if-out-lt-SLOT.false) in
    let both : (_ ≡ (written c.args.made (length o)).answer) × (_ ≡ leaves (written c.args.made (length o)) o) =
    accepted _ _ _ o _ (ap (λ (a : Result Name Refusal). written a (length o)) c.in_ok-name.was ∙ s) c.write_slot.ensures
    in record { value = both.0; out_after = both.1 }
