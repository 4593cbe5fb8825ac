-- `write_messages::write` meets its contract. Assumes nothing.
use mathlib.Core.Path.{◌∙◌, sym}
use Prim.Native.Nat.{◌<◌, ◌≤◌}
use native.Mathlib.Omega.{arith}
use lib.ListN.{length}
use Rattle.std.specs.declared.result.Result.TheVariants.{Ok}
use Rattle.answers.specs.declared.Refusal.TheVariants.{Malformed, Short}
use Rattle.answers.proofs.Outcomes.{refused, accepted}
use Rattle.messages.specs.Messages.{message_bytes}
use Rattle.messages.specs.Calls.{parts_given, write_outcome}
use Rattle.messages.proofs.CallAnswers.{write_malformed, write_too_long, write_done}
use Rattle.write_messages.proofs.write.Goals as goal

pub returns-then-not-may_write : goal.returns-then-not-may_write
returns-then-not-may_write c =
    let x = c.args.numbers in
    let s = c.args.names.now in
    let o = c.args.out.now in
    let h = sym c.may_write.ensures ∙ c.if-not-may_write.true in
    let both = refused (write_outcome x s (length o)) Malformed o (write_malformed x s (length o) h) in
    record {
      value = both.0;
      out_after = both.1;
    }

pub returns-then-out-size : goal.returns-then-out-size
returns-then-out-size c =
    let x = c.args.numbers in
    let s = c.args.names.now in
    let o = c.args.out.now in
    let h = sym c.may_write.ensures ∙ c.if-not-may_write.false in
    let l : length o < length (message_bytes (parts_given x s)) = let z = c.message_size-size.ensures in omega arith in
    let both = refused (write_outcome x s (length o)) Short o (write_too_long x s (length o) h l) in
    record {
      value = both.0;
      out_after = both.1;
    }

pub returns : goal.returns
returns c =
    let x = c.args.numbers in
    let s = c.args.names.now in
    let o = c.args.out.now in
    let w = message_bytes (parts_given x s) in
    let h = sym c.may_write.ensures ∙ c.if-not-may_write.false in
    let z = c.message_size-size.ensures in
    let l : length w ≤ length o = omega arith in
    let e = write_done x s (length o) h l ∙ (λ i. record { answer = Ok (sym z i); bytes = w }) in
    let both = accepted (write_outcome x s (length o)) c.message_size-size.result w o c.write_fields.new.out e c.write_fields.ensures in
    record {
      value = both.0;
      out_after = both.1;
    }
