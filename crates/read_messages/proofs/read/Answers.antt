-- `read_messages::read` meets its contract. Assumes nothing.
use mathlib.Core.Path.{◌≡◌, ◌∙◌, sym, ap}
use mathlib.Core.List.{List}
use Prim.Native.Nat.{ℕ, ◌*◌, ◌<◌, ◌≤◌}
use native.Mathlib.Omega.{arith}
use lib.ListN.{length, drop}
use Rattle.names.specs.Ordering.{Row}
use Rattle.numbers.specs.Bytes.{Bytes, put}
use Rattle.slots.specs.Slots.{slot_size}
use Rattle.std.specs.declared.result.Result.TheVariants.{Ok}
use Rattle.answers.specs.declared.Refusal.TheVariants.{Malformed, Short}
use Rattle.answers.specs.Answers.{Outcome}
use Rattle.answers.proofs.Outcomes.{refused, accepted}
use Rattle.messages.specs.Messages.{names_in, numbers_in}
use Rattle.messages.specs.Calls.{read_outcome, given_by}
use Rattle.messages.proofs.CallAnswers.{read_malformed, read_short, read_done}
use Rattle.read_messages.specs.FirstPass.{telling}
use Rattle.read_messages.proofs.SecondPassSlots.{slots_with}
use Rattle.read_messages.proofs.WhatWasTold.{told_none, told_some, names_told, told_few, told_fit}
use Rattle.read_messages.proofs.read.Goals as goal

-- the reader begins at the beginning
from_start : {p : ℕ} → p ≡ 0 → {s t : Bytes} → t ≡ s → telling (drop p t) ≡ telling s
from_start e f = λ i. telling (drop (e i) (f i))

pub returns-in_default : goal.returns-in_default
returns-in_default c =
    let s = c.args.message.now in
    let o = c.args.out.now in
    let here = from_start c.of.ensures.1 {s = s} (λ i. (c.of.ensures.0 i).now) in
    let e = read_malformed s (length o) (told_none s (sym (c.in_default.ensures ∙ here))) in
    let f = refused (read_outcome s (length o)) Malformed o e in
    record {
      count = tt;
      numbers = tt;
      refusal = sym f.0;
      out_after = f.1;
    }

pub returns-then-out-told : goal.returns-then-out-told
returns-then-out-told c =
    let s = c.args.message.now in
    let o = c.args.out.now in
    let here = from_start c.of.ensures.1 {s = s} (λ i. (c.of.ensures.0 i).now) in
    let told = told_some s c.in-Some.told (sym (c.in-Some.ensures ∙ here)) in
    let l : length o < slot_size * length (names_in s) = let n = told.1 in omega arith in
    let f = refused (read_outcome s (length o)) Short o (read_short s (length o) told.0 l) in
    record {
      count = tt;
      numbers = tt;
      refusal = sym f.0;
      out_after = f.1;
    }

pub write_slots-requires : goal.write_slots-requires
write_slots-requires c =
    let s = c.args.message.now in
    let here = from_start c.of.ensures.1 {s = s} (λ i. (c.of.ensures.0 i).now) in
    let told = told_some s c.in-Some.told (sym (c.in-Some.ensures ∙ here)) in
    (told_few s told.0 c.in-Some.told.names told.1, told_fit s told.0 c.in-Some.told.names told.1, omega arith)

pub returns : goal.returns
returns c =
    let s = c.args.message.now in
    let o = c.args.out.now in
    let here = from_start c.of.ensures.1 {s = s} (λ i. (c.of.ensures.0 i).now) in
    let told = told_some s c.in-Some.told (sym (c.in-Some.ensures ∙ here)) in
    let count = c.in-Some.told.names in
    let all = slots_with (names_in s) in
    let l : slot_size * length (names_in s) ≤ length o = let n = told.1 in omega arith in
    let e = read_done s (length o) told.0 l ∙ (λ i. record { answer = Ok (told.1 i); bytes = all }) in
    let w = c.write_slots.ensures ∙ ap (λ (r : List Row). put o 0 (slots_with r)) (names_told s told.0 count told.1) in
    let f = accepted (read_outcome s (length o)) count all o c.write_slots.new.out e w in
    record {
      count = sym f.0;
      numbers = sym told.2 ∙ sym (ap (λ (x : Outcome). given_by x.answer (numbers_in s)) e);
      refusal = tt;
      out_after = f.1;
    }
