-- `read_messages::pass_names` meets its contract. Assumes nothing.
use mathlib.Core.Path.{◌≡◌, ◌∙◌, sym, ap, subst}
use Prim.Native.Nat.{ℕ, ◌+◌, ◌-◌}
use native.Mathlib.Omega.{arith}
use lib.ListN.{drop}
use Rattle.slots.specs.declared.Span.{Span}
use Rattle.fields.specs.Fields.{field_head}
use Rattle.name_fields.proofs.NameAt.{field_nothing, found}
use Rattle.messages.specs.Messages.{name_tag, names_within, after_names}
use Rattle.messages.proofs.NameFields.{names_stop, after_stop}
use Rattle.read_messages.proofs.FirstPassNames.{Passing, passing_first, passing_end, passing_stops, passing_on}
use Rattle.read_messages.proofs.pass_names.Goals as goal

pub loop-names-init : goal.loop-names-init
loop-names-init c = passing_first c.args.message.now c.args.cursor.at c.args.most c.requires

pub loop-names-preserved : goal.loop-names-preserved
loop-names-preserved c =
    let s = c.args.message.now in
    let p = c.loop-names.end.at in
    let n = c.in-Some.count in
    let k = c.loop-names.names in
    let f = found name_tag s p n (sym c.name_field.ensures ∙ c.in-Some.is) in
    let a : Span = record { at = p + field_head; count = n } in
    let g = sym c.name_follows.ensures ∙ c.if-not-name_follows.false in
    let v = passing_on c.loop-names.invariant c.loop-names-test.true f.stood a f.is f.within g in
    subst (λ (q : ℕ). Passing s c.args.cursor.at c.args.most a q (k + 1)) (sym f.end) v

pub returns-clause-good : goal.returns-clause-good
returns-clause-good c =
    let t = drop c.loop-names.end.at c.args.message.now in
    let z : c.args.most - c.loop-names.names ≡ 0 = omega arith in
    (passing_end c.loop-names.invariant (ap (λ (n : ℕ). names_within n t) z) (ap (λ (n : ℕ). after_names n t) z)).0

pub returns-in_default : goal.returns-in_default
returns-in_default c =
    let t = drop c.loop-names.end.at c.args.message.now in
    let m = c.args.most - c.loop-names.names in
    let e = field_nothing name_tag t (sym c.name_field.ensures ∙ c.in_default.is) in
    let w = passing_end c.loop-names.invariant (names_stop t e m) (after_stop t e m) in
    record {
      good = w.0;
      count = w.1;
      rest = (w.2, w.3);
    }

pub returns-then-not-name_follows-clause-good : goal.returns-then-not-name_follows-clause-good
returns-then-not-name_follows-clause-good c =
    let p = c.loop-names.end.at in
    let n = c.in-Some.count in
    let f = found name_tag c.args.message.now p n (sym c.name_field.ensures ∙ c.in-Some.is) in
    let g = sym c.name_follows.ensures ∙ c.if-not-name_follows.true in
    passing_stops c.loop-names.invariant c.loop-names-test.true f.stood (record { at = p + field_head; count = n }) f.is g
