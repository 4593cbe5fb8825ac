-- `read_messages::numbers_stand` meets its contract. Assumes nothing.
use mathlib.Core.Path.{◌≡◌, ◌∙◌, sym, ap}
use Prim.Native.Nat.{ℕ, ◌+◌}
use native.Mathlib.Omega.{arith}
use lib.ListN.{drop}
use lib.Seq.{drop-drop}
use Rattle.fields.specs.Fields.{stands}
use Rattle.fields.proofs.FieldAt.{stands_long}
use Rattle.messages.specs.Messages.{kind_tag, epoch_tag, author_tag, kind_size, pair_size, epoch_place, author_place}
use Rattle.read_messages.proofs.numbers_stand.Goals as goal

pub returns-then-not-field_stands-2 : goal.returns-then-not-field_stands-2
returns-then-not-field_stands-2 c =
    let s = c.args.message.now in
    let p = c.args.cursor.at in
    let h = sym c.field_stands.ensures ∙ c.if-not-field_stands.false in
    let v = stands_long s p kind_tag kind_size h in
    let e : c.after_field-epoch.result.at ≡ p + epoch_place = let z = v.1 in let y = c.after_field-epoch.ensures in omega arith in
    let g = sym c.field_stands-2.ensures ∙ c.if-not-field_stands-2.true in
    sym (rw (drop-drop epoch_place p s, h, ap (λ (n : ℕ). stands epoch_tag pair_size (drop n s)) (sym e) ∙ g))

pub returns : goal.returns
returns c =
    let s = c.args.message.now in
    let p = c.args.cursor.at in
    let h = sym c.field_stands.ensures ∙ c.if-not-field_stands.false in
    let v = stands_long s p kind_tag kind_size h in
    let e : c.after_field-epoch.result.at ≡ p + epoch_place = let z = v.1 in let y = c.after_field-epoch.ensures in omega arith in
    let g = sym c.field_stands-2.ensures ∙ c.if-not-field_stands-2.false in
    let w = stands_long s c.after_field-epoch.result.at epoch_tag pair_size g in
    let a : c.after_field-author.result.at ≡ p + author_place = let z = w.1 in let y = c.after_field-author.ensures in omega arith in
    let stood = ap (λ (n : ℕ). stands epoch_tag pair_size (drop n s)) (sym e) ∙ g in
    c.field_stands-3.ensures
    ∙ ap (λ (n : ℕ). stands author_tag pair_size (drop n s)) a
    ∙ sym (rw (drop-drop epoch_place p s, drop-drop author_place p s, h, stood))
