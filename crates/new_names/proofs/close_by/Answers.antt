-- `new_names::close_by` meets its contract. Assumes nothing.
use Prim.Native.Nat.{◌<◌, ◌≤◌}
use mathlib.Core.Path.{◌∙◌, sym}
use lib.ListN.{length}
use Rattle.slots.specs.Tuples.{row_at}
use Rattle.slots.proofs.TuplesInBytes.{length_tuples_at, get_or_tuples_at}
use Rattle.new_names.proofs.Rules.{close_short, close_apart, close_before}
use Rattle.new_names.proofs.PartsOfNames.{given}
use Rattle.new_names.proofs.close_by.Goals as goal

pub returns-then-b-a : goal.returns-then-b-a
returns-then-b-a c =
    let s = c.args.page.now in
    let x = c.args.a in
    let y = c.args.b in
    let a = row_at s x in
    let b = row_at s y in
    let h : length b ≤ length a = rw (length_tuples_at s x.at x.count, length_tuples_at s y.at y.count) c.if-b-a.true in
    given s c.right_after.result (close_short c.args.author a b h) (c.right_after.ensures s c.requires.0)

pub returns-then-not-is_prefix : goal.returns-then-not-is_prefix
returns-then-not-is_prefix c =
    let s = c.args.page.now in
    let x = c.args.a in
    let y = c.args.b in
    let a = row_at s x in
    let b = row_at s y in
    let p = c.is_prefix in
    let g = close_apart c.args.author a b x.count p.ensures c.if-not-is_prefix.true in
    given s c.right_after-then-not-is_prefix.result g (c.right_after-then-not-is_prefix.ensures s c.requires.0)

pub returns : goal.returns
returns c =
    let s = c.args.page.now in
    let x = c.args.a in
    let y = c.args.b in
    let a = row_at s x in
    let b = row_at s y in
    let p = c.is_prefix in
    let f = c.if-not-is_prefix.false in
    let h : x.count < length b = rw (length_tuples_at s y.at y.count) c.if-b-a.false in
    let t = c.read_tuple-y.ensures ∙ sym (get_or_tuples_at s y.at y.count x.count c.if-b-a.false) in
    let g = close_before c.args.author a b x.count p.ensures f h t in
    given s c.before_tuple.result g (c.before_tuple.ensures s c.requires.0)
