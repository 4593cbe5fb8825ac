-- `forms::after_block` meets its contract. Assumes nothing.
use mathlib.Core.Path.{◌≡◌, ap, ◌∙◌}
use Prim.Native.Nat.{◌≤◌}
use native.Mathlib.Omega.{arith}
use Rattle.slots.specs.Tuples.{tuples_at, row_at}
use Rattle.slots.proofs.RoundTrip.{name_long}
use Rattle.runs.specs.declared.Stand.{Stand}
use Rattle.forms.specs.Blocks.{group_of, after_run}
use Rattle.forms.proofs.GroupsInBlocks.{group_size, group_named, after_exactly, after_none}
use Rattle.forms.proofs.after_block.Goals as goal

pub returns-then-last-lt1 : goal.returns-then-last-lt1
returns-then-last-lt1 c =
    let s = c.args.form.now in
    let x = c.args.last in
    let b = row_at s c.args.name in
    let z : x.count ≡ 0 = omega (arith, c.if-last-lt1.true) in
    after_none (group_of s x) b (ap (tuples_at s x.name.at) (c.requires.0.1 z)) (group_size s x ∙ z) (name_long b c.requires.2)

pub beside-requires : goal.beside-requires
beside-requires c =
    let s = c.args.form.now in
    let x = c.args.last in
    let h : 1 ≤ x.count = omega (arith, c.if-last-lt1.false) in
    let v = group_named s x (c.requires.0.2 h) in
    (c.requires.0.0.0, v.named, v.deep, c.requires.1)

pub returns : goal.returns
returns c =
    let s = c.args.form.now in
    let x = c.args.last in
    let h : 1 ≤ x.count = omega (arith, c.if-last-lt1.false) in
    let v = group_named s x (c.requires.0.2 h) in
    c.after_run.ensures
    ∙ ap (λ (r : Stand). after_run r x.count) c.beside.ensures
    ∙ after_exactly (group_of s x) (row_at s c.args.name) v.named (group_size s x) h
