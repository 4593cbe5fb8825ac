-- `forms::look` meets its contract. Assumes nothing.
use mathlib.Core.Path.{sym, ◌∙◌, subst}
use mathlib.Core.Bool.{true}
use native.Mathlib.Omega.{arith}
use Rattle.slots.specs.Tuples.{row_at}
use Rattle.forms.specs.declared.Block.{Block}
use Rattle.forms.specs.Blocks.{nowhere}
use Rattle.forms.proofs.GroupsInBlocks.{group_named}
use Rattle.forms.proofs.Looking.{Looking, looking_first, looking_end, looking_unstood, looking_bad, looking_joins, looking_further, looking_rises, looking_falls}
use Rattle.forms.proofs.look.Goals as goal
use Rattle.forms.proofs.look.Goals.{in-Falls, in-Rises}

pub loop-at-init : goal.loop-at-init
loop-at-init c =
    let s = c.args.form.now in
    let x = row_at c.args.slot.now c.args.name in
    subst (λ (b : Block). Looking s x nowhere b true 0 0) (sym c.no_block-last.ensures) (looking_first s x)

pub returns-in_err-block : goal.returns-in_err-block
returns-in_err-block c = c.from_residual.ensures ∙ looking_unstood c.loop-at.invariant c.loop-at-test.true c.in_err-block.ensures.value

pub returns-then-not-group_ok : goal.returns-then-not-group_ok
returns-then-not-group_ok c = looking_bad c.loop-at.invariant c.in_ok-block.ensures.value (sym c.group_ok.ensures ∙ c.if-not-group_ok.true)

pub after_block-requires : goal.after_block-requires
after_block-requires c =
    let f = sym c.group_ok.ensures ∙ c.if-not-group_ok.false in
    (c.loop-at.invariant.sound, c.in_ok-block.ensures.stood.0, (group_named c.args.form.now c.in_ok-block.block f).named)

pub returns-in-Joins : goal.returns-in-Joins
returns-in-Joins c = looking_joins c.loop-at.invariant c.in_ok-block.ensures.value (sym c.after_block.ensures ∙ c.in-Joins.is)

pub loop-at-smaller : goal.loop-at-smaller
loop-at-smaller c =
    let l = looking_further c.loop-at.invariant c.in_ok-block.ensures.value in
    omega (arith, c.end_of-at.ensures, c.loop-at-test.true)

pub loop-at-preserved : goal.loop-at-preserved
loop-at-preserved c =
    let v = c.loop-at.invariant in
    let b = c.in_ok-block.ensures.value in
    let u = c.in_ok-block.ensures.stood in
    let f = sym c.group_ok.ensures ∙ c.if-not-group_ok.false in
    let p = c.seek-place.ensures in
    let e = c.end_of-at.ensures in
    let o = sym c.after_block.ensures in
    elim c.match-after_block.branch [ in-Falls w ↦ looking_falls v b u f p e (o ∙ w.in-Falls.is) w.rises-is | in-Rises w ↦ looking_rises v b u f p e (o ∙ w.in-Rises.is) w.rises-is ]

pub returns : goal.returns
returns c = looking_end c.loop-at.invariant (omega arith)
