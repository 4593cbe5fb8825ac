-- `epochs::Tree::step_to` meets its contract. Assumes nothing.
use Rattle.std.proofs.Common.{sym, ap, ◌∙◌, ℕ, ◌<◌, arith}
use Rattle.epoch_tree.specs.declared.Step.TheVariants.{Up}
use Rattle.epoch_tree.specs.Tables.{entries_in}
use Rattle.epoch_tree.specs.Tree.{parent_of, step_to}
use Rattle.epoch_tree.proofs.StepByParent.{step_there, step_up, step_child, step_higher}
use Rattle.epoch_tree.proofs.TableFacts.{table}
use Rattle.epochs.proofs.Tree.step_to.Goals as goal

pub returns-then-d-c : goal.returns-then-d-c
returns-then-d-c c =
    let t = entries_in c.args.self.now.entries.now in
    sym (step_there t c.args.c) ∙ ap (λ (d : ℕ). step_to t d c.args.c) (sym c.if-d-c.true)

pub returns-then-d-c-2 : goal.returns-then-d-c-2
returns-then-d-c-2 c =
    let t = entries_in c.args.self.now.entries.now in
    ap Up c.parent.ensures ∙ sym (step_up t (table t c.args.self.now.is_table) c.args.d c.args.c c.if-d-c-2.true)

pub returns-then-parent-c : goal.returns-then-parent-c
returns-then-parent-c c =
    let t = entries_in c.args.self.now.entries.now in
    let child = step_child t (table t c.args.self.now.is_table) c.above-child.result c.args.c c.above-child.ensures.lower_bound.0 in
    sym (child (sym c.parent-2.ensures ∙ c.if-parent-c.true)) ∙ c.above-child.ensures.c_value

pub returns : goal.returns
returns c =
    let t = entries_in c.args.self.now.entries.now in
    let h = table t c.args.self.now.is_table in
    let child = c.above-child.result in
    let q = c.parent-2.ensures in
    let higher = step_higher t h child c.args.c c.above-child.ensures.lower_bound.0 (λ e. c.if-parent-c.false (q ∙ e)) in
    let below : parent_of t child < c.args.c = omega arith in
    let up = step_up t h (parent_of t child) c.args.c below in
    ap Up c.parent-3.ensures ∙ sym up ∙ sym higher ∙ c.above-child.ensures.c_value
