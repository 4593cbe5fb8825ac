-- `epochs::Tree::above` meets its contract. Assumes nothing.
use Rattle.std.proofs.Common.{◌≡◌, sym, ap, ◌∙◌, ℕ, arith}
use Rattle.epoch_tree.specs.Tables.{entries_in}
use Rattle.epoch_tree.specs.Tree.{parent_of, step_to}
use Rattle.epoch_tree.proofs.StepByParent.{step_higher}
use Rattle.epoch_tree.proofs.TableFacts.{table, parent_below}
use Rattle.epochs.proofs.Tree.+above.Goals as goal

pub above-requires : goal.above-requires
above-requires t c =
    let r = entries_in c.args.self.now.entries.now in
    let less = parent_below r (table r c.args.self.now.is_table) c.args.d (omega arith) in
    let e : c.args.d ≡ t = c.decreases in
    let q = c.parent-p.ensures in
    (omega arith, (omega arith, omega arith))

pub returns-clause-c_value : goal.returns-clause-c_value
returns-clause-c_value t c =
    let r = entries_in c.args.self.now.entries.now in
    let d = c.args.d in
    let q = c.parent-p.ensures in
    let higher = step_higher r (table r c.args.self.now.is_table) d c.args.c c.requires.1 (λ e. let z : parent_of r d ≡ c.args.c = e in omega arith) in
    c.above.ensures.c_value ∙ ap (λ (p : ℕ). step_to r p c.args.c) q ∙ sym higher

pub returns-clause-lower_bound : goal.returns-clause-lower_bound
returns-clause-lower_bound t c =
    let r = entries_in c.args.self.now.entries.now in
    let less = parent_below r (table r c.args.self.now.is_table) c.args.d (omega arith) in
    let q = c.parent-p.ensures in
    (c.above.ensures.lower_bound.0, omega arith, c.above.ensures.lower_bound.2)
