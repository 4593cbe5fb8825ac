-- `epochs::Tree::target` meets its contract. Assumes nothing.
use Rattle.std.proofs.Common.{◌≡◌, ap, ◌∙◌, ◌-◌, ◌<◌, ◌≤◌, length, arith}
use Rattle.epoch_tree.specs.Tables.{entries_in}
use Rattle.epoch_tree.specs.Tree.{greatest_to}
use Rattle.epoch_tree.proofs.OrderAndTarget.{greatest_in}
use Rattle.epoch_tree.proofs.TableFacts.{table}
use Rattle.epochs.proofs.Entries.{length_in}
use Rattle.epochs.proofs.Tree.target.Goals as goal

pub greater-best-requires : goal.greater-best-requires
greater-best-requires c =
    let t = entries_in c.args.self.now.entries.now in
    let k = c.loop-k.k in
    let below : greatest_to t (k - 1) ≤ k - 1 = greatest_in t (table t c.args.self.now.is_table) (k - 1) in
    let best = c.loop-k.invariant in
    (omega arith, omega arith)

pub returns : goal.returns
returns c =
    let t = entries_in c.args.self.now.entries.now in
    let some : 0 < length t = (table t c.args.self.now.is_table).some in
    let n = length_in c.args.self.now.entries.now in
    let last : c.loop-k.k - 1 ≡ length t - 1 = omega arith in
    c.loop-k.invariant ∙ ap (greatest_to t) last
