-- `epochs::Tree::next_step` meets its contract. Assumes nothing.
use Rattle.std.proofs.Common.{◌<◌, length, arith}
use Rattle.epoch_tree.specs.Tables.{entries_in}
use Rattle.epoch_tree.specs.Tree.{target}
use Rattle.epoch_tree.proofs.OrderAndTarget.{target_in}
use Rattle.epoch_tree.proofs.TableFacts.{table}
use Rattle.epochs.proofs.Entries.{length_in}
use Rattle.epochs.proofs.Tree.next_step.Goals as goal

pub step_to-requires : goal.step_to-requires
step_to-requires c =
    let t = entries_in c.args.self.now.entries.now in
    let inside : target t < length t = target_in t (table t c.args.self.now.is_table) in
    let n = length_in c.args.self.now.entries.now in
    let d = c.target.ensures in
    (omega arith, c.requires)
