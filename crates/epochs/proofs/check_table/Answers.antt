-- `epochs::check_table` meets its contract. Assumes nothing.
use mathlib.Core.Path.{sym, ◌∙◌}
use Rattle.epochs.specs.Calls.{check_table}
use Rattle.epoch_tree.proofs.TableBytes.{length_entries}
use Rattle.epochs.proofs.check_table.Goals as goal

pub returns-then-not-table_ok : goal.returns-then-not-table_ok
unfolding check_table
returns-then-not-table_ok c = simp (sym c.table_ok.ensures ∙ c.if-not-table_ok.true)

pub returns : goal.returns
unfolding check_table
returns c =
    let kept = sym c.table_ok.ensures ∙ c.if-not-table_ok.false in
    simp (kept, length_entries c.args.table.now)
