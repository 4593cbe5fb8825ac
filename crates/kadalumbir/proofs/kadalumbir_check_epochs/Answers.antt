-- `kadalumbir::kadalumbir_check_epochs` meets its contract. Assumes nothing.
use mathlib.Core.Path.{ap, ◌∙◌}
use Rattle.kadalumbir.specs.Library.{packed}
use Rattle.kadalumbir.proofs.Counts.{check_table_count}
use Rattle.kadalumbir.proofs.kadalumbir_check_epochs.Goals as goal

pub pack-requires : goal.pack-requires
pack-requires c = rw c.check_table.ensures (check_table_count c.args.table.now)

pub returns : goal.returns
returns c = c.pack.ensures ∙ ap packed c.check_table.ensures
