-- `kadalumbir::kadalumbir_check_log` meets its contract. Assumes nothing.
use mathlib.Core.Path.{ap, ◌∙◌}
use Rattle.kadalumbir.specs.Library.{packed}
use Rattle.kadalumbir.proofs.Counts.{check_log_count}
use Rattle.kadalumbir.proofs.kadalumbir_check_log.Goals as goal

pub pack-requires : goal.pack-requires
pack-requires c = rw c.check_log.ensures (check_log_count c.args.log.now)

pub returns : goal.returns
returns c = c.pack.ensures ∙ ap packed c.check_log.ensures
