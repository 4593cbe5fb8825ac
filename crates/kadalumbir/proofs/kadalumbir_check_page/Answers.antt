-- `kadalumbir::kadalumbir_check_page` meets its contract. Assumes nothing.
use mathlib.Core.Path.{ap, ◌∙◌}
use Rattle.kadalumbir.specs.Library.{packed}
use Rattle.kadalumbir.proofs.Counts.{check_page_count}
use Rattle.kadalumbir.proofs.kadalumbir_check_page.Goals as goal

pub pack-requires : goal.pack-requires
pack-requires c = rw c.check_page.ensures (check_page_count c.args.page.now)

pub returns : goal.returns
returns c = c.pack.ensures ∙ ap packed c.check_page.ensures
