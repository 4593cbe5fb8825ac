-- `kadalumbir::kadalumbir_to_old` meets its contract. Assumes nothing.
use mathlib.Core.Path.{ap, ◌∙◌}
use lib.ListN.{length}
use Rattle.kadalumbir.specs.Library.{packed}
use Rattle.kadalumbir.proofs.Counts.{to_old_count}
use Rattle.kadalumbir.proofs.kadalumbir_to_old.Goals as goal

pub pack-requires : goal.pack-requires
pack-requires c = rw c.to_old.ensures.value (to_old_count c.args.page.now (length c.args.out.now))

pub returns : goal.returns
returns c =
    record {
      value = c.pack.ensures ∙ ap packed c.to_old.ensures.value;
      out_after = c.to_old.ensures.out_after;
    }
