-- `kadalumbir::kadalumbir_from_old` meets its contract. Assumes nothing.
use mathlib.Core.Path.{ap, ◌∙◌}
use lib.ListN.{length}
use Rattle.kadalumbir.specs.Library.{packed}
use Rattle.kadalumbir.proofs.Counts.{from_old_count}
use Rattle.kadalumbir.proofs.kadalumbir_from_old.Goals as goal

pub pack-requires : goal.pack-requires
pack-requires c = rw c.from_old.ensures.value (from_old_count c.args.old.now (length c.args.out.now))

pub returns : goal.returns
returns c =
    record {
      value = c.pack.ensures ∙ ap packed c.from_old.ensures.value;
      out_after = c.from_old.ensures.out_after;
    }
