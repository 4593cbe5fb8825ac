-- `kadalumbir::kadalumbir_rename` meets its contract. Assumes nothing.
use mathlib.Core.Path.{ap, ◌∙◌}
use lib.ListN.{length}
use Rattle.kadalumbir.specs.Library.{packed}
use Rattle.kadalumbir.proofs.Counts.{rename_count}
use Rattle.kadalumbir.proofs.kadalumbir_rename.Goals as goal

pub pack-requires : goal.pack-requires
pack-requires c = rw c.rename.ensures.value (rename_count c.args.page.now c.args.log.now (record { node = c.args.node; sequence = c.args.sequence }) (length c.args.out.now))

pub returns : goal.returns
returns c =
    record {
      value = c.pack.ensures ∙ ap packed c.rename.ensures.value;
      out_after = c.rename.ensures.out_after;
    }
