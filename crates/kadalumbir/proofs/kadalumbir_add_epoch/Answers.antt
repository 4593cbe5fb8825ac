-- `kadalumbir::kadalumbir_add_epoch` meets its contract. Assumes nothing.
use mathlib.Core.Path.{ap, ◌∙◌}
use lib.ListN.{length}
use Rattle.kadalumbir.specs.Library.{packed}
use Rattle.kadalumbir.proofs.Counts.{add_count}
use Rattle.kadalumbir.proofs.kadalumbir_add_epoch.Goals as goal

pub pack-requires : goal.pack-requires
pack-requires c = rw c.add.ensures.value (add_count c.args.table.now c.args.parent (record { node = c.args.node; sequence = c.args.sequence }) c.args.count (length c.args.out.now))

pub returns : goal.returns
returns c =
    record {
      value = c.pack.ensures ∙ ap packed c.add.ensures.value;
      out_after = c.add.ensures.out_after;
    }
