-- `kadalumbir::kadalumbir_ungroup` meets its contract. Assumes nothing.
use mathlib.Core.Path.{ap, ◌∙◌}
use lib.ListN.{length}
use Rattle.kadalumbir.specs.Library.{packed}
use Rattle.kadalumbir.proofs.Counts.{ungroup_count}
use Rattle.kadalumbir.proofs.kadalumbir_ungroup.Goals as goal

pub pack-requires : goal.pack-requires
pack-requires c = rw c.ungroup.ensures.value (ungroup_count c.args.form.now (length c.args.out.now))

pub returns : goal.returns
returns c =
    record {
      value = c.pack.ensures ∙ ap packed c.ungroup.ensures.value;
      out_after = c.ungroup.ensures.out_after;
    }
