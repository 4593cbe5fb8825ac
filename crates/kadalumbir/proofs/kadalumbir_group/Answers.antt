-- `kadalumbir::kadalumbir_group` meets its contract. Assumes nothing.
use mathlib.Core.Path.{ap, ◌∙◌}
use lib.ListN.{length}
use Rattle.kadalumbir.specs.Library.{packed}
use Rattle.kadalumbir.proofs.Counts.{group_count}
use Rattle.kadalumbir.proofs.kadalumbir_group.Goals as goal

pub pack-requires : goal.pack-requires
pack-requires c = rw c.group.ensures.value (group_count c.args.page.now (length c.args.out.now))

pub returns : goal.returns
returns c =
    record {
      value = c.pack.ensures ∙ ap packed c.group.ensures.value;
      out_after = c.group.ensures.out_after;
    }
