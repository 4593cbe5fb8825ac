-- `kadalumbir::kadalumbir_group_remove` meets its contract. Assumes nothing.
use mathlib.Core.Path.{ap, ◌∙◌}
use lib.ListN.{length}
use Rattle.kadalumbir.specs.Library.{packed}
use Rattle.kadalumbir.proofs.Counts.{remove_form_count}
use Rattle.kadalumbir.proofs.kadalumbir_group_remove.Goals as goal

pub pack-requires : goal.pack-requires
pack-requires c = rw c.remove.ensures.value (remove_form_count c.args.form.now c.args.slot.now (length c.args.out.now))

pub returns : goal.returns
returns c =
    record {
      value = c.pack.ensures ∙ ap packed c.remove.ensures.value;
      out_after = c.remove.ensures.out_after;
    }
