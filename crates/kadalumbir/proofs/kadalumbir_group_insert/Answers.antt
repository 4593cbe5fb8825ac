-- `kadalumbir::kadalumbir_group_insert` meets its contract. Assumes nothing.
use mathlib.Core.Path.{ap, ◌∙◌}
use lib.ListN.{length}
use Rattle.kadalumbir.specs.Library.{packed}
use Rattle.kadalumbir.proofs.Counts.{insert_form_count}
use Rattle.kadalumbir.proofs.kadalumbir_group_insert.Goals as goal

pub pack-requires : goal.pack-requires
pack-requires c = rw c.insert.ensures.value (insert_form_count c.args.form.now c.args.slot.now (length c.args.out.now))

pub returns : goal.returns
returns c =
    record {
      value = c.pack.ensures ∙ ap packed c.insert.ensures.value;
      out_after = c.insert.ensures.out_after;
    }
