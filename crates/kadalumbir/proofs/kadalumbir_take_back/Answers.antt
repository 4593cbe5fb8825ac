-- `kadalumbir::kadalumbir_take_back` meets its contract. Assumes nothing.
use mathlib.Core.Path.{ap, ◌∙◌}
use lib.ListN.{length}
use Rattle.kadalumbir.specs.Library.{packed}
use Rattle.kadalumbir.proofs.Counts.{take_back_count}
use Rattle.kadalumbir.proofs.kadalumbir_take_back.Goals as goal

pub pack-requires : goal.pack-requires
pack-requires c = rw c.take_back.ensures.value (take_back_count c.args.page.now c.args.log.now (record { node = c.args.node; sequence = c.args.sequence }) (length c.args.out.now))

pub returns : goal.returns
returns c =
    record {
      value = c.pack.ensures ∙ ap packed c.take_back.ensures.value;
      out_after = c.take_back.ensures.out_after;
    }
