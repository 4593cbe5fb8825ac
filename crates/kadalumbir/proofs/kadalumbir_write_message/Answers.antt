-- `kadalumbir::kadalumbir_write_message` meets its contract. Assumes nothing.
use mathlib.Core.Path.{ap, ◌∙◌}
use lib.ListN.{length}
use Rattle.kadalumbir.specs.Library.{packed, numbers}
use Rattle.kadalumbir.proofs.Counts.{write_message_count}
use Rattle.kadalumbir.proofs.kadalumbir_write_message.Goals as goal

pub pack-requires : goal.pack-requires
pack-requires c = rw c.write.ensures.value (write_message_count (numbers c.args.kind c.args.epoch_node c.args.epoch_sequence c.args.author_node c.args.author_sequence c.args.line) c.args.names.now (length c.args.out.now))

pub returns : goal.returns
returns c =
    record {
      value = c.pack.ensures ∙ ap packed c.write.ensures.value;
      out_after = c.write.ensures.out_after;
    }
