-- `read_messages::numbers_in` meets its contract. Assumes nothing.
use mathlib.Core.Path.{◌∙◌}
use mathlib.Core.Bool.{cond}
use lib.Dec.{eqb}
use Rattle.numbers.specs.Bytes.{at32}
use Rattle.fields.specs.Fields.{field_head}
use Rattle.messages.specs.Messages.{insert, epoch_place, author_place}
use Rattle.read_messages.proofs.AtCursor.{pair_at}
use Rattle.read_messages.proofs.numbers_in.Goals as goal

pub returns : goal.returns
returns c =
    let s = c.args.message.now in
    let p = c.args.cursor.at in
    let line = c.line_in-line.ensures ∙ (λ i. cond (eqb (c.kind_in-kind.ensures i) insert) (at32 (c.requires.names_place_in_bounds.1 i) field_head) 0) in
    λ i. record {
      kind = c.kind_in-kind.ensures i;
      epoch = (c.pair_in-epoch.ensures ∙ pair_at s p epoch_place) i;
      author = (c.pair_in-author.ensures ∙ pair_at s p author_place) i;
      line = line i;
    }
