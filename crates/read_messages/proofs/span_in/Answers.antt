-- `read_messages::span_in` meets its contract. Assumes nothing.
use native.Mathlib.Omega.{arith}
use Rattle.name_fields.proofs.NameAt.{name_long, tuples_at_lem}
use Rattle.messages.specs.Messages.{name_tag}
use Rattle.read_messages.proofs.span_in.Goals as goal

pub returns : goal.returns
returns c =
    let s = c.args.message.now in
    let p = c.args.cursor.at in
    let v = name_long name_tag s p c.requires in
    let e = c.size_at-count.ensures.0 in
    (omega arith, tuples_at_lem s p c.size_at-count.result e)
