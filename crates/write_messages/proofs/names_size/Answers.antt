-- `write_messages::names_size` meets its contract. Assumes nothing.
use mathlib.Core.Path.{ap}
use native.Mathlib.Omega.{arith}
use lib.ListN.{length}
use Rattle.slots.specs.Tuples.{row_at}
use Rattle.pages.proofs.RoundTrip.{laid}
use Rattle.name_fields.proofs.NameAt.{field_size}
use Rattle.messages.specs.Messages.{name_tag}
use Rattle.write_messages.proofs.NamesIntoFields.{size_next, size_end}
use Rattle.write_messages.proofs.names_size.Goals as goal

pub loop-k-preserved : goal.loop-k-preserved
loop-k-preserved c =
    let s = c.args.names.now in
    let name = c.span_of in
    let e = size_next s c.loop-k.k c.loop-k-test.true (row_at s name.result) name.ensures.1 in
    let l = field_size name_tag s name.result in
    (omega arith, omega arith)

pub returns : goal.returns
returns c =
    let few = (laid c.args.names.now c.requires).few in
    let e = ap length (size_end c.args.names.now c.loop-k.k c.loop-k-test.false) in
    (omega arith, omega arith)
