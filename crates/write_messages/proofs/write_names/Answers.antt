-- `write_messages::write_names` meets its contract. Assumes nothing.
use Rattle.slots.specs.Tuples.{row_at}
use Rattle.write_messages.proofs.NamesIntoFields.{filling_first, filling_fits, filling_on, filling_end}
use Rattle.write_messages.proofs.write_names.Goals as goal

pub loop-k-init : goal.loop-k-init
loop-k-init c = filling_first c.args.names.now c.args.p c.args.out.now

pub write_name-place-requires : goal.write_name-place-requires
write_name-place-requires c =
    let name = c.span_of in
    (name.ensures.0, filling_fits c.loop-k.invariant c.loop-k-test.true (row_at c.args.names.now name.result) name.ensures.1 c.requires)

pub loop-k-preserved : goal.loop-k-preserved
loop-k-preserved c =
    let name = c.span_of in
    let w = c.write_name-place in
    filling_on c.loop-k.invariant c.loop-k-test.true (row_at c.args.names.now name.result) name.ensures.1 c.requires w.new.out w.result w.ensures.out_after w.ensures.value

pub returns-clause-value : goal.returns-clause-value
returns-clause-value c = (filling_end c.loop-k.invariant c.loop-k-test.false).0

pub returns-clause-out_after : goal.returns-clause-out_after
returns-clause-out_after c = (filling_end c.loop-k.invariant c.loop-k-test.false).1
