use mathlib.Core.Path.{◌∙◌}
use Rattle.one_name.specs.Markers.{unmarked_from}
use Rattle.one_name.proofs.EachName.{named, none_left}
use Rattle.one_name.proofs.all_unmarked.Goals as goal

pub is_unmarked-requires : goal.is_unmarked-requires
is_unmarked-requires c = (c.span_of.ensures.0, named c.args.log.now c.loop-k.k c.requires.0 c.loop-k-test.true c.span_of.ensures.1, c.requires.1)

pub returns : goal.returns
returns c = none_left c.args.log.now c.loop-k.k (unmarked_from c.args.from) c.loop-k-test.false ∙ c.loop-k.invariant
