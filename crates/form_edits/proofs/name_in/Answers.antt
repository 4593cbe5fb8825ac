-- `form_edits::name_in` meets its contract. Assumes nothing.
use Rattle.slots.proofs.NameTests.{name_is}
use Rattle.form_edits.proofs.name_in.Goals as goal

pub returns-clause-result_value : goal.returns-clause-result_value
returns-clause-result_value c = λ e. name_is c.args.slot.now c.depth-count.result c.depth-count.ensures
