-- `name_values::empty` meets its contract. Assumes nothing.
use lib.ListN.{replicate}
use Rattle.names.specs.Names.{limit}
use Rattle.name_values.proofs.empty.Goals as goal

pub returns : goal.returns
returns c = λ i. record { depth = 0; tuples = replicate limit (c.low_marker.ensures i) }
