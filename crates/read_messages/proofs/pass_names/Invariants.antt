-- `read_messages::pass_names` meets its contract. Assumes nothing.
use Rattle.read_messages.proofs.FirstPassNames.{Passing}
use Rattle.read_messages.proofs.pass_names.Given as goal

abbrev pub invariant-loop-names : goal.invariant-loop-names
invariant-loop-names l = Passing l.message l.initial.end.at l.most l.last l.end.at l.names
