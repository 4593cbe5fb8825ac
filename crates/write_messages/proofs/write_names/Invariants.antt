-- `write_messages::write_names` meets its contract. Assumes nothing.
use Rattle.write_messages.proofs.NamesIntoFields.{Filling}
use Rattle.write_messages.proofs.write_names.Given as goal

abbrev pub invariant-loop-k : goal.invariant-loop-k
invariant-loop-k l = Filling l.names l.p l.initial.out l.out l.place l.k
