-- `read_messages::Reader::tell` meets its contract. Assumes nothing.
use mathlib.Core.Path.{sym, ap, ◌∙◌}
use native.Mathlib.Omega.{arith}
use lib.ListN.{drop_of_length-le}
use Rattle.read_messages.specs.FirstPass.{telling}
use Rattle.read_messages.proofs.FirstPassTells.{told_nothing}
use Rattle.read_messages.proofs.Reader.tell.Goals as goal

pub returns-then-self : goal.returns-then-self
returns-then-self c =
    let none = drop_of_length-le c.args.self.message.now {i = c.args.self.cursor.at} (omega arith) in
    sym (ap telling none ∙ told_nothing)
