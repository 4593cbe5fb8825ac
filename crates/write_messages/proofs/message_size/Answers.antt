-- `write_messages::message_size` meets its contract. Assumes nothing.
use native.Mathlib.Omega.{arith}
use lib.Dec.{eqb}
use Rattle.messages.specs.Messages.{insert}
use Rattle.messages.specs.Calls.{parts_given}
use Rattle.messages.proofs.Longest.{message_length, line_length}
use Rattle.write_messages.proofs.message_size.Goals as goal

pub returns : goal.returns
returns c =
    let x = c.args.x in
    let m = message_length (parts_given x c.args.names.now) in
    let l = line_length x.line (eqb x.kind insert) in
    let a = c.names_size.ensures.0 in
    let b = c.line_size.ensures.0 in
    omega arith
