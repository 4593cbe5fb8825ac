-- `write_messages::names_size` meets its contract. Assumes nothing.
use mathlib.Core.Path.{◌≡◌}
use Prim.Native.Nat.{◌+◌, ◌*◌, ◌≤◌}
use lib.ListN.{length, drop}
use Rattle.names.specs.Names.{limit}
use Rattle.slots.specs.Tuples.{tuple_size}
use Rattle.pages.specs.Pages.{names_of}
use Rattle.fields.specs.Fields.{field_head}
use Rattle.write_messages.proofs.NamesIntoFields.{fields_with}
use Rattle.write_messages.proofs.names_size.Given as goal

abbrev pub invariant-loop-k : goal.invariant-loop-k
invariant-loop-k l =
    (l.size ≤ l.k * (field_head + tuple_size * limit))
    × (l.size + length (fields_with (drop l.k (names_of l.names))) ≡ length (fields_with (names_of l.names)))
