-- A unit can hear of a rename (`met`), by computation. Assumes nothing.
use mathlib.Core.Path.{refl}
use mathlib.Core.List.{flatten}
use Rattle.names.specs.Ordering.{rising}
use Rattle.names.specs.Names.{is_name, ordinary_from, ends_well}
use Rattle.slots.specs.Tuples.{tuple_at, tuple_bytes}
use Rattle.slots.specs.Slots.{bytes_over}
use Rattle.messages.specs.Messages.{is_message, framed, keeps_message}
use Rattle.messages.specs.Calls.{read_outcome}
use Rattle.epoch_tree.specs.Tables.{is_table, keeps_table}
use Rattle.epochs.specs.Calls.{add_outcome}
use Rattle.message_epochs.specs.Example.{Met}

pub met : Met
unfolding read_outcome keeps_message framed is_message is_name ordinary_from ends_well rising tuple_at tuple_bytes bytes_over flatten add_outcome keeps_table is_table
met = record {
  room = 200;
  n = 1;
  reads = record { accepted = refl; kind = refl };
  parent = 0;
  node = refl;
  sequence = refl;
  out = 20;
  m = 2;
  accepted = refl;
  second_is = refl;
}
