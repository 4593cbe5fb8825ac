-- `grouping::write_run` meets its contract. Assumes nothing.
use mathlib.Core.List.{List}
use Prim.Native.Nat.{◌*◌}
use Rattle.numbers.specs.Bytes.{Bytes}
use Rattle.slots.specs.Slots.{slot_size}
use Rattle.pages.specs.Pages.{pieces}
use Rattle.groups.specs.Groups.{slots_in}
use Rattle.forms.specs.declared.Block.{Block}
use Rattle.forms.specs.Blocks.{group_of}
use Rattle.grouping.proofs.PiecesFrom.{Writing}
use Rattle.grouping.proofs.write_run.Given as goal

-- the slots that are to be written
abbrev pub slot_pieces : Bytes → Block → List Bytes
slot_pieces form block = pieces (slots_in (group_of form block))

abbrev pub invariant-loop-k : goal.invariant-loop-k
invariant-loop-k l = Writing slot_size (slot_size * l.i) (slot_pieces l.form l.block) l.initial.out l.out l.k
