-- `old_pages::write_new` meets its contract. Assumes nothing.
use mathlib.Core.Path.{◌≡◌}
use mathlib.Core.List.{List}
use Rattle.numbers.specs.Bytes.{Bytes}
use Rattle.numbers.proofs.Pieces.{standing}
use Rattle.slots.specs.Slots.{slot_size}
use Rattle.pages.specs.Pages.{pieces}
use Rattle.old_pages.specs.OldPages.{old_slots_of}
use Rattle.old_pages.proofs.write_new.Given as goal

-- the slots that are to be written
abbrev pub new_pieces : Bytes → List Bytes
new_pieces old = pieces (old_slots_of old)

abbrev pub invariant-loop-k : goal.invariant-loop-k
invariant-loop-k l = standing slot_size (new_pieces l.old) l.out l.k ≡ standing slot_size (new_pieces l.old) l.initial.out 0
