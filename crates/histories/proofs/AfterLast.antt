-- The example of a line added after the last logged one, by computation (`after_last`). Assumes nothing.
use Prim.Native.Nat.{◌*◌}
use Rattle.slots.specs.Slots.{slot_size, bytes_over, keeps_over}
use Rattle.pages.specs.Pages.{layout_over, is_log}
use mathlib.Core.Path.{refl}
use mathlib.Core.List.{[], ◌∷◌, flatten}
use Rattle.names.specs.Ordering.{compare_tuples, compare_rows, rising}
use Rattle.names.specs.Names.{ordinary_from, marker, ends_well, is_name}
use Rattle.name_renames.specs.Renaming.{rename, fresh, take_back, case_above, case_of, become, over, strip_above, back_from, back_of}
use Rattle.numbers.specs.Bytes.{Octets}
use Rattle.slots.specs.Tuples.{tuple_at, tuple_bytes}
use Rattle.pages.proofs.WrittenOctets.{written_octets}
use Rattle.edits.specs.Edits.{insert_outcome}
use Rattle.page_renames.specs.Renames.{rename_outcome, take_back_outcome}
use Rattle.histories.specs.Demand.{renamed, inserted}
use Rattle.histories.specs.AfterLast.{line, added, slot, AfterLast}

slot_octets : Octets slot
unfolding flatten bytes_over tuple_bytes ordinary_from marker ends_well is_name
slot_octets = written_octets (line 21 added ∷ []) refl

pub after_last : AfterLast
unfolding compare_tuples compare_rows rising ordinary_from marker ends_well is_name rename fresh take_back case_above case_of become over strip_above back_from back_of tuple_at tuple_bytes keeps_over bytes_over layout_over is_log insert_outcome rename_outcome take_back_outcome flatten
after_last = record { renames = refl; inserts = refl; run = inserted (renamed (slot_size * 4) 4 refl) slot (slot_size * 5) 5 slot_octets refl; takes_back = refl }
