-- `renamed_slots::backs_rise` meets its contract. Assumes nothing.
use mathlib.Core.Path.{◌≡◌}
use Rattle.names.specs.Ordering.{Row, compare_rows}
use Rattle.std.specs.Ordering.{is_lt}
use Rattle.names.proofs.CompareTuples.{left}
use Rattle.numbers.specs.Bytes.{Bytes}
use Rattle.slots.specs.Slots.{name_of}
use Rattle.pages.specs.Pages.{names_of}
use Rattle.one_name.specs.declared.Back.{Back}
use Rattle.one_name.specs.Backs.{shaped}
use Rattle.renamed_slots.proofs.backs_rise.Given as goal

-- the name that the slot s is taken back to
abbrev pub back_of : Bytes → Bytes → Back → Row
back_of s log b = shaped (name_of s) (names_of log) b

abbrev pub invariant-loop-i : goal.invariant-loop-i
invariant-loop-i l =
    is_lt (left (back_of l.first l.log l.a) (back_of l.second l.log l.b) l.n l.m l.i) ≡ is_lt (compare_rows (back_of l.first l.log l.a) (back_of l.second l.log l.b))
