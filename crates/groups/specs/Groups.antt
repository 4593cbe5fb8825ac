-- Groups: 02, P2: "a run of neighbouring slots whose names differ only in the last offset, each one more than the one before, stored as
-- the first name, a length and the line numbers in order" (001, section 2.1: the paper's blocks). A page is a list of slots, its grouped
-- form a list of groups.
use Rattle.std.specs.Prelude.{ℕ, ◌*◌, List, [], ◌∷◌, ◌++◌, Bool, true, cond, not, ◌&&◌, length, leb}
use Rattle.names.specs.Ordering.{Row, compare_rows}
use Rattle.std.specs.Ordering.{is_eq}
use Rattle.std.specs.List.{list_all}
use Rattle.slots.specs.Slots.{Slot, is_slot}
use Rattle.runs.specs.Runs.{next, onward, is_next}
use Rattle.fields.specs.Fields.{longest_content}

-- "the first name, a length and the line numbers in order": the length is that of the list
pub record Group : Type 0 where
  pub first : Row
  pub lines : List ℕ

abbrev pub size : Group → ℕ
size g = length g.lines

abbrev pub line_in : Slot → ℕ
line_in x = x.line

-- ── the slots of a group, and of groups ──

-- "names differ only in the last offset, each one more than the one before"
abbrev pub run : Row → List ℕ → List Slot
run a [] = []
run a (x ∷ l) = record { line = x; name = a } ∷ run (next a) l

abbrev pub slots_in : Group → List Slot
slots_in g = run g.first g.lines

abbrev pub ungrouped : List Group → List Slot
ungrouped [] = []
ungrouped (g ∷ gs) = slots_in g ++ ungrouped gs

-- ── the groups of slots ──

abbrev pub alone : Slot → Group
alone x = record { first = x.name; lines = x.line ∷ [] }

-- a slot before groups: it joins the first of them where that begins with the next name
abbrev pub joined : Slot → List Group → List Group
joined x [] = alone x ∷ []
joined x (g ∷ gs) = cond (is_next x.name g.first) (record { first = x.name; lines = x.line ∷ g.lines } ∷ gs) (alone x ∷ g ∷ gs)

-- "Groups are as long as possible"
abbrev pub grouped : List Slot → List Group
grouped [] = []
grouped (x ∷ l) = joined x (grouped l)

-- ── which groups grouping can give, the order and the number of their slots apart ──

-- the name that would come next after a group's last
abbrev pub name_after : Group → Row
name_after g = onward (size g) g.first

-- the second does not go on where the first ends
abbrev pub apart : Group → Group → Bool
apart g h = not (is_eq (compare_rows (name_after g) h.first))

-- "as long as possible": asked of neighbouring groups
abbrev pub longest : List Group → Bool
longest [] = true
longest (g ∷ []) = true
longest (g ∷ h ∷ gs) = apart g h && longest (h ∷ gs)

-- a line number takes four bytes
abbrev pub line_size : ℕ
line_size = 4

-- a group has a slot, the numbers of its lines have room in a field, and each of its slots is one: its first name is a name of at most
-- sixteen tuples, and no offset passes 2147483646
abbrev pub is_group : Group → Bool
is_group g = leb 1 (size g) && leb (line_size * size g) longest_content && list_all is_slot (slots_in g)
