-- A change of a form, as the code says it (`Change`, src/lib.rt): which bytes give way, and to what; 02 does not speak of it.
use Rattle.std.specs.Prelude.{ℕ, ◌+◌, ◌-◌, ◌*◌, ◌≤◌, ◌<◌, [], ◌++◌, cond, length, take, drop, eqb}
use Rattle.names.specs.Ordering.{Row}
use Rattle.numbers.specs.Bytes.{Bytes, at32, bytes32, put}
use Rattle.slots.specs.Tuples.{tuple_size, row_at, Lies}
use Rattle.slots.specs.Slots.{head_size, line_of}
use Rattle.fields.specs.Fields.{longest_content}
use Rattle.runs.specs.Runs.{onward}
use Rattle.groups.specs.Groups.{line_size}
use Rattle.forms.specs.Blocks.{after_name, sizes_bytes, head_bytes}
use Rattle.form_changes.specs.declared.Head.{Head}
use Rattle.form_changes.specs.declared.Change.{Change}

-- what stands before the line numbers of a group of so many slots; of none nothing does
abbrev pub head_for : Row → ℕ → Bytes
head_for a n = cond (eqb n 0) [] (head_bytes a n)

abbrev pub head_in : Bytes → Head → Bytes
head_in s h = head_for (onward h.onward (row_at s h.name)) h.slots

-- what says that a group has so many slots; of none nothing is said
abbrev pub sizes_for : ℕ → Bytes
sizes_for n = cond (eqb n 0) [] (sizes_bytes n)

-- what stands before a change of the form s, and what stands after it
abbrev pub front : Bytes → Change → Bytes
front s c = put (take c.from s) (c.lines - after_name) (sizes_for c.count)

abbrev pub back : Bytes → Change → Bytes
back s c = head_in s c.rest ++ drop c.to s

-- the form as changed, with the bytes w between
unfoldable pub changed : Bytes → Bytes → Change → Bytes
changed s w c = front s c ++ (w ++ back s c)

-- what a given slot puts there: its line number, behind a head of its name or behind none
abbrev pub given : Bytes → Head → Bytes
given slot h = head_in slot h ++ bytes32 (line_of slot)

-- ── what a change needs ──

-- a head of some slots: its name stands in s, so much more is an offset still, and its line numbers have room in a field
abbrev pub Headed : Bytes → Head → Type 0
Headed s h =
    1 ≤ h.slots → Lies s h.name × (1 ≤ h.name.count) × (line_size * h.slots ≤ longest_content)
    × (at32 s (h.name.at + tuple_size * h.name.count - 4) + h.onward < 2147483648)

pub record Fits (s : Bytes) (c : Change) : Type 0 where
  pub order : c.from ≤ c.to
  pub within : c.to ≤ length s
  pub sizes : 1 ≤ c.count → (after_name ≤ c.lines) × (c.lines ≤ c.from) × (line_size * c.count ≤ longest_content)
  pub rest : Headed s c.rest

pub record Given (slot : Bytes) (h : Head) : Type 0 where
  pub long : head_size ≤ length slot
  pub head : Headed slot h
