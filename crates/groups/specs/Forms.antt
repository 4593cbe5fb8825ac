-- The grouped form as bytes: 02, P2: "Write it in the tagged fields of the messages: tag 6 a name, tag 7 a length of two bytes, tag 8 the
-- line numbers, four bytes each, group after group."
use Rattle.std.specs.Prelude.{ℕ, zero, suc, ◌+◌, ◌*◌, Bool, cond, ◌&&◌, length}
use mathlib.Core.List.{List, [], ◌∷◌, ◌++◌, map, flatten}
use Rattle.names.specs.Names.{limit}
use Rattle.numbers.specs.Bytes.{Bytes, at16, at32, bytes16, bytes32}
use Rattle.std.specs.List.{list_all}
use Rattle.slots.specs.Tuples.{tuple_size}
use Rattle.slots.specs.Slots.{Slot}
use Rattle.pages.specs.Pages.{max_slots}
use Rattle.fields.specs.Fields.{field_head, after_field, stands, field_bytes, nothing}
use Rattle.name_fields.specs.NameFields.{field_of_name, name_stands_as, tuples_in}
use Rattle.groups.specs.Groups.{Group, size, line_size, ungrouped, is_group, longest}

-- "tag 6 a name, tag 7 a length .., tag 8 the line numbers"
abbrev pub first_tag : ℕ
first_tag = 6

abbrev pub length_tag : ℕ
length_tag = 7

abbrev pub lines_tag : ℕ
lines_tag = 8

-- "a length of two bytes"
abbrev pub length_size : ℕ
length_size = 2

-- ── the encoder ──

abbrev pub line_bytes : List ℕ → Bytes
line_bytes l = flatten (map bytes32 l)

abbrev pub group_bytes : Group → Bytes
group_bytes g = field_of_name first_tag g.first ++ field_bytes length_tag (bytes16 (size g)) ++ field_bytes lines_tag (line_bytes g.lines)

-- "group after group"
unfoldable pub form_bytes : List Group → Bytes
form_bytes gs = flatten (map group_bytes gs)

-- ── the decoder ──

-- the length in the field at the beginning of s
abbrev pub length_in : Bytes → ℕ
length_in s = at16 s field_head

-- so many line numbers, one after the other from p on
abbrev pub lines_at : Bytes → ℕ → ℕ → List ℕ
lines_at s p zero = []
lines_at s p (suc n) = at32 s p ∷ lines_at s (p + line_size) n

-- the three fields of a group stand whole at the beginning of s: line numbers are four bytes for each that the length says
abbrev pub group_stands : Bytes → Bool
group_stands s =
    name_stands_as first_tag s && stands length_tag length_size (after_field s)
    && stands lines_tag (line_size * length_in (after_field s)) (after_field (after_field s))

abbrev pub group_in : Bytes → Group
group_in s = record { first = tuples_in s; lines = lines_at (after_field (after_field s)) field_head (length_in (after_field s)) }

abbrev pub after_group : Bytes → Bytes
after_group s = after_field (after_field (after_field s))

-- the groups that stand one after the other from the beginning of s on, at most so many, and what follows them
abbrev pub groups_within : ℕ → Bytes → List Group
groups_within zero s = []
groups_within (suc most) s = cond (group_stands s) (group_in s ∷ groups_within most (after_group s)) []

abbrev pub after_groups : ℕ → Bytes → Bytes
after_groups zero s = s
after_groups (suc most) s = cond (group_stands s) (after_groups most (after_group s)) s

-- all of them: there are no more than bytes
abbrev pub groups_in : Bytes → List Group
groups_in s = groups_within (length s) s

-- the slots of the page that the form stands for
abbrev pub slots_of_form : Bytes → List Slot
slots_of_form s = ungrouped (groups_in s)

-- ── the layout ──

-- "15 for a form that is malformed, has a length of 0 or isn't longest"
unfoldable pub keeps_form : Bytes → Bool
keeps_form s = nothing (after_groups (length s) s) && list_all is_group (groups_in s) && longest (groups_in s)

-- of a group of one slot whose name has as many tuples as a name has, and of as many such groups as a page has slots
abbrev pub group_head : ℕ
group_head = field_head + (field_head + length_size) + field_head

abbrev pub longest_form : ℕ
longest_form = max_slots * (group_head + tuple_size * limit + line_size)
