-- Groups where they stand in the bytes of a form, as the code says it (`Block`, src/lib.rt), and what one look at a form tells; 02 does
-- not speak of it.
use Rattle.std.specs.Prelude.{ℕ, ◌+◌, ◌-◌, ◌*◌, ◌/◌, ◌≤◌, ◌≡◌, List, [], ◌∷◌, ◌++◌, map, true, false, cond, length, drop, eqb, ltb}
use Rattle.std.specs.declared.option.Option.{Option}
use Rattle.std.specs.declared.option.Option.TheVariants.{Some, None}
use Rattle.names.specs.Ordering.{Row, compare_rows, rising}
use Rattle.std.specs.Ordering.{is_lt, is_le}
use Rattle.numbers.specs.Bytes.{Bytes, bytes16}
use Rattle.slots.specs.Tuples.{tuple_size, row_at, Within}
use Rattle.pages.specs.Pages.{name_in}
use Rattle.fields.specs.Fields.{field_head, longest_content, size_in, after_field, field_bytes}
use Rattle.name_fields.specs.NameFields.{field_of_name}
use Rattle.runs.specs.Runs.{onward}
use Rattle.runs.specs.declared.Stand.{Stand}
use Rattle.runs.specs.declared.Stand.TheVariants.{Below, Before, At, Beyond, Above}
use Rattle.groups.specs.Groups.{Group, size, line_size, apart, is_group}
use Rattle.groups.specs.Forms.{first_tag, length_tag, lines_tag, length_size, group_bytes, length_in, lines_at, group_stands, groups_in, slots_of_form, keeps_form}
use Rattle.forms.specs.declared.Block.{Block}
use Rattle.forms.specs.declared.Place.{Place}
use Rattle.forms.specs.declared.Looked.{Looked}
use Rattle.forms.specs.declared.After.{After}
use Rattle.forms.specs.declared.After.TheVariants.{Joins, Falls, Rises}

-- ── a group where it stands ──

-- no group has no slots
abbrev pub no_block : Block
no_block = record { name = record { at = 0; count = 0 }; lines = 0; count = 0 }

-- what stands between a group's name and its line numbers
abbrev pub after_name : ℕ
after_name = field_head + length_size + field_head

-- the group that stands at p
abbrev pub block_here : Bytes → ℕ → Block
block_here s p = record {
  name = record { at = p + field_head; count = size_in (drop p s) / tuple_size };
  lines = p + field_head + size_in (drop p s) + after_name;
  count = length_in (after_field (drop p s));
}

-- where one stands there
abbrev pub block_at : Bytes → ℕ → Option Block
block_at s p = cond (group_stands (drop p s)) (Some (block_here s p)) None

abbrev pub end_of : Block → ℕ
end_of x = x.lines + line_size * x.count

-- what it says
abbrev pub group_of : Bytes → Block → Group
group_of s x = record { first = row_at s x.name; lines = lines_at s x.lines x.count }

-- it lies within the form, and its line numbers are a field's content
abbrev pub Stood : Bytes → Block → Type 0
Stood s x = Within s x.name × (end_of x ≤ length s) × (line_size * x.count ≤ longest_content)

-- and it is a group, or none at all
abbrev pub Sound : Bytes → Block → Type 0
Sound s x = Stood s x × (x.count ≡ 0 → x.name.count ≡ 0) × (1 ≤ x.count → is_group (group_of s x) ≡ true)

-- ── a group after another ──

abbrev pub last_name : Group → Row
last_name g = onward (size g - 1) g.first

-- how the name b comes after the group g: as the next of its run, above its last name, or not
abbrev pub after_group_of : Group → Row → After
after_group_of g b = cond (apart g (record { first = b; lines = [] })) (cond (is_lt (compare_rows (last_name g) b)) Rises Falls) Joins

-- by where b stands beside the run of g, which has so many names
abbrev pub after_run : Stand → ℕ → After
after_run Below n = Falls
after_run Before n = Falls
after_run (At i) n = cond (ltb i n) Falls (cond (eqb i n) Joins Rises)
after_run (Beyond i) n = cond (ltb (i + 1) n) Falls Rises
after_run Above n = Rises

-- ── where a name would stand ──

abbrev pub nowhere : Place
nowhere = record { sought = true; groups = 0; here = 0; before = 0 }

-- one group further, which begins at p with the name a; x is the name sought
abbrev pub sought : Row → ℕ → Row → Place → Place
sought x p a place =
    cond place.sought
    (cond (is_le (compare_rows a x))
    (record { sought = true; groups = place.groups + 1; here = p; before = place.here })
    (record { sought = false; groups = place.groups; here = place.here; before = place.before }))
    place

-- along groups, the first of which begins at p
abbrev pub sought_from : Row → ℕ → Place → List Group → Place
sought_from x p place [] = place
sought_from x p place (g ∷ gs) = sought_from x (p + length (group_bytes g)) (sought x p g.first place) gs

-- ── one look at a form ──

-- what it tells of a form
abbrev pub all_told : Bytes → Row → Looked
all_told s x = record {
  rises = rising (map name_in (slots_of_form s));
  slots = length (slots_of_form s);
  place = sought_from x 0 nowhere (groups_in s);
}

unfoldable pub looked : Bytes → Row → Option Looked
looked s x = cond (keeps_form s) (Some (all_told s x)) None

-- ── what stands before the line numbers of a group of so many slots ──

-- what of it stands between the name and them
abbrev pub sizes_bytes : ℕ → Bytes
sizes_bytes n = field_bytes length_tag (bytes16 n) ++ (lines_tag ∷ bytes16 (line_size * n))

abbrev pub head_bytes : Row → ℕ → Bytes
head_bytes a n = field_of_name first_tag a ++ sizes_bytes n
