-- Which change an edit makes of a form, by its groups where they stand; 02 does not speak of it. What comes out is `groups`' insert_form_outcome and
-- remove_form_outcome.
use Rattle.std.specs.Prelude.{ℕ, ◌+◌, ◌-◌, ◌*◌, drop, Bool, true, false, cond, eqb, ltb}
use Rattle.names.specs.Ordering.{Row, compare_rows}
use Rattle.std.specs.Ordering.{is_eq}
use Rattle.numbers.specs.Bytes.{Bytes}
use Rattle.slots.specs.declared.Span.{Span}
use Rattle.slots.specs.Tuples.{row_at}
use Rattle.fields.specs.Fields.{field_head}
use Rattle.runs.specs.Runs.{onward, is_next}
use Rattle.runs.specs.Beside.{beside_of}
use Rattle.runs.specs.declared.Stand.{Stand}
use Rattle.runs.specs.declared.Stand.TheVariants.{Below, Before, At, Beyond, Above}
use Rattle.groups.specs.Groups.{line_size}
use Rattle.groups.specs.Forms.{group_stands}
use Rattle.forms.specs.declared.Block.{Block}
use Rattle.forms.specs.Blocks.{no_block, block_here, end_of}
use Rattle.form_changes.specs.declared.Head.{Head}
use Rattle.form_changes.specs.declared.Change.{Change}
use Rattle.form_edits.specs.declared.Insertion.{Insertion}
use Rattle.form_edits.specs.declared.Met.{Met}
use Rattle.form_edits.specs.declared.Met.TheVariants.{Here, Inside, After}

-- ── where a name stands ──

-- in a group of n slots: it is the name of slot i, it lies before slot i, or it is above them all, and is the next of the run or not
abbrev pub met_by : Stand → ℕ → Met
met_by Below n = After false
met_by Before n = After false
met_by (At i) n = cond (ltb i n) (Here i) (After (eqb i n))
met_by (Beyond i) n = cond (ltb (i + 1) n) (Inside (i + 1)) (After false)
met_by Above n = After false

-- a name that the group has
abbrev pub is_here : Met → Bool
is_here (Here i) = true
is_here (Inside i) = false
is_here (After joins) = false

-- in a block; a name is above no group
abbrev pub met_in : Bytes → Block → Row → Met
met_in s b x = cond (eqb b.name.count 0) (After false) (met_by (beside_of (row_at s b.name) x) b.count)

-- the group that stands at p, or none
abbrev pub group_at : Bytes → ℕ → Block
group_at s p = cond (group_stands (drop p s)) (block_here s p) no_block

-- the group at p, where one is found
abbrev pub block_by : Bytes → Bool → ℕ → Block
block_by s found p = cond found (group_at s p) no_block

-- where the groups after it begin
abbrev pub after_block : Block → ℕ
after_block b = cond (eqb b.count 0) 0 (end_of b)

-- the name x comes right before the group
abbrev pub precedes_in : Bytes → Row → Block → Bool
precedes_in s x b = cond (eqb b.count 0) false (is_next x (row_at s b.name))

-- the second group goes on where the first ends
abbrev pub goes_on : Bytes → Block → Block → Bool
goes_on s b c =
    cond (eqb b.count 0) false
    (cond (eqb c.count 0) false (is_eq (compare_rows (onward b.count (row_at s b.name)) (row_at s c.name))))

-- ── changes ──

abbrev pub start_of : Block → ℕ
start_of b = b.name.at - field_head

-- a head of the given name, of so many slots
abbrev pub head_of : Span → ℕ → Head
head_of name n = record { name = name; onward = 0; slots = n }

abbrev pub no_head : Span → Head
no_head name = head_of name 0

-- a name before slot i of a group, within it: the group is split
abbrev pub split_by : Block → ℕ → Span → Insertion
split_by b i name = record {
  head = head_of name 1;
  change = record {
    from = b.lines + line_size * i;
    to = b.lines + line_size * i;
    lines = b.lines;
    count = i;
    rest = record { name = b.name; onward = i; slots = b.count - i };
  };
}

-- a name between two groups that it makes one
abbrev pub bridge_by : Block → Block → Span → Insertion
bridge_by b n name = record {
  head = no_head name;
  change = record { from = end_of b; to = n.lines; lines = b.lines; count = b.count + 1 + n.count; rest = no_head name };
}

-- right after a group, right before one, and by itself
abbrev pub append_by : Block → Span → Insertion
append_by b name = record {
  head = no_head name;
  change = record { from = end_of b; to = end_of b; lines = b.lines; count = b.count + 1; rest = no_head name };
}

abbrev pub prepend_by : Block → Span → Insertion
prepend_by n name = record {
  head = head_of name (1 + n.count);
  change = record { from = start_of n; to = n.lines; lines = n.lines; count = 0; rest = no_head name };
}

abbrev pub alone_at : ℕ → Span → Insertion
alone_at p name = record { head = head_of name 1; change = record { from = p; to = p; lines = p; count = 0; rest = no_head name } }

-- a name above b and below n, which begins at p
abbrev pub between_by : Block → Block → ℕ → Bool → Bool → Span → Insertion
between_by b n p joins precedes name = cond joins (cond precedes (bridge_by b n name) (append_by b name)) (cond precedes (prepend_by n name) (alone_at p name))

-- slot i of a group of several goes: of the first, the group's own head does too
abbrev pub part_from : Block → ℕ → ℕ
part_from b i = cond (eqb i 0) (start_of b) (b.lines + line_size * i)

abbrev pub part_by : Block → ℕ → Change
part_by b i = record {
  from = part_from b i;
  to = b.lines + line_size * (i + 1);
  lines = b.lines;
  count = i;
  rest = record { name = b.name; onward = i + 1; slots = b.count - (i + 1) };
}

-- the only one of a group goes: the groups before and after it become one, or nothing is left of it
abbrev pub close_by : Block → Block → Change
close_by b n = record { from = end_of b; to = n.lines; lines = b.lines; count = b.count + n.count; rest = no_head n.name }

abbrev pub vanish_by : Block → Change
vanish_by b = record { from = start_of b; to = end_of b; lines = b.lines; count = 0; rest = no_head b.name }

-- slot i of b, which the group f precedes and n follows
abbrev pub taken_by : Block → Block → Block → ℕ → Bool → Change
taken_by f b n i goes = cond (ltb 1 b.count) (part_by b i) (cond goes (close_by f n) (vanish_by b))
