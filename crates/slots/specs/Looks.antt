-- What one look at a slot tells: whether it keeps its layout, and whether its name is above the one before it.
use Rattle.std.specs.Prelude.{ℕ, Bool, true, cond, ◌&&◌, ◌||◌, [], ◌∷◌, take, drop}
use Rattle.names.specs.declared.Tuple.{Tuple}
use Rattle.names.specs.Ordering.{Row, compare_rows}
use Rattle.std.specs.Ordering.{is_lt}
use Rattle.names.specs.Names.{within, ordinary, marker}
use Rattle.std.specs.List.{list_all}
use Rattle.numbers.specs.Bytes.{Bytes, all_zero}
use Rattle.slots.specs.declared.Seen.{Seen}
use Rattle.slots.specs.declared.Seen.TheVariants.{Broken, NotRising, Rising}
use Rattle.slots.specs.Slots.{depth_of, name_over, keeps_over}

-- a tuple that may stand within a name, before its last
abbrev pub inner : Tuple → Bool
inner t = ordinary t || marker t

-- tuples that a name may begin with: of these its last need not be one
abbrev pub leads : Row → Bool
leads [] = true
leads (t ∷ a) = ordinary t && list_all inner a

-- "depth 1..8, three zero bytes"
abbrev pub head_over : ℕ → Bytes → Bool
head_over room s = within 1 room (depth_of s) && all_zero (take 3 (drop 1 s))

-- by whether the layout is kept, and whether the names rise
abbrev pub seen : Bool → Bool → Seen
seen keeps rises = cond keeps (cond rises Rising NotRising) Broken

-- a slot with room for so many tuples, after the name a
abbrev pub seen_after : ℕ → Row → Bytes → Seen
seen_after room a s = seen (keeps_over room s) (is_lt (compare_rows a (name_over room s)))
