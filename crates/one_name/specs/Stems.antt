-- Where two names that are taken back could change places. Document 01, "Taking it back": each is made at a stem, which is r(k), where the result is r(k)
-- itself, "r(k)·m·v" behind it or "one below r(k), then M, then v" ahead of it, or else v, which stands alone.
use Rattle.std.specs.Prelude.{ℕ, List, [], Bool, true, false, cond, not, ◌&&◌, ◌||◌, ltb, length, get_or, drop}
use Rattle.names.specs.declared.Author.{Author}
use Rattle.names.specs.Ordering.{Row}
use Rattle.names.specs.Names.{m, marker}
use Rattle.numbers.specs.Bytes.{Bytes}
use Rattle.slots.specs.Tuples.{row_at, Lies}
use Rattle.one_name.specs.declared.Back.{Back}
use Rattle.one_name.specs.declared.Back.TheVariants.{Restored, Own, Behind, Ahead}
use Rattle.one_name.specs.declared.Stem.{Stem}
use Rattle.one_name.specs.Backs.{shape_of}
use Rattle.one_name.specs.Markers.{unmarked_from}

-- the stem of what c is taken back to
abbrev pub stem : Row → List Row → Back → Row
stem c log (Restored k) = get_or log k []
stem c log (Own cut) = drop cut c
stem c log (Behind k cut) = get_or log k []
stem c log (Ahead k cut) = get_or log k []

-- "r(k)·m·v"
abbrev pub is_behind : Back → Bool
is_behind (Restored k) = false
is_behind (Own cut) = false
is_behind (Behind k cut) = true
is_behind (Ahead k cut) = false

-- "one below r(k), then M, then v"
abbrev pub is_ahead : Back → Bool
is_ahead (Restored k) = false
is_ahead (Own cut) = false
is_ahead (Behind k cut) = false
is_ahead (Ahead k cut) = true

-- "v"
abbrev pub is_own : Back → Bool
is_own (Restored k) = false
is_own (Own cut) = true
is_own (Behind k cut) = false
is_own (Ahead k cut) = false

-- c has no end marker from its tuple k on, or is not taken back to tuples of its own: its stem, where it is not a logged name, has none there
abbrev pub clear_from : Author → List Row → ℕ → Row → Bool
clear_from author log k c = unmarked_from k c || not (is_own (shape_of author log c))

-- x has an end marker right behind its first n tuples
abbrev pub marked_at : Row → ℕ → Bool
marked_at x n = ltb n (length x) && marker (get_or x n m)

-- Of two stems x and y: what is put behind x could pass y only where y has a marker right behind as many tuples as x has, and what is put ahead of y could
-- pass x only where x has one right behind as many as y has.
abbrev pub may_meet : Bool → Bool → Row → Row → Bool
may_meet behind ahead x y = (behind && marked_at y (length x)) || (ahead && marked_at x (length y))

-- ── in bytes: a name stands in s, and a stem in s or in the log ──

-- the bytes that its row stands in, its row, and that it stands there
abbrev pub home : Bytes → Bytes → Stem → Bytes
home s log x = cond x.logged log s

abbrev pub row_of_stem : Bytes → Bytes → Stem → Row
row_of_stem s log x = row_at (home s log x) x.row

abbrev pub StemLies : Bytes → Bytes → Stem → Type 0
StemLies s log x = Lies (home s log x) x.row
