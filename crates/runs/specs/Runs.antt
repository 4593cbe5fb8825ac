-- Runs of names: 02, P2: "names differ only in the last offset, each one more than the one before"; 001, section 2.1: names "that are
-- identical except for their last offset, and with both offsets being consecutive".
use Rattle.std.specs.Prelude.{ℕ, zero, suc, [], ◌∷◌, Bool}
use Rattle.std.proofs.Math.IntN.{suc_ℤ}
use Rattle.names.specs.declared.Tuple.{Tuple}
use Rattle.names.specs.Ordering.{Row, compare_rows}
use Rattle.std.specs.Ordering.{is_eq}

abbrev pub raised : Tuple → Tuple
raised t = record { position = t.position; node = t.node; sequence = t.sequence; offset = suc_ℤ t.offset }

-- the name that comes next in a run: the last offset is "one more"
unfoldable pub next : Row → Row
next [] = []
next (t ∷ []) = raised t ∷ []
next (t ∷ u ∷ a) = t ∷ next (u ∷ a)

-- the name that comes k later
abbrev pub onward : ℕ → Row → Row
onward zero a = a
onward (suc k) a = onward k (next a)

-- b comes next after a
abbrev pub is_next : Row → Row → Bool
is_next a b = is_eq (compare_rows (next a) b)
