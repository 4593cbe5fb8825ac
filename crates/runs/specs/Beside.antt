-- Where a name stands beside a run, as the code finds it where both stand in bytes; 02 does not speak of it. A run is told by its first
-- name a, whatever its length: the names `onward k a`. specs/Laws.antt has what each answer says.
use Rattle.std.specs.Prelude.{◌+◌, ◌-◌, [], ◌∷◌, Bool, false, cond, ◌&&◌, length, eqb, ltb, ℤ, pos, negsuc}
use Rattle.names.specs.declared.Tuple.{Tuple}
use Rattle.std.specs.declared.cmp.Ordering.{Ordering}
use Rattle.std.specs.declared.cmp.Ordering.TheVariants.{Less, Equal, Greater}
use Rattle.names.specs.Ordering.{Row, compare_ℕ, compare_tuples}
use Rattle.std.specs.Ordering.{ordering_then, is_eq}
use Rattle.runs.specs.declared.Stand.{Stand}
use Rattle.runs.specs.declared.Stand.TheVariants.{Below, Before, At, Beyond, Above}

-- by the first tuple that differs, where one does, else as said
abbrev pub decided : Ordering → Stand → Stand
decided Less r = Above
decided Equal r = r
decided Greater r = Below

-- "Tuples compare by position, node, sequence, offset": all but the offset
abbrev pub compare_fronts : Tuple → Tuple → Ordering
compare_fronts s t = ordering_then (compare_ℕ s.position t.position) (ordering_then (compare_ℕ s.node t.node) (compare_ℕ s.sequence t.sequence))

-- by the offset x of the run's first name, which is at least 0, the other's y, and whether the other name ends there
abbrev pub by_offsets : ℤ → ℤ → Bool → Stand
by_offsets (pos x) (pos y) ends = cond (ltb y x) (cond (ends && eqb (y + 1) x) Before Below) (cond ends (At (y - x)) (Beyond (y - x)))
by_offsets (pos x) (negsuc y) ends = cond (ends && eqb y 0 && eqb x 0) Before Below
by_offsets (negsuc x) y ends = Above

abbrev pub is_empty : Row → Bool
is_empty b = eqb (length b) 0

unfoldable pub beside_of : Row → Row → Stand
beside_of [] b = Above
beside_of (t ∷ a) [] = Below
beside_of (t ∷ []) (u ∷ b) = decided (compare_fronts t u) (by_offsets t.offset u.offset (is_empty b))
beside_of (t ∷ s ∷ a) (u ∷ b) = decided (compare_tuples t u) (beside_of (s ∷ a) b)

-- two names "differ only in the last offset", or not even there
unfoldable pub same_but_last : Row → Row → Bool
same_but_last [] b = false
same_but_last (t ∷ a) [] = false
same_but_last (t ∷ []) (u ∷ []) = is_eq (compare_fronts t u)
same_but_last (t ∷ []) (u ∷ v ∷ b) = false
same_but_last (t ∷ s ∷ a) (u ∷ b) = is_eq (compare_tuples t u) && same_but_last (s ∷ a) b
