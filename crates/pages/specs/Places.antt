-- Where a name stands, or would stand, in a page: document 01, "Insert writes the page with the given slot at its rising
-- place" and "remove writes it without the slot of that name".
use Rattle.std.specs.Prelude.{ℕ, suc, List, [], ◌∷◌, Bool, false, cond, ◌||◌}
use Rattle.names.specs.Ordering.{Row, compare_rows}
use Rattle.std.specs.Ordering.{is_lt, is_eq}
use Rattle.pages.specs.declared.Place.{Place}
use Rattle.pages.specs.declared.Place.TheVariants.{Here, Gap}

-- how many of the names are below a
abbrev pub below : Row → List Row → ℕ
below a [] = 0
below a (x ∷ l) = cond (is_lt (compare_rows x a)) (suc (below a l)) (below a l)

-- whether one of the names is a, whatever its place
abbrev pub has : Row → List Row → Bool
has a [] = false
has a (x ∷ l) = is_eq (compare_rows x a) || has a l

-- the slot that has the name, or the gap where it would stand: as many names are before it as are below it
abbrev pub place_of : Row → List Row → Place
place_of a l = cond (has a l) (Here (below a l)) (Gap (below a l))
