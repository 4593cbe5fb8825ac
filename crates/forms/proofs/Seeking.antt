-- Where a name would stand among groups, one group further: how far it counts (`sought_few`). Assumes nothing.
use mathlib.Core.Bool.{Bool, true, false, cond}
use Prim.Native.Nat.{ℕ, ◌+◌, ◌≤◌}
use native.Mathlib.Omega.{arith}
use Rattle.names.specs.Ordering.{Row, compare_rows}
use Rattle.forms.specs.declared.Place.{Place}
use Rattle.std.specs.Ordering.{is_le}
use Rattle.forms.specs.Blocks.{sought}

-- a group whose first name is not above is counted, and the first that is ends it
abbrev counted : ℕ → Place → Place
counted p x = record { sought = true; groups = x.groups + 1; here = p; before = x.here }

abbrev ended : Place → Place
ended x = record { sought = false; groups = x.groups; here = x.here; before = x.before }

abbrev by : Bool → Bool → ℕ → Place → Place
by still below p x = cond still (cond below (counted p x) (ended x)) x

module _ (x : Row) (p : ℕ) (a : Row) (place : Place) where
  pub sought_few : (sought x p a place).groups ≤ place.groups + 1
  sought_few = few place.sought (is_le (compare_rows a x))
    where
      few : (b c : Bool) → (by b c p place).groups ≤ place.groups + 1
      few true true = omega arith
      few true false = omega arith
      few false c = omega arith
