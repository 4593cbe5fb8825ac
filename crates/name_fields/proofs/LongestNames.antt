-- Names of as many tuples as a name has, as many of them as are wanted, rising: they show that a bound is reached. Assumes nothing.
use mathlib.Core.Path.{◌≡◌, refl, ap}
use mathlib.Core.List.{List, [], ◌∷◌}
use mathlib.Core.Bool.{true, ◌&&◌}
use Prim.Native.Nat.{ℕ, zero, suc, ◌+◌, ◌-◌, ◌<◌, ◌≤◌}
use native.Mathlib.Omega.{arith}
use borrow.Author.Tests.{le-leb}
use lib.IntN.{pos}
use lib.ListN.{length, replicate}
use Rattle.names.specs.declared.Tuple.{Tuple}
use Rattle.names.specs.Ordering.{Row, Rising, none, one, more, sequence, differ}
use Rattle.names.specs.Names.{limit, is_name, ends_well, ordinary_from}
use Rattle.std.specs.List.{list_all}
use Rattle.name_fields.specs.NameFields.{name_fits}

unfoldable pub step : ℕ → Tuple
step k = record { position = 1; node = 1; sequence = k; offset = pos 0 }

-- a name of as many tuples as there can be, which begins with the k-th of a rising row of tuples
unfoldable pub deep : ℕ → Row
deep k = step k ∷ replicate (limit - 1) (step 0)

-- n such names, from the k-th on
unfoldable pub deeps : ℕ → ℕ → List Row
deeps zero k = []
deeps (suc n) k = deep k ∷ deeps n (suc k)

pub deep_length : (k : ℕ) → length (deep k) ≡ limit
unfolding deep
deep_length k = refl

deep_fits : (k : ℕ) → k ≤ 4294967295 → name_fits (deep k) ≡ true
unfolding deep step is_name ends_well ordinary_from
deep_fits k h = simp (le-leb k 4294967295 h)

pub deeps_fit : (n k : ℕ) → k + n ≤ 4294967295 → list_all name_fits (deeps n k) ≡ true
unfolding deeps
deeps_fit zero k h = refl
deeps_fit (suc n) k h = λ i. deep_fits k (omega arith) i && deeps_fit n (suc k) (omega arith) i

pub deeps_rise : (n k : ℕ) → Rising (deeps n k)
unfolding deeps deep step
deeps_rise zero k = none
deeps_rise (suc zero) k = one
deeps_rise (suc (suc n)) k = let l : k < suc k = omega arith in more (differ (sequence refl refl l)) (deeps_rise (suc n) (suc k))

pub deeps_many : (n k : ℕ) → length (deeps n k) ≡ n
unfolding deeps
deeps_many zero k = refl
deeps_many (suc n) k = ap suc (deeps_many n (suc k))
