-- The most tuples of a name of the log (`deepest_of`) and the fewest (`shallowest_of`), from the depths in its slots (`most`, `fewest`): at most `limit`
-- (`most_within`, `fewest_within`), and no name of it has more (`each_within`) or fewer (`each_over`). So a name that has room for as many and a marker beside its own tuples fits when it is taken
-- back (`back_fits_by`). Assumes nothing.
use mathlib.Core.Path.{◌≡◌, refl, ◌∙◌, sym, ap}
use mathlib.Core.Bool.{true}
use mathlib.Core.List.{List, [], ◌∷◌, map}
use Prim.Native.Nat.{ℕ, zero, suc, ◌+◌, ◌<◌, ◌≤◌, max, min}
use native.Mathlib.Omega.{arith}
use borrow.Author.Tests.{le-leb}
use lib.ListN.{length, get_or}
use Rattle.std.specs.List.{fold, reduce}
use Rattle.std.specs.Option.{unwrap_or}
use Rattle.names.specs.declared.Author.{Author}
use Rattle.names.specs.Ordering.{Row}
use Rattle.names.specs.Names.{limit, fits}
use Rattle.numbers.specs.Bytes.{Bytes}
use Rattle.slots.specs.Slots.{head_size, depth_of, slot_of, name_of}
use Rattle.slots.proofs.TuplesInBytes.{length_tuples_at}
use Rattle.slots.proofs.NameTests.{name_is}
use Rattle.pages.specs.Pages.{name_in}
use Rattle.name_renames.specs.Renaming.{take_back}
use Rattle.name_renames.proofs.BackDepth.{back_depth}
use Rattle.one_name.specs.Backs.{deepest_of, shallowest_of}

-- ── slot by slot ──

abbrev pub depth_in : Bytes → ℕ
depth_in s = min (depth_of s) limit

-- the name in a slot's bytes has so many tuples
depth_is : (s : Bytes) → length (name_of s) ≡ depth_in s
depth_is s = ap length (sym (name_is s (depth_in s) refl)) ∙ length_tuples_at s head_size (depth_in s)

-- the names in these slots
abbrev named : List Bytes → List Row
named l = map name_in (map slot_of l)

most_on : (l : List Bytes) (a : ℕ) → fold max a (map depth_in l) ≡ max a (deepest_of (named l))
most_on [] a = omega arith
most_on (s ∷ l) a = most_on l (max a (depth_in s)) ∙ omega (arith, depth_is s)

pub most : (l : List Bytes) → unwrap_or (reduce max (map depth_in l)) 0 ≡ deepest_of (named l)
most [] = refl
most (s ∷ l) = most_on l (depth_in s) ∙ ap (λ (n : ℕ). max n (deepest_of (named l))) (sym (depth_is s))

pub most_within : (l : List Bytes) → deepest_of (named l) ≤ limit
most_within [] = omega arith
most_within (s ∷ l) = omega (arith, depth_is s, most_within l)

fewest_on : (l : List Bytes) (a : ℕ) → a ≤ limit → fold min a (map depth_in l) ≡ min a (shallowest_of (named l))
fewest_on [] a h = omega (arith, h)
fewest_on (s ∷ l) a h = fewest_on l (min a (depth_in s)) (omega arith) ∙ omega (arith, depth_is s)

pub fewest : (l : List Bytes) → unwrap_or (reduce min (map depth_in l)) limit ≡ shallowest_of (named l)
fewest [] = refl
fewest (s ∷ l) = fewest_on l (depth_in s) (omega arith) ∙ ap (λ (n : ℕ). min n (shallowest_of (named l))) (sym (depth_is s))

pub fewest_within : (log : List Row) → shallowest_of log ≤ limit
fewest_within [] = omega arith
fewest_within (r ∷ log) = omega (arith, fewest_within log)

-- ── what they bound ──

pub each_within : (log : List Row) (k : ℕ) → k < length log → length (get_or log k []) ≤ deepest_of log
each_within [] k h = absurd (omega arith)
each_within (r ∷ log) zero h = omega arith
each_within (r ∷ log) (suc k) h = let i = each_within log k (omega arith) in omega arith

pub each_over : (log : List Row) (k : ℕ) → k < length log → shallowest_of log ≤ length (get_or log k [])
each_over [] k h = absurd (omega arith)
each_over (r ∷ log) zero h = omega arith
each_over (r ∷ log) (suc k) h = let i = each_over log k (omega arith) in omega arith

pub back_fits_by : (author : Author) (log : List Row) (c : Row) → deepest_of log + 1 + length c ≤ limit → fits (take_back author log c) ≡ true
back_fits_by author log c h =
    let d = back_depth author log (deepest_of log) (each_within log) c in
    le-leb (length (take_back author log c)) limit (omega arith)
