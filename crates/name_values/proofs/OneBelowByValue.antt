-- "One below" a name, as the code stores it: its last tuple is set one offset lower (`below_stored`), and a name's last offset is not
-- below 0 (`last_from_zero`). Assumes nothing.
use mathlib.Core.Path.{◌≡◌, refl, ◌∙◌, sym, ap}
use mathlib.Core.List.{[], ◌∷◌}
use mathlib.Core.Bool.{true}
use Prim.Native.Nat.{ℕ, suc, ◌-◌, ◌<◌, ◌≤◌, min}
use native.Mathlib.Nat.{not-suc-le-zero}
use native.Mathlib.Omega.{arith}
use lib.IntN.{ℤ, negsuc}
use lib.ListN.{length, take, set, get_or, length-take}
use lib.Seq.{take-set-lt, get_or-take}
use lib.Signed.{non_neg}
use Rattle.names.specs.declared.Tuple.{Tuple}
use Rattle.names.specs.Ordering.{Row, ◌<ᶻ◌, across, down}
use Rattle.names.specs.Names.{is_name, lowered, one_below}
use Rattle.numbers.proofs.Lists.{take_min}
use Rattle.names.proofs.Validity.{Ends, final, onward, name_valid, valid_ends}

set_last : (s : Tuple) (a : Row) (d : Tuple) → set (s ∷ a) (length a) (lowered (get_or (s ∷ a) (length a) d)) ≡ one_below (s ∷ a)
unfolding one_below
set_last s [] d = refl
set_last s (u ∷ a) d = ap (λ (r : Row). s ∷ r) (set_last u a d)

not_below : {z : ℤ} → negsuc 0 <ᶻ z → non_neg z ≡ true
not_below across = refl
not_below (down h) = absurd (not-suc-le-zero h)

nothing : {X : Type 0} {a : Row} → Ends a → length a ≡ 0 → X
nothing (final o h) e = absurd (omega arith)
nothing (onward m f) e = absurd (omega arith)

last_offset_lem : {s : Tuple} {a : Row} (d : Tuple) → Ends (s ∷ a) → non_neg (get_or (s ∷ a) (length a) d).offset ≡ true
last_offset_lem {a = []} d (final o h) = not_below h
last_offset_lem {a = []} d (onward m e) = nothing e refl
last_offset_lem {a = u ∷ a} d (onward m e) = last_offset_lem d e

last_of : (a : Row) (d : Tuple) → Ends a → (non_neg (get_or a (length a - 1) d).offset ≡ true) × (set a (length a - 1) (lowered (get_or a (length a - 1) d)) ≡ one_below a) × (1 ≤ length a)
last_of [] d e = nothing e refl
last_of (s ∷ a) d e =
    let q : suc (length a) - 1 ≡ length a = omega arith in
    (rw q (last_offset_lem d e), rw q (set_last s a d), omega arith)

-- the first n of the tuples xs are a name
module _ (xs : Row) (n : ℕ) (d : Tuple) (e : is_name (take n xs) ≡ true) where
  abbrev name : Row
  name = take n xs

  facts : (non_neg (get_or name (length name - 1) d).offset ≡ true) × (set name (length name - 1) (lowered (get_or name (length name - 1) d)) ≡ one_below name) × (1 ≤ length name)
  facts = last_of name d (valid_ends (name_valid name e))

  pub name_long : 1 ≤ length (take n xs)
  name_long = facts.2

  within : length (take n xs) - 1 < n
  within = omega (arith, facts.2, length-take n xs)

  is_last_lem : get_or (take n xs) (length (take n xs) - 1) d ≡ get_or xs (length (take n xs) - 1) d
  is_last_lem = get_or-take n xs (length (take n xs) - 1) d within

  pub last_from_zero : non_neg (get_or xs (length (take n xs) - 1) d).offset ≡ true
  last_from_zero = ap (λ (t : Tuple). non_neg t.offset) (sym is_last_lem) ∙ facts.0

  pub below_stored : take (length (take n xs)) (set xs (length (take n xs) - 1) (lowered (get_or xs (length (take n xs) - 1) d))) ≡ one_below (take n xs)
  below_stored =
      let k = length (take n xs) in
      let t = lowered (get_or xs (k - 1) d) in
      let q : k ≡ min n (length xs) = length-take n xs in
      take-set-lt k xs (k - 1) t (omega (arith, facts.2))
      ∙ ap (λ (r : Row). set r (k - 1) t) (ap (λ (j : ℕ). take j xs) q ∙ take_min n (length xs) xs refl)
      ∙ ap (λ (u : Tuple). set (take n xs) (k - 1) (lowered u)) (sym is_last_lem)
      ∙ facts.1
