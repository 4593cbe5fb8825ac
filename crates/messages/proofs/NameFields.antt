-- The names whose fields stand one after the other: a turn along them (`names_turn`, `after_turn`), the end (`names_stop`, `after_stop`),
-- and how many there are (`names_few`, `names_exact`, `name_first`). Assumes nothing.
use mathlib.Core.Path.{◌≡◌, refl, ap, ◌∙◌}
use mathlib.Core.List.{List, [], ◌∷◌}
use mathlib.Core.Bool.{Bool, true, false, cond}
use Prim.Native.Nat.{ℕ, zero, suc, ◌≤◌}
use native.Mathlib.Omega.{arith}
use lib.ListN.{length}
use Rattle.names.specs.Ordering.{Row}
use Rattle.numbers.specs.Bytes.{Bytes}
use Rattle.fields.specs.Fields.{after_field}
use Rattle.name_fields.specs.NameFields.{tuples_in}
use Rattle.messages.specs.Messages.{name_stands, names_within, after_names}

module _ (s : Bytes) (most : ℕ) where
  pub names_turn : name_stands s ≡ true → names_within (suc most) s ≡ tuples_in s ∷ names_within most (after_field s)
  names_turn e = ap (λ (b : Bool). cond b (tuples_in s ∷ names_within most (after_field s)) []) e

  pub after_turn : name_stands s ≡ true → after_names (suc most) s ≡ after_names most (after_field s)
  after_turn e = ap (λ (b : Bool). cond b (after_names most (after_field s)) s) e

module _ (s : Bytes) (e : name_stands s ≡ false) where
  pub names_stop : (most : ℕ) → names_within most s ≡ []
  names_stop zero = refl
  names_stop (suc most) = ap (λ (b : Bool). cond b (tuples_in s ∷ names_within most (after_field s)) []) e

  pub after_stop : (most : ℕ) → after_names most s ≡ s
  after_stop zero = refl
  after_stop (suc most) = ap (λ (b : Bool). cond b (after_names most (after_field s)) s) e

-- no more names than are asked for
pub names_few : (most : ℕ) (s : Bytes) → length (names_within most s) ≤ most
names_few zero s = omega arith
names_few (suc most) s = go (name_stands s) (names_few most (after_field s))
  where
    go : (b : Bool) → length (names_within most (after_field s)) ≤ most → length (cond b (tuples_in s ∷ names_within most (after_field s)) []) ≤ suc most
    go true h = omega arith
    go false h = omega arith

-- asked for as many as there are
pub names_exact : (most : ℕ) (s : Bytes) → names_within (length (names_within most s)) s ≡ names_within most s
names_exact zero s = refl
names_exact (suc most) s = go (name_stands s) refl (names_exact most (after_field s))
  where
    rest : List Row
    rest = names_within most (after_field s)

    all : Bool → List Row
    all b = cond b (tuples_in s ∷ rest) []

    go : (b : Bool) → name_stands s ≡ b → names_within (length rest) (after_field s) ≡ rest → names_within (length (all b)) s ≡ all b
    go true e h = names_turn s (length rest) e ∙ ap (λ (l : List Row). tuples_in s ∷ l) h
    go false e h = refl

-- where there is a name, one stands
pub name_first : (most : ℕ) (s : Bytes) → 1 ≤ length (names_within most s) → name_stands s ≡ true
name_first zero s h = absurd (omega arith)
name_first (suc most) s h = go (name_stands s) h
  where
    go : (b : Bool) → 1 ≤ length (cond b (tuples_in s ∷ names_within most (after_field s)) []) → b ≡ true
    go true h = refl
    go false h = absurd (omega arith)
