-- Whether a name is fresh, as a statement (`Fresh`): it and the test of specs/Renaming.antt agree (`fresh_Fresh`, `Fresh_fresh`).
-- Assumes nothing.
use mathlib.Core.Path.{◌≡◌, refl}
use mathlib.Core.List.{[], ◌∷◌}
use mathlib.Core.Bool.{Bool, true, false, ◌&&◌, not}
use Prim.Native.Nat.{ℕ}
use native.Mathlib.Omega.{arith}
use borrow.Author.Tests.{eqb-true, eq-eqb}
use lib.Dec.{eqb}
use Rattle.names.specs.declared.Author.{Author}
use Rattle.names.specs.Ordering.{Row}
use Rattle.name_renames.specs.Renaming.{fresh}

unfoldable pub Fresh : Author → Row → Type 0
Fresh author [] = Unit
Fresh author (t ∷ x) = ¬ ((t.node ≡ author.node) × (t.sequence ≡ author.sequence))

pub fresh_Fresh : (author : Author) (x : Row) → fresh author x ≡ true → Fresh author x
unfolding fresh Fresh
fresh_Fresh author [] e = tt
fresh_Fresh author (t ∷ x) e =
    λ h.
    let d : false ≡ true = rw (eq-eqb t.node author.node h.0, eq-eqb t.sequence author.sequence h.1) at e in
    let z : ◌≡◌ {A = ℕ} 0 1 = cc in
    omega arith

pub Fresh_fresh : (author : Author) (x : Row) → Fresh author x → fresh author x ≡ true
unfolding fresh Fresh
Fresh_fresh author [] f = refl
Fresh_fresh author (t ∷ x) f =
    let n = author.node in
    let s = author.sequence in
    by (eqb t.node n) (eqb t.sequence s) (eqb-true t.node n) (eqb-true t.sequence s)
  where
    by : (a b : Bool) → (a ≡ true → t.node ≡ author.node) → (b ≡ true → t.sequence ≡ author.sequence) → not (a && b) ≡ true
    by true true g h = absurd (f (g refl, h refl))
    by true false g h = refl
    by false b g h = refl
