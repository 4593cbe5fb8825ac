-- What the change of a name's case makes of it is the name renamed (`renamed`). Assumes nothing.
use mathlib.Core.Path.{◌≡◌, refl}
use mathlib.Core.List.{List}
use Prim.Native.Nat.{ℕ}
use Rattle.names.specs.declared.Author.{Author}
use Rattle.names.specs.Ordering.{Row}
use Rattle.name_renames.specs.declared.Case.{Case}
use Rattle.name_renames.specs.declared.Case.TheVariants.{KeepBelow, PutBelow, Logged, Between, PutAbove, KeepAbove}
use Rattle.name_renames.specs.Renaming.{first_position, case_of, become, rename}
use Rattle.one_name.specs.declared.Change.{Change}
use Rattle.one_name.specs.Changes.{change_of, changed_by}

-- what a case does to a name is what the table says that the name becomes
becomes : (p : ℕ) (author : Author) (c : Case) (x : Row) → changed_by (change_of p author c) x ≡ become p author c x
unfolding become
becomes p author KeepBelow x = refl
becomes p author PutBelow x = refl
becomes p author (Logged k) x = refl
becomes p author (Between k) x = refl
becomes p author (PutAbove k) x = refl
becomes p author KeepAbove x = refl

-- as the code finds the case c of the name y, which is x, and the change d of that case
pub renamed : (author : Author) (log : List Row) (x : Row) {y : Row} {c : Case} {d : Change} → x ≡ y → c ≡ case_of (first_position log) author log y →
    d ≡ change_of (first_position log) author c → changed_by d x ≡ rename author log x
unfolding rename
renamed author log x e f g = rw (g, f, ← e) (becomes (first_position log) author (case_of (first_position log) author log x) x)
