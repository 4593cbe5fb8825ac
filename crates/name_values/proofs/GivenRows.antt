-- What a function gives of a row (`Gives`): of an equal row (`gives`), and of a·t·b by what `join_by` promises (`joins`). Assumes nothing.
use mathlib.Core.Path.{◌≡◌, refl, subst, sym}
use mathlib.Core.List.{◌∷◌, ◌++◌}
use mathlib.Core.Bool.{Bool, true, false}
use Rattle.std.specs.Prelude.{cond}
use Rattle.std.specs.declared.option.Option.{Option}
use Rattle.std.specs.declared.option.Option.TheVariants.{Some, None}
use Rattle.names.specs.declared.Tuple.{Tuple}
use Rattle.names.specs.declared.Name.{Name}
use Rattle.names.specs.Ordering.{Row}
use Rattle.names.specs.Names.{fits, value_of, joined, Gives}
use Rattle.name_values.proofs.JoinedRows.{value_row}

pub gives : (r : Option Name) {a b : Row} → a ≡ b → Gives r a → Gives r b
gives r e g = subst (Gives r) e g

-- of a row that fits its value, of another none
given : (a : Row) (b : Bool) → fits a ≡ b → Gives (cond b (Some (value_of a)) None) a
given a true e = (sym e, value_row a)
given a false e = (sym e, tt)

-- a and t are those that the code has made, a' and u those of the definition
pub joins : (r : Option Name) {a a' : Row} {t u : Tuple} (b : Row) → a ≡ a' → t ≡ u → r ≡ joined a (t ∷ b) → Gives r (a' ++ (u ∷ b))
joins r {a} {t = t} b e f g =
    gives r (λ i. e i ++ (f i ∷ b)) (subst (λ (x : Option Name). Gives x (a ++ (t ∷ b))) (sym g) (given (a ++ (t ∷ b)) (fits (a ++ (t ∷ b))) refl))
