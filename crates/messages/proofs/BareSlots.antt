-- Names in slots with line number 0 (`bare`): slots with line number 0 are those of their names, and the other way round. Assumes nothing.
use mathlib.Core.Path.{◌≡◌, refl, sym, ap}
use mathlib.Core.List.{List, [], ◌∷◌, map}
use mathlib.Core.Bool.{true, ◌&&◌}
use borrow.Author.Tests.{eqb-true}
use Rattle.names.specs.Ordering.{Row}
use Rattle.numbers.proofs.Bools.{and_0, and_1}
use Rattle.std.specs.List.{list_all}
use Rattle.slots.specs.Slots.{Slot, is_slot}
use Rattle.pages.specs.Pages.{name_in, line_is_zero}
use Rattle.name_fields.specs.NameFields.{name_fits}
use Rattle.messages.specs.Calls.{bare}

pub bare_names : (l : List Slot) → list_all line_is_zero l ≡ true → map bare (map name_in l) ≡ l
bare_names [] e = refl
bare_names (x ∷ l) e =
    let z = eqb-true x.line 0 (and_0 (line_is_zero x) (list_all line_is_zero l) e) in
    λ i. record { line = sym z i; name = x.name } ∷ bare_names l (and_1 (line_is_zero x) (list_all line_is_zero l) e) i

pub names_bare : (l : List Row) → map name_in (map bare l) ≡ l
names_bare [] = refl
names_bare (a ∷ l) = ap (λ (r : List Row). a ∷ r) (names_bare l)

pub bare_zero : (l : List Row) → list_all line_is_zero (map bare l) ≡ true
bare_zero [] = refl
bare_zero (a ∷ l) = bare_zero l

pub bare_slots : (l : List Row) → list_all name_fits l ≡ true → list_all is_slot (map bare l) ≡ true
bare_slots [] e = refl
bare_slots (a ∷ l) e =
    let v = and_0 (name_fits a) (list_all name_fits l) e in
    λ i. v i && bare_slots l (and_1 (name_fits a) (list_all name_fits l) e) i
