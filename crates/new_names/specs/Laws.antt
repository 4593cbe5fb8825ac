-- What an accepted new name is, beyond 01's own sentences. Proved in proofs/NewNames.antt: `new_in_gap`.
use Rattle.std.specs.Prelude.{◌≡◌, true, false, [], ◌∷◌, ℕ, ◌≤◌}
use Rattle.names.specs.declared.Author.{Author}
use Rattle.names.specs.Names.{fits, is_name}
use Rattle.names.specs.Ordering.{Row, ◌<ⁿ◌}
use Rattle.numbers.specs.Bytes.{Bytes}
use Rattle.std.specs.declared.result.Result.TheVariants.{Ok}
use Rattle.pages.specs.declared.Place.TheVariants.{Gap}
use Rattle.pages.specs.Pages.{names_of}
use Rattle.pages.specs.Places.{has, place_of}
use Rattle.new_names.specs.NewNames.{name_before, name_after, new_name_outcome}

-- c is below b, where there is a b
abbrev pub Under : Row → Row → Type 0
Under c [] = Unit
Under c (t ∷ b) = c <ⁿ t ∷ b

-- c lies strictly between a and b; a missing a is the row of no tuples, which is below every name
abbrev pub Between : Row → Row → Row → Type 0
Between a b c = (a <ⁿ c) × Under c b

pub record InGap (page : Bytes) (gap : ℕ) (c : Row) : Type 0 where
  -- it is a name, of at most `limit` tuples
  pub name : is_name c ≡ true
  pub short : fits c ≡ true
  -- it lies strictly between its neighbours
  pub between : Between (name_before gap (names_of page)) (name_after gap (names_of page)) c
  -- its place in the page is the gap, and no slot has it: inserting it is never refused by 9
  pub place : place_of c (names_of page) ≡ Gap gap
  pub absent : has c (names_of page) ≡ false

-- for every author whose numbers are a u16 and a u32
abbrev pub NewNameLaw : Type 0
NewNameLaw =
    (page : Bytes) (gap : ℕ) (author : Author) → author.node ≤ 65535 → author.sequence ≤ 4294967295 →
    (new_name_outcome page gap author).answer ≡ Ok 0 → InGap page gap (new_name_outcome page gap author).name
