-- What the code finds before it makes a name: of which tuples it is made, or a refusal. Document 01, "New names".
use Rattle.std.specs.Prelude.{◌+◌, ◌≤◌, ◌≡◌, [], ◌∷◌, ◌++◌, take}
use Rattle.names.specs.Ordering.{Row}
use Rattle.names.specs.Names.{limit}
use Rattle.numbers.specs.Bytes.{Bytes}
use Rattle.slots.specs.Tuples.{row_at, Lies}
use Rattle.std.specs.declared.result.Result.{Result}
use Rattle.std.specs.declared.result.Result.TheVariants.{Ok, Err}
use Rattle.answers.specs.declared.Refusal.{Refusal}
use Rattle.new_names.specs.declared.Parts.{Parts}
use Rattle.new_names.specs.NewNames.{Named, refuse_name}

module _ (s : Bytes) (p : Parts) where
  -- the tuples that stand in s, and two more
  abbrev pub parts_of : Row
  parts_of = row_at s p.a ++ (p.first ∷ p.second ∷ [])

  -- the first `depth` of these are the name
  abbrev pub made_of : Row
  made_of = take p.depth parts_of

  -- there are as many, and no more than a name has
  abbrev pub Stands : Type 0
  Stands = Lies s p.a × (p.depth ≤ p.a.count + 2) × (p.depth ≤ limit)

-- the name of these, or the refusal, is what is meant
module _ (s : Bytes) where
  abbrev pub Means : Result Parts Refusal → Named → Type 0
  Means (Ok p) x = Stands s p × (x.answer ≡ Ok 0) × (made_of s p ≡ x.name)
  Means (Err r) x = x ≡ refuse_name r
