-- What a case of 01's table does to a name: document 01, "Renaming one name". The code finds the case, then this, and makes the name after,
-- by value or as a slot.
use Rattle.std.specs.Prelude.{ℕ, [], ◌∷◌, Bool, true, false, pos, negsuc}
use Rattle.names.specs.declared.Author.{Author}
use Rattle.names.specs.Ordering.{Row}
use Rattle.name_renames.specs.declared.Case.{Case}
use Rattle.name_renames.specs.declared.Case.TheVariants.{KeepBelow, PutBelow, Logged, Between, PutAbove, KeepAbove}
use Rattle.name_renames.specs.Renaming.{lead}
use Rattle.one_name.specs.declared.Change.{Change}
use Rattle.one_name.specs.declared.Change.TheVariants.{Kept, Alone, Led}

-- the k of a case, an index of the log; 0 where the case has none
abbrev pub index_of : Case → ℕ
index_of KeepBelow = 0
index_of PutBelow = 0
index_of (Logged k) = k
index_of (Between k) = k
index_of (PutAbove k) = k
index_of KeepAbove = 0

-- "x", "(p, A, s, −1)·x", "N(k)", "N(k)·x", "N(n−1)·x", "x", without the x of each
abbrev pub change_of : ℕ → Author → Case → Change
change_of p author KeepBelow = Kept
change_of p author PutBelow = Led (lead p author (negsuc 0))
change_of p author (Logged k) = Alone (lead p author (pos k))
change_of p author (Between k) = Led (lead p author (pos k))
change_of p author (PutAbove k) = Led (lead p author (pos k))
change_of p author KeepAbove = Kept

-- what it makes of x
abbrev pub changed_by : Change → Row → Row
changed_by Kept x = x
changed_by (Alone t) x = t ∷ []
changed_by (Led t) x = t ∷ x

-- it puts a tuple before the name
abbrev pub gains : Change → Bool
gains Kept = false
gains (Alone t) = false
gains (Led t) = true
