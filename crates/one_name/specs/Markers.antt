-- Names with no end marker: document 01, "Names" ("markers may stand only between"), and demand 3 ("with no end marker").
use Rattle.std.specs.Prelude.{ℕ, Bool, not, drop}
use Rattle.names.specs.declared.Tuple.{Tuple}
use Rattle.names.specs.Ordering.{Row}
use Rattle.names.specs.Names.{marker}
use Rattle.std.specs.List.{list_all}

-- none of its tuples is m or M
abbrev pub unmarked : Row → Bool
unmarked a = list_all (λ (t : Tuple). not (marker t)) a

-- none of its tuples from the k-th on, counted from 0
abbrev pub unmarked_from : ℕ → Row → Bool
unmarked_from k a = unmarked (drop k a)
