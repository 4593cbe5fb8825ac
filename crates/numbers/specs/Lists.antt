-- Lists: a list cut into parts of equal size.
use Rattle.std.specs.Prelude.{ℕ, ◌/◌, List, length}
use Rattle.std.specs.Simd.{first_chunks}

-- all its whole parts: the slots of a page, the entries of a table
abbrev pub equal_parts : {A : Type 0} → ℕ → List A → List (List A)
equal_parts size s = first_chunks size (length s / size) s
