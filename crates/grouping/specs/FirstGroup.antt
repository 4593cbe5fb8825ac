-- How the code speaks of a page's groups one by one; 02 does not speak of it.
use Rattle.std.specs.Prelude.{ℕ, zero, suc, ◌+◌, ◌*◌, List, [], ◌∷◌, map, Bool, true, cond, not, length, get_or}
use Rattle.slots.specs.Tuples.{tuple_size}
use Rattle.slots.specs.Slots.{Slot}
use Rattle.pages.specs.Pages.{name_in}
use Rattle.runs.specs.Runs.{is_next}
use Rattle.groups.specs.Groups.{Group, size, line_size, grouped}
use Rattle.groups.specs.Forms.{group_head}

abbrev pub size_of_first : List Group → ℕ
size_of_first [] = 0
size_of_first (g ∷ gs) = size g

-- how many of the slots, from the first on, are one run
abbrev pub first_run : List Slot → ℕ
first_run l = size_of_first (grouped l)

-- how many bytes slot k brings to the form: its line number, and where it begins a group what stands before that
abbrev pub begins : List Slot → ℕ → Bool
begins l zero = true
begins l (suc k) = not (is_next (get_or (map name_in l) k []) (get_or (map name_in l) (suc k) []))

abbrev pub slot_bytes_in : List Slot → ℕ → ℕ
slot_bytes_in l k = cond (begins l k) (group_head + tuple_size * length (get_or (map name_in l) k [])) 0 + line_size
