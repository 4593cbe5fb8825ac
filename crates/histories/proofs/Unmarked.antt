-- Names without markers: slots that do not all pass the test (`unmarked`) are `Marked` (`some_marked`); renaming brings no marker in
-- (`renamed_free`). Assumes nothing.
use mathlib.Core.Path.{◌≡◌}
use mathlib.Core.List.{List}
use mathlib.Core.Bool.{Bool, false, not}
use Prim.Native.Nat.{ℕ}
use borrow.Author.Tests.{not-false}
use Rattle.names.specs.declared.Author.{Author}
use Rattle.names.specs.declared.Tuple.{Tuple}
use Rattle.names.specs.Ordering.{Row}
use Rattle.names.specs.Names.{marker}
use Rattle.names.proofs.Validity.{Valid, valid}
use Rattle.name_renames.specs.declared.Case.{Case}
use Rattle.name_renames.specs.declared.Case.TheVariants.{KeepBelow, PutBelow, Logged, Between, PutAbove, KeepAbove}
use Rattle.name_renames.specs.Renaming.{become, case_of, first_position, rename}
use Rattle.name_renames.proofs.Lists.{nil, cons}
use Rattle.name_renames.proofs.Gaps.{MarkerFree}
use Rattle.numbers.specs.Bytes.{Bytes}
use Rattle.std.specs.List.{list_all}
use Rattle.slots.specs.Slots.{name_of}
use Rattle.one_name.specs.Markers.{unmarked}
use Rattle.histories.specs.Demand.{Marked}
use Rattle.histories.proofs.Members.{some_not}

abbrev pub unmarked_slot : Bytes → Bool
unmarked_slot slot = unmarked (name_of slot)

pub some_marked : (slots : List Bytes) → list_all unmarked_slot slots ≡ false → Marked slots
some_marked slots e =
    let s = some_not unmarked_slot slots e in
    let t = some_not (λ (t : Tuple). not (marker t)) (name_of s.0) s.2 in
    (s.0, s.1, t.0, t.1, not-false (marker t.0) t.2)

-- ── renaming ──

-- the tuple put before a name is the first of a name, and so no marker
become_free : (p : ℕ) (author : Author) (c : Case) {x : Row} → Valid (become p author c x) → MarkerFree x → MarkerFree (become p author c x)
unfolding become
become_free p author KeepBelow v a = a
become_free p author PutBelow (valid o e) a = cons o a
become_free p author (Logged k) (valid o e) a = cons o nil
become_free p author (Between k) (valid o e) a = cons o a
become_free p author (PutAbove k) (valid o e) a = cons o a
become_free p author KeepAbove v a = a

pub renamed_free : (author : Author) (log : List Row) {x : Row} → Valid (rename author log x) → MarkerFree x → MarkerFree (rename author log x)
unfolding rename
renamed_free author log {x} v f = let p = first_position log in become_free p author (case_of p author log x) v f
