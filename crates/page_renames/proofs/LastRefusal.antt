-- A rename or a taking back after 1, 2, 3 and 4, as the code meets it: its own tests refuse (`own_refused`), or 8 does (`short`), or the page
-- is written (`done`). Both are over a call's own tests and what it makes of a name. Assumes nothing.
use mathlib.Core.Path.{◌≡◌, refl, ◌∙◌, ap}
use mathlib.Core.List.{List, [], ◌∷◌, map, flatten}
use mathlib.Core.Bool.{true}
use Prim.Native.Nat.{ℕ, ◌*◌, ◌/◌, ◌<◌, ◌≤◌}
use native.Mathlib.Omega.{arith}
use borrow.Author.Tests.{leb-true}
use lib.ListN.{length, length-append, length-map}
use Rattle.names.specs.declared.Author.{Author}
use Rattle.names.specs.Ordering.{Row}
use Rattle.names.specs.Names.{limit, fits}
use Rattle.numbers.proofs.Bools.{and_0, and_1}
use Rattle.name_renames.specs.Renaming.{rename, take_back}
use Rattle.numbers.specs.Bytes.{Bytes}
use Rattle.std.specs.List.{list_all}
use Rattle.slots.specs.Slots.{Slot, slot_size, slot_bytes}
use Rattle.slots.proofs.RoundTrip.{slot_length}
use Rattle.answers.specs.Answers.{Outcome, Test, in_order, refuse, write}
use Rattle.pages.specs.Pages.{slots_of, name_in, names_of, pieces}
use Rattle.std.specs.declared.result.Result.TheVariants.{Ok}
use Rattle.answers.specs.declared.Refusal.{Refusal}
use Rattle.answers.specs.declared.Refusal.TheVariants.{Short}
use Rattle.answers.proofs.Outcomes.{writes_short, writes}
use Rattle.pages.proofs.SlotBySlot.{length_slots}
use Rattle.answers.specs.Laws.{Passed as AllPass}
use Rattle.answers.proofs.Refusals.{passed, failed}
use Rattle.pages.proofs.RoundTrip.{laid}
use Rattle.numbers.proofs.Lists.{flat, flat_none}
use Rattle.std.specs.declared.result.Result.TheVariants.{Ok}
use Rattle.page_renames.specs.Renames.{carry, carried, all_fit, opening_tests, rename_tests, take_back_tests}
use Rattle.page_renames.proofs.Books.{past, all_asked}
use Rattle.answers.proofs.Checked.{Told, refuse_with, goes_on, all_pass, first_fails}

-- results that fit fill a slot each
bytes_long : (f : Row → Row) (l : List Slot) → list_all fits (map f (map name_in l)) ≡ true → length (flatten (pieces (carried f l))) ≡ slot_size * length l
bytes_long f [] t = ap length flat_none
bytes_long f (x ∷ l) t =
    let this = fits (f x.name) in
    let others = list_all fits (map f (map name_in l)) in
    let bytes = slot_bytes (carry f x) in
    let rest = flatten (pieces (carried f l)) in
    let a = slot_length (carry f x) (leb-true (length (f x.name)) limit (and_0 this others t)) in
    let b = bytes_long f l (and_1 this others t) in
    ap length (flat bytes (pieces (carried f l))) ∙ length-append bytes rest ∙ omega arith

-- f is what becomes of a name, and where the call's own tests pass every result fits
module _ (page log : Bytes) (author : Author) (own : List Test) (f : Row → Row) (fit : AllPass own → all_fit f page ≡ true) (room : ℕ) where
  abbrev slots : List Bytes
  slots = pieces (carried f (slots_of page))

  -- the call's outcome
  abbrev told : Outcome
  told = in_order (opening_tests page log author) refuse (in_order own refuse (write slots room))

  -- the first check has passed, and x is what the second has answered
  module _ (e : AllPass (opening_tests page log author)) {x : Told} (o : x ≡ in_order own refuse_with goes_on) where
    pub own_refused : (r : Refusal) → x ≡ refuse_with r → told ≡ refuse r
    own_refused r i = past page log author (all_asked page log author e) _ ∙ failed refuse (write slots room) own (first_fails own o i)

    module _ (i : x ≡ goes_on) where
      pub all_fit_lem : all_fit f page ≡ true
      all_fit_lem = fit (all_pass own o i)

      on : told ≡ write slots room
      on = past page log author (all_asked page log author e) _ ∙ passed refuse (write slots room) own (all_pass own o i)

      as_long : length (flatten slots) ≡ length page
      as_long = bytes_long f (slots_of page) all_fit_lem ∙ omega (arith, length_slots page, (laid page (all_asked page log author e).layout).whole)

      pub short : room < length page → told ≡ refuse Short
      short h = on ∙ writes_short slots room (omega (arith, as_long))

      pub done : length page ≤ room → told ≡ record { answer = Ok (length page / slot_size); bytes = flatten slots }
      done h =
          let n = length-map (carried f (slots_of page)) slot_bytes ∙ length-map (slots_of page) (carry f) ∙ length_slots page in
          on ∙ writes slots room (length page / slot_size) (flatten slots) n refl (omega (arith, as_long))

-- ── of each call's own tests, 6 ──

pub renamed_fit : (page log : Bytes) (author : Author) → AllPass (rename_tests page log author) → all_fit (rename author (names_of log)) page ≡ true
renamed_fit page log author (_, (fit, _)) = fit

pub back_fit : (page log : Bytes) (author : Author) → AllPass (take_back_tests page log author) → all_fit (take_back author (names_of log)) page ≡ true
back_fit page log author (fit, _) = fit
