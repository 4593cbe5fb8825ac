-- What a conversion comes to, case by case: the first refusal that applies, or the slots written. Assumes nothing.
use mathlib.Core.Path.{◌≡◌, refl, ◌∙◌, ap}
use mathlib.Core.List.{List, [], ◌∷◌, map, flatten}
use mathlib.Core.Bool.{true, false, ◌&&◌}
use Prim.Native.Nat.{ℕ, ◌*◌, ◌/◌, ◌<◌, ◌≤◌}
use native.Mathlib.Omega.{arith}
use borrow.Author.Tests.{le-leb, leb-true}
use lib.Dec.{leb}
use lib.ListN.{length, length-map}
use Rattle.names.specs.Names.{limit, fits, is_name}
use Rattle.numbers.specs.Bytes.{Bytes, Octets}
use Rattle.std.specs.List.{list_all}
use Rattle.numbers.proofs.Bools.{and_0, and_1}
use Rattle.numbers.proofs.Parts.{length_parts}
use Rattle.slots.specs.Slots.{slot_over, is_slot_over, Slot, slot_size, is_slot}
use Rattle.pages.specs.Pages.{parts_over, check_over, check_page, slots_of, name_in, names_of, pieces, keeps_layout, rises}
use Rattle.pages.proofs.Checked.{page_fails}
use Rattle.pages.proofs.RoundTrip.{slots_over_lem, written_over, page_slots, written_length}
use Rattle.pages.proofs.SlotBySlot.{length_slots}
use Rattle.std.specs.declared.result.Result.TheVariants.{Ok, Err}
use Rattle.answers.specs.declared.Refusal.{Refusal}
use Rattle.answers.specs.declared.Refusal.TheVariants.{TooDeep, Short}
use Rattle.answers.specs.Answers.{◌else◌, refuse, write}
use Rattle.answers.specs.Laws.{here, later}
use Rattle.answers.proofs.Refusals.{passed, failed}
use Rattle.answers.proofs.Outcomes.{writes, writes_short}
use Rattle.old_pages.specs.OldPages.{old_limit, old_size, keeps_old, old_rises, old_slots_of, old_pieces, fits_old, from_old_tests, to_old_tests, from_old_outcome, to_old_outcome}
use Rattle.old_pages.proofs.ConvertedSlots.{length_new, length_old}

-- ── slots of either kind ──

-- a slot that fits an old page fits a page
pub widened : (l : List Slot) → list_all (is_slot_over old_limit) l ≡ true → list_all is_slot l ≡ true
widened [] e = refl
widened (x ∷ l) e =
    let a = leb x.line 4294967295 && is_name x.name in
    let one = and_0 (is_slot_over old_limit x) (list_all (is_slot_over old_limit) l) e in
    let few = leb-true (length x.name) old_limit (and_1 a (fits_old x.name) one) in
    λ i. (and_0 a (fits_old x.name) one i && le-leb (length x.name) limit (omega arith) i) && widened l (and_1 (is_slot_over old_limit x) (list_all (is_slot_over old_limit) l) e) i

-- and a slot of a page whose depth fits fits an old page
pub narrowed : (l : List Slot) → list_all is_slot l ≡ true → list_all fits_old (map name_in l) ≡ true → list_all (is_slot_over old_limit) l ≡ true
narrowed [] e t = refl
narrowed (x ∷ l) e t =
    let a = leb x.line 4294967295 && is_name x.name in
    let one = and_0 a (fits x.name) (and_0 (is_slot x) (list_all is_slot l) e) in
    λ i. (one i && and_0 (fits_old x.name) (list_all fits_old (map name_in l)) t i) && narrowed l (and_1 (is_slot x) (list_all is_slot l) e) (and_1 (fits_old x.name) (list_all fits_old (map name_in l)) t) i

-- ── from an old page ──

pub old_count : (old : Bytes) → length (old_slots_of old) ≡ length old / old_size
old_count old = length-map (parts_over old_limit old) (slot_over old_limit) ∙ length_parts old_size (length old / old_size) old

module _ (old : Bytes) (room : ℕ) where
  abbrev new : List (List ℕ)
  new = pieces (old_slots_of old)

  pub from_refused : {r : Refusal} → check_over old_limit old ≡ Err r → from_old_outcome old room ≡ refuse r
  unfolding from_old_outcome
  from_refused e = failed refuse (write new room) (from_old_tests old) (page_fails old_limit old [] e)

  module _ (k : Octets old) (e : keeps_old old ≡ true) (f : old_rises old ≡ true) where
    pub from_good : list_all is_slot (old_slots_of old) ≡ true
    from_good = widened (old_slots_of old) (slots_over_lem old_limit old k e)

    from_length : length (flatten (pieces (old_slots_of old))) ≡ slot_size * (length old / old_size)
    from_length = written_length (old_slots_of old) from_good ∙ ap (λ (n : ℕ). slot_size * n) (old_count old)

    pub from_short : room < slot_size * (length old / old_size) → from_old_outcome old room ≡ refuse Short
    unfolding from_old_outcome
    from_short h = passed refuse (write new room) (from_old_tests old) (e, (f, tt)) ∙ writes_short new room (omega (arith, from_length))

    pub from_done : slot_size * (length old / old_size) ≤ room
        → from_old_outcome old room ≡ record { answer = Ok (length old / old_size); bytes = flatten (pieces (old_slots_of old)) }
    unfolding from_old_outcome
    from_done h =
        passed refuse (write new room) (from_old_tests old) (e, (f, tt))
        ∙ writes new room (length old / old_size) (flatten new) (length_new old) refl (omega (arith, from_length))

-- ── to an old page ──

module _ (page : Bytes) (room : ℕ) where
  abbrev cut : List (List ℕ)
  cut = old_pieces (slots_of page)

  pub to_refused : {r : Refusal} → check_page page ≡ Err r → to_old_outcome page room ≡ refuse r
  unfolding to_old_outcome
  to_refused e = failed refuse (write cut room) (to_old_tests page) (page_fails limit page (list_all fits_old (names_of page) else TooDeep ∷ []) e)

  pub to_too_deep : keeps_layout page ≡ true → rises page ≡ true → list_all fits_old (names_of page) ≡ false → to_old_outcome page room ≡ refuse TooDeep
  unfolding to_old_outcome
  to_too_deep e f t = failed refuse (write cut room) (to_old_tests page) (later e (later f (here t refl)))

  module _ (k : Octets page) (e : keeps_layout page ≡ true) (f : rises page ≡ true) (t : list_all fits_old (names_of page) ≡ true) where
    pub to_good : list_all (is_slot_over old_limit) (slots_of page) ≡ true
    to_good = narrowed (slots_of page) (page_slots page k e) t

    to_length : length (flatten (old_pieces (slots_of page))) ≡ old_size * (length page / slot_size)
    to_length = written_over old_limit (slots_of page) to_good ∙ ap (λ (n : ℕ). old_size * n) (length_slots page)

    pub to_short : room < old_size * (length page / slot_size) → to_old_outcome page room ≡ refuse Short
    unfolding to_old_outcome
    to_short h = passed refuse (write cut room) (to_old_tests page) (e, (f, (t, tt))) ∙ writes_short cut room (omega (arith, to_length))

    pub to_done : old_size * (length page / slot_size) ≤ room
        → to_old_outcome page room ≡ record { answer = Ok (length page / slot_size); bytes = flatten (old_pieces (slots_of page)) }
    unfolding to_old_outcome
    to_done h =
        passed refuse (write cut room) (to_old_tests page) (e, (f, (t, tt)))
        ∙ writes cut room (length page / slot_size) (flatten cut) (length_old page) refl (omega (arith, to_length))
