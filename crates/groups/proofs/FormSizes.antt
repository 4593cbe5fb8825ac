-- How long a form is: no longer than with a group for each slot (`no_longer_than_alone`), so of a page no longer than the longest
-- (`no_longer`), and a page of as many names as there can be, of as many tuples each, no two of a run, is as long (`full_length`). Assumes
-- nothing.
use mathlib.Core.Path.{◌≡◌, refl, ap, ◌∙◌}
use mathlib.Core.List.{List, [], ◌∷◌, map, flatten}
use mathlib.Core.Bool.{Bool, true, false, cond, ◌&&◌}
use Prim.Native.Nat.{ℕ, zero, suc, ◌+◌, ◌*◌, ◌<◌, ◌≤◌}
use native.Mathlib.Omega.{arith}
use borrow.Author.Tests.{leb-true}
use lib.ListN.{length, length-append, length-map}
use Rattle.names.specs.Ordering.{Row, ◌<ⁿ◌, sequence, differ}
use Rattle.std.specs.Ordering.{is_eq}
use Rattle.names.specs.Names.{limit, fits, is_name}
use Rattle.names.proofs.Laws.{row_less}
use Rattle.numbers.specs.Bytes.{Bytes, Octets}
use Rattle.std.specs.List.{list_all}
use Rattle.numbers.proofs.Bools.{and_0, and_1}
use Rattle.slots.specs.Tuples.{tuple_size}
use Rattle.slots.specs.Slots.{Slot, is_slot}
use Rattle.pages.specs.Pages.{max_slots, slots_of, name_in, pieces}
use Rattle.pages.specs.Laws.{IsPage}
use Rattle.pages.proofs.RoundTrip.{slots_back, written_page}
use Rattle.pages.proofs.WrittenOctets.{written_octets}
use Rattle.runs.specs.Runs.{next, is_next}
use Rattle.name_fields.specs.NameFields.{name_fits}
use Rattle.name_fields.proofs.LongestNames.{step, deep, deeps, deep_length, deeps_fit, deeps_rise, deeps_many}
use Rattle.groups.specs.Groups.{Group, line_size, alone, joined, grouped}
use Rattle.groups.specs.Forms.{group_bytes, form_bytes, group_head, longest_form}
use Rattle.groups.proofs.RunSlots.{slot_fits}
use Rattle.groups.proofs.GroupBytes.{group_length}
use Rattle.groups.proofs.FormInverse.{form_none, form_more}
use Rattle.groups.proofs.FormPages.{page_good, page_few}

pub longest_is : longest_form ≡ 52992
longest_is = refl

pub form_length : (g : Group) (gs : List Group) → length (form_bytes (g ∷ gs)) ≡ length (group_bytes g) + length (form_bytes gs)
form_length g gs = ap length (form_more g gs) ∙ length-append (group_bytes g) (form_bytes gs)

-- ── no form is longer ──

-- a slot before groups adds no more than a group of its own
joined_length : (x : Slot) (gs : List Group) → length (form_bytes (joined x gs)) ≤ length (group_bytes (alone x)) + length (form_bytes gs)
joined_length x [] = let e = form_length (alone x) [] in omega arith
joined_length x (g ∷ gs) = go (is_next x.name g.first)
  where
    go : (b : Bool) → length (form_bytes (cond b (record { first = x.name; lines = x.line ∷ g.lines } ∷ gs) (alone x ∷ g ∷ gs)))
        ≤ length (group_bytes (alone x)) + length (form_bytes (g ∷ gs))
    go true =
        let h : Group = record { first = x.name; lines = x.line ∷ g.lines } in
        let a = form_length h gs in
        let b = form_length g gs in
        let c = group_length h in
        let d = group_length g in
        let e = group_length (alone x) in
        omega arith
    go false = let e = form_length (alone x) (g ∷ gs) in omega arith

pub no_longer_than_alone : (l : List Slot) → length (form_bytes (grouped l)) ≤ length (form_bytes (map alone l))
no_longer_than_alone [] = omega arith
no_longer_than_alone (x ∷ l) =
    let a = joined_length x (grouped l) in
    let b = no_longer_than_alone l in
    let c = form_length (alone x) (map alone l) in
    omega arith

alone_bound : (l : List Slot) → list_all is_slot l ≡ true → length (form_bytes (map alone l)) ≤ length l * (group_head + tuple_size * limit + line_size)
alone_bound [] e = let z = ap length form_none in omega arith
alone_bound (x ∷ l) e =
    let f = leb-true (length x.name) limit (and_1 (is_name x.name) (fits x.name) (slot_fits x (and_0 (is_slot x) (list_all is_slot l) e))) in
    let a = alone_bound l (and_1 (is_slot x) (list_all is_slot l) e) in
    let b = form_length (alone x) (map alone l) in
    let c = group_length (alone x) in
    omega arith

-- so of any slots, and of as many as a page may have
pub slots_within : (l : List Slot) → list_all is_slot l ≡ true → length (form_bytes (grouped l)) ≤ length l * (group_head + tuple_size * limit + line_size)
slots_within l e = let a = no_longer_than_alone l in let b = alone_bound l e in omega arith

pub slots_bound : (l : List Slot) → list_all is_slot l ≡ true → length l ≤ max_slots → length (form_bytes (grouped l)) ≤ longest_form
slots_bound l e h = let a = slots_within l e in omega arith

pub no_longer : (page : Bytes) → Octets page → IsPage page → length (form_bytes (grouped (slots_of page))) ≤ longest_form
no_longer page k v = slots_bound (slots_of page) (page_good page k v) (page_few page k v)

-- ── and one is as long ──

-- a slot with line number 0
bare : Row → Slot
bare a = record { line = 0; name = a }

names_bare : (l : List Row) → map name_in (map bare l) ≡ l
unfolding bare
names_bare [] = refl
names_bare (a ∷ l) = ap (λ (r : List Row). a ∷ r) (names_bare l)

slots_bare : (l : List Row) → list_all name_fits l ≡ true → list_all is_slot (map bare l) ≡ true
unfolding bare
slots_bare [] e = refl
slots_bare (a ∷ l) e =
    let v = and_0 (name_fits a) (list_all name_fits l) e in
    λ i. (and_0 (is_name a) (fits a) v i && and_1 (is_name a) (fits a) v i) && slots_bare l (and_1 (name_fits a) (list_all name_fits l) e) i

-- the names are not of a run
deep_under : (k : ℕ) → next (deep k) <ⁿ deep (suc k)
unfolding next deep step
deep_under k = let l : k < suc k = omega arith in differ (sequence refl refl l)

deep_apart : (k : ℕ) → is_next (deep k) (deep (suc k)) ≡ false
deep_apart k = ap is_eq (row_less (deep_under k))

-- so each slot is a group
alones : (n k : ℕ) → grouped (map bare (deeps n k)) ≡ map alone (map bare (deeps n k))
unfolding deeps bare
alones zero k = refl
alones (suc zero) k = refl
alones (suc (suc n)) k =
    let x = bare (deep k) in
    let y = bare (deep (suc k)) in
    let l = map bare (deeps n (suc (suc k))) in
    ap (joined x) (alones (suc n) (suc k))
    ∙ ap (λ (b : Bool). cond b (record { first = deep k; lines = 0 ∷ 0 ∷ [] } ∷ map alone l) (alone x ∷ alone y ∷ map alone l)) (deep_apart k)

alones_length : (n k : ℕ) → length (form_bytes (map alone (map bare (deeps n k)))) ≡ n * (group_head + tuple_size * limit + line_size)
unfolding deeps bare
alones_length zero k = ap length form_none
alones_length (suc n) k =
    let x = bare (deep k) in
    let a = form_length (alone x) (map alone (map bare (deeps n (suc k)))) in
    let b = group_length (alone x) in
    let c = deep_length k in
    let d = alones_length n (suc k) in
    omega arith

-- a page of n such slots
module _ (n : ℕ) (h : n ≤ max_slots) where
  abbrev slots : List Slot
  slots = map bare (deeps n 0)

  many_slots : list_all is_slot slots ≡ true
  many_slots = slots_bare (deeps n 0) (deeps_fit n 0 (omega arith))

  many_few : length slots ≤ max_slots
  many_few = omega (arith, length-map (deeps n 0) bare, deeps_many n 0)

  many_page : IsPage (flatten (pieces slots))
  many_page = written_page slots many_slots many_few (rw (names_bare (deeps n 0)) (deeps_rise n 0))

  many_length : length (form_bytes (grouped (slots_of (flatten (pieces slots))))) ≡ n * (group_head + tuple_size * limit + line_size)
  many_length =
      ap (λ (l : List Slot). length (form_bytes (grouped l))) (slots_back slots many_slots)
      ∙ ap (λ (gs : List Group). length (form_bytes gs)) (alones n 0)
      ∙ alones_length n 0

-- a page of as many slots as there can be
pub one_as_long : (page : Bytes) × Octets page × IsPage page × (length (form_bytes (grouped (slots_of page))) ≡ longest_form)
one_as_long =
    let h : max_slots ≤ max_slots = omega arith in
    let l = map bare (deeps max_slots 0) in
    (flatten (pieces l), written_octets l (many_slots max_slots h), many_page max_slots h, many_length max_slots h)
