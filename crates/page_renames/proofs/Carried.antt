-- A page whose names go through a function f, be it `rename author log` or `take_back author log`: where the results are names that
-- fit, slots are written (`carried_good`) and read back as they were written (`carried_slots`, `carried_parts`); where the results
-- rise too, it is a page (`carried_page`). A function that undoes f on the page's names gives the slots back (`carried_again`). Assumes nothing.
use mathlib.Core.Path.{◌≡◌, refl, ◌∙◌, sym}
use mathlib.Core.List.{List, [], ◌∷◌, map, map-map, flatten}
use mathlib.Core.Bool.{Bool, true, ◌&&◌}
use Prim.Native.Nat.{ℕ, suc, ◌<◌, ◌≤◌}
use native.Mathlib.Omega.{arith}
use lib.Dec.{leb}
use lib.ListN.{length, get_or, length-map}
use Rattle.names.specs.Ordering.{Row, Rising}
use Rattle.names.specs.Names.{is_name, fits}
use Rattle.numbers.proofs.Bools.{and_0, and_1}
use Rattle.names.proofs.Validity.{Valid, valid_name}
use Rattle.name_renames.proofs.Lists.{All, nil, cons}
use Rattle.numbers.specs.Bytes.{Bytes, Octets}
use Rattle.std.specs.List.{list_all}
use Rattle.slots.specs.Slots.{Slot, is_slot}
use Rattle.pages.specs.Pages.{max_slots, parts_of, slots_of, name_in, names_of, pieces, keeps_layout, rises}
use Rattle.pages.proofs.SlotBySlot.{length_slots}
use Rattle.pages.proofs.RoundTrip.{laid, page_names, page_slots, parts_are, slots_back, written_page}
use Rattle.page_renames.specs.Renames.{carry, carried, all_fit}

-- ── the names of a page ──

-- a test that each of a list passes, as a statement
pub all_every : {A : Type 0} {P : A → Type 0} (f : A → Bool) → ((x : A) → f x ≡ true → P x) → (l : List A) → list_all f l ≡ true → All P l
all_every f h [] e = nil
all_every f h (x ∷ l) e = cons (h x (and_0 (f x) (list_all f l) e)) (all_every f h l (and_1 (f x) (list_all f l) e))

-- what holds of every k-th holds of each
all_index : {A : Type 0} {P : A → Type 0} (d : A) (l : List A) → ((k : ℕ) → k < length l → P (get_or l k d)) → All P l
all_index d [] f = nil
all_index d (x ∷ l) f = cons (f 0 (omega arith)) (all_index d l (λ k h. f (suc k) (omega arith)))

pub page_valid : (s : Bytes) → keeps_layout s ≡ true → All Valid (names_of s)
page_valid s e = all_index [] (names_of s) (page_names s e)

pub names_fit : (l : List Slot) → list_all is_slot l ≡ true → list_all fits (map name_in l) ≡ true
names_fit [] e = refl
names_fit (x ∷ l) e =
    let h = and_0 (is_slot x) (list_all is_slot l) e in
    let t = and_1 (leb x.line 4294967295 && is_name x.name) (fits x.name) h in
    λ i. t i && names_fit l (and_1 (is_slot x) (list_all is_slot l) e) i

-- ── lists of slots ──

pub carried_names : (f : Row → Row) (l : List Slot) → map name_in (carried f l) ≡ map f (map name_in l)
carried_names f l = map-map name_in (carry f) l ∙ sym (map-map f name_in l)

-- g undoes f
pub carried_again : (f g : Row → Row) (l : List Slot) → All (λ (a : Row). g (f a) ≡ a) (map name_in l) → carried g (carried f l) ≡ l
carried_again f g [] es = refl
carried_again f g (x ∷ l) (cons e es) = λ i. record { line = x.line; name = e i } ∷ carried_again f g l es i

all_good : (f : Row → Row) (l : List Slot) → list_all is_slot l ≡ true → All Valid (map f (map name_in l)) → list_all fits (map f (map name_in l)) ≡ true →
    list_all is_slot (carried f l) ≡ true
all_good f [] e vs t = refl
all_good f (x ∷ l) e (cons v vs) t =
    let n = leb x.line 4294967295 in
    let u = and_0 n (is_name x.name) (and_0 (n && is_name x.name) (fits x.name) (and_0 (is_slot x) (list_all is_slot l) e)) in
    let w = and_0 (fits (f x.name)) (list_all fits (map f (map name_in l))) t in
    let r = all_good f l (and_1 (is_slot x) (list_all is_slot l) e) vs (and_1 (fits (f x.name)) (list_all fits (map f (map name_in l))) t) in
    λ i. (u i && valid_name v i && w i) && r i

-- ── pages ──

module _ (f : Row → Row) (page : Bytes) (po : Octets page) (k : keeps_layout page ≡ true) (vs : All Valid (map f (names_of page))) (t : all_fit f page ≡ true) where
  pub carried_good : list_all is_slot (carried f (slots_of page)) ≡ true
  carried_good = all_good f (slots_of page) (page_slots page po k) vs t

  pub carried_slots : slots_of (flatten (pieces (carried f (slots_of page)))) ≡ carried f (slots_of page)
  carried_slots = slots_back (carried f (slots_of page)) carried_good

  pub carried_parts : parts_of (flatten (pieces (carried f (slots_of page)))) ≡ pieces (carried f (slots_of page))
  carried_parts = parts_are (carried f (slots_of page)) carried_good

  pub carried_page : Rising (map f (names_of page)) →
      (keeps_layout (flatten (pieces (carried f (slots_of page)))) ≡ true) × (rises (flatten (pieces (carried f (slots_of page)))) ≡ true)
  carried_page r =
      let few : length (carried f (slots_of page)) ≤ max_slots = omega (arith, length-map (slots_of page) (carry f), length_slots page, (laid page k).few) in
      written_page (carried f (slots_of page)) carried_good few (rw (carried_names f (slots_of page)) r)
