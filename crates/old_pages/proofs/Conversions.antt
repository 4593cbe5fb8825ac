-- The laws of specs/Laws.antt hold: an old page and what it becomes have the same slots, both ways, and going there and back gives the same
-- bytes. Assumes nothing.
use mathlib.Core.Path.{◌≡◌, refl, ◌∙◌, sym, ap, subst}
use mathlib.Core.List.Memᴰ
use mathlib.Core.List.{List, [], ◌∷◌, map, flatten, Memᴰ as In}
use mathlib.Core.Logic.{◌↔◌, inl, inr}
use mathlib.Core.Bool.{Bool, true, false, ◌&&◌, and-false}
use Prim.Native.Nat.{ℕ, ◌+◌, ◌-◌, ◌*◌, ◌/◌, ◌<◌, ◌≤◌, min}
use native.Mathlib.Decide.{dec_lt}
use native.Mathlib.Nat.{add-zero}
use native.Mathlib.Omega.{arith}
use borrow.Author.Tests.{lt-leb, leb-false, eqb-true}
use lib.Dec.{leb}
use lib.ListN.{length, get_or, take, drop, length-map, length-take, length-drop}
use lib.Seq.{get_or-take, get_or-drop}
use Rattle.names.specs.Names.{limit, is_name}
use Rattle.names.proofs.Laws.{rising_Rising}
use Rattle.numbers.specs.Bytes.{Bytes, Octets, is_zero}
use Rattle.std.specs.List.{list_all}
use Rattle.numbers.proofs.Bools.{and_0, and_1}
use Rattle.numbers.proofs.Every.{every_each}
use Rattle.slots.specs.Tuples.{tuples_at, tuple_size}
use Rattle.slots.specs.Slots.{head_size, bytes_over, is_slot_over, Slot, slot_size, depth_of, name_of, slot_of, keeps_slot, is_slot}
use Rattle.slots.proofs.RoundTrip.{Kept, kept}
use Rattle.slots.proofs.TuplesInBytes.{length_tuples_at}
use Rattle.pages.specs.Pages.{names_over, max_slots, parts_of, slots_of, name_in, names_of, pieces, keeps_layout, rises}
use Rattle.pages.specs.Laws.{IsPage}
use Rattle.pages.proofs.RoundTrip.{laid_over, slots_over_lem, page_back_over, slots_back_over, written_page_over, laid, slots_back, written_page}
use Rattle.pages.proofs.SlotBySlot.{lent, lent_keeps, length_slots}
use Rattle.pages.proofs.PageOutcomes.{page_again}
use Rattle.std.specs.declared.result.Result.TheVariants.{Ok, Err}
use Rattle.answers.specs.declared.Refusal.TheVariants.{TooDeep}
use Rattle.answers.specs.Answers.{Outcome, refuse, write}
use Rattle.answers.specs.Laws.{here, later, RefusedBy, test, after}
use Rattle.answers.proofs.Outcomes.{write_accepted, write_refuses, writes}
use Rattle.answers.proofs.Refusals.{passed, accepted_passes, refused_first}
use Rattle.old_pages.specs.OldPages.{old_limit, old_size, keeps_old, old_rises, old_slots_of, old_pieces, fits_old, from_old_tests, to_old_tests, from_old_outcome, to_old_outcome}
use Rattle.old_pages.specs.Laws.{Sizes, IsOldPage, SomeDeeper, Laws}
use Rattle.old_pages.proofs.ConvertedSlots.{old_slot, old_part, old_kept}
use Rattle.old_pages.proofs.Outcomes.{widened, narrowed, old_count, from_done, to_too_deep, to_done}

abbrev answered : {x y : Outcome} → x ≡ y → x.answer ≡ y.answer
answered e = ap (λ (o : Outcome). o.answer) e

pub sizes : Sizes
sizes = record { slot_was = refl; slot_is = refl; page_was = refl; page_is = refl }

-- ── what was written ──

-- what an accepted conversion of an old page has found and written
record From (old : Bytes) (room : ℕ) : Type 0 where
  layout : keeps_old old ≡ true
  order : old_rises old ≡ true
  written : (from_old_outcome old room).bytes ≡ flatten (pieces (old_slots_of old))

from_facts : (old : Bytes) (room n : ℕ) → (from_old_outcome old room).answer ≡ Ok n → From old room
unfolding from_old_outcome
from_facts old room n e =
    let all = pieces (old_slots_of old) in
    let g = accepted_passes (write all room) n (from_old_tests old) e in
    let w = write_accepted all room n (answered (sym g.1) ∙ e) in
    record { layout = g.0.0; order = g.0.1.0; written = ap (λ (o : Outcome). o.bytes) (g.1 ∙ w) }

record To (page : Bytes) (room : ℕ) : Type 0 where
  layout : keeps_layout page ≡ true
  order : rises page ≡ true
  shallow : list_all fits_old (names_of page) ≡ true
  written : (to_old_outcome page room).bytes ≡ flatten (old_pieces (slots_of page))

to_facts : (page : Bytes) (room n : ℕ) → (to_old_outcome page room).answer ≡ Ok n → To page room
unfolding to_old_outcome
to_facts page room n e =
    let all = old_pieces (slots_of page) in
    let g = accepted_passes (write all room) n (to_old_tests page) e in
    let w = write_accepted all room n (answered (sym g.1) ∙ e) in
    record { layout = g.0.0; order = g.0.1.0; shallow = g.0.1.1.0; written = ap (λ (o : Outcome). o.bytes) (g.1 ∙ w) }

-- ── from an old page ──

-- slots of an old page have depths that fit it
all_shallow : (l : List Slot) → list_all (is_slot_over old_limit) l ≡ true → list_all fits_old (map name_in l) ≡ true
all_shallow [] e = refl
all_shallow (x ∷ l) e =
    let one = and_0 (is_slot_over old_limit x) (list_all (is_slot_over old_limit) l) e in
    λ i. and_1 (leb x.line 4294967295 && is_name x.name) (fits_old x.name) one i && all_shallow l (and_1 (is_slot_over old_limit x) (list_all (is_slot_over old_limit) l) e) i

module _ (old : Bytes) (k : Octets old) (e : keeps_old old ≡ true) (f : old_rises old ≡ true) where
  abbrev olds : List Slot
  olds = old_slots_of old

  good : list_all is_slot (old_slots_of old) ≡ true
  good = widened (old_slots_of old) (slots_over_lem old_limit old k e)

  few : length (old_slots_of old) ≤ max_slots
  few = omega (arith, old_count old, (laid_over old_limit old e).few)

  is_page : IsPage (flatten (pieces (old_slots_of old)))
  is_page = written_page (old_slots_of old) good few (rising_Rising (names_over old_limit old) f)

  again : (room : ℕ) → length old ≤ room → to_old_outcome (flatten (pieces (old_slots_of old))) room ≡ record { answer = Ok (length (old_slots_of old)); bytes = old }
  unfolding to_old_outcome
  again room h =
      let page = flatten (pieces olds) in
      let same = slots_back olds good in
      let shallow : list_all fits_old (names_of page) ≡ true = ap (λ (l : List Slot). list_all fits_old (map name_in l)) same ∙ all_shallow olds (slots_over_lem old_limit old k e) in
      passed refuse (write (old_pieces (slots_of page)) room) (to_old_tests page) (is_page.0, (is_page.1, (shallow, tt)))
      ∙ ap (λ (l : List Slot). write (old_pieces l) room) same
      ∙ writes (old_pieces olds) room (length olds) old (length-map olds (bytes_over old_limit)) (page_back_over old_limit old k e) h

-- ── to an old page ──

module _ (page : Bytes) (k : Octets page) (e : keeps_layout page ≡ true) (f : rises page ≡ true) (t : list_all fits_old (names_of page) ≡ true) where
  narrow : list_all (is_slot_over old_limit) (slots_of page) ≡ true
  narrow = narrowed (slots_of page) (slots_over_lem limit page k e) t

  is_old : IsOldPage (flatten (old_pieces (slots_of page)))
  is_old =
      let many : length (slots_of page) ≤ max_slots = omega (arith, length_slots page, (laid page e).few) in
      written_page_over old_limit (slots_of page) narrow many (rising_Rising (names_of page) f)

  anew : (room : ℕ) → length page ≤ room → from_old_outcome (flatten (old_pieces (slots_of page))) room ≡ record { answer = Ok (length (slots_of page)); bytes = page }
  unfolding from_old_outcome
  anew room h =
      let old = flatten (old_pieces (slots_of page)) in
      passed refuse (write (pieces (old_slots_of old)) room) (from_old_tests old) (is_old.0, (is_old.1, tt))
      ∙ ap (λ (l : List Slot). write (pieces l) room) (slots_back_over old_limit (slots_of page) narrow)
      ∙ page_again page k e room h

-- ── depths ──

-- the name of a slot is as deep as the slot says, or less deep where that is more than a name's
depth_min : (s : Bytes) → length (name_of s) ≡ min (depth_of s) limit
depth_min s = length-take (depth_of s) (tuples_at s head_size limit) ∙ ap (min (depth_of s)) (length_tuples_at s head_size limit)

deeper : (l : List Bytes) → list_all fits_old (map name_in (map slot_of l)) ≡ false → (slot : Bytes) × In slot l × (old_limit < depth_of slot)
deeper [] e = absurd (let z : ◌≡◌ {A = ℕ} 0 1 = cc in omega arith)
deeper (s ∷ l) e = by (fits_old (name_of s)) refl (λ q. deeper l q) e
  where
    by : (b : Bool) → fits_old (name_of s) ≡ b
        → (list_all fits_old (map name_in (map slot_of l)) ≡ false → (slot : Bytes) × In slot l × (old_limit < depth_of slot))
        → b && list_all fits_old (map name_in (map slot_of l)) ≡ false → (slot : Bytes) × In slot (s ∷ l) × (old_limit < depth_of slot)
    by true p rest q = let d = rest q in (d.0, In.tail d.1, d.2)
    by false p rest q = let d = depth_min s in let long = leb-false (length (name_of s)) old_limit p in (s, In.head refl, omega arith)

too_deep_for : (l : List Bytes) → list_all keeps_slot l ≡ true → (slot : Bytes) → In slot l → old_limit < depth_of slot → list_all fits_old (map name_in (map slot_of l)) ≡ false
too_deep_for [] v slot m h = absurd (Memᴰ.not-nil m)
too_deep_for (s ∷ l) v slot m h = elim (Memᴰ.cases_cons m) [
  | inl e ↦
      let fit = (kept s (and_0 (keeps_slot s) (list_all keeps_slot l) v)).fit in
      let deep : old_limit < depth_of s = subst (λ (x : Bytes). old_limit < depth_of x) e h in
      let d = depth_min s in
      ap (λ (b : Bool). b && list_all fits_old (map name_in (map slot_of l))) (lt-leb (length (name_of s)) old_limit (omega arith))
  | inr n ↦ ap (λ (b : Bool). fits_old (name_of s) && b) (too_deep_for l (and_1 (keeps_slot s) (list_all keeps_slot l) v) slot n h) ∙ and-false (fits_old (name_of s))
]

when_too_deep : (page : Bytes) → IsPage page → (room : ℕ) → ((to_old_outcome page room).answer ≡ Err TooDeep) ↔ SomeDeeper page
unfolding to_old_outcome
when_too_deep page v room = (
  λ e. by (refused_first (write (old_pieces (slots_of page)) room) (to_old_tests page) e),
  λ d. answered (to_too_deep page room v.0 v.1 (too_deep_for (parts_of page) (laid page v.0).good d.0 d.1 d.2)),
)
  where
    by : RefusedBy TooDeep (to_old_tests page) (write (old_pieces (slots_of page)) room) → SomeDeeper page
    by (test (here p q)) = absurd (let z : ◌≡◌ {A = ℕ} 0 1 = cc in omega arith)
    by (test (later p (here r q))) = absurd (let z : ◌≡◌ {A = ℕ} 0 1 = cc in omega arith)
    by (test (later p (later r (later _ x13)))) = elim x13 [ ]
    by (test (later p (later r (here t q)))) = deeper (parts_of page) t
    by (after p f) = let short = (write_refuses (old_pieces (slots_of page)) room f).0 in absurd (let z : ◌≡◌ {A = ℕ} 0 1 = cc in omega arith)

all_fit_lem : (page : Bytes) → (SomeDeeper page → ⊥) → list_all fits_old (names_of page) ≡ true
all_fit_lem page no_deeper = by (list_all fits_old (names_of page)) refl
  where
    by : (b : Bool) → list_all fits_old (names_of page) ≡ b → list_all fits_old (names_of page) ≡ true
    by true e = e
    by false e = absurd (no_deeper (deeper (parts_of page) e))

-- ── both at once ──

byte_in : (n p : ℕ) (s : Bytes) (i : ℕ) → i < n → get_or (take n (drop p s)) i 0 ≡ get_or s (p + i) 0
byte_in n p s i h = get_or-take n (drop p s) i 0 h ∙ get_or-drop p s i 0

-- the first byte of an old slot
old_byte : (s : Bytes) → Octets s → keeps_old s ≡ true → (i : ℕ) → i < length s / old_size → get_or (old_slot s i) 0 0 ≡ get_or s (old_size * i) 0
old_byte s k e i h = ap (λ (x : Bytes). get_or x 0 0) (old_part s k e i h) ∙ byte_in old_size (old_size * i) s 0 (omega arith) ∙ ap (λ (p : ℕ). get_or s p 0) (add-zero (old_size * i))

-- The first byte is the depth of the first slot, of either kind, so at most eight; byte 104 is then in the filler of the first slot, and
-- the depth of the second old one.
module _ (s : Bytes) (k : Octets s) (e : keeps_old s ≡ true) (f : keeps_layout s ≡ true) (h : 0 < length s) where
  some : 0 < length s / slot_size
  some = omega (arith, (laid s f).whole)

  two : 1 < length s / old_size
  two = omega (arith, (laid s f).whole, (laid_over old_limit s e).whole)

  abbrev slot : Bytes
  slot = lent s (slot_size * 0)

  slot_kept : Kept slot
  slot_kept = kept slot (lent_keeps limit s (length s / slot_size) 0 some (laid s f).good)

  shallow : depth_of slot ≤ old_limit
  shallow =
      let old = (old_kept s k e 0 (omega (arith, two))).fit in
      let a = byte_in (slot_size * 0 + slot_size - slot_size * 0) (slot_size * 0) s 0 (omega arith) in
      let b = old_byte s k e 0 (omega (arith, two)) in
      omega arith

  filler : get_or s old_size 0 ≡ 0
  filler =
      let p = head_size + tuple_size * depth_of slot in
      let j : p + (old_size - p) ≡ old_size = omega (arith, shallow) in
      let within : old_size - p < length (drop p slot) = simp length-drop (omega (arith, slot_kept.long)) in
      let zero-there = eqb-true (get_or (drop p slot) (old_size - p) 0) 0 (every_each is_zero (drop p slot) (old_size - p) 0 within slot_kept.rest) in
      sym (byte_in (slot_size * 0 + slot_size - slot_size * 0) (slot_size * 0) s old_size (omega arith))
      ∙ sym (get_or-drop p slot (old_size - p) 0 ∙ ap (λ (n : ℕ). get_or slot n 0) j)
      ∙ zero-there

  deep : 1 ≤ get_or s old_size 0
  deep =
      let second = (old_kept s k e 1 two).deep in
      let c = old_byte s k e 1 two in
      omega arith

kinds_apart : (s : Bytes) → Octets s → keeps_old s ≡ true → keeps_layout s ≡ true → length s ≡ 0
kinds_apart s k e f = elim (dec_lt 0 (length s)) [
  | yes h ↦ absurd (let z = filler s k e f h in let d = deep s k e f h in omega arith)
  | no h ↦ omega arith
]

-- ── all of it ──

pub laws : Laws
laws = record {
  from_accepted = λ old k v room h. answered (from_done old room k v.0 v.1 (omega (arith, old_count old))) ∙ ap Ok (sym (old_count old));
  from_page = λ old k room n e. let g = from_facts old room n e in rw g.written (is_page old k g.layout g.order);
  too_deep_lem = when_too_deep;
  to_accepted = λ page k v d room h. answered (to_done page room k v.0 v.1 (all_fit_lem page d) (omega (arith, length_slots page))) ∙ ap Ok (sym (length_slots page));
  to_page = λ page k room n e. let g = to_facts page room n e in rw g.written (is_old page k g.layout g.order g.shallow);
  from_slots = λ old k room n e. let g = from_facts old room n e in ap slots_of g.written ∙ slots_back (old_slots_of old) (good old k g.layout g.order);
  to_slots = λ page k room n e. let g = to_facts page room n e in ap old_slots_of g.written ∙ slots_back_over old_limit (slots_of page) (narrow page k g.layout g.order g.shallow);
  old_again = λ old k room n e more h. let g = from_facts old room n e in ap (λ (s : Bytes). to_old_outcome s more) g.written ∙ again old k g.layout g.order more h;
  new_again = λ page k room n e more h. let g = to_facts page room n e in ap (λ (s : Bytes). from_old_outcome s more) g.written ∙ anew page k g.layout g.order g.shallow more h;
  apart = kinds_apart;
}
