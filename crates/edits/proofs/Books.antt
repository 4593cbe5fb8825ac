-- Insert and remove keep a page a page, and undo one another: `insert_law`, `remove_law`, as specs/Laws.antt states them. Over lists of
-- slots first, then over 01's outcomes, fact by fact.
-- Assumes nothing.
use mathlib.Core.Path.{◌≡◌, refl, ◌∙◌, sym, ap}
use mathlib.Core.List.Memᴰ
use mathlib.Core.List.{List, [], ◌∷◌, ◌++◌, map, Memᴰ as In}
use mathlib.Core.Logic.{inl, inr}
use mathlib.Core.Bool.{or-true, Bool, true, false, cond, not, ◌||◌}
use Prim.Native.Nat.{ℕ, suc, ◌<◌, ◌≤◌}
use native.Mathlib.Omega.{arith}
use borrow.Author.Tests.{ltb-true, lt-ltb, not-true}
use lib.Dec.{ltb}
use lib.ListN.{length}
use Rattle.std.specs.declared.cmp.Ordering.{Ordering}
use Rattle.std.specs.declared.cmp.Ordering.TheVariants.{Equal}
use Rattle.names.specs.Ordering.{Row, compare_rows, ◌<ⁿ◌, Rising, none, one, more}
use Rattle.std.specs.Ordering.{is_lt, is_eq}
use Rattle.names.proofs.Laws.{tail_rising, Tri, below as is_below, level, above, tri_n, row_less, row_more, row_same, rising_Rising}
use Rattle.numbers.proofs.Bools.{yes_no, and_0, and_1}
use Rattle.numbers.specs.Bytes.{Bytes, Octets}
use Rattle.std.specs.List.{list_all}
use Rattle.slots.specs.Slots.{Slot, name_of, slot_of, keeps_slot, is_slot}
use Rattle.slots.proofs.RoundTrip.{kept, decoded_slot}
use Rattle.answers.specs.Answers.{Outcome, Test, ◌else◌, accept, write, outcome}
use Rattle.pages.specs.Pages.{max_slots, slots_of, name_in, names_of, pieces, keeps_layout, rises}
use Rattle.pages.specs.Places.{has}
use Rattle.std.specs.declared.result.Result.TheVariants.{Ok}
use Rattle.answers.specs.declared.Refusal.TheVariants.{Present, Absent, Full}
use Rattle.pages.proofs.SlotBySlot.{length_slots}
use Rattle.answers.proofs.Outcomes.{write_accepted}
use Rattle.pages.proofs.PageOutcomes.{page_again}
use Rattle.answers.specs.Laws.{Passed}
use Rattle.answers.proofs.Refusals.{accepted_passes}
use Rattle.pages.proofs.RoundTrip.{laid, slots_back, page_slots, written_page}
use Rattle.edits.specs.Edits.{placed, without, edit_tests, insert_outcome, remove_outcome}
use Rattle.edits.specs.Laws.{gives_back, InsertLaw, RemoveLaw}
use Rattle.pages.specs.Laws.{IsPage}
use Rattle.edits.proofs.Placed.{Over, over_none, over_more, rising_over, placed_over, without_over}

-- ── lists of slots ──

absent_tail :
    (x y : Slot) (l : List Slot) (o : Ordering) → compare_rows y.name x.name ≡ o → has x.name (map name_in (y ∷ l)) ≡ false →
    (is_eq o ≡ false) × (has x.name (map name_in l) ≡ false)
absent_tail x y l o q e = by (is_eq o) (sym (ap (λ (p : Ordering). is_eq p || has x.name (map name_in l)) q) ∙ e)
  where
    by : (b : Bool) → b || has x.name (map name_in l) ≡ false → (b ≡ false) × (has x.name (map name_in l) ≡ false)
    by true e = yes_no refl e
    by false e = (refl, e)

-- before the first of a rising row
cons_rising : {a : Row} {l : List Row} → Over a l → Rising l → Rising (a ∷ l)
cons_rising over_none none = one
cons_rising (over_more h o) r = more h r

over_placed : {a : Row} (x : Slot) (l : List Slot) → a <ⁿ x.name → Over a (map name_in l) → Over a (map name_in (placed x l))
over_placed x [] h o = over_more h over_none
over_placed {a} x (y ∷ l) h (over_more k o) = by (is_lt (compare_rows x.name y.name)) (over_placed x l h o)
  where
    by : (b : Bool) → Over a (map name_in (placed x l)) → Over a (map name_in (cond b (x ∷ y ∷ l) (y ∷ placed x l)))
    by true r = over_more h (over_more k o)
    by false r = over_more k r

rising_placed : (x : Slot) (l : List Slot) → Rising (map name_in l) → has x.name (map name_in l) ≡ false → Rising (map name_in (placed x l))
rising_placed x [] r e = one
rising_placed x (y ∷ l) r e = by (compare_rows y.name x.name) (tri_n y.name x.name) refl (rising_placed x l (tail_rising r))
  where
    by :
        (o : Ordering) → Tri ◌<ⁿ◌ y.name x.name o → compare_rows y.name x.name ≡ o →
        (has x.name (map name_in l) ≡ false → Rising (map name_in (placed x l))) → Rising (map name_in (placed x (y ∷ l)))
    by o (is_below h) q f = rw (row_more h) (cons_rising (over_placed x l h (rising_over r)) (f (absent_tail x y l o q e).1))
    by o (level h) q f = yes_no refl (absent_tail x y l o q e).0
    by o (above h) q f = rw (row_less h) (more h r)

over_without : {b : Row} (a : Row) (l : List Slot) → Over b (map name_in l) → Over b (map name_in (without a l))
over_without a [] o = over_none
over_without {b} a (y ∷ l) (over_more h o) = by (is_eq (compare_rows y.name a)) (over_without a l o)
  where
    by : (c : Bool) → Over b (map name_in (without a l)) → Over b (map name_in (cond c (without a l) (y ∷ without a l)))
    by true r = r
    by false r = over_more h r

rising_without : (a : Row) (l : List Slot) → Rising (map name_in l) → Rising (map name_in (without a l))
rising_without a [] r = none
rising_without a (y ∷ l) r = by (is_eq (compare_rows y.name a)) (rising_without a l (tail_rising r))
  where
    by : (c : Bool) → Rising (map name_in (without a l)) → Rising (map name_in (cond c (without a l) (y ∷ without a l)))
    by true q = q
    by false q = cons_rising (over_without a l (rising_over r)) q

pub every_placed : (f : Slot → Bool) (x : Slot) (l : List Slot) → f x ≡ true → list_all f l ≡ true → list_all f (placed x l) ≡ true
every_placed f x [] p e = rw p
every_placed f x (y ∷ l) p e = by (is_lt (compare_rows x.name y.name)) (every_placed f x l p (and_1 (f y) (list_all f l) e))
  where
    by : (b : Bool) → list_all f (placed x l) ≡ true → list_all f (cond b (x ∷ y ∷ l) (y ∷ placed x l)) ≡ true
    by true q = rw p e
    by false q = rw (and_0 (f y) (list_all f l) e) q

pub every_without : (f : Slot → Bool) (a : Row) (l : List Slot) → list_all f l ≡ true → list_all f (without a l) ≡ true
every_without f a [] e = refl
every_without f a (y ∷ l) e = by (is_eq (compare_rows y.name a)) (every_without f a l (and_1 (f y) (list_all f l) e))
  where
    by : (b : Bool) → list_all f (without a l) ≡ true → list_all f (cond b (without a l) (y ∷ without a l)) ≡ true
    by true q = q
    by false q = rw (and_0 (f y) (list_all f l) e) q

-- no slot is lost but those of the name removed
pub in_placed : (x : Slot) (l : List Slot) {z : Slot} → In z l → In z (placed x l)
in_placed x [] m = absurd (Memᴰ.not-nil m)
in_placed x (y ∷ l) {z} m = by (is_lt (compare_rows x.name y.name)) (λ k. in_placed x l k)
  where
    by : (b : Bool) → (In z l → In z (placed x l)) → In z (cond b (x ∷ y ∷ l) (y ∷ placed x l))
    by true f = In.tail m
    by false f = elim (Memᴰ.cases_cons m) [ inl e ↦ In.head e | inr k ↦ In.tail (f k) ]

pub in_without : (a : Row) (l : List Slot) {z : Slot} → ¬ (z.name ≡ a) → In z l → In z (without a l)
in_without a [] h m = absurd (Memᴰ.not-nil m)
in_without a (y ∷ l) {z} h m = by (compare_rows y.name a) (tri_n y.name a) (λ k. in_without a l h k)
  where
    step : (In z l → In z (without a l)) → In z (y ∷ without a l)
    step f = elim (Memᴰ.cases_cons m) [ inl e ↦ In.head e | inr k ↦ In.tail (f k) ]

    by : (o : Ordering) → Tri ◌<ⁿ◌ y.name a o → (In z l → In z (without a l)) → In z (cond (is_eq o) (without a l) (y ∷ without a l))
    by _ (is_below q) f = step f
    by _ (above q) f = step f
    by _ (level q) f = elim (Memᴰ.cases_cons m) [ inl e ↦ absurd (h (ap name_in e ∙ q)) | inr k ↦ f k ]

pub length_placed : (x : Slot) (l : List Slot) → length (placed x l) ≡ suc (length l)
length_placed x [] = refl
length_placed x (y ∷ l) = by (is_lt (compare_rows x.name y.name)) (length_placed x l)
  where
    by : (b : Bool) → length (placed x l) ≡ suc (length l) → length (cond b (x ∷ y ∷ l) (y ∷ placed x l)) ≡ suc (suc (length l))
    by true q = refl
    by false q = ap suc q

pub length_without : (a : Row) (l : List Slot) → length (without a l) ≤ length l
length_without a [] = omega arith
length_without a (y ∷ l) = by (is_eq (compare_rows y.name a)) (length_without a l)
  where
    by : (b : Bool) → length (without a l) ≤ length l → length (cond b (without a l) (y ∷ without a l)) ≤ suc (length l)
    by true q = omega arith
    by false q = omega arith

-- the row had no slot of that name: it comes back
without_absent : (x : Slot) (l : List Slot) → has x.name (map name_in l) ≡ false → without x.name l ≡ l
without_absent x [] e = refl
without_absent x (y ∷ l) e =
    let q = absent_tail x y l (compare_rows y.name x.name) refl e in
    rw q.0 (ap (λ (r : List Slot). y ∷ r) (without_absent x l q.1))

without_placed : (x : Slot) (l : List Slot) → has x.name (map name_in l) ≡ false → without x.name (placed x l) ≡ l
without_placed x [] e = rw (row_same x.name)
without_placed x (y ∷ l) e = by (is_lt (compare_rows x.name y.name)) (without_placed x l (absent_tail x y l (compare_rows y.name x.name) refl e).1)
  where
    by : (b : Bool) → without x.name (placed x l) ≡ l → without x.name (cond b (x ∷ y ∷ l) (y ∷ placed x l)) ≡ y ∷ l
    by true f = rw (row_same x.name) (without_absent x (y ∷ l) e)
    by false f = rw (absent_tail x y l (compare_rows y.name x.name) refl e).0 (ap (λ (r : List Slot). y ∷ r) f)

-- the row had that slot: it comes back
in_over : {a : Row} {x : Slot} {v : List Row} (l : List Slot) → Over a v → v ≡ map name_in l → In x l → a <ⁿ x.name
in_over [] o e m = absurd (Memᴰ.not-nil m)
in_over (y ∷ l) over_none e m = absurd (cc)
in_over {a} {x} (y ∷ l) (over_more {x = b} {l = v} h o) e m =
    let here : b ≡ y.name = cc in
    let rest : v ≡ map name_in l = cc in
    elim (Memᴰ.cases_cons m) [ inl q ↦ rw (q, ← here) h | inr k ↦ in_over l o rest k ]

placed_without : (x : Slot) (l : List Slot) → Rising (map name_in l) → In x l → placed x (without x.name l) ≡ l
placed_without x [] r m = absurd (Memᴰ.not-nil m)
placed_without x (y ∷ l) r m = elim (Memᴰ.cases_cons m) [
  | inl e ↦ first e
  | inr k ↦ later (in_over l (rising_over r) refl k) (placed_without x l (tail_rising r) k)
]
  where
    first : x ≡ y → placed x (without x.name (y ∷ l)) ≡ y ∷ l
    first e =
        let o : Over x.name (map name_in l) = rw (← e) at (rising_over r) in
        let s : compare_rows y.name x.name ≡ Equal = ap (λ (z : Slot). compare_rows z.name x.name) (sym e) ∙ row_same x.name in
        rw (s, without_over x.name l o, placed_over x l o) (ap (λ (z : Slot). z ∷ l) e)

    later : y.name <ⁿ x.name → placed x (without x.name l) ≡ l → placed x (without x.name (y ∷ l)) ≡ y ∷ l
    later h f = rw (row_less h, row_more h) (ap (λ (q : List Slot). y ∷ q) f)

-- ── what an accepted outcome says ──

-- an accepted insert
pub record Inserts (page slot : Bytes) (room : ℕ) : Type 0 where
  pub layout : keeps_layout page ≡ true
  pub slot_layout : keeps_slot slot ≡ true
  pub order : rises page ≡ true
  pub absent : has (name_of slot) (names_of page) ≡ false
  pub spare : length (slots_of page) < max_slots
  pub outcome : insert_outcome page slot room ≡ accept (pieces (placed (slot_of slot) (slots_of page)))

-- an accepted remove
pub record Removes (page slot : Bytes) (room : ℕ) : Type 0 where
  pub layout : keeps_layout page ≡ true
  pub slot_layout : keeps_slot slot ≡ true
  pub order : rises page ≡ true
  pub present : has (name_of slot) (names_of page) ≡ true
  pub outcome : remove_outcome page slot room ≡ accept (pieces (without (name_of slot) (slots_of page)))

-- past all tests, what is written
pub written : (tests : List Test) (l : List Bytes) (room n : ℕ) → (outcome tests l room).answer ≡ Ok n → Passed tests × (outcome tests l room ≡ accept l)
written tests l room n e =
    let a = accepted_passes (write l room) n tests e in
    (a.0, a.1 ∙ write_accepted l room n (sym (ap (λ (o : Outcome). o.answer) a.1) ∙ e))

module _ (page slot : Bytes) where
  abbrev absence : List Test
  absence = not (has (name_of slot) (names_of page)) else Present ∷ ltb (length (slots_of page)) max_slots else Full ∷ []

  pub inserts : (room n : ℕ) → (insert_outcome page slot room).answer ≡ Ok n → Inserts page slot room
  unfolding insert_outcome
  inserts room n e = go (written (edit_tests page slot ++ absence) (pieces (placed (slot_of slot) (slots_of page))) room n e)
    where
      go : Passed (edit_tests page slot ++ absence) × (insert_outcome page slot room ≡ accept (pieces (placed (slot_of slot) (slots_of page)))) → Inserts page slot room
      go ((layout, (slot_layout, (order, (absent, (spare, _))))), done) = record {
        layout = layout;
        slot_layout = slot_layout;
        order = order;
        absent = not-true (has (name_of slot) (names_of page)) absent;
        spare = ltb-true (length (slots_of page)) max_slots spare;
        outcome = done;
      }

  abbrev presence : List Test
  presence = has (name_of slot) (names_of page) else Absent ∷ []

  pub removes : (room n : ℕ) → (remove_outcome page slot room).answer ≡ Ok n → Removes page slot room
  unfolding remove_outcome
  removes room n e = go (written (edit_tests page slot ++ presence) (pieces (without (name_of slot) (slots_of page))) room n e)
    where
      go : Passed (edit_tests page slot ++ presence) × (remove_outcome page slot room ≡ accept (pieces (without (name_of slot) (slots_of page)))) → Removes page slot room
      go ((layout, (slot_layout, (order, (present, _)))), done) = record { layout = layout; slot_layout = slot_layout; order = order; present = present; outcome = done }

-- ── a page stays a page ──

module _ (page slot : Bytes) (po : Octets page) (so : Octets slot) (room n : ℕ) where
  -- what is written are slots
  pub insert_good : (insert_outcome page slot room).answer ≡ Ok n → list_all is_slot (placed (slot_of slot) (slots_of page)) ≡ true
  insert_good e =
      let v = inserts page slot room n e in
      every_placed is_slot (slot_of slot) (slots_of page) (decoded_slot slot so (kept slot v.slot_layout)) (page_slots page po v.layout)

  pub inserted_slots : (insert_outcome page slot room).answer ≡ Ok n → slots_of (insert_outcome page slot room).bytes ≡ placed (slot_of slot) (slots_of page)
  inserted_slots e = ap (λ (o : Outcome). slots_of o.bytes) (inserts page slot room n e).outcome ∙ slots_back (placed (slot_of slot) (slots_of page)) (insert_good e)

  pub insert_page : (insert_outcome page slot room).answer ≡ Ok n → IsPage (insert_outcome page slot room).bytes
  insert_page e =
      let i = inserts page slot room n e in
      let x = slot_of slot in
      let r = rising_placed x (slots_of page) (rising_Rising (names_of page) i.order) i.absent in
      let p = written_page (placed x (slots_of page)) (insert_good e) (omega (arith, length_placed x (slots_of page), i.spare)) r in
      rw i.outcome p

  pub remove_good : (remove_outcome page slot room).answer ≡ Ok n → list_all is_slot (without (name_of slot) (slots_of page)) ≡ true
  remove_good e = every_without is_slot (name_of slot) (slots_of page) (page_slots page po (removes page slot room n e).layout)

  pub removed_slots : (remove_outcome page slot room).answer ≡ Ok n → slots_of (remove_outcome page slot room).bytes ≡ without (name_of slot) (slots_of page)
  removed_slots e = ap (λ (o : Outcome). slots_of o.bytes) (removes page slot room n e).outcome ∙ slots_back (without (name_of slot) (slots_of page)) (remove_good e)

  pub remove_page : (remove_outcome page slot room).answer ≡ Ok n → IsPage (remove_outcome page slot room).bytes
  remove_page e =
      let i = removes page slot room n e in
      let a = name_of slot in
      let f = (laid page i.layout).few in
      let r = rising_without a (slots_of page) (rising_Rising (names_of page) i.order) in
      let p = written_page (without a (slots_of page)) (remove_good e) (omega (arith, length_without a (slots_of page), length_slots page)) r in
      rw i.outcome p

-- ── insert and remove undo one another ──

has_placed : (x : Slot) (l : List Slot) → has x.name (map name_in (placed x l)) ≡ true
has_placed x [] = rw (row_same x.name)
has_placed x (y ∷ l) = by (is_lt (compare_rows x.name y.name)) (has_placed x l)
  where
    by : (b : Bool) → has x.name (map name_in (placed x l)) ≡ true → has x.name (map name_in (cond b (x ∷ y ∷ l) (y ∷ placed x l))) ≡ true
    by true f = rw (row_same x.name)
    by false f = rw f (or-true (is_eq (compare_rows y.name x.name)))

has_without : (a : Row) (l : List Slot) → has a (map name_in (without a l)) ≡ false
has_without a [] = refl
has_without a (y ∷ l) = by (is_eq (compare_rows y.name a)) refl (has_without a l)
  where
    by : (b : Bool) → is_eq (compare_rows y.name a) ≡ b → has a (map name_in (without a l)) ≡ false → has a (map name_in (cond b (without a l) (y ∷ without a l))) ≡ false
    by true q f = f
    by false q f = rw q f

module _ (page slot : Bytes) (po : Octets page) (so : Octets slot) (room n room' : ℕ) (h : length page ≤ room') where
  pub insert_remove : (insert_outcome page slot room).answer ≡ Ok n → remove_outcome (insert_outcome page slot room).bytes slot room' ≡ gives_back page
  unfolding remove_outcome
  insert_remove e =
      let i = inserts page slot room n e in
      let x = slot_of slot in
      let p = insert_page page slot po so room n e in
      let b = inserted_slots page slot po so room n e in
      let f : has (name_of slot) (names_of (insert_outcome page slot room).bytes) ≡ true = ap (λ (q : List Slot). has (name_of slot) (map name_in q)) b ∙ has_placed x (slots_of page) in
      let w : without (name_of slot) (slots_of (insert_outcome page slot room).bytes) ≡ slots_of page = ap (without (name_of slot)) b ∙ without_placed x (slots_of page) i.absent in
      rw (p.0, i.slot_layout, p.1, f, w) (page_again page po i.layout room' h)

  -- the slot is one of the page's: its line number too
  pub remove_insert : In (slot_of slot) (slots_of page) → (remove_outcome page slot room).answer ≡ Ok n → insert_outcome (remove_outcome page slot room).bytes slot room' ≡ gives_back page
  unfolding insert_outcome
  remove_insert m e =
      let i = removes page slot room n e in
      let x = slot_of slot in
      let l = without (name_of slot) (slots_of page) in
      let p = remove_page page slot po so room n e in
      let b = removed_slots page slot po so room n e in
      let f : has (name_of slot) (names_of (remove_outcome page slot room).bytes) ≡ false = ap (λ (q : List Slot). has (name_of slot) (map name_in q)) b ∙ has_without (name_of slot) (slots_of page) in
      let u : placed x l ≡ slots_of page = placed_without x (slots_of page) (rising_Rising (names_of page) i.order) m in
      let w : placed x (slots_of (remove_outcome page slot room).bytes) ≡ slots_of page = ap (placed x) b ∙ u in
      let c : length (slots_of (remove_outcome page slot room).bytes) < max_slots = omega (arith, ap length b, length_placed x l, ap length u, length_slots page, (laid page i.layout).few) in
      rw (p.0, i.slot_layout, p.1, f, lt-ltb (length (slots_of (remove_outcome page slot room).bytes)) max_slots c, w) (page_again page po i.layout room' h)

-- ── what specs/Laws.antt states ──

pub insert_law : InsertLaw
insert_law page slot po so room n e = record {
  is_page = insert_page page slot po so room n e;
  slots = inserted_slots page slot po so room n e;
  undone = λ room' h. insert_remove page slot po so room n room' h e;
}

pub remove_law : RemoveLaw
remove_law page slot po so room n e = record {
  is_page = remove_page page slot po so room n e;
  slots = removed_slots page slot po so room n e;
  undone = λ m room' h. remove_insert page slot po so room n room' h m e;
}
