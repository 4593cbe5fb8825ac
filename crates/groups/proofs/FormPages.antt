-- Forms and pages: a form that passes the tests stands for a page (`form_page`), whose form it is (`form_again`); the form of slots that a page
-- may have passes them (`form_passes`) and says these slots (`form_slots`). So the tests are for every form that no page has
-- (`page_exactly`), and a page has one form (`one_form`). Assumes nothing.
use mathlib.Core.Path.{◌≡◌, sym, ap, ◌∙◌}
use mathlib.Core.List.{List, map}
use mathlib.Core.Bool.{true}
use mathlib.Core.Logic.{◌↔◌}
use Prim.Native.Nat.{◌*◌, ◌≤◌}
use native.Mathlib.Omega.{arith}
use borrow.Author.Tests.{le-leb, leb-true}
use lib.ListN.{length}
use Rattle.names.specs.Ordering.{Rising, rising}
use Rattle.names.proofs.Laws.{rising_Rising}
use Rattle.numbers.specs.Bytes.{Bytes, Octets}
use Rattle.std.specs.List.{list_all}
use Rattle.slots.specs.Slots.{Slot, slot_size, is_slot}
use Rattle.answers.specs.Laws.{Passed}
use Rattle.pages.specs.Pages.{max_slots, slots_of, name_in}
use Rattle.pages.specs.Laws.{IsPage}
use Rattle.pages.proofs.SlotBySlot.{length_slots}
use Rattle.pages.proofs.RoundTrip.{laid, page_slots, slots_back as page_back, written_page}
use Rattle.pages.proofs.WrittenOctets.{written_octets as page_octets}
use Rattle.groups.specs.Groups.{ungrouped, grouped}
use Rattle.groups.specs.Forms.{form_bytes, groups_in, slots_of_form, keeps_form}
use Rattle.groups.specs.Calls.{form_tests, page_of}
use Rattle.groups.proofs.Glue.{slots_back, are_longest}
use Rattle.groups.proofs.GroupTests.{slots_good, are_groups, groups_back}
use Rattle.groups.proofs.FormInverse.{kept, written_octets, read_back, written_form, bytes_back}

-- ── from a form ──

-- the groups of a form are those of its slots
pub form_groups : (s : Bytes) → keeps_form s ≡ true → grouped (slots_of_form s) ≡ groups_in s
form_groups s e = let v = kept s e in groups_back (groups_in s) v.good v.long

pub form_again : (s : Bytes) → Octets s → keeps_form s ≡ true → form_bytes (grouped (slots_of_form s)) ≡ s
form_again s k e = ap form_bytes (form_groups s e) ∙ bytes_back s k e

pub one_form : (s t : Bytes) → Octets s → Octets t → keeps_form s ≡ true → keeps_form t ≡ true → slots_of_form s ≡ slots_of_form t → s ≡ t
one_form s t k l e f q = sym (form_again s k e) ∙ ap (λ (x : List Slot). form_bytes (grouped x)) q ∙ form_again t l f

-- what the tests of a form have found
pub record Held (s : Bytes) : Type 0 where
  pub form : keeps_form s ≡ true
  pub slots : list_all is_slot (slots_of_form s) ≡ true
  pub order : Rising (map name_in (slots_of_form s))
  pub few : length (slots_of_form s) ≤ max_slots

pub held : (s : Bytes) → Passed (form_tests s) → Held s
held s (e, (r, (f, _))) = record {
  form = e;
  slots = slots_good (groups_in s) (kept s e).good;
  order = rising_Rising (map name_in (slots_of_form s)) r;
  few = leb-true (length (slots_of_form s)) max_slots f;
}

module _ (s : Bytes) (p : Passed (form_tests s)) where
  pub form_page : IsPage (page_of s)
  form_page = let v = held s p in written_page (slots_of_form s) v.slots v.few v.order

  pub page_of_octets : Octets (page_of s)
  page_of_octets = page_octets (slots_of_form s) (held s p).slots

  pub page_of_slots : slots_of (page_of s) ≡ slots_of_form s
  page_of_slots = page_back (slots_of_form s) (held s p).slots

-- ── to a form ──

module _ (l : List Slot) (e : list_all is_slot l ≡ true) (h : length l ≤ max_slots) where
  pub form_octets : Octets (form_bytes (grouped l))
  form_octets = written_octets (grouped l) (are_groups l e h)

  pub form_slots : slots_of_form (form_bytes (grouped l)) ≡ l
  form_slots = ap ungrouped (read_back (grouped l) (are_groups l e h)) ∙ slots_back l

  pub form_passes : rising (map name_in l) ≡ true → Passed (form_tests (form_bytes (grouped l)))
  form_passes r =
      let f : length (slots_of_form (form_bytes (grouped l))) ≤ max_slots = rw form_slots h in (
        written_form (grouped l) (are_groups l e h) (are_longest l),
        (ap (λ (x : List Slot). rising (map name_in x)) form_slots ∙ r, (le-leb (length (slots_of_form (form_bytes (grouped l)))) max_slots f, tt)),
      )

-- the slots of a page
module _ (page : Bytes) (k : Octets page) (v : IsPage page) where
  pub page_good : list_all is_slot (slots_of page) ≡ true
  page_good = page_slots page k v.0

  pub page_few : length (slots_of page) ≤ max_slots
  page_few = let f = (laid page v.0).few in omega (arith, length_slots page)

  pub page_long : length page ≤ slot_size * max_slots
  page_long = let f = (laid page v.0).few in let w = (laid page v.0).whole in omega arith

  pub page_passes : Passed (form_tests (form_bytes (grouped (slots_of page))))
  page_passes = form_passes (slots_of page) page_good page_few v.1

pub page_exactly : (s : Bytes) → Octets s
    → Passed (form_tests s) ↔ ((page : Bytes) × Octets page × IsPage page × (form_bytes (grouped (slots_of page)) ≡ s))
page_exactly s k = (there, back)
  where
    there : Passed (form_tests s) → (page : Bytes) × Octets page × IsPage page × (form_bytes (grouped (slots_of page)) ≡ s)
    there p = (
      page_of s,
      page_of_octets s p,
      form_page s p,
      ap (λ (x : List Slot). form_bytes (grouped x)) (page_of_slots s p) ∙ form_again s k (held s p).form,
    )

    back : (page : Bytes) × Octets page × IsPage page × (form_bytes (grouped (slots_of page)) ≡ s) → Passed (form_tests s)
    back (page, o, v, e) = rw e at (page_passes page o v)
