-- The calls on forms: grouping and ungrouping undo one another byte for byte (`ungroup_grouped`, `group_ungrouped`), an edit of a page's form
-- gives the form of the edited page (`insert_agrees`, `remove_agrees`), and what an edit has written stands for that page (`inserted`,
-- `removed`). Assumes nothing.
use mathlib.Core.Path.{◌≡◌, refl, sym, ap, ◌∙◌}
use mathlib.Core.List.{List, [], ◌∷◌, flatten}
use mathlib.Core.Bool.{true}
use Prim.Native.Nat.{ℕ, ◌≤◌}
use lib.ListN.{length, length-map}
use Rattle.numbers.specs.Bytes.{Bytes, Octets}
use Rattle.std.specs.List.{list_all}
use Rattle.slots.specs.Slots.{Slot, slot_bytes, name_of, slot_of, is_slot}
use Rattle.answers.specs.Answers.{Answer}
use Rattle.std.specs.declared.result.Result.TheVariants.{Ok, Err}
use Rattle.answers.specs.declared.Refusal.TheVariants.{BadLayout, NotRising}
use Rattle.answers.specs.Answers.{◌else◌, Outcome, in_order, refuse, accept, write}
use Rattle.answers.specs.Laws.{Passed}
use Rattle.answers.proofs.Outcomes.{no_answer, write_accepted}
use Rattle.answers.proofs.Refusals.{passed, accepted_passes}
use Rattle.pages.specs.Pages.{slots_of, pieces, keeps_layout, rises}
use Rattle.pages.specs.Laws.{IsPage}
use Rattle.pages.proofs.RoundTrip.{slots_back, page_back}
use Rattle.pages.proofs.PageOutcomes.{page_again}
use Rattle.pages.proofs.WrittenOctets.{written_octets}
use Rattle.edits.specs.Edits.{placed, without, insert_outcome, remove_outcome}
use Rattle.edits.specs.Laws.{gives_back}
use Rattle.edits.proofs.Books.{written, inserts, removes, insert_good, insert_page, remove_good, remove_page}
use Rattle.groups.specs.Groups.{grouped}
use Rattle.groups.specs.Forms.{form_bytes, slots_of_form}
use Rattle.groups.specs.Calls.{form_pieces, group_outcome, form_tests, ungroup_outcome, page_of, ample, regrouped, regroup, insert_form_outcome, remove_form_outcome}
use Rattle.groups.specs.Laws.{gives_form}
use Rattle.groups.proofs.FormPages.{held, form_again, form_page, page_of_octets, page_of_slots, form_slots, page_good, page_few, page_long, page_passes}
use Rattle.groups.proofs.FormOutcomes.{form_flat, form_writes}

-- ── grouping and ungrouping ──

-- the form of a page, ungrouped, is the page
ungroup_page : (page : Bytes) → Octets page → IsPage page → (room : ℕ) → length page ≤ room
    → ungroup_outcome (form_bytes (grouped (slots_of page))) room ≡ gives_back page
unfolding ungroup_outcome
ungroup_page page k v room h =
    let form = form_bytes (grouped (slots_of page)) in
    passed refuse (write (pieces (slots_of_form form)) room) (form_tests form) (page_passes page k v)
    ∙ ap (λ (l : List Slot). write (pieces l) room) (form_slots (slots_of page) (page_good page k v) (page_few page k v))
    ∙ page_again page k v.0 room h

module _ (page : Bytes) (room n : ℕ) (e : (group_outcome page room).answer ≡ Ok n) where
  found : Passed (keeps_layout page else BadLayout ∷ rises page else NotRising ∷ []) × (group_outcome page room ≡ accept (form_pieces (slots_of page)))
  unfolding group_outcome
  found = written (keeps_layout page else BadLayout ∷ rises page else NotRising ∷ []) (form_pieces (slots_of page)) room n e

  -- an accepted page is one, and its form is written
  grouped_page : IsPage page
  grouped_page = let p = found.0 in (p.0, p.1.0)

  grouped_bytes : (group_outcome page room).bytes ≡ form_bytes (grouped (slots_of page))
  grouped_bytes = ap (λ (o : Outcome). o.bytes) found.1 ∙ form_flat (slots_of page)

pub ungroup_grouped : (page : Bytes) → Octets page → (room n : ℕ) → (group_outcome page room).answer ≡ Ok n → (room' : ℕ)
    → length page ≤ room' → ungroup_outcome (group_outcome page room).bytes room' ≡ gives_back page
ungroup_grouped page k room n e room' h =
    ap (λ (s : Bytes). ungroup_outcome s room') (grouped_bytes page room n e) ∙ ungroup_page page k (grouped_page page room n e) room' h

pub group_ungrouped : (form : Bytes) → Octets form → (room n : ℕ) → (ungroup_outcome form room).answer ≡ Ok n → (room' : ℕ)
    → length form ≤ room' → group_outcome (ungroup_outcome form room).bytes room' ≡ gives_form form
unfolding ungroup_outcome group_outcome
group_ungrouped form k room n e room' h =
    let w = written (form_tests form) (pieces (slots_of_form form)) room n e in
    let p = w.0 in
    let v = form_page form p in
    let b : form_bytes (grouped (slots_of (page_of form))) ≡ form = ap (λ (l : List Slot). form_bytes (grouped l)) (page_of_slots form p) ∙ form_again form k (held form p).form in
    ap (λ (o : Outcome). group_outcome o.bytes room') w.1
    ∙ passed refuse (write (form_pieces (slots_of (page_of form))) room') (keeps_layout (page_of form) else BadLayout ∷ rises (page_of form) else NotRising ∷ []) (v.0, (v.1, tt))
    ∙ form_writes (slots_of (page_of form)) room' (rw b h)
    ∙ (λ i. record { answer = Ok (length (b i)); bytes = b i })

-- ── edits agree with the page ──

-- the page that a page's form stands for
page_again_is : (page : Bytes) → Octets page → IsPage page → page_of (form_bytes (grouped (slots_of page))) ≡ page
page_again_is page k v =
    ap (λ (l : List Slot). flatten (pieces l)) (form_slots (slots_of page) (page_good page k v) (page_few page k v)) ∙ page_back page k v.0

module _ (page slot : Bytes) (k : Octets page) (v : IsPage page) (room : ℕ) where
  abbrev form : Bytes
  form = form_bytes (grouped (slots_of page))

  pub insert_agrees : insert_form_outcome (form_bytes (grouped (slots_of page))) slot room ≡ regroup (insert_outcome page slot ample) room
  unfolding insert_form_outcome
  insert_agrees =
      passed refuse (regroup (insert_outcome (page_of form) slot ample) room) (form_tests form) (page_passes page k v)
      ∙ ap (λ (q : Bytes). regroup (insert_outcome q slot ample) room) (page_again_is page k v)

  pub remove_agrees : remove_form_outcome (form_bytes (grouped (slots_of page))) slot room ≡ regroup (remove_outcome page slot ample) room
  unfolding remove_form_outcome
  remove_agrees =
      passed refuse (regroup (remove_outcome (page_of form) slot ample) room) (form_tests form) (page_passes page k v)
      ∙ ap (λ (q : Bytes). regroup (remove_outcome q slot ample) room) (page_again_is page k v)

-- ── and what they have written stands for the edited page ──

-- an edit whose page was grouped again was accepted, and the form of its page is written
edit_accepted : (x : Outcome) (room n : ℕ) → (regroup x room).answer ≡ Ok n
    → ((m : ℕ) × (x.answer ≡ Ok m)) × ((regroup x room).bytes ≡ form_bytes (grouped (slots_of x.bytes)))
edit_accepted x room n e = go x.answer e
  where
    go : (a : Answer) → (regrouped a x.bytes room).answer ≡ Ok n
        → ((m : ℕ) × (a ≡ Ok m)) × ((regrouped a x.bytes room).bytes ≡ form_bytes (grouped (slots_of x.bytes)))
    go (Err r) e = no_answer r n e
    go (Ok m) e =
        let l = slots_of x.bytes in
        ((m, refl), ap (λ (o : Outcome). o.bytes) (write_accepted (form_pieces l) room n e) ∙ form_flat l)

-- what an accepted edit has written is a page, with the count of its slots
record Edited (x : Outcome) : Type 0 where
  octets : Octets x.bytes
  page : IsPage x.bytes
  whole : x ≡ gives_back x.bytes

edited : (x : Outcome) (l : List Slot) → x ≡ accept (pieces l) → list_all is_slot l ≡ true → IsPage x.bytes → Edited x
edited x l q e v =
    let c : length (pieces l) ≡ length (slots_of (flatten (pieces l))) = length-map l slot_bytes ∙ sym (ap length (slots_back l e)) in
    record {
      octets = rw q (written_octets l e);
      page = v;
      whole = q ∙ (λ i. record { answer = Ok (c i); bytes = flatten (pieces l) }) ∙ sym (ap (λ (o : Outcome). gives_back o.bytes) q);
    }

edit_back : (form : Bytes) (x : Outcome) (room n : ℕ) → ((m : ℕ) → x.answer ≡ Ok m → Edited x)
    → (in_order (form_tests form) refuse (regroup x room)).answer ≡ Ok n
    → ungroup_outcome (in_order (form_tests form) refuse (regroup x room)).bytes ample ≡ x
edit_back form x room n f e =
    let a = accepted_passes (regroup x room) n (form_tests form) e in
    let b = edit_accepted x room n (sym (ap (λ (o : Outcome). o.answer) a.1) ∙ e) in
    let v = f b.0.0 b.0.1 in
    ap (λ (o : Outcome). ungroup_outcome o.bytes ample) a.1
    ∙ ap (λ (s : Bytes). ungroup_outcome s ample) b.1
    ∙ ungroup_page x.bytes v.octets v.page ample (page_long x.bytes v.octets v.page)
    ∙ sym v.whole

module _ (page slot : Bytes) (po : Octets page) (so : Octets slot) (room m : ℕ) where
  insert_edited : (insert_outcome page slot room).answer ≡ Ok m → Edited (insert_outcome page slot room)
  insert_edited a =
      edited (insert_outcome page slot room) (placed (slot_of slot) (slots_of page)) (inserts page slot room m a).outcome
      (insert_good page slot po so room m a) (insert_page page slot po so room m a)

  remove_edited : (remove_outcome page slot room).answer ≡ Ok m → Edited (remove_outcome page slot room)
  remove_edited a =
      edited (remove_outcome page slot room) (without (name_of slot) (slots_of page)) (removes page slot room m a).outcome
      (remove_good page slot po so room m a) (remove_page page slot po so room m a)

module _ (form slot : Bytes) (so : Octets slot) (room n : ℕ) where
  pub inserted : (insert_form_outcome form slot room).answer ≡ Ok n
      → ungroup_outcome (insert_form_outcome form slot room).bytes ample ≡ insert_outcome (page_of form) slot ample
  unfolding insert_form_outcome
  inserted e =
      let p = (accepted_passes (regroup (insert_outcome (page_of form) slot ample) room) n (form_tests form) e).0 in
      edit_back form (insert_outcome (page_of form) slot ample) room n (insert_edited (page_of form) slot (page_of_octets form p) so ample) e

  pub removed : (remove_form_outcome form slot room).answer ≡ Ok n
      → ungroup_outcome (remove_form_outcome form slot room).bytes ample ≡ remove_outcome (page_of form) slot ample
  unfolding remove_form_outcome
  removed e =
      let p = (accepted_passes (regroup (remove_outcome (page_of form) slot ample) room) n (form_tests form) e).0 in
      edit_back form (remove_outcome (page_of form) slot ample) room n (remove_edited (page_of form) slot (page_of_octets form p) so ample) e
