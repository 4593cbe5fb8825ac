-- What grouping and ungrouping come to, case by case: the first refusal that applies, or what is written. Assumes nothing.
use mathlib.Core.Path.{◌≡◌, refl, sym, ap, ◌∙◌}
use mathlib.Core.List.{List, [], ◌∷◌, flatten, map}
use mathlib.Core.Bool.{true, false}
use Prim.Native.Nat.{ℕ, ◌*◌, ◌<◌, ◌≤◌}
use native.Mathlib.Omega.{arith}
use borrow.Author.Tests.{le-leb, lt-leb}
use lib.ListN.{length, length-map}
use Rattle.names.specs.Ordering.{rising}
use Rattle.numbers.specs.Bytes.{Bytes}
use Rattle.slots.specs.Slots.{Slot, slot_size, slot_bytes}
use Rattle.std.specs.declared.result.Result.TheVariants.{Ok, Err}
use Rattle.answers.specs.declared.Refusal.{Refusal}
use Rattle.answers.specs.declared.Refusal.TheVariants.{BadLayout, NotRising, Short, Full, Malformed}
use Rattle.answers.specs.Answers.{Test, ◌else◌, Outcome, refuse, write}
use Rattle.answers.specs.Laws.{here, later}
use Rattle.answers.proofs.Refusals.{passed, failed}
use Rattle.answers.proofs.Outcomes.{writes, writes_short}
use Rattle.pages.specs.Pages.{check_page, max_slots, slots_of, name_in, pieces, keeps_layout, rises}
use Rattle.names.specs.Names.{limit}
use Rattle.pages.proofs.Checked.{page_fails}
use Rattle.pages.proofs.RoundTrip.{written_length}
use Rattle.groups.specs.Groups.{grouped}
use Rattle.groups.specs.Forms.{form_bytes, groups_in, slots_of_form, keeps_form}
use Rattle.groups.specs.Calls.{form_pieces, form_tests, group_outcome, ungroup_outcome}
use Rattle.groups.proofs.GroupTests.{slots_good}
use Rattle.groups.proofs.FormInverse.{kept}
use Rattle.groups.proofs.FormOutcomes.{form_flat, form_writes}

-- ── from a page ──

-- "1, 2"
abbrev group_tests : Bytes → List Test
group_tests page = keeps_layout page else BadLayout ∷ rises page else NotRising ∷ []

module _ (page : Bytes) (room : ℕ) where
  pub group_refused : {r : Refusal} → check_page page ≡ Err r → group_outcome page room ≡ refuse r
  unfolding group_outcome
  group_refused e = failed refuse (write (form_pieces (slots_of page)) room) (group_tests page) (page_fails limit page [] e)

  module _ (e : keeps_layout page ≡ true) (f : rises page ≡ true) where
    goes_on_lem : group_outcome page room ≡ write (form_pieces (slots_of page)) room
    unfolding group_outcome
    goes_on_lem = passed refuse (write (form_pieces (slots_of page)) room) (group_tests page) (e, (f, tt))

    pub group_short : room < length (form_bytes (grouped (slots_of page))) → group_outcome page room ≡ refuse Short
    group_short h = goes_on_lem ∙ writes_short (form_pieces (slots_of page)) room (omega (arith, ap length (form_flat (slots_of page))))

    pub group_done : (n : ℕ) → n ≡ length (form_bytes (grouped (slots_of page))) → n ≤ room
        → group_outcome page room ≡ record { answer = Ok n; bytes = form_bytes (grouped (slots_of page)) }
    group_done n q h =
        goes_on_lem ∙ form_writes (slots_of page) room (omega arith) ∙ ap (λ (m : ℕ). record { answer = Ok m; bytes = form_bytes (grouped (slots_of page)) }) (sym q)

-- ── from a form ──

module _ (form : Bytes) (room : ℕ) where
  abbrev slots : List Slot
  slots = slots_of_form form

  abbrev written : Outcome
  written = write (pieces slots) room

  pub ungroup_malformed : keeps_form form ≡ false → ungroup_outcome form room ≡ refuse Malformed
  unfolding ungroup_outcome
  ungroup_malformed e = failed refuse written (form_tests form) (here e refl)

  module _ (e : keeps_form form ≡ true) where
    pub ungroup_not_rising : rising (map name_in (slots_of_form form)) ≡ false → ungroup_outcome form room ≡ refuse NotRising
    unfolding ungroup_outcome
    ungroup_not_rising f = failed refuse written (form_tests form) (later e (here f refl))

    module _ (f : rising (map name_in (slots_of_form form)) ≡ true) where
      pub ungroup_full : max_slots < length (slots_of_form form) → ungroup_outcome form room ≡ refuse Full
      unfolding ungroup_outcome
      ungroup_full h = failed refuse written (form_tests form) (later e (later f (here (lt-leb (length slots) max_slots h) refl)))

      module _ (few : length (slots_of_form form) ≤ max_slots) where
        form_goes_on : ungroup_outcome form room ≡ write (pieces (slots_of_form form)) room
        unfolding ungroup_outcome
        form_goes_on = passed refuse written (form_tests form) (e, (f, (le-leb (length slots) max_slots few, tt)))

        long : length (flatten (pieces (slots_of_form form))) ≡ slot_size * length (slots_of_form form)
        long = written_length slots (slots_good (groups_in form) (kept form e).good)

        pub ungroup_short : room < slot_size * length (slots_of_form form) → ungroup_outcome form room ≡ refuse Short
        ungroup_short h = form_goes_on ∙ writes_short (pieces slots) room (omega (arith, long))

        pub ungroup_done : (n : ℕ) → n ≡ length (slots_of_form form) → slot_size * n ≤ room
            → ungroup_outcome form room ≡ record { answer = Ok n; bytes = flatten (pieces (slots_of_form form)) }
        ungroup_done n q h =
            form_goes_on ∙ writes (pieces slots) room n (flatten (pieces slots)) (length-map slots slot_bytes ∙ sym q) refl (omega (arith, long))
