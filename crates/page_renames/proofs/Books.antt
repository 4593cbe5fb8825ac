-- Renaming a page and taking a rename back, over 01's outcomes: what an accepted one says (`renames`, `takes_back`); it writes a
-- page, markers or not (`rename_page`, `back_page`), with these slots (`renamed_slots`, `back_slots`, `back_parts`); and a renamed
-- page taken back is the page, byte for byte (`rename_back`). specs/Laws.antt has these as statements (`laws`). Assumes nothing.
use mathlib.Core.Path.{◌≡◌, refl, ◌∙◌, sym, ap}
use mathlib.Core.List.{List, [], ◌∷◌, ◌++◌, map}
use mathlib.Core.Bool.{Bool, true, false}
use Prim.Native.Nat.{ℕ, ◌≤◌}
use native.Mathlib.Omega.{arith}
use borrow.Author.Tests.{leb-true, le-leb}
use lib.ListN.{length}
use Rattle.names.specs.declared.Author.{Author}
use Rattle.names.specs.Ordering.{Row, rising}
use Rattle.names.specs.Names.{within}
use Rattle.numbers.proofs.Bools.{and_0, yes_no}
use Rattle.names.proofs.Laws.{rising_Rising}
use Rattle.names.proofs.Validity.{Allowed, Valid}
use Rattle.name_renames.specs.Renaming.{rename, fresh, take_back}
use Rattle.name_renames.proofs.Lists.{All, cons, all_each}
use Rattle.name_renames.proofs.Fresh.{Fresh, fresh_Fresh}
use Rattle.name_renames.proofs.Forward.{rename_rising}
use Rattle.name_renames.proofs.GivenBack.{back_rename}
use Rattle.name_renames.proofs.Validity.{rename_valid_all, take_back_valid_all}
use Rattle.numbers.specs.Bytes.{Bytes, Octets}
use Rattle.std.specs.List.{list_all}
use Rattle.answers.specs.Answers.{Outcome, Test, number_of, ask, in_order, outcome, refuse, accept, write}
use Rattle.pages.specs.Pages.{parts_of, slots_of, name_in, names_of, pieces, keeps_layout, rises, is_log}
use Rattle.answers.specs.Answers.{Answer}
use Rattle.std.specs.declared.result.Result.TheVariants.{Ok, Err}
use Rattle.answers.specs.declared.Refusal.{Refusal}
use Rattle.pages.proofs.WrittenOctets.{written_octets}
use Rattle.answers.proofs.Outcomes.{write_accepted}
use Rattle.pages.proofs.PageOutcomes.{page_again}
use Rattle.answers.specs.Laws.{Passed as AllPass}
use Rattle.answers.proofs.Refusals.{passed, accepted_passes}
use Rattle.pages.proofs.RoundTrip.{page_slots}
use Rattle.page_renames.specs.Renames.{carried, are_fresh, all_fit, opening_tests, rename_tests, take_back_tests, rename_outcome, take_back_outcome}
use Rattle.page_renames.specs.Laws.{Laws}
use Rattle.one_name.proofs.CheckedLog.{logged}
use Rattle.page_renames.proofs.Carried.{all_every, page_valid, names_fit, carried_names, carried_again, carried_good, carried_slots, carried_parts, carried_page}

-- ── what an accepted outcome says ──

-- neither 1, 2, 3 nor 4
pub record Asked (page log : Bytes) (author : Author) : Type 0 where
  pub layout : keeps_layout page ≡ true
  pub rising : rises page ≡ true
  pub logged : is_log log ≡ true
  pub node : 1 ≤ author.node

-- 1, 2, 3 or 4
abbrev pub early : Answer → Bool
early x = within 1 4 (number_of x)

-- no test of the list answers x
abbrev NoneAnswers : Answer → List Test → Type 0
NoneAnswers x [] = Unit
NoneAnswers x (t ∷ tests) = (Err t.refusal ≡ x → ⊥) × NoneAnswers x tests

-- such an answer is that of what comes after the tests, which have all passed
after_tests : (next : Outcome) (x : Answer) (tests : List Test) → NoneAnswers x tests → (in_order tests refuse next).answer ≡ x → AllPass tests × (next.answer ≡ x)
after_tests next x [] h e = (tt, e)
after_tests next x (t ∷ tests) (h, hs) e = by t.passes refl (λ f. after_tests next x tests hs f) e
  where
    rest : Outcome
    rest = in_order tests refuse next

    by : (b : Bool) → t.passes ≡ b → (rest.answer ≡ x → AllPass tests × (next.answer ≡ x)) →
        (ask b (refuse t.refusal) rest).answer ≡ x → AllPass (t ∷ tests) × (next.answer ≡ x)
    by true p f e = ((p, (f e).0), (f e).1)
    by false p f e = absurd (h e)

module _ (page log : Bytes) (author : Author) where
  pub all_asked : AllPass (opening_tests page log author) → Asked page log author
  all_asked (layout, (rising, (logged, (node, _)))) =
      record { layout = layout; rising = rising; logged = logged; node = leb-true 1 author.node node }

  pub asked : (next : Outcome) (x : Answer) → early x ≡ false → (in_order (opening_tests page log author) refuse next).answer ≡ x → Asked page log author × (next.answer ≡ x)
  asked next x h e =
      let p = after_tests next x (opening_tests page log author) (late refl, (late refl, (late refl, (late refl, tt)))) e in
      (all_asked p.0, p.1)
    where
      late : {r : Refusal} → early (Err r) ≡ true → Err r ≡ x → ⊥
      late q p = yes_no q (ap early p ∙ h)

  pub past : Asked page log author → (next : Outcome) → in_order (opening_tests page log author) refuse next ≡ next
  past v next = passed refuse next (opening_tests page log author) (v.layout, (v.rising, (v.logged, (le-leb 1 author.node v.node, tt))))

  -- past 1, 2, 3 and 4
  pub take_back_by : Asked page log author → (room : ℕ) →
      take_back_outcome page log author room ≡ outcome (take_back_tests page log author) (pieces (carried (take_back author (names_of log)) (slots_of page))) room
  unfolding take_back_outcome
  take_back_by v room = past v _

-- past all tests, what is written
written : (tests : List Test) (l : List Bytes) (room n : ℕ) → (outcome tests l room).answer ≡ Ok n → AllPass tests × (outcome tests l room ≡ accept l)
written tests l room n e =
    let a = accepted_passes (write l room) n tests e in
    (a.0, a.1 ∙ write_accepted l room n (sym (ap (λ (o : Outcome). o.answer) a.1) ∙ e))

-- an accepted rename
pub record Renames (page log : Bytes) (author : Author) (room : ℕ) : Type 0 where
  pub asked : Asked page log author
  pub are_fresh_lem : are_fresh author page log ≡ true
  pub all_fit_lem : all_fit (rename author (names_of log)) page ≡ true
  pub outcome : rename_outcome page log author room ≡ accept (pieces (carried (rename author (names_of log)) (slots_of page)))

pub renames : (page log : Bytes) (author : Author) (room n : ℕ) → (rename_outcome page log author room).answer ≡ Ok n → Renames page log author room
unfolding rename_outcome
renames page log author room n e =
    go (written (opening_tests page log author ++ rename_tests page log author) renamed room n e)
  where
    renamed : List Bytes
    renamed = pieces (carried (rename author (names_of log)) (slots_of page))

    go : AllPass (opening_tests page log author ++ rename_tests page log author) × (rename_outcome page log author room ≡ accept renamed) → Renames page log author room
    go ((layout, (rising, (logged, (node, (are_fresh_lem, (all_fit_lem, _)))))), done) = record {
      asked = all_asked page log author (layout, (rising, (logged, (node, tt))));
      are_fresh_lem = are_fresh_lem;
      all_fit_lem = all_fit_lem;
      outcome = done;
    }

-- an accepted taking back
pub record TakesBack (page log : Bytes) (author : Author) (room : ℕ) : Type 0 where
  pub asked : Asked page log author
  pub all_fit_lem : all_fit (take_back author (names_of log)) page ≡ true
  pub rises_back : rising (map (take_back author (names_of log)) (names_of page)) ≡ true
  pub outcome : take_back_outcome page log author room ≡ accept (pieces (carried (take_back author (names_of log)) (slots_of page)))

pub takes_back : (page log : Bytes) (author : Author) (room n : ℕ) → (take_back_outcome page log author room).answer ≡ Ok n → TakesBack page log author room
unfolding take_back_outcome
takes_back page log author room n e =
    go (written (opening_tests page log author ++ take_back_tests page log author) old room n e)
  where
    old : List Bytes
    old = pieces (carried (take_back author (names_of log)) (slots_of page))

    go : AllPass (opening_tests page log author ++ take_back_tests page log author) × (take_back_outcome page log author room ≡ accept old) → TakesBack page log author room
    go ((layout, (rising, (logged, (node, (all_fit_lem, (rises_back, _)))))), done) = record {
      asked = all_asked page log author (layout, (rising, (logged, (node, tt))));
      all_fit_lem = all_fit_lem;
      rises_back = rises_back;
      outcome = done;
    }

-- ── an accepted call writes a page ──

-- over a log that has been checked
rename_valid_log : (author : Author) (log : List Row) {names : List Row} → Allowed author → 1 ≤ length log → length log ≤ 2147483647 →
    All Valid log → All Valid names → All Valid (map (rename author log) names)
rename_valid_log author [] a h b ls vs = absurd (omega arith)
rename_valid_log author (r ∷ rest) a h b (cons l ls) vs = rename_valid_all author r rest a b l vs

module _ (page log : Bytes) (author : Author) where
  pub page_fresh : are_fresh author page log ≡ true → All (Fresh author) (names_of page)
  page_fresh e =
      let in-page = list_all (fresh author) (names_of page) in
      let in_log = list_all (fresh author) (names_of log) in
      all_every (fresh author) (fresh_Fresh author) (names_of page) (and_0 in-page in_log e)

  module _ (node_max : author.node ≤ 65535) (sequence_max : author.sequence ≤ 4294967295) where
    pub allowed : Asked page log author → Allowed author
    allowed v = record { node_min = v.node; node_max = node_max; sequence_max = sequence_max }

    pub renamed_valid : Asked page log author → All Valid (map (rename author (names_of log)) (names_of page))
    renamed_valid v =
        let w = logged log v.logged in
        let names = page_valid page v.layout in
        rename_valid_log author (names_of log) (allowed v) w.some (omega (arith, w.few)) (page_valid log w.layout) names

    pub back_valid : Asked page log author → All Valid (map (take_back author (names_of log)) (names_of page))
    back_valid v =
        let w = logged log v.logged in
        take_back_valid_all author (names_of log) (allowed v) (omega (arith, w.few)) (page_valid log w.layout) (page_valid page v.layout)

    module _ (po : Octets page) (room n : ℕ) where
      pub renamed_slots : (rename_outcome page log author room).answer ≡ Ok n →
          slots_of (rename_outcome page log author room).bytes ≡ carried (rename author (names_of log)) (slots_of page)
      renamed_slots e =
          let i = renames page log author room n e in
          ap (λ (o : Outcome). slots_of o.bytes) i.outcome
          ∙ carried_slots (rename author (names_of log)) page po i.asked.layout (renamed_valid i.asked) i.all_fit_lem

      pub rename_page : (rename_outcome page log author room).answer ≡ Ok n →
          (keeps_layout (rename_outcome page log author room).bytes ≡ true) × (rises (rename_outcome page log author room).bytes ≡ true)
      rename_page e =
          let i = renames page log author room n e in
          let v = i.asked in
          let r = rename_rising author (names_of log) (page_fresh i.are_fresh_lem) (rising_Rising (names_of page) v.rising) in
          let p = carried_page (rename author (names_of log)) page po v.layout (renamed_valid v) i.all_fit_lem r in
          rw i.outcome p

      -- its output is bytes, as the page was
      pub rename_octets : (rename_outcome page log author room).answer ≡ Ok n →
          Octets (rename_outcome page log author room).bytes
      rename_octets e =
          let i = renames page log author room n e in
          let f = rename author (names_of log) in
          let good = carried_good f page po i.asked.layout (renamed_valid i.asked) i.all_fit_lem in
          rw i.outcome (written_octets (carried f (slots_of page)) good)

      pub back_slots : (take_back_outcome page log author room).answer ≡ Ok n →
          slots_of (take_back_outcome page log author room).bytes ≡ carried (take_back author (names_of log)) (slots_of page)
      back_slots e =
          let i = takes_back page log author room n e in
          ap (λ (o : Outcome). slots_of o.bytes) i.outcome
          ∙ carried_slots (take_back author (names_of log)) page po i.asked.layout (back_valid i.asked) i.all_fit_lem

      -- the same, as bytes
      pub back_parts : (take_back_outcome page log author room).answer ≡ Ok n →
          parts_of (take_back_outcome page log author room).bytes ≡ pieces (carried (take_back author (names_of log)) (slots_of page))
      back_parts e =
          let i = takes_back page log author room n e in
          ap (λ (o : Outcome). parts_of o.bytes) i.outcome
          ∙ carried_parts (take_back author (names_of log)) page po i.asked.layout (back_valid i.asked) i.all_fit_lem

      pub back_page : (take_back_outcome page log author room).answer ≡ Ok n →
          (keeps_layout (take_back_outcome page log author room).bytes ≡ true) × (rises (take_back_outcome page log author room).bytes ≡ true)
      back_page e =
          let i = takes_back page log author room n e in
          let v = i.asked in
          let r = rising_Rising (map (take_back author (names_of log)) (names_of page)) i.rises_back in
          let p = carried_page (take_back author (names_of log)) page po v.layout (back_valid v) i.all_fit_lem r in
          rw i.outcome p

      -- ── a rename taken back ──

      -- "byte for byte", markers or not, where the output has room for the page
      pub rename_back : (room' : ℕ) → length page ≤ room' → (rename_outcome page log author room).answer ≡ Ok n →
          take_back_outcome (rename_outcome page log author room).bytes log author room' ≡ record { answer = Ok (length (slots_of page)); bytes = page }
      unfolding take_back_outcome
      rename_back room' h e =
          let i = renames page log author room n e in
          let v = i.asked in
          let f = rename author (names_of log) in
          let g = take_back author (names_of log) in
          let out = (rename_outcome page log author room).bytes in
          let p = rename_page e in
          let fresh-names = page_fresh i.are_fresh_lem in
          let u : All (λ (a : Row). g (f a) ≡ a) (names_of page) = all_each (λ a j. back_rename author (names_of log) a j) fresh-names in
          let s : carried g (slots_of out) ≡ slots_of page = ap (carried g) (renamed_slots e) ∙ carried_again f g (slots_of page) u in
          let m : map g (names_of out) ≡ names_of page = sym (carried_names g (slots_of out)) ∙ ap (map name_in) s in
          let w : Asked out log author = record { layout = p.0; rising = p.1; logged = v.logged; node = v.node } in
          let fit = names_fit (slots_of page) (page_slots page po v.layout) in
          past out log author w _ ∙ rw (m, fit, v.rising, s) (page_again page po v.layout room' h)

-- ── specs/Laws.antt ──

pub laws : Laws
laws = record {
  rename_page = λ page log author room n g e. rename_page page log author g.node_max g.sequence_max g.octets room n e;
  rename_slots = λ page log author room n g e. renamed_slots page log author g.node_max g.sequence_max g.octets room n e;
  back_page = λ page log author room n g e. back_page page log author g.node_max g.sequence_max g.octets room n e;
  back_slots = λ page log author room n g e. back_slots page log author g.node_max g.sequence_max g.octets room n e;
  rename_back = λ page log author room n g e room' h.
      rename_back page log author g.node_max g.sequence_max g.octets room n room' h e;
}
