-- The laws of specs/Grouped.antt hold (`laws`). Assumes nothing.
use mathlib.Core.Path.{◌≡◌, refl, sym, ap, ◌∙◌}
use mathlib.Core.List.{List, [], ◌∷◌, map}
use Prim.Native.Nat.{ℕ, suc, ◌+◌, ◌<◌, ◌≤◌}
use native.Mathlib.Omega.{arith}
use lib.IntN.{pos}
use lib.ListN.{length, get_or, length-map}
use Rattle.names.specs.declared.Author.{Author}
use Rattle.names.specs.Ordering.{Row}
use Rattle.name_renames.specs.Renaming.{first_position, lead, N as lead_name, rename}
use Rattle.name_renames.specs.Rules.{N}
use Rattle.name_renames.proofs.Rules.{rules}
use Rattle.numbers.specs.Bytes.{Bytes}
use Rattle.slots.specs.Slots.{Slot, slot_bytes}
use Rattle.answers.specs.declared.Refusal.TheVariants.{BadLayout, NotRising}
use Rattle.std.specs.declared.result.Result.TheVariants.{Ok}
use Rattle.answers.specs.Answers.{◌else◌, Outcome, refuse, write}
use Rattle.answers.proofs.Refusals.{passed}
use Rattle.pages.specs.Pages.{max_slots, slots_of, name_in, names_of, keeps_layout, rises}
use Rattle.one_name.proofs.CheckedLog.{CheckedLog, logged}
use Rattle.page_renames.specs.Renames.{carry, carried}
use Rattle.page_renames.proofs.Books as renames
use Rattle.runs.specs.Runs.{next, onward}
use Rattle.runs.proofs.RunNames.{onward_last}
use Rattle.groups.specs.Groups.{Group, line_in, run, grouped}
use Rattle.groups.specs.Forms.{form_bytes}
use Rattle.groups.specs.Calls.{form_pieces, group_outcome}
use Rattle.groups.proofs.Glue.{grouped_run}
use Rattle.groups.proofs.GroupBytes.{group_length}
use Rattle.groups.proofs.FormInverse.{form_none}
use Rattle.groups.proofs.FormSizes.{form_length}
use Rattle.groups.proofs.FormOutcomes.{form_writes}
use Rattle.grouped_renames.specs.Grouped.{RenamesAll, group_of, renamed_size, renamed, OneGroup, Laws}

-- ── names that become a run ──

-- N(k) is the name that comes k after N(0)
new_name_lem : (author : Author) (log : List Row) (k : ℕ) → N author log k ≡ onward k (N author log 0)
new_name_lem author log k =
    let e : k ≡ 0 + k = omega arith in
    ap (lead_name (first_position log) author) e ∙ sym (onward_last k (lead (first_position log) author (pos 0)) refl)

-- slots of which the k-th gets the name that comes k after a
carried_run : (f : Row → Row) (a : Row) (l : List Slot) → ((k : ℕ) → k < length (map name_in l) → f (get_or (map name_in l) k []) ≡ onward k a) →
    carried f l ≡ run a (map line_in l)
carried_run f a [] e = refl
carried_run f a (x ∷ l) e =
    λ i. record { line = x.line; name = e 0 (omega arith) i } ∷ carried_run f (next a) l (λ k h. e (suc k) (omega arith)) i

-- ── the rename ──

module _ (page log : Bytes) (author : Author) (room n : ℕ) (h : RenamesAll page log author room n) where
  abbrev f : Row → Row
  f = rename author (names_of log)

  abbrev first : Row
  first = N author (names_of log) 0

  abbrev group : Group
  group = group_of page log author

  abbrev after : Bytes
  after = renamed page log author room

  said : renames.Renames page log author room
  said = renames.renames page log author room n h.accepted

  checked : CheckedLog log
  checked = logged log said.asked.logged

  -- "equal to r(k)": N(k)
  each_new : (k : ℕ) → k < length (names_of page) → f (get_or (names_of page) k []) ≡ onward k first
  each_new k l =
      let e : get_or (names_of page) k [] ≡ get_or (names_of log) k [] = ap (λ (r : List Row). get_or r k []) (sym h.all_names) in
      let i : k < length (names_of log) = rw h.all_names l in
      (rules.table author (names_of log) checked.some checked.rising).logged (get_or (names_of page) k []) k i e ∙ new_name_lem author (names_of log) k

  slots_run : slots_of after ≡ run first group.lines
  slots_run = (renames.laws).rename_slots page log author room n h.given h.accepted ∙ carried_run f first (slots_of page) each_new

  -- ── how many ──

  count : length (slots_of page) ≡ n
  count =
      let c : Ok (length (slots_of page)) ≡ Ok n =
      ap Ok (sym (length-map (carried f (slots_of page)) slot_bytes ∙ length-map (slots_of page) (carry f)))
      ∙ sym (ap (λ (o : Outcome). o.answer) said.outcome)
      ∙ h.accepted in
      cc

  names_count : length (names_of log) ≡ n
  names_count = ap length h.all_names ∙ length-map (slots_of page) name_in ∙ count

  some : 1 ≤ n
  some = omega (arith, checked.some, names_count)

  few : n ≤ max_slots
  few = omega (arith, checked.few, names_count)

  lines_count : length group.lines ≡ n
  lines_count = length-map (slots_of page) line_in ∙ count

  -- ── one group ──

  groups : grouped (slots_of after) ≡ group ∷ []
  groups = ap grouped slots_run ∙ grouped_run first group.lines (omega (arith, some, lines_count))

  form_is : length (form_bytes (grouped (slots_of after))) ≡ renamed_size n
  form_is =
      let a = form_length group [] in
      let b = group_length group in
      let c = ap length form_none in
      let d = lines_count in
      ap (λ (gs : List Group). length (form_bytes gs)) groups ∙ omega arith

  group_is : (room' : ℕ) → renamed_size n ≤ room' →
      group_outcome after room' ≡ record { answer = Ok (renamed_size n); bytes = form_bytes (group ∷ []) }
  unfolding group_outcome
  group_is room' r =
      let v = (renames.laws).rename_page page log author room n h.given h.accepted in
      passed refuse (write (form_pieces (slots_of after)) room') (keeps_layout after else BadLayout ∷ rises after else NotRising ∷ []) (v.0, (v.1, tt))
      ∙ form_writes (slots_of after) room' (rw form_is r)
      ∙ (λ i. record { answer = Ok (form_is i); bytes = form_bytes (groups i) })

  one_group : OneGroup page log author room n
  one_group = record { groups = groups; count = count; some = some; few = few; form_is = form_is; group_is = group_is; in_packet = let k = few in omega arith }

pub laws : Laws
laws = record { one_group = one_group; size_is = λ n. omega arith; full_is = refl }
