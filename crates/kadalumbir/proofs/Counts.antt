-- The count of every answer is far below 2³², so that it can be packed: `check_page_count` and the others, one for each call.
-- Assumes nothing.
use mathlib.Core.Path.{◌≡◌, ap}
use mathlib.Core.List.{List, [], ◌∷◌, ◌++◌, map, flatten}
use mathlib.Core.Bool.{Bool, true, false, cond, not, ◌&&◌}
use mathlib.Core.Option.{Option, none, some}
use Prim.Native.Nat.{ℕ, suc, ◌+◌, ◌*◌, ◌/◌, ◌<◌, ◌≤◌}
use native.Mathlib.Omega.{arith}
use borrow.Author.Tests.{leb-true, ltb-true}
use lib.Dec.{eqb, leb, ltb}
use lib.ListN.{length, drop, length-map, length-take}
use Rattle.names.specs.declared.Author.{Author}
use Rattle.names.specs.Ordering.{Row}
use Rattle.names.specs.Names.{limit, fits}
use Rattle.name_renames.specs.Renaming.{rename, take_back}
use Rattle.numbers.proofs.Bools.{and_0, and_1}
use Rattle.numbers.specs.Bytes.{Bytes}
use Rattle.std.specs.List.{list_all}
use Rattle.slots.specs.Tuples.{tuples_at, tuple_size}
use Rattle.slots.specs.Slots.{head_size, depth_of, bytes_over, Slot, slot_size, slot_bytes, name_of, slot_of}
use Rattle.answers.specs.Answers.{Answer}
use Rattle.std.specs.declared.result.Result.TheVariants.{Ok, Err}
use Rattle.answers.specs.declared.Refusal.{Refusal}
use Rattle.answers.specs.declared.Refusal.TheVariants.{BadLayout, NotRising, BadLog, TooDeep, Short, Present, Absent, Full, NoNewName, BadTable, Malformed}
use Rattle.answers.specs.Answers.{Outcome, Test, ◌else◌, in_order, check, count_of, refuse, accept, write, outcome}
use Rattle.answers.specs.Laws.{Passed}
use Rattle.answers.proofs.Refusals.{whichever}
use Rattle.pages.specs.Pages.{max_slots, parts_of, slots_of, names_of, pieces, keeps_layout, rises, line_is_zero, is_log, check_over, check_page, check_log}
use Rattle.pages.specs.Places.{has}
use Rattle.pages.proofs.SlotBySlot.{length_slots}
use Rattle.pages.proofs.RoundTrip.{laid_over, laid}
use Rattle.edits.specs.Edits.{placed, without, edit_tests, insert_outcome, remove_outcome}
use Rattle.edits.proofs.Books.{length_placed, length_without}
use Rattle.old_pages.specs.OldPages.{old_limit, old_slots_of, old_pieces, from_old_tests, to_old_tests, from_old_outcome, to_old_outcome}
use Rattle.old_pages.proofs.Outcomes.{old_count}
use Rattle.new_names.specs.NewNames.{name_before, name_after, new_name, refuse_name, answer_name, gap_tests, new_name_outcome}
use Rattle.page_renames.specs.Renames.{carry, carried, opening_tests, rename_tests, take_back_tests, rename_outcome, take_back_outcome}
use Rattle.one_name.proofs.CheckedLog.{logged}
use Rattle.epoch_tree.specs.Tables.{max_entries, entries_of, entry_bytes, entry_pieces, keeps_table, added}
use Rattle.epoch_tree.specs.declared.Step.{Step}
use Rattle.epoch_tree.specs.declared.Step.TheVariants.{Stay, Up, Down}
use Rattle.epochs.specs.Calls.{Next}
use Rattle.epoch_tree.specs.Tree.{next_step, after}
use Rattle.epochs.specs.Calls.{epoch_tests, add_tests, check_table, step_index, index_in, answer_of, next_step_outcome, entry_by, add_outcome}
use Rattle.epoch_tree.proofs.Walk.{walk_in}
use Rattle.epoch_tree.proofs.AddedEpoch.{added_length}
use Rattle.epoch_tree.proofs.TableBytes.{checked}
use Rattle.messages.specs.declared.Numbers.{Numbers}
use Rattle.messages.specs.Messages.{rename as rename_kind, is_message, message_bytes, most_names, kind_in, names_place, names_in, keeps_message}
use Rattle.fields.specs.Fields.{single}
use Rattle.messages.specs.Calls.{bare, read_outcome, parts_given, may_write, write_outcome}
use Rattle.messages.proofs.Longest.{no_longer}
use Rattle.messages.proofs.NameFields.{names_few}
use Rattle.groups.specs.Groups.{line_size, alone, grouped}
use Rattle.groups.specs.Forms.{form_bytes, group_head, slots_of_form}
use Rattle.groups.specs.Calls.{form_pieces, form_tests, page_of, ample, regrouped, regroup, group_outcome, ungroup_outcome, insert_form_outcome, remove_form_outcome}
use Rattle.groups.proofs.GroupBytes.{group_length}
use Rattle.groups.proofs.FormInverse.{form_none}
use Rattle.groups.proofs.FormPages.{held}
use Rattle.groups.proofs.FormSizes.{form_length, no_longer_than_alone}
use Rattle.kadalumbir.specs.Library.{named}

-- a count that can be packed
abbrev Small : Answer → Type 0
Small a = count_of a < 4294967296

-- a refusal counts nothing
refuses : (r : Refusal) → Small (Err r)
refuses r = omega arith

-- after any tests: what is refused counts nothing, and what comes after them counts where all are passed
after_tests : (tests : List Test) (w : Outcome) → (Passed tests → Small w.answer) → Small (in_order tests refuse w).answer
after_tests tests w f = whichever (λ x. Small x.answer) refuse w refuses tests f

checks : (tests : List Test) (n : ℕ) → (Passed tests → n < 4294967296) → Small (check tests n)
checks tests n f = whichever Small Err (Ok n) refuses tests f

few : (s : Bytes) → keeps_layout s ≡ true → length (slots_of s) ≤ max_slots
few s h = let n = length_slots s in let l : length s / slot_size ≤ max_slots = (laid s h).few in omega arith

wrote : (l : List Bytes) (room : ℕ) → length l < 4294967296 → Small (write l room).answer
wrote l room h = after_tests (leb (length (flatten l)) room else Short ∷ []) (accept l) (λ p. h)

slots_count : (l : List Slot) (room : ℕ) → length l ≤ suc max_slots → Small (write (pieces l) room).answer
slots_count l room h = wrote (pieces l) room (let m = length-map l slot_bytes in omega arith)

-- ── checks ──

pub check_page_count : (s : Bytes) → count_of (check_page s) < 4294967296
unfolding check_over
check_page_count s =
    checks (keeps_layout s else BadLayout ∷ rises s else NotRising ∷ []) (length (slots_of s)) (λ p. let l = few s p.0 in omega arith)

pub check_log_count : (s : Bytes) → count_of (check_log s) < 4294967296
unfolding check_log
check_log_count s = checks (is_log s else BadLog ∷ []) (length (slots_of s)) (λ p. let l = few s (logged s p.0).layout in omega arith)

few_entries : (s : Bytes) → keeps_table s ≡ true → length (entries_of s) ≤ max_entries
few_entries s k = (checked s k).few

pub check_table_count : (s : Bytes) → count_of (check_table s) < 4294967296
unfolding check_table
check_table_count s = checks (keeps_table s else BadTable ∷ []) (length (entries_of s)) (λ p. let l = few_entries s p.0 in omega arith)

-- ── lines ──

-- the refusals of insert and of remove, all but 8
abbrev insert_tests : Bytes → Bytes → List Test
insert_tests page slot =
    edit_tests page slot ++ (not (has (name_of slot) (names_of page)) else Present ∷ ltb (length (slots_of page)) max_slots else Full ∷ [])

abbrev remove_tests : Bytes → Bytes → List Test
remove_tests page slot = edit_tests page slot ++ (has (name_of slot) (names_of page) else Absent ∷ [])

pub insert_count : (page slot : Bytes) (room : ℕ) → count_of (insert_outcome page slot room).answer < 4294967296
unfolding insert_outcome
insert_count page slot room =
    let l = placed (slot_of slot) (slots_of page) in
    after_tests (insert_tests page slot) (write (pieces l) room)
    (λ p. slots_count l room (let m = few page p.0 in let n = length_placed (slot_of slot) (slots_of page) in omega arith))

pub remove_count : (page slot : Bytes) (room : ℕ) → count_of (remove_outcome page slot room).answer < 4294967296
unfolding remove_outcome
remove_count page slot room =
    let l = without (name_of slot) (slots_of page) in
    after_tests (remove_tests page slot) (write (pieces l) room)
    (λ p. slots_count l room (let m = few page p.0 in let n = length_without (name_of slot) (slots_of page) in omega arith))

-- ── old pages ──

pub from_old_count : (old : Bytes) (room : ℕ) → count_of (from_old_outcome old room).answer < 4294967296
unfolding from_old_outcome
from_old_count old room =
    after_tests (from_old_tests old) (write (pieces (old_slots_of old)) room)
    (λ p. slots_count (old_slots_of old) room (let n = old_count old in let l = (laid_over old_limit old p.0).few in omega arith))

pub to_old_count : (page : Bytes) (room : ℕ) → count_of (to_old_outcome page room).answer < 4294967296
unfolding to_old_outcome
to_old_count page room =
    after_tests (to_old_tests page) (write (old_pieces (slots_of page)) room)
    (λ p. wrote (old_pieces (slots_of page)) room (let l = few page p.0 in let m = length-map (slots_of page) (bytes_over old_limit) in omega arith))

-- ── new names ──

named_small : (c : Row) → Small (answer_name (some c)).answer
named_small c = whichever (λ x. Small x.answer) refuse_name (record { answer = Ok 0; name = c }) refuses (fits c else TooDeep ∷ []) (λ p. omega arith)

pub new_name_count : (page : Bytes) (gap : ℕ) (author : Author) → count_of (new_name_outcome page gap author).answer < 4294967296
unfolding new_name_outcome
new_name_count page gap author =
    let given = new_name author (name_before gap (names_of page)) (name_after gap (names_of page)) in
    whichever (λ x. Small x.answer) refuse_name (answer_name given) refuses (gap_tests page gap author) (λ p. by given)
  where
    by : (o : Option Row) → Small (answer_name o).answer
    by none = refuses NoNewName
    by (some c) = named_small c

pub named_count : (a : Answer) (name : Row) (room : ℕ) → count_of a < 4294967296 → count_of (named a name room).answer < 4294967296
named_count (Err r) name room h = refuses r
named_count (Ok n) name room h =
    after_tests (leb slot_size room else Short ∷ []) (record { answer = Ok n; bytes = slot_bytes (record { line = 0; name = name }) }) (λ p. h)

-- ── renames ──

module _ (page log : Bytes) (author : Author) (room : ℕ) where
  carried_count : (f : Row → Row) → keeps_layout page ≡ true → Small (write (pieces (carried f (slots_of page))) room).answer
  carried_count f k = slots_count (carried f (slots_of page)) room (let l = few page k in let n = length-map (slots_of page) (carry f) in omega arith)

  pub rename_count : count_of (rename_outcome page log author room).answer < 4294967296
  unfolding rename_outcome
  rename_count =
      let f = rename author (names_of log) in
      after_tests (opening_tests page log author ++ rename_tests page log author) (write (pieces (carried f (slots_of page))) room) (λ p. carried_count f p.0)

  pub take_back_count : count_of (take_back_outcome page log author room).answer < 4294967296
  unfolding take_back_outcome
  take_back_count =
      let f = take_back author (names_of log) in
      after_tests (opening_tests page log author ++ take_back_tests page log author) (write (pieces (carried f (slots_of page))) room) (λ p. carried_count f p.0)

-- ── epochs ──

pub add_count : (table : Bytes) (parent : ℕ) (author : Author) (count room : ℕ) → count_of (add_outcome table parent author count room).answer < 4294967296
unfolding add_outcome
add_count table parent author count room =
    let e = entry_by author parent count in
    let t = entries_of table in
    after_tests (add_tests table e) (write (entry_pieces (added t e)) room) (λ p.
    wrote (entry_pieces (added t e)) room (
    let l = few_entries table p.0 in
    let n = added_length t (checked table p.0) e in
    let m = length-map (added t e) entry_bytes in
    omega arith
    ))

-- a step counts nothing
pub step_count : (x : Next) → count_of (answer_of x) < 4294967296
step_count (Ok s) = omega arith
step_count (Err r) = omega arith

-- and leads to an index of the table, which a u32 holds
pub step_index_lem : (table : Bytes) (current : ℕ) → index_in (next_step_outcome table current) < 4294967296
unfolding next_step_outcome
step_index_lem table current =
    let t = entries_of table in
    whichever (λ x. index_in x < 4294967296) Err (Ok (next_step t current)) (λ r. omega arith) (epoch_tests table current) (λ p.
    let l = few_entries table p.0 in
    let w : after (next_step t current) current < length t = walk_in t (checked table p.0) 1 current (ltb-true current (length t) p.1.0) in
    inside (next_step t current) (omega arith)
    )
  where
    inside : (s : Step) → after s current < max_entries → step_index s < 4294967296
    inside Stay h = omega arith
    inside (Up i) h = omega arith
    inside (Down i) h = omega arith

-- ── messages ──

pub write_message_count : (x : Numbers) (slots : Bytes) (room : ℕ) → count_of (write_outcome x slots room).answer < 4294967296
unfolding write_outcome
write_message_count x slots room =
    let s = message_bytes (parts_given x slots) in
    after_tests (may_write x slots else Malformed ∷ []) (write (map single s) room) (λ p.
    wrote (map single s) room (
    let a = and_0 (keeps_layout slots && is_message (parts_given x slots)) (list_all line_is_zero (slots_of slots)) p.0 in
    let l = no_longer (parts_given x slots) (and_1 (keeps_layout slots) (is_message (parts_given x slots)) a) in
    let m = length-map s single in
    omega arith
    ))

pub read_message_count : (s : Bytes) (room : ℕ) → count_of (read_outcome s room).answer < 4294967296
unfolding read_outcome
read_message_count s room =
    after_tests (keeps_message s else Malformed ∷ []) (write (pieces (map bare (names_in s))) room) (λ p.
    slots_count (map bare (names_in s)) room (
    let l : length (names_in s) ≤ most_names (kind_in s) = names_few (most_names (kind_in s)) (drop names_place s) in
    let n = length-map (names_in s) bare in
    let f = most (eqb (kind_in s) rename_kind) in
    omega arith
    ))
  where
    most : (b : Bool) → cond b max_slots 1 ≤ max_slots
    most true = omega arith
    most false = omega arith

-- ── forms ──

-- a slot, whatever its bytes, has room for so many tuples and no more
few_tuples : (s : Bytes) → length (name_of s) ≤ limit
few_tuples s = omega (arith, length-take (depth_of s) (tuples_at s head_size limit))

-- so a group for each slot is no longer than one of the longest name
alone_length : (l : List Bytes) → length (form_bytes (map alone (map slot_of l))) ≤ length l * (group_head + tuple_size * limit + line_size)
alone_length [] = let z = ap length form_none in omega arith
alone_length (s ∷ l) =
    let a = alone_length l in
    let b = form_length (alone (slot_of s)) (map alone (map slot_of l)) in
    let c = group_length (alone (slot_of s)) in
    let d = few_tuples s in
    omega arith

-- and the form of a page, whatever its bytes, has a count that can be packed
form_count : (page : Bytes) (room : ℕ) → length page ≤ ample → Small (write (form_pieces (slots_of page)) room).answer
form_count page room h =
    wrote (form_pieces (slots_of page)) room (
    let a = no_longer_than_alone (slots_of page) in
    let b = alone_length (parts_of page) in
    let m = length-map (parts_of page) slot_of in
    let n = length_slots page in
    let k = length-map (form_bytes (grouped (slots_of page))) single in
    omega arith
    )

pub group_count : (page : Bytes) (room : ℕ) → count_of (group_outcome page room).answer < 4294967296
unfolding group_outcome
group_count page room =
    after_tests (keeps_layout page else BadLayout ∷ rises page else NotRising ∷ []) (write (form_pieces (slots_of page)) room)
    (λ p. form_count page room (let f = (laid page p.0).few in let w = (laid page p.0).whole in omega arith))

pub ungroup_count : (form : Bytes) (room : ℕ) → count_of (ungroup_outcome form room).answer < 4294967296
unfolding ungroup_outcome
ungroup_count form room =
    after_tests (form_tests form) (write (pieces (slots_of_form form)) room)
    (λ p. slots_count (slots_of_form form) room (let f = (held form p).few in omega arith))

-- what a call writes has room in its output
in_room : (tests : List Test) (l : List Bytes) (room : ℕ) → length (outcome tests l room).bytes ≤ room
in_room tests l room =
    whichever (λ x. length x.bytes ≤ room) refuse (write l room) (λ r. omega arith) tests (λ p.
    whichever (λ x. length x.bytes ≤ room) refuse (accept l) (λ r. omega arith) (leb (length (flatten l)) room else Short ∷ []) (λ q.
    leb-true (length (flatten l)) room q.0
    ))

-- so a page that was edited is grouped again with a count that can be packed
regroup_count : (x : Outcome) (room : ℕ) → length x.bytes ≤ ample → Small (regroup x room).answer
regroup_count x room h = by x.answer
  where
    by : (a : Answer) → Small (regrouped a x.bytes room).answer
    by (Err r) = refuses r
    by (Ok n) = form_count x.bytes room h

insert_in_room : (page slot : Bytes) (room : ℕ) → length (insert_outcome page slot room).bytes ≤ room
unfolding insert_outcome
insert_in_room page slot room = in_room (insert_tests page slot) (pieces (placed (slot_of slot) (slots_of page))) room

remove_in_room : (page slot : Bytes) (room : ℕ) → length (remove_outcome page slot room).bytes ≤ room
unfolding remove_outcome
remove_in_room page slot room = in_room (remove_tests page slot) (pieces (without (name_of slot) (slots_of page))) room

pub insert_form_count : (form slot : Bytes) (room : ℕ) → count_of (insert_form_outcome form slot room).answer < 4294967296
unfolding insert_form_outcome
insert_form_count form slot room =
    let x = insert_outcome (page_of form) slot ample in
    after_tests (form_tests form) (regroup x room) (λ p. regroup_count x room (insert_in_room (page_of form) slot ample))

pub remove_form_count : (form slot : Bytes) (room : ℕ) → count_of (remove_form_outcome form slot room).answer < 4294967296
unfolding remove_form_outcome
remove_form_count form slot room =
    let x = remove_outcome (page_of form) slot ample in
    after_tests (form_tests form) (regroup x room) (λ p. regroup_count x room (remove_in_room (page_of form) slot ample))
