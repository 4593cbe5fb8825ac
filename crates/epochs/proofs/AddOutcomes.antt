-- The outcomes of adding an epoch, as the code meets them: 13, 14, 4, 13, 17, 18 and 8 (`bad_table`, `no_epoch`, `no_author`, `no_count`,
-- `listed_refused`, `full_refused`, `short_refused`), or the table's bytes and the entry's (`done`). An accepted call (`adds`) had a table and an entry
-- that may be added, and writes the entries and the new one. Assumes nothing.
use mathlib.Core.Path.{◌≡◌, refl, sym, ap, ◌∙◌}
use mathlib.Core.List.{List, ◌++◌, flatten}
use mathlib.Core.Bool.{true, false, not}
use Prim.Native.Nat.{ℕ, ◌+◌, ◌/◌, ◌<◌, ◌≤◌}
use native.Mathlib.Omega.{arith}
use borrow.Author.Tests.{ltb-true, leb-true, lt-ltb, le-ltb, le-leb, lt-leb, not-true}
use lib.Dec.{leb, ltb}
use lib.ListN.{length, length-map, length-append}
use Rattle.names.specs.declared.Author.{Author}
use Rattle.numbers.specs.Bytes.{Bytes, Octets}
use Rattle.answers.specs.Answers.{Outcome, refuse, accept, write}
use Rattle.std.specs.declared.result.Result.TheVariants.{Ok}
use Rattle.answers.specs.declared.Refusal.{Refusal}
use Rattle.answers.specs.declared.Refusal.TheVariants.{NoAuthor, Short, BadTable, NoEpoch, Listed, TableFull}
use Rattle.answers.proofs.Outcomes.{writes_short, writes, write_accepted}
use Rattle.answers.specs.Laws.{Passed, FirstFails, here, later}
use Rattle.answers.proofs.Refusals.{passed, failed, accepted_passes}
use Rattle.epoch_tree.specs.Tables.{Entry, entry_size, max_entries, entries_of, entry_bytes, entry_pieces, is_count, listed, keeps_table, added}
use Rattle.epoch_tree.specs.Laws.{Addable}
use Rattle.epoch_tree.proofs.AddedEpoch.{added_length}
use Rattle.epoch_tree.proofs.TableBytes.{checked, length_entries, written_length, whole, added_bytes}
use Rattle.epochs.specs.Calls.{entry_by, add_tests, add_outcome}

module _ (s : Bytes) (parent : ℕ) (author : Author) (count room : ℕ) where
  -- the pieces of the table with the new entry
  abbrev new : List Bytes
  new = entry_pieces (added (entries_of s) (entry_by author parent count))

  refuses : {r : Refusal} → FirstFails r (add_tests s (entry_by author parent count)) → add_outcome s parent author count room ≡ refuse r
  unfolding add_outcome
  refuses f = failed refuse (write new room) (add_tests s (entry_by author parent count)) f

  goes_on_lem : Passed (add_tests s (entry_by author parent count)) → add_outcome s parent author count room ≡ write new room
  unfolding add_outcome
  goes_on_lem p = passed refuse (write new room) (add_tests s (entry_by author parent count)) p

  pub bad_table : keeps_table s ≡ false → add_outcome s parent author count room ≡ refuse BadTable
  bad_table h = refuses (here h refl)

  module _ (h : keeps_table s ≡ true) where
    pub no_epoch : length s / entry_size ≤ parent → add_outcome s parent author count room ≡ refuse NoEpoch
    no_epoch p = let n = length_entries s in refuses (later h (here (le-ltb parent (length (entries_of s)) (omega arith)) refl))

    module _ (p : parent < length s / entry_size) where
      in_table : ltb parent (length (entries_of s)) ≡ true
      in_table = let n = length_entries s in lt-ltb parent (length (entries_of s)) (omega arith)

      pub no_author : author.node < 1 → add_outcome s parent author count room ≡ refuse NoAuthor
      no_author a = refuses (later h (later in_table (here (lt-leb 1 author.node a) refl)))

      module _ (a : 1 ≤ author.node) where
        has_node : leb 1 author.node ≡ true
        has_node = le-leb 1 author.node a

        pub no_count : is_count count ≡ false → add_outcome s parent author count room ≡ refuse BadTable
        no_count c = refuses (later h (later in_table (later has_node (here c refl))))

        module _ (c : is_count count ≡ true) where
          pub listed_refused : listed (entry_by author parent count) (entries_of s) ≡ true → add_outcome s parent author count room ≡ refuse Listed
          listed_refused q = refuses (later h (later in_table (later has_node (later c (here (ap not q) refl)))))

          module _ (q : listed (entry_by author parent count) (entries_of s) ≡ false) where
            pub full_refused : max_entries ≤ length s / entry_size → add_outcome s parent author count room ≡ refuse TableFull
            full_refused f =
                let n = length_entries s in
                let full = le-ltb (length (entries_of s)) max_entries (omega arith) in
                refuses (later h (later in_table (later has_node (later c (later (ap not q) (here full refl))))))

            module _ (f : length s / entry_size < max_entries) where
              all_pass : add_outcome s parent author count room ≡ write new room
              all_pass =
                  let n = length_entries s in
                  goes_on_lem (h, (in_table, (has_node, (c, (ap not q, (lt-ltb (length (entries_of s)) max_entries (omega arith), tt))))))

              -- the bytes of one entry more
              longer : length (flatten new) ≡ length s + entry_size
              longer =
                  let l = added_length (entries_of s) (checked s h) (entry_by author parent count) in
                  let n = length_entries s in
                  let w = whole s h in
                  written_length (added (entries_of s) (entry_by author parent count)) ∙ omega arith

              pub short_refused : room < length s + entry_size → add_outcome s parent author count room ≡ refuse Short
              short_refused r = all_pass ∙ writes_short new room (rw longer r)

              pub done :
                  Octets s → length s + entry_size ≤ room →
                  add_outcome s parent author count room
                  ≡ record { answer = Ok (length s / entry_size + 1); bytes = s ++ entry_bytes (entry_by author parent count) }
              done k r =
                  let l = added_length (entries_of s) (checked s h) (entry_by author parent count) in
                  let n = length_entries s in
                  let pieces : length new ≡ length s / entry_size + 1 = length-map (added (entries_of s) (entry_by author parent count)) entry_bytes ∙ omega arith in
                  let e = added_bytes s h (entry_by author parent count) k in
                  let z = length-append s (entry_bytes (entry_by author parent count)) in
                  let w : length (s ++ entry_bytes (entry_by author parent count)) ≤ room = omega arith in
                  all_pass ∙ writes new room (length s / entry_size + 1) (s ++ entry_bytes (entry_by author parent count)) pieces e w

-- ── an accepted call ──

-- the table and the entry may be added, and what is written is the table with it
pub record Adds (s : Bytes) (e : Entry) (x : Outcome) : Type 0 where
  pub kept : keeps_table s ≡ true
  pub may : Addable (entries_of s) e
  pub wrote : x ≡ accept (entry_pieces (added (entries_of s) e))

pub adds :
    (s : Bytes) (parent : ℕ) (author : Author) (count room n : ℕ) → (add_outcome s parent author count room).answer ≡ Ok n →
    Adds s (entry_by author parent count) (add_outcome s parent author count room)
unfolding add_outcome
adds s parent author count room n h =
    let e = entry_by author parent count in
    let new = entry_pieces (added (entries_of s) e) in
    let (p, same) = accepted_passes (write new room) n (add_tests s e) h in
    let (kept, (in_table, (has_node, (has_count, (unlisted, (has_room, _)))))) = p in
    record {
      kept = kept;
      may = record {
        in_table = ltb-true parent (length (entries_of s)) in_table;
        has_node = leb-true 1 author.node has_node;
        has_count = has_count;
        unlisted = not-true (listed e (entries_of s)) unlisted;
        has_room = ltb-true (length (entries_of s)) max_entries has_room;
      };
      wrote = same ∙ write_accepted new room n (sym (ap (λ (x : Outcome). x.answer) same) ∙ h);
    }
