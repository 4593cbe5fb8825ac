-- A page along its edits (`along`): it stays a page, of bytes; its slots are the surviving old lines under their new names and the
-- surviving added lines as they were inserted, all of them and no others. An old line's name, renamed and taken back, is what it was
-- (`name_again`). Assumes nothing.
use mathlib.Core.Path.{◌≡◌, refl, ◌∙◌, sym, ap}
use mathlib.Core.List.Memᴰ
use mathlib.Core.List.{List, [], ◌∷◌, map-map, Memᴰ as In}
use mathlib.Core.Logic.{inl, inr}
use mathlib.Core.Bool.{true}
use Prim.Native.Nat.{ℕ, ◌≤◌}
use Rattle.names.specs.declared.Author.{Author}
use Rattle.name_renames.specs.Renaming.{rename, take_back}
use Rattle.name_renames.proofs.GivenBack.{back_rename}
use Rattle.numbers.specs.Bytes.{Bytes, Octets}
use Rattle.slots.specs.Slots.{Slot, name_of, slot_of, slot_bytes}
use Rattle.slots.proofs.RoundTrip.{kept, bytes_back}
use Rattle.pages.specs.Pages.{parts_of, slots_of, name_in, names_of, keeps_layout, rises}
use Rattle.std.specs.declared.result.Result.TheVariants.{Ok}
use Rattle.pages.proofs.WrittenOctets.{written_octets}
use Rattle.edits.specs.Edits.{placed, without, insert_outcome, remove_outcome}
use Rattle.edits.proofs.Books.{in_placed, in_without, inserts, removes, insert_good, inserted_slots, insert_page, remove_good, removed_slots, remove_page}
use Rattle.page_renames.specs.Renames.{carry, are_fresh, rename_outcome}
use Rattle.page_renames.proofs.Books.{Asked, renames, page_fresh, renamed_slots, rename_page, rename_octets}
use Rattle.histories.specs.Demand.{renamed_as, others, Edited, renamed, inserted, removed}
use Rattle.histories.proofs.Members.{in_all, in_placed_self, placed_in, without_in, others_in, in_others}

-- what an old line says under its new name
abbrev pub as_new : Bytes → Author → Bytes → Slot
as_new log author slot = carry (rename author (names_of log)) (slot_of slot)

-- a slot of the edited page is a surviving line
pub data Line (log : Bytes) (author : Author) (old added : List Bytes) (x : Slot) : Type 0 where
  was_old : (slot : Bytes) → In slot old → x ≡ as_new log author slot → Line log author old added x
  was_added : (slot : Bytes) → In slot added → x ≡ slot_of slot → Line log author old added x

pub record Along (page log : Bytes) (author : Author) (edited : Bytes) (old added : List Bytes) : Type 0 where
  pub octets : Octets edited
  pub layout : keeps_layout edited ≡ true
  pub rising : rises edited ≡ true
  -- of the rename
  pub asked : Asked page log author
  pub fresh : are_fresh author page log ≡ true
  -- the lines
  pub old_part : (slot : Bytes) → In slot old → In slot (parts_of page)
  pub old_in : (slot : Bytes) → In slot old → In (as_new log author slot) (slots_of edited)
  pub added_bytes : (slot : Bytes) → In slot added → slot_bytes (slot_of slot) ≡ slot
  pub added_in : (slot : Bytes) → In slot added → In (slot_of slot) (slots_of edited)
  pub line : (x : Slot) → In x (slots_of edited) → Line log author old added x

-- ── an old line ──

module _ {page log : Bytes} {author : Author} {edited : Bytes} {old added : List Bytes} (w : Along page log author edited old added) where
  pub old_name : (slot : Bytes) → In slot old → In (name_of slot) (names_of page)
  old_name slot m = Memᴰ.map name_in (Memᴰ.map slot_of (w.old_part slot m))

  -- its new name, taken back, is its old name
  pub name_again : (slot : Bytes) → In slot old → take_back author (names_of log) (renamed_as log author slot) ≡ name_of slot
  name_again slot m = back_rename author (names_of log) (name_of slot) (in_all (page_fresh page log author w.fresh) (old_name slot m))

-- ── along the edits ──

module _ (page log : Bytes) (author : Author) (po : Octets page) (nm : author.node ≤ 65535) (sm : author.sequence ≤ 4294967295) where
  start : (room n : ℕ) → (rename_outcome page log author room).answer ≡ Ok n → Along page log author (rename_outcome page log author room).bytes (parts_of page) []
  start room n e =
      let i = renames page log author room n e in
      let p = rename_page page log author nm sm po room n e in
      let s = renamed_slots page log author nm sm po room n e ∙ map-map (carry (rename author (names_of log))) slot_of (parts_of page) in
      record {
        octets = rename_octets page log author nm sm po room n e;
        layout = p.0;
        rising = p.1;
        asked = i.asked;
        fresh = i.are_fresh_lem;
        old_part = λ slot m. m;
        old_in = λ slot m. rw s (Memᴰ.map (as_new log author) m);
        added_bytes = λ slot m. absurd (Memᴰ.not-nil m);
        added_in = λ slot m. absurd (Memᴰ.not-nil m);
        line = λ x m. let t = Memᴰ.of_map (as_new log author) (parts_of page) (rw s at m) in was_old t.0 t.1 (sym t.2);
      }

  module _ (edited : Bytes) (old added : List Bytes) (b : Along page log author edited old added) (slot : Bytes) (room n : ℕ) (so : Octets slot) where
    more : (insert_outcome edited slot room).answer ≡ Ok n → Along page log author (insert_outcome edited slot room).bytes old (slot ∷ added)
    more e =
        let x = slot_of slot in
        let l = slots_of edited in
        let i = inserts edited slot room n e in
        let p = insert_page edited slot b.octets so room n e in
        let s = inserted_slots edited slot b.octets so room n e in
        let own = bytes_back slot so (kept slot i.slot_layout) in
        record {
          octets = rw i.outcome (written_octets (placed x l) (insert_good edited slot b.octets so room n e));
          layout = p.0;
          rising = p.1;
          asked = b.asked;
          fresh = b.fresh;
          old_part = b.old_part;
          old_in = λ z m. rw s (in_placed x l (b.old_in z m));
          added_bytes = λ z m. elim (Memᴰ.cases_cons m) [ inl q ↦ rw q own | inr k ↦ b.added_bytes z k ];
          added_in = λ z m. elim (Memᴰ.cases_cons m) [ inl q ↦ rw (q, s) (in_placed_self x l) | inr k ↦ rw s (in_placed x l (b.added_in z k)) ];
          line = λ z m. elim (placed_in x l (rw s at m)) [ inl q ↦ was_added slot (In.head refl) q | inr k ↦ further (b.line z k) ];
        }
      where
        further : {z : Slot} → Line log author old added z → Line log author old (slot ∷ added) z
        further (was_old o m q) = was_old o m q
        further (was_added o m q) = was_added o (In.tail m) q

    less :
        (remove_outcome edited slot room).answer ≡ Ok n →
        Along page log author (remove_outcome edited slot room).bytes (others (renamed_as log author) (name_of slot) old) (others name_of (name_of slot) added)
    less e =
        let a = name_of slot in
        let l = slots_of edited in
        let f = renamed_as log author in
        let p = remove_page edited slot b.octets so room n e in
        let s = removed_slots edited slot b.octets so room n e in
        record {
          octets = rw (removes edited slot room n e).outcome (written_octets (without a l) (remove_good edited slot b.octets so room n e));
          layout = p.0;
          rising = p.1;
          asked = b.asked;
          fresh = b.fresh;
          old_part = λ z m. b.old_part z (others_in f a old m).0;
          old_in = λ z m. let t = others_in f a old m in rw s (in_without a l t.1 (b.old_in z t.0));
          added_bytes = λ z m. b.added_bytes z (others_in name_of a added m).0;
          added_in = λ z m. let t = others_in name_of a added m in rw s (in_without a l t.1 (b.added_in z t.0));
          line = λ z m. let t = without_in a l (rw s at m) in left t.1 (b.line z t.0);
        }
      where
        left :
            {z : Slot} → ¬ (z.name ≡ name_of slot) → Line log author old added z →
            Line log author (others (renamed_as log author) (name_of slot) old) (others name_of (name_of slot) added) z
        left h (was_old o m q) = was_old o (in_others (renamed_as log author) (name_of slot) old (λ c. h (ap name_in q ∙ c)) m) q
        left h (was_added o m q) = was_added o (in_others name_of (name_of slot) added (λ c. h (ap name_in q ∙ c)) m) q

  pub along : {edited : Bytes} {old added : List Bytes} → Edited page log author edited old added → Along page log author edited old added
  along (renamed room n e) = start room n e
  along (inserted {edited} {old} {added} d slot room n so e) = more edited old added (along d) slot room n so e
  along (removed {edited} {old} {added} d slot room n so e) = less edited old added (along d) slot room n so e
