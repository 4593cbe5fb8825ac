-- What taking back writes of the edited page (`is_restored`): each surviving line at its place, between the same neighbours. Assumes
-- nothing.
use mathlib.Core.Path.{◌≡◌, ◌∙◌, sym, ap}
use mathlib.Core.List.{List, [], map, map-map, Memᴰ as In}
use Prim.Native.Nat.{ℕ, zero, suc, ◌<◌, ◌≤◌}
use native.Mathlib.Decide.{dec_lt}
use native.Mathlib.Omega.{arith}
use lib.ListN.{length, get_or, length-map}
use Rattle.names.specs.declared.Author.{Author}
use Rattle.names.specs.Ordering.{Row}
use Rattle.name_renames.specs.Renaming.{take_back}
use Rattle.numbers.specs.Bytes.{Bytes, Octets}
use Rattle.slots.specs.Slots.{Slot, line_of, slot_of, slot_bytes}
use Rattle.pages.specs.Pages.{parts_of, slots_of, name_in, names_of, pieces}
use Rattle.std.specs.declared.result.Result.TheVariants.{Ok}
use Rattle.pages.proofs.RoundTrip.{pieces_are}
use Rattle.page_renames.specs.Renames.{carry, carried, take_back_outcome}
use Rattle.page_renames.proofs.Carried.{carried_names}
use Rattle.page_renames.proofs.Books.{back_slots, back_parts, back_page}
use Rattle.histories.specs.Demand.{Stands, OldAt, AddedAt, SameAt, old_line, added_line, SameBefore, before, none_before, SameAfter, after, none_after, line_in, Restored}
use Rattle.histories.proofs.Members.{place, at_in, map_at, fixed}
use Rattle.histories.proofs.Along.{as_new, Line, was_old, was_added, Along, name_again}

module _
    {page log : Bytes} {author : Author} {edited : Bytes} {old added : List Bytes} (w : Along page log author edited old added)
    (po : Octets page) (nm : author.node ≤ 65535) (sm : author.sequence ≤ 4294967295) where
  abbrev g : Row → Row
  g = take_back author (names_of log)

  -- an old line is what it was, every byte of it
  bytes_again : (slot : Bytes) → In slot old → slot_bytes (carry g (as_new log author slot)) ≡ slot
  bytes_again slot m =
      let all = sym (map-map slot_bytes slot_of (parts_of page)) ∙ pieces_are page po w.asked.layout in
      let one = fixed (λ (b : Bytes). slot_bytes (slot_of b)) (parts_of page) all (w.old_part slot m) in
      (λ i. slot_bytes (record { line = line_of slot; name = name_again w slot m i })) ∙ one

  -- ── what is written ──

  module _ (room : ℕ) (a : (take_back_outcome edited log author room).answer ≡ Ok (length (slots_of edited))) where
    abbrev back : Bytes
    back = (take_back_outcome edited log author room).bytes

    -- past the end of a page
    none : Slot
    none = record { line = 0; name = [] }

    -- at place k of the edited page is this slot
    abbrev At : ℕ → Slot → Type 0
    At k x = (k < length (slots_of edited)) × (get_or (slots_of edited) k none ≡ x)

    edited_parts : parts_of edited ≡ pieces (slots_of edited)
    edited_parts = sym (pieces_are edited w.octets w.layout)

    parts_back : parts_of back ≡ pieces (carried g (slots_of edited))
    parts_back = back_parts edited log author nm sm w.octets room (length (slots_of edited)) a

    count_edited : length (parts_of edited) ≡ length (slots_of edited)
    count_edited = sym (length-map (parts_of edited) slot_of)

    count_back : length (parts_of back) ≡ length (slots_of edited)
    count_back = ap length parts_back ∙ length-map (carried g (slots_of edited)) slot_bytes ∙ length-map (slots_of edited) (carry g)

    -- there it stands, and in `back` what is made of it
    both : (k : ℕ) (x : Slot) → At k x → Stands edited k (slot_bytes x) × Stands back k (slot_bytes (carry g x))
    both k x t =
        let l = slots_of edited in
        let h : k < length (carried g l) = omega (arith, t.0, length-map l (carry g)) in
        let e = map_at (carry g) l k none none t.0 t.1 in
        let p = ap (λ (q : List Bytes). get_or q k []) edited_parts ∙ map_at slot_bytes l k none [] t.0 t.1 in
        let q = ap (λ (q : List Bytes). get_or q k []) parts_back ∙ map_at slot_bytes (carried g l) k none [] h e in
        ((omega (arith, t.0, count_edited), p), (omega (arith, t.0, count_back), q))

    old_at : (k : ℕ) (slot : Bytes) → In slot old → At k (as_new log author slot) → OldAt log author edited old added back k slot
    old_at k slot m t = let p = both k (as_new log author slot) t in (p.0, (p.1.0, p.1.1 ∙ bytes_again slot m))

    added_at : (k : ℕ) (slot : Bytes) → In slot added → At k (slot_of slot) → AddedAt log author edited old added back k slot
    added_at k slot m t = let p = both k (slot_of slot) t in ((p.0.0, p.0.1 ∙ w.added_bytes slot m), p.1)

    -- ── the neighbours ──

    same_at : (k : ℕ) → k < length (slots_of edited) → SameAt log author edited old added back k
    same_at k h = of (w.line (get_or (slots_of edited) k none) (at_in (slots_of edited) k none h))
      where
        of : Line log author old added (get_or (slots_of edited) k none) → SameAt log author edited old added back k
        of (was_old slot m e) = old_line slot m (old_at k slot m (h, e))
        of (was_added slot m e) = added_line slot m (added_at k slot m (h, e))

    same_before : (k : ℕ) → k < length (slots_of edited) → SameBefore log author edited old added back k
    same_before zero h = none_before
    same_before (suc k) h = before (same_at k (omega arith))

    same_after : (k : ℕ) → k < length (slots_of edited) → SameAfter log author edited old added back k
    same_after k h = elim (dec_lt (suc k) (length (slots_of edited))) [
      | yes i ↦ after (same_at (suc k) i)
      | no i ↦ let e : suc k ≡ length (slots_of edited) = omega arith in none_after (e ∙ sym count_edited) (e ∙ sym count_back)
    ]

    pub is_restored : Restored log author edited old added back
    is_restored =
        let c = length (slots_of edited) in
        let p = back_page edited log author nm sm w.octets room c a in
        let s = back_slots edited log author nm sm w.octets room c a in
        record {
          old_lines = λ slot m. let t = place none (w.old_in slot m) in (t.0, old_at t.0 slot m (t.1, t.2));
          added_lines = λ slot m.
              let t = place none (w.added_in slot m) in
              let k = t.0 in
              (k, added_at k slot m (t.1, t.2), same_before k t.1, same_after k t.1);
          rising = p.1;
          layout = p.0;
          all_lines = λ k h. same_at k (omega (arith, count_edited));
          count = ap length s ∙ length-map (slots_of edited) (carry g);
          lines = ap (map line_in) s ∙ map-map line_in (carry g) (slots_of edited);
          names = ap (map name_in) s ∙ carried_names g (slots_of edited);
        }
