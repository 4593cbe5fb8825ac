-- Demand 3, as specs/Demand.antt states it: `demand3`. Assumes nothing.
use mathlib.Core.Path.{◌≡◌, refl, ◌∙◌, sym, ap}
use mathlib.Core.List.Memᴰ
use mathlib.Core.List.{List, [], ◌∷◌, ◌++◌, map, flatten, Memᴰ as In}
use mathlib.Core.Bool.{Bool, true, false}
use Prim.Native.Nat.{ℕ, ◌≤◌}
use native.Mathlib.Omega.{arith}
use borrow.Author.Tests.{leb-false}
use lib.Dec.{leb}
use lib.ListN.{length, length-map}
use Rattle.names.specs.declared.Author.{Author}
use Rattle.names.specs.Ordering.{Row, rising, Rising}
use Rattle.names.specs.Names.{limit, fits}
use Rattle.numbers.proofs.Bools.{yes_no}
use Rattle.names.proofs.Laws.{rising_Rising, Rising_rising}
use Rattle.names.proofs.Validity.{Valid}
use Rattle.name_renames.specs.Renaming.{take_back}
use Rattle.name_renames.proofs.Lists.{All, cons, all_map}
use Rattle.name_renames.proofs.Gaps.{MarkerFree}
use Rattle.name_renames.proofs.Backward.{take_back_rising}
use Rattle.name_renames.proofs.Validity.{valid_nonempty}
use Rattle.numbers.specs.Bytes.{Bytes, Octets}
use Rattle.std.specs.List.{list_all}
use Rattle.slots.specs.Slots.{Slot, name_of, slot_of, slot_bytes}
use Rattle.answers.specs.Answers.{Outcome, accept}
use Rattle.pages.specs.Pages.{parts_of, slots_of, name_in, names_of, pieces, keeps_layout}
use Rattle.std.specs.declared.result.Result.TheVariants.{Ok}
use Rattle.pages.proofs.RoundTrip.{page_slots, written_length}
use Rattle.page_renames.specs.Renames.{carry, carried, all_fit, take_back_outcome}
use Rattle.one_name.proofs.CheckedLog.{logged}
use Rattle.page_renames.proofs.Carried.{all_every, page_valid, names_fit, carried_good}
use Rattle.page_renames.proofs.Books.{take_back_by, Asked, back_valid}
use Rattle.histories.specs.Demand.{taken_back_as, Marked, names_back, TakenBack, restored, too_deep, short, meeting, Demand3}
use Rattle.histories.proofs.Members.{in_all, all_in, some_not}
use Rattle.one_name.proofs.Unmarked.{unmarked_free}
use Rattle.histories.proofs.Unmarked.{unmarked_slot, some_marked, renamed_free}
use Rattle.histories.proofs.Along.{Line, was_old, was_added, Along, old_name, name_again, along}
use Rattle.histories.proofs.Seven.{not_rising, asked_last}
use Rattle.histories.proofs.Restored.{is_restored}

-- names without markers rise when they are taken back, over a log that has been checked
back_rising :
    (author : Author) (log : List Row) {names : List Row} → 1 ≤ length log → Rising log → All Valid log →
    All MarkerFree log → All MarkerFree names → Rising names → Rising (map (take_back author log) names)
back_rising author [] h r vs ls ns o = absurd (omega arith)
back_rising author (a ∷ log) h r (cons v vs) ls ns o = take_back_rising author a log (valid_nonempty v) r ls ns o

names_free : {l : List Slot} → All (λ (x : Slot). MarkerFree x.name) l → All MarkerFree (map name_in l)
names_free h = all_map name_in (λ x v. v) h

module _
    {page log : Bytes} {author : Author} {edited : Bytes} {old added : List Bytes} (w : Along page log author edited old added)
    (po : Octets page) (nm : author.node ≤ 65535) (sm : author.sequence ≤ 4294967295) where
  abbrev g : Row → Row
  g = take_back author (names_of log)

  -- ── 6 ──

  -- an old line's name fits as it did before the rename ..
  old_fits : (slot : Bytes) → In slot old → fits (name_of slot) ≡ true
  old_fits slot m =
      let fit = names_fit (slots_of page) (page_slots page po w.asked.layout) in
      in_all (all_every fits (λ a e. e) (names_of page) fit) (old_name w slot m)

  -- .. and so a name that does not is that of an added line
  too_deep_lem :
      {x : Slot} → Line log author old added x → fits (g x.name) ≡ false →
      (slot : Bytes) × In slot added × (fits (taken_back_as log author slot) ≡ false)
  too_deep_lem (was_old slot m q) e = yes_no (old_fits slot m) (sym (ap fits (ap (λ (z : Slot). g z.name) q ∙ name_again w slot m)) ∙ e)
  too_deep_lem (was_added slot m q) e = (slot, m, sym (ap (λ (z : Slot). fits (g z.name)) q) ∙ e)

  -- ── 7 ──

  -- where 7 is asked for markers
  abbrev marks : List Bytes
  marks = parts_of log ++ old ++ added

  module _ (u : list_all unmarked_slot marks ≡ true) where
    each : (slot : Bytes) → In slot marks → Valid (name_of slot) → MarkerFree (name_of slot)
    each slot m v = unmarked_free v (in_all (all_every unmarked_slot (λ b e. e) marks u) m)

    log_free : keeps_layout log ≡ true → All MarkerFree (names_of log)
    log_free k = names_free (all_map {P = λ (slot : Bytes). MarkerFree (name_of slot)} slot_of (λ slot v. v) (all_in (parts_of log) one))
      where
        one : (slot : Bytes) → In slot (parts_of log) → MarkerFree (name_of slot)
        one slot m = each slot (Memᴰ.append_left added (Memᴰ.append_left old m)) (in_all (page_valid log k) (Memᴰ.map name_in (Memᴰ.map slot_of m)))

    line_free : {x : Slot} → Valid x.name → Line log author old added x → MarkerFree x.name
    line_free v (was_old slot m q) =
        let e = ap name_in q in
        let was = each slot (Memᴰ.append_left added (Memᴰ.append_right (parts_of log) m)) (in_all (page_valid page w.asked.layout) (old_name w slot m)) in
        rw e (renamed_free author (names_of log) (rw e at v) was)
    line_free v (was_added slot m q) = let e = ap name_in q in rw e (each slot (Memᴰ.append_right (parts_of log ++ old) m) (rw e at v))

    edited_free : All MarkerFree (names_of edited)
    edited_free =
        let vs = page_valid edited w.layout in
        names_free (all_in (slots_of edited) (λ x m. line_free (in_all vs (Memᴰ.map name_in m)) (w.line x m)))

    -- without a marker no names meet
    no_meeting : rising (names_back log author edited) ≡ true
    no_meeting =
        let l = logged log w.asked.logged in
        let r = rising_Rising (names_of edited) w.rising in
        Rising_rising (back_rising author (names_of log) l.some l.rising (page_valid log l.layout) (log_free l.layout) edited_free r)

  marked : (b : Bool) → list_all unmarked_slot marks ≡ b → rising (names_back log author edited) ≡ false → Marked marks
  marked true u e = yes_no (no_meeting u) e
  marked false u e = some_marked marks u

  -- ── the answer ──

  module _ (room : ℕ) where
    abbrev written : List Bytes
    written = pieces (carried g (slots_of edited))

    edited_asked : Asked edited log author
    edited_asked = record { layout = w.layout; rising = w.rising; logged = w.asked.logged; node = w.asked.node }

    is : take_back_outcome edited log author room ≡ asked_last edited log author room
    is = take_back_by edited log author edited_asked room

    taken : TakenBack log author edited old added room (take_back_outcome edited log author room)
    taken = go (all_fit g edited) (rising (names_back log author edited)) (leb (length (flatten written)) room) refl refl refl
      where
        go :
            (a b c : Bool) → all_fit g edited ≡ a → rising (names_back log author edited) ≡ b → leb (length (flatten written)) room ≡ c →
            TakenBack log author edited old added room (take_back_outcome edited log author room)
        go false b c x y z =
            let t = some_not fits (names_back log author edited) x in
            let n = Memᴰ.of_map g (names_of edited) t.1 in
            let s = Memᴰ.of_map name_in (slots_of edited) n.1 in
            let d = too_deep_lem (w.line s.0 s.1) (ap (λ (a : Row). fits (g a)) s.2 ∙ ap fits n.2 ∙ t.2) in
            too_deep (is ∙ rw x) d.0 d.1 (leb-false (length (taken_back_as log author d.0)) limit d.2)
        go true false c x y z = meeting (is ∙ rw (x, y)) (marked (list_all unmarked_slot marks) refl y) (not_rising (names_back log author edited) y)
        go true true false x y z =
            let good = carried_good g edited w.octets w.layout (back_valid edited log author nm sm edited_asked) x in
            let n = written_length (carried g (slots_of edited)) good in
            short (is ∙ rw (x, y, z)) (omega (arith, leb-false (length (flatten written)) room z, n, length-map (slots_of edited) (carry g)))
        go true true true x y z =
            let n = length-map (carried g (slots_of edited)) slot_bytes ∙ length-map (slots_of edited) (carry g) in
            let o : take_back_outcome edited log author room ≡ accept written = is ∙ rw (x, y, z) in
            let a : (take_back_outcome edited log author room).answer ≡ Ok (length (slots_of edited)) = ap (λ (r : Outcome). r.answer) o ∙ ap Ok n in
            restored a (is_restored w po nm sm room a)

pub demand3 : Demand3
demand3 page log author edited old added room po nm sm d = taken (along page log author po nm sm d) po nm sm room
