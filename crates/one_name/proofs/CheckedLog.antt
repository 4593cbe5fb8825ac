-- What the check of a log has found (`logged`), that its names are names (`log_named`), where its first position stands (`first_at`), and that the
-- k of a case is an index of the log (`case_index`). Assumes nothing.
use mathlib.Core.Path.{◌≡◌, refl, ◌∙◌, sym}
use mathlib.Core.List.{List, [], ◌∷◌, map}
use mathlib.Core.Bool.{true, ◌&&◌}
use Prim.Native.Nat.{ℕ, zero, suc, ◌-◌, ◌/◌, ◌<◌, ◌≤◌}
use native.Mathlib.Omega.{arith}
use borrow.Author.Tests.{leb-true}
use lib.Dec.{leb}
use lib.ListN.{length, take, drop, get_or}
use Rattle.names.specs.declared.Author.{Author}
use Rattle.names.specs.Ordering.{Row, Rising}
use Rattle.names.specs.Names.{is_name}
use Rattle.names.proofs.Validity.{valid_name}
use Rattle.numbers.proofs.Bools.{and_0, and_1}
use Rattle.names.proofs.Laws.{rising_Rising}
use Rattle.numbers.specs.Bytes.{Bytes, at16}
use Rattle.numbers.proofs.ReadNumbers.{two_within}
use Rattle.slots.specs.Tuples.{tuple_at}
use Rattle.std.specs.List.{list_all}
use Rattle.slots.specs.Slots.{head_size, slot_size, depth_of, name_of, slot_of, keeps_slot}
use Rattle.slots.proofs.RoundTrip.{kept}
use Rattle.pages.specs.Pages.{max_slots, parts, slots_of, name_in, names_of, keeps_layout, rises, line_is_zero, is_log}
use Rattle.pages.proofs.SlotBySlot.{length_slots, length_names}
use Rattle.pages.proofs.RoundTrip.{laid, page_names}
use Rattle.name_renames.specs.declared.Case.{Case}
use Rattle.name_renames.specs.declared.Case.TheVariants.{KeepBelow, PutBelow, Logged, Between, PutAbove, KeepAbove}
use Rattle.name_renames.specs.Renaming.{first_position, case_of}
use Rattle.name_renames.proofs.CaseByIndex.{logged_within, between_within, above_within}
use Rattle.one_name.specs.Changes.{index_of}

pub record CheckedLog (log : Bytes) : Type 0 where
  pub layout : keeps_layout log ≡ true
  pub risen : rises log ≡ true
  pub rising : Rising (names_of log)
  pub some : 1 ≤ length (names_of log)
  pub few : length (names_of log) ≤ max_slots
  pub count : length (names_of log) ≡ length log / slot_size

pub logged : (log : Bytes) → is_log log ≡ true → CheckedLog log
unfolding is_log
logged log e =
    let a = keeps_layout log in
    let b = rises log in
    let d = leb 1 (length (slots_of log)) in
    let e₁ = and_0 (a && b && d) (list_all line_is_zero (slots_of log)) e in
    let e₂ = and_0 (a && b) d e₁ in
    let n = length_names log (length log / slot_size) in
    record {
      layout = and_0 a b e₂;
      risen = and_1 a b e₂;
      rising = rising_Rising (names_of log) (and_1 a b e₂);
      some = omega (arith, leb-true 1 (length (slots_of log)) (and_1 (a && b) d e₁), length_slots log);
      few = omega (arith, (laid log (and_0 a b e₂)).few);
      count = n;
    }

-- ── "p = position of r0's first tuple" ──

-- of a slot with a name
slot_position : (s : Bytes) (l : List Row) (n : ℕ) → depth_of s ≡ suc n → first_position (name_of s ∷ l) ≡ at16 s head_size
unfolding tuple_at
slot_position s l n e = rw e

pub first_at : (log : Bytes) → is_log log ≡ true → at16 log head_size ≡ first_position (names_of log)
first_at log e =
    let n = length log / slot_size in
    go n (logged log e).some (laid log (logged log e).layout).good (length_names log n)
  where
    go : (n : ℕ) → 1 ≤ length (names_of log) → list_all keeps_slot (parts n log) ≡ true → length (names_of log) ≡ n →
        at16 log head_size ≡ first_position (map name_in (map slot_of (parts n log)))
    go zero h g q = absurd (omega arith)
    go (suc n) h g q =
        let first = take slot_size log in
        let rest = parts n (drop slot_size log) in
        let k = kept first (and_0 (keeps_slot first) (list_all keeps_slot rest) g) in
        sym (slot_position first (map name_in (map slot_of rest)) (depth_of first - 1) (omega (arith, k.deep)) ∙ two_within slot_size log head_size (omega arith))

-- ── its names ──

pub log_named : (log : Bytes) (k : ℕ) → is_log log ≡ true → k < length (names_of log) → is_name (get_or (names_of log) k []) ≡ true
log_named log k e h = valid_name (page_names log (logged log e).layout k h)

-- ── the case of a name ──

pub case_index : (log : Bytes) (author : Author) (x : Row) → is_log log ≡ true → (c : Case) → c ≡ case_of (first_position (names_of log)) author (names_of log) x → index_of c < max_slots
case_index log author x e c is = go c is refl
  where
    within : {k : ℕ} → k < length (names_of log) → k < max_slots
    within h = omega (arith, h, (logged log e).few)

    go : {c : Case} (q : Case) → c ≡ case_of (first_position (names_of log)) author (names_of log) x → c ≡ q → index_of q < max_slots
    go KeepBelow is f = omega arith
    go PutBelow is f = omega arith
    go (Logged k) is f = within (logged_within (first_position (names_of log)) author (names_of log) x (logged log e).some is k f)
    go (Between k) is f = within (between_within (first_position (names_of log)) author (names_of log) x (logged log e).some is k f)
    go (PutAbove k) is f = within (above_within (first_position (names_of log)) author (names_of log) x (logged log e).some is k f)
    go KeepAbove is f = omega arith
