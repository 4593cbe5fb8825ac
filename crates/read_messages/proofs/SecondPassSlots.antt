-- The second pass: names written as slots one after the other (`Placing`, a loop's invariant, with its start, a turn and its end).
-- Assumes nothing.
use mathlib.Core.Path.{◌≡◌, refl, sym, ap, ◌∙◌}
use mathlib.Core.List.{List, ◌∷◌, map, flatten}
use mathlib.Core.Bool.{true}
use Prim.Native.Nat.{ℕ, ◌+◌, ◌*◌, ◌-◌, ◌<◌, ◌≤◌}
use native.Mathlib.Omega.{arith}
use borrow.Author.Tests.{leb-true}
use lib.ListN.{length, drop}
use Rattle.names.specs.Ordering.{Row}
use Rattle.names.specs.Names.{limit, is_name, fits}
use Rattle.numbers.proofs.Bools.{and_0, and_1}
use Rattle.numbers.specs.Bytes.{Bytes, put}
use Rattle.std.specs.List.{list_all}
use Rattle.slots.specs.Slots.{slot_size, slot_bytes}
use Rattle.numbers.proofs.Put.{put_put, put_length, put_none}
use Rattle.slots.proofs.RoundTrip.{slot_length}
use Rattle.pages.specs.Pages.{pieces}
use Rattle.numbers.proofs.Lists.{flat, flat_none}
use Rattle.fields.specs.Fields.{field_head, size_in}
use Rattle.name_fields.specs.NameFields.{name_fits, tuples_in}
use Rattle.messages.specs.Messages.{name_stands, names_within}
use Rattle.messages.specs.Calls.{bare}
use Rattle.messages.proofs.NameFields.{name_first}
use Rattle.read_messages.proofs.AtCursor.{names_next}

-- the names' slots, one after the other
abbrev pub slots_with : List Row → Bytes
slots_with l = flatten (pieces (map bare l))

-- i of the n names from c on were written to o, which was o₀; the cursor is at p, and the rest is to be written
pub record Placing (s : Bytes) (c n : ℕ) (o₀ o : Bytes) (p i : ℕ) : Type 0 where
  pub few : i ≤ n
  pub count : i + length (names_within (n - i) (drop p s)) ≡ n
  pub fit : list_all name_fits (names_within (n - i) (drop p s)) ≡ true
  pub room : length o ≡ length o₀
  pub stand : put o (slot_size * i) (slots_with (names_within (n - i) (drop p s))) ≡ put o₀ 0 (slots_with (names_within n (drop c s)))

pub placing_first : (s : Bytes) (c n : ℕ) (o : Bytes) → length (names_within n (drop c s)) ≡ n
    → list_all name_fits (names_within n (drop c s)) ≡ true → Placing s c n o o c 0
placing_first s c n o h f =
    let e : n - 0 ≡ n = omega arith in
    let l = ap (λ (m : ℕ). names_within m (drop c s)) e in
    record {
      few = omega arith;
      count = let z = ap length l in omega arith;
      fit = ap (list_all name_fits) l ∙ f;
      room = refl;
      stand = ap (λ (r : List Row). put o 0 (slots_with r)) l;
    }

module _ {s : Bytes} {c n : ℕ} {o₀ o : Bytes} {p i : ℕ} (v : Placing s c n o₀ o p i) where
  pub placing_end : n ≤ i → o ≡ put o₀ 0 (slots_with (names_within n (drop c s)))
  placing_end h =
      let e : n - i ≡ 0 = omega arith in
      put_none o (slot_size * i)
      ∙ ap (put o (slot_size * i)) (sym flat_none)
      ∙ sym (ap (λ (m : ℕ). put o (slot_size * i) (slots_with (names_within m (drop p s)))) e)
      ∙ v.stand

  module _ (h : i < n) where
    pub placing_stands : name_stands (drop p s) ≡ true
    placing_stands = name_first (n - i) (drop p s) (let z = v.count in omega arith)

    abbrev here : Row
    here = tuples_in (drop p s)

    abbrev after : List Row
    after = names_within (n - (i + 1)) (drop (p + (field_head + size_in (drop p s))) s)

    next : names_within (n - i) (drop p s) ≡ here ∷ after
    next = names_next s p n i h placing_stands

    all_fit_lem : list_all name_fits (here ∷ after) ≡ true
    all_fit_lem = sym (ap (list_all name_fits) next) ∙ v.fit

    pub placing_few : length (tuples_in (drop p s)) ≤ limit
    placing_few = leb-true (length here) limit (and_1 (is_name here) (fits here) (and_0 (name_fits here) (list_all name_fits after) all_fit_lem))

    long : length (slot_bytes (bare here)) ≡ slot_size
    long = slot_length (bare here) placing_few

    pub placing_on : (o' : Bytes) → slot_size * n ≤ length o₀ → o' ≡ put o (slot_size * i) (slot_bytes (bare (tuples_in (drop p s))))
        → Placing s c n o₀ o' (p + (field_head + size_in (drop p s))) (i + 1)
    placing_on o' r e =
        let w = slot_bytes (bare here) in
        let m = v.room in
        let k : slot_size * i + slot_size ≤ length o = omega arith in
        let q : slot_size * (i + 1) ≡ slot_size * i + length w = omega (arith, long) in
        record {
          few = omega arith;
          count = let z = v.count in let y = ap length next in omega arith;
          fit = and_1 (name_fits here) (list_all name_fits after) all_fit_lem;
          room = ap length e ∙ put_length o (slot_size * i) (omega arith) w (omega (arith, long)) ∙ v.room;
          stand =
              (λ j. put (e j) (q j) (slots_with after))
              ∙ put_put o (slot_size * i) (omega arith) w (slots_with after)
              ∙ ap (put o (slot_size * i)) (sym (ap slots_with next ∙ flat w (pieces (map bare after))))
              ∙ v.stand;
        }
