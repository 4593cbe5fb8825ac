-- The first pass along the names: whether those passed are names and rise, where the last of them stands, how many they are and what
-- follows them (`Passing`, a loop's invariant, with its start, its turns and its ends). Assumes nothing.
use mathlib.Core.Path.{◌≡◌, refl, sym, ap, ◌∙◌}
use mathlib.Core.List.{List, [], ◌∷◌}
use mathlib.Core.Bool.{Bool, true, false, ◌&&◌, and-false}
use Prim.Native.Nat.{ℕ, ◌+◌, ◌-◌, ◌<◌, ◌≤◌}
use native.Mathlib.Omega.{arith}
use lib.ListN.{length, drop}
use Rattle.names.specs.Ordering.{Row, compare_rows, rising}
use Rattle.std.specs.Ordering.{is_lt}
use Rattle.names.specs.Names.{is_name, fits}
use Rattle.numbers.specs.Bytes.{Bytes}
use Rattle.std.specs.List.{list_all}
use Rattle.numbers.proofs.Bools.{and_0}
use Rattle.slots.specs.declared.Span.{Span}
use Rattle.slots.specs.Tuples.{row_at, Within}
use Rattle.slots.specs.Looks.{leads}
use Rattle.slots.proofs.NameTests.{leads_name}
use Rattle.pages.proofs.SlotBySlot.{rising_cons}
use Rattle.fields.specs.Fields.{field_head, size_in}
use Rattle.name_fields.specs.NameFields.{name_fits, tuples_in}
use Rattle.name_fields.proofs.NameAt.{name_long}
use Rattle.messages.specs.Messages.{name_tag, name_stands, names_within, after_names}
use Rattle.read_messages.specs.FirstPass.{good_names}
use Rattle.read_messages.proofs.AtCursor.{names_next, after_next}

-- names that come after the row b
abbrev good_after : Row → List Row → Bool
good_after b l = list_all name_fits l && rising (b ∷ l)

-- the row of no tuples is below every name
good_first : (l : List Row) → good_after [] l ≡ good_names l
unfolding rising compare_rows is_name
good_first [] = refl
good_first ([] ∷ l) = refl
good_first ((t ∷ a) ∷ l) = refl

good_last : (b : Row) → true ≡ good_after b []
unfolding rising
good_last b = refl

-- two tests of one and two of the rest, one by one
crossed : (f g h k : Bool) → (f && g) && (h && k) ≡ (f && h) && (g && k)
crossed false g h k = refl
crossed true g true k = refl
crossed true g false k = and-false g

module _ (b a : Row) (l : List Row) where
  -- a is a name and above b, and they go on after a
  good_next : good_after b (a ∷ l) ≡ (name_fits a && is_lt (compare_rows b a)) && good_after a l
  good_next =
      ap (λ (x : Bool). list_all name_fits (a ∷ l) && x) (rising_cons b a l)
      ∙ crossed (name_fits a) (list_all name_fits l) (is_lt (compare_rows b a)) (rising (a ∷ l))

  good_on : name_fits a && is_lt (compare_rows b a) ≡ true → good_after b (a ∷ l) ≡ good_after a l
  good_on f = good_next ∙ ap (λ (x : Bool). x && good_after a l) f

  good_stops : name_fits a && is_lt (compare_rows b a) ≡ false → good_after b (a ∷ l) ≡ false
  good_stops f = good_next ∙ ap (λ (x : Bool). x && good_after a l) f

-- k names were passed from c on, the last of them stands at b; the cursor is at p
pub record Passing (s : Bytes) (c most : ℕ) (b : Span) (p k : ℕ) : Type 0 where
  pub few : k ≤ most
  pub within : p ≤ length s
  pub room : Within s b
  pub begins : leads (row_at s b) ≡ true
  pub good : good_after (row_at s b) (names_within (most - k) (drop p s)) ≡ good_names (names_within most (drop c s))
  pub count : k + length (names_within (most - k) (drop p s)) ≡ length (names_within most (drop c s))
  pub rest : after_names (most - k) (drop p s) ≡ after_names most (drop c s)

pub passing_first : (s : Bytes) (c most : ℕ) → c ≤ length s → Passing s c most (record { at = c; count = 0 }) c 0
passing_first s c most h =
    let e : most - 0 ≡ most = omega arith in
    let n = ap (λ (n : ℕ). names_within n (drop c s)) e in
    record {
      few = omega arith;
      within = h;
      room = omega arith;
      begins = refl;
      good = ap (good_after []) n ∙ good_first (names_within most (drop c s));
      count = let z = ap length n in omega arith;
      rest = ap (λ (n : ℕ). after_names n (drop c s)) e;
    }

module _ {s : Bytes} {c most : ℕ} {b : Span} {p k : ℕ} (v : Passing s c most b p k) where
  abbrev last : Row
  last = row_at s b

  -- no name stands there, or there were enough
  pub passing_end : names_within (most - k) (drop p s) ≡ [] → after_names (most - k) (drop p s) ≡ drop p s
      → (true ≡ good_names (names_within most (drop c s))) × (k ≡ length (names_within most (drop c s)))
      × (drop p s ≡ after_names most (drop c s)) × (p ≤ length s)
  passing_end e f = (
    good_last last ∙ sym (ap (good_after last) e) ∙ v.good,
    let n = v.count in let z = ap length e in omega arith,
    sym f ∙ v.rest,
    v.within,
  )

  -- the name whose field stands there stands at a
  module _ (h : k < most) (e : name_stands (drop p s) ≡ true) (a : Span) (t : row_at s a ≡ tuples_in (drop p s)) where
    abbrev after : List Row
    after = names_within (most - (k + 1)) (drop (p + (field_head + size_in (drop p s))) s)

    abbrev here : Row
    here = row_at s a

    next : names_within (most - k) (drop p s) ≡ here ∷ after
    next = names_next s p most k h e ∙ ap (λ (r : Row). r ∷ after) (sym t)

    turn : good_after last (here ∷ after) ≡ good_names (names_within most (drop c s))
    turn = sym (ap (good_after last) next) ∙ v.good

    pub passing_stops : name_fits (row_at s a) && is_lt (compare_rows (row_at s b) (row_at s a)) ≡ false → false ≡ good_names (names_within most (drop c s))
    passing_stops f = sym (good_stops last here after f) ∙ turn

    pub passing_on : Within s a → name_fits (row_at s a) && is_lt (compare_rows (row_at s b) (row_at s a)) ≡ true
        → Passing s c most a (p + (field_head + size_in (drop p s))) (k + 1)
    passing_on r f = record {
      few = omega arith;
      within = name_long name_tag s p e;
      room = r;
      begins = leads_name s a.at a.count (and_0 (is_name here) (fits here) (and_0 (name_fits here) (is_lt (compare_rows last here)) f));
      good = sym (good_on last here after f) ∙ turn;
      count = let n = v.count in let z = ap length next in omega arith;
      rest = sym (after_next s p most k h e) ∙ v.rest;
    }
