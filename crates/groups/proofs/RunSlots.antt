-- The slots of a run, one by one: each with its line number and name (`run_at_lem`, `run_name`), the names rising (`run_rises`); and when they are
-- slots: the first name one, the line numbers u32, and no offset past 2147483646 (`run_good`, `run_within`, `run_exactly`). Assumes nothing.
use mathlib.Core.Path.{◌≡◌, refl}
use mathlib.Core.List.{List, [], ◌∷◌, map}
use mathlib.Core.Bool.{Bool, true, false, ◌&&◌}
use Prim.Native.Nat.{ℕ, zero, suc, ◌+◌, ◌<◌, ◌≤◌}
use native.Mathlib.Nat.{not-suc-le-zero, le_of_suc-le-suc}
use native.Mathlib.Omega.{arith}
use borrow.Author.Tests.{le-leb, leb-true}
use lib.Dec.{leb}
use lib.IntN.{pos}
use lib.ListN.{length, get_or}
use Rattle.names.specs.Ordering.{Row, Rising, none, one, more}
use Rattle.names.specs.Names.{limit, fits, is_name}
use Rattle.std.specs.List.{list_all}
use Rattle.numbers.proofs.Bools.{and_0, and_1, never, yes_no}
use Rattle.slots.specs.Slots.{Slot, is_slot}
use Rattle.pages.specs.Pages.{name_in}
use Rattle.runs.specs.Runs.{next, onward}
use Rattle.runs.proofs.RunNames.{next_length, next_above, last_offset, onward_offset, onward_name, onward_named}
use Rattle.name_fields.specs.NameFields.{name_fits}
use Rattle.groups.specs.Groups.{run}

-- slot k of a run
pub run_at_lem : (a : Row) (l : List ℕ) (k : ℕ) (d : Slot) → k < length l → get_or (run a l) k d ≡ record { line = get_or l k 0; name = onward k a }
run_at_lem a [] k d h = absurd (not-suc-le-zero h)
run_at_lem a (x ∷ l) zero d h = refl
run_at_lem a (x ∷ l) (suc k) d h = run_at_lem (next a) l k d (le_of_suc-le-suc h)

-- its name
pub run_name : (a : Row) (l : List ℕ) (k : ℕ) → k < length l → get_or (map name_in (run a l)) k [] ≡ onward k a
run_name a [] k h = absurd (not-suc-le-zero h)
run_name a (x ∷ l) zero h = refl
run_name a (x ∷ l) (suc k) h = run_name (next a) l k (le_of_suc-le-suc h)

-- the names rise, where they have a tuple
pub run_rises : (a : Row) (l : List ℕ) → 1 ≤ length a → Rising (map name_in (run a l))
run_rises a [] h = none
run_rises a (x ∷ []) h = one
run_rises a (x ∷ y ∷ l) h = more (next_above a h) (run_rises (next a) (y ∷ l) (let n = next_length a in omega arith))

-- ── when they are slots ──

-- a line number is a u32
abbrev pub is_line : ℕ → Bool
is_line x = leb x 4294967295

-- what a slot's test has found
module _ (x : Slot) (e : is_slot x ≡ true) where
  abbrev line_named : Bool
  line_named = is_line x.line && is_name x.name

  pub slot_line : is_line x.line ≡ true
  slot_line = and_0 (is_line x.line) (is_name x.name) (and_0 line_named (fits x.name) e)

  pub slot_fits : name_fits x.name ≡ true
  slot_fits = λ i. and_1 (is_line x.line) (is_name x.name) (and_0 line_named (fits x.name) e) i && and_1 line_named (fits x.name) e i

-- the line numbers of a run of slots, and its first name
pub run_lines : (a : Row) (l : List ℕ) → list_all is_slot (run a l) ≡ true → list_all is_line l ≡ true
run_lines a [] e = refl
run_lines a (x ∷ l) e =
    let s : Slot = record { line = x; name = a } in
    λ i. slot_line s (and_0 (is_slot s) (list_all is_slot (run (next a) l)) e) i && run_lines (next a) l (and_1 (is_slot s) (list_all is_slot (run (next a) l)) e) i

pub run_first : (a : Row) (l : List ℕ) → 1 ≤ length l → list_all is_slot (run a l) ≡ true → name_fits a ≡ true
run_first a [] h e = absurd (omega arith)
run_first a (x ∷ l) h e =
    let s : Slot = record { line = x; name = a } in
    slot_fits s (and_0 (is_slot s) (list_all is_slot (run (next a) l)) e)

-- the last name's offset is at most 2147483646, where the first's is n
pub run_within : (a : Row) (l : List ℕ) {n : ℕ} → last_offset a ≡ pos n → 1 ≤ length l → list_all is_slot (run a l) ≡ true → n + length l ≤ 2147483647
run_within a [] f h e = absurd (omega arith)
run_within a (x ∷ []) f h e =
    let v = run_first a (x ∷ []) (omega arith) e in
    omega (arith, onward_named 0 a f (and_0 (is_name a) (fits a) v))
run_within a (x ∷ y ∷ l) f h e =
    let s : Slot = record { line = x; name = a } in
    let r = run_within (next a) (y ∷ l) (onward_offset 1 a f) (omega arith) (and_1 (is_slot s) (list_all is_slot (run (next a) (y ∷ l))) e) in
    omega arith

-- and so they are slots
pub run_good : (a : Row) (l : List ℕ) {n : ℕ} → last_offset a ≡ pos n → name_fits a ≡ true → list_all is_line l ≡ true → n + length l ≤ 2147483647
    → list_all is_slot (run a l) ≡ true
run_good a [] f v e h = refl
run_good a (x ∷ []) f v e h =
    λ i. and_0 (is_line x) true e i && and_0 (is_name a) (fits a) v i && and_1 (is_name a) (fits a) v i && true
run_good a (x ∷ y ∷ l) f v e h =
    let named = and_0 (is_name a) (fits a) v in
    let fit = and_1 (is_name a) (fits a) v in
    let w : length (next a) ≤ limit = omega (arith, next_length a, leb-true (length a) limit fit) in
    let next_fits : name_fits (next a) ≡ true = λ i. onward_name 1 a named f (omega arith) i && le-leb (length (next a)) limit w i in
    let rest = run_good (next a) (y ∷ l) (onward_offset 1 a f) next_fits (and_1 (is_line x) (list_all is_line (y ∷ l)) e) (omega arith) in
    λ i. and_0 (is_line x) (list_all is_line (y ∷ l)) e i && named i && fit i && rest i

-- a first name that is one: the line numbers and the last offset decide
pub run_exactly : (a : Row) (l : List ℕ) {n : ℕ} → last_offset a ≡ pos n → name_fits a ≡ true → 1 ≤ length l
    → list_all is_slot (run a l) ≡ list_all is_line l && leb (n + length l) 2147483647
run_exactly a l {n} f v h = by (list_all is_line l) refl (leb (n + length l) 2147483647) refl
  where
    by : (b : Bool) → list_all is_line l ≡ b → (c : Bool) → leb (n + length l) 2147483647 ≡ c → list_all is_slot (run a l) ≡ b && c
    by true e true g = run_good a l f v e (leb-true (n + length l) 2147483647 g)
    by true e false g = never _ (λ q. yes_no (le-leb (n + length l) 2147483647 (run_within a l f h q)) g)
    by false e c g = never _ (λ q. yes_no (run_lines a l q) e)
