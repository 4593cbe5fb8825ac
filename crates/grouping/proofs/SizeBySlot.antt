-- The bytes of a form, slot by slot (`Summing`, a loop's invariant, with its start, a turn and its end): each slot brings its line number,
-- and where it begins a group what stands before that. Assumes nothing.
use mathlib.Core.Path.{◌≡◌, refl, sym, ap, ◌∙◌}
use mathlib.Core.List.{List, [], ◌∷◌, map}
use mathlib.Core.Bool.{Bool, true, false, cond, not}
use Prim.Native.Nat.{ℕ, zero, suc, ◌+◌, ◌-◌, ◌*◌, ◌<◌, ◌≤◌}
use native.Mathlib.Numerals.{add-one}
use native.Mathlib.Omega.{arith}
use lib.ListN.{length, drop, get_or, drop_of_length-le}
use lib.Seq.{drop-cons}
use Rattle.names.specs.Ordering.{Row}
use Rattle.names.specs.Names.{limit}
use Rattle.slots.specs.Tuples.{tuple_size}
use Rattle.slots.specs.Slots.{Slot}
use Rattle.pages.specs.Pages.{name_in}
use Rattle.runs.specs.Runs.{is_next}
use Rattle.groups.specs.Groups.{Group, line_size, alone, joined, grouped}
use Rattle.groups.specs.Forms.{form_bytes, group_head}
use Rattle.groups.proofs.GroupBytes.{group_length}
use Rattle.groups.proofs.FormInverse.{form_none}
use Rattle.groups.proofs.FormSizes.{form_length}
use Rattle.grouping.specs.FirstGroup.{begins, slot_bytes_in}
use Rattle.grouping.proofs.FirstRun.{run_of, group_on, grouped_run_of, no_slot, slot_at, name_of_lem}

-- what stands before the line numbers of a group that begins with x
abbrev head_of : Slot → ℕ
head_of x = group_head + tuple_size * length x.name

-- what the slots after x bring
abbrev after_slot : Slot → List Slot → ℕ
after_slot x [] = 0
after_slot x (y ∷ l) = cond (is_next x.name y.name) 0 (head_of y) + line_size + after_slot y l

form_none_length : length (form_bytes []) ≡ 0
form_none_length = ap length form_none

size_of : (x : Slot) (l : List Slot) → length (form_bytes (grouped (x ∷ l))) ≡ head_of x + line_size + after_slot x l
size_of x [] =
    let a = form_length (alone x) [] in
    let b = group_length (alone x) in
    let c = form_none_length in
    omega arith
size_of x (y ∷ l) =
    let f = grouped_run_of y l in
    ap (λ (gs : List Group). length (form_bytes (joined x gs))) f ∙ go (is_next x.name y.name) (sym (ap (λ (gs : List Group). length (form_bytes gs)) f) ∙ size_of y l)
  where
    g : Group
    g = group_on y l (run_of y l)

    more : Group
    more = record { first = x.name; lines = x.line ∷ g.lines }

    rest : List Group
    rest = grouped (drop (run_of y l) (y ∷ l))

    go : (b : Bool) → length (form_bytes (g ∷ rest)) ≡ head_of y + line_size + after_slot y l
        → length (form_bytes (cond b (more ∷ rest) (alone x ∷ g ∷ rest))) ≡ head_of x + line_size + (cond b 0 (head_of y) + line_size + after_slot y l)
    go true e =
        let a = form_length more rest in
        let b = group_length more in
        let c = form_length g rest in
        let d = group_length g in
        omega arith
    go false e =
        let a = form_length (alone x) (g ∷ rest) in
        let b = group_length (alone x) in
        omega arith

-- ── from slot k on ──

-- what the slots from slot k on bring
abbrev pub bytes_from : List Slot → ℕ → ℕ
bytes_from l zero = length (form_bytes (grouped l))
bytes_from l (suc k) = after_slot (slot_at l k) (drop (suc k) l)

module _ (l : List Slot) where
  -- by the name that the code reads
  named_head : (k : ℕ) → head_of (slot_at l k) ≡ group_head + tuple_size * length (get_or (map name_in l) k [])
  named_head k = ap (λ (a : Row). group_head + tuple_size * length a) (sym (name_of_lem l k))

  from_next : (k : ℕ) → k < length l → bytes_from l k ≡ slot_bytes_in l k + bytes_from l (suc k)
  from_next zero h =
      let e = ap (λ (m : List Slot). length (form_bytes (grouped m))) (drop-cons l 0 no_slot h) ∙ size_of (slot_at l 0) (drop 1 l) in
      let d = named_head 0 in
      omega arith
  from_next (suc k) h =
      ap (after_slot (slot_at l k)) (drop-cons l (suc k) no_slot h)
      ∙ (λ i. cond (is_next (sym (name_of_lem l k) i) (sym (name_of_lem l (suc k)) i)) 0 (named_head (suc k) i) + line_size + bytes_from l (suc (suc k)))
      ∙ ap (λ (n : ℕ). n + line_size + bytes_from l (suc (suc k))) (turned (group_head + tuple_size * length (get_or (map name_in l) (suc k) [])) (is_next (get_or (map name_in l) k []) (get_or (map name_in l) (suc k) [])))
    where
      turned : (n : ℕ) (b : Bool) → cond b 0 n ≡ cond (not b) n 0
      turned n true = refl
      turned n false = refl

  from_end : (k : ℕ) → length l ≤ k → bytes_from l k ≡ 0
  from_end zero h = ap (λ (m : List Slot). length (form_bytes (grouped m))) (drop_of_length-le l {i = 0} h) ∙ form_none_length
  from_end (suc k) h = ap (after_slot (slot_at l k)) (drop_of_length-le l {i = suc k} h)

-- ── what slot k brings ──

module _ (l : List Slot) (k : ℕ) where
  asked : {b : Bool} → 0 < k → b ≡ is_next (get_or (map name_in l) (k - 1) []) (get_or (map name_in l) k []) → begins l k ≡ not b
  asked {b} h e =
      let q : k ≡ suc (k - 1) = omega arith in
      ap (begins l) q ∙ ap (λ (n : ℕ). not (is_next (get_or (map name_in l) (k - 1) []) (get_or (map name_in l) n []))) (sym q) ∙ ap not (sym e)

  pub goes_on_lem : 0 < k → true ≡ is_next (get_or (map name_in l) (k - 1) []) (get_or (map name_in l) k []) → begins l k ≡ false
  goes_on_lem h e = asked h e

  pub begins_here : 0 < k → false ≡ is_next (get_or (map name_in l) (k - 1) []) (get_or (map name_in l) k []) → begins l k ≡ true
  begins_here h e = asked h e

  pub begins_first : k ≤ 0 → begins l k ≡ true
  begins_first h = let e : k ≡ 0 = omega arith in ap (begins l) e

  pub slot_goes_on : begins l k ≡ false → line_size ≡ slot_bytes_in l k
  slot_goes_on e = ap (λ (b : Bool). cond b (group_head + tuple_size * length (get_or (map name_in l) k [])) 0 + line_size) (sym e)

  pub slot_begins : begins l k ≡ true → (n : ℕ) → n ≡ length (get_or (map name_in l) k []) → group_head + tuple_size * n + line_size ≡ slot_bytes_in l k
  slot_begins e n d = λ i. cond (sym e i) (group_head + tuple_size * d i) 0 + line_size

-- ── along the slots ──

-- the slots before slot k bring `sum` bytes, no more than such slots can bring
pub record Summing (l : List Slot) (k sum : ℕ) : Type 0 where
  pub few : k ≤ length l
  pub small : sum ≤ (group_head + tuple_size * limit + line_size) * k
  pub left : sum + bytes_from l k ≡ length (form_bytes (grouped l))

pub summing_first : (l : List Slot) → Summing l 0 0
summing_first l = record { few = omega arith; small = omega arith; left = omega arith }

module _ {l : List Slot} {k sum : ℕ} (v : Summing l k sum) where
  pub summing_end : length l ≤ k → sum ≡ length (form_bytes (grouped l))
  summing_end h = omega (arith, v.left, from_end l k h)

  pub summing_on : (n : ℕ) → k < length l → n ≡ slot_bytes_in l k → n ≤ group_head + tuple_size * limit + line_size → Summing l (k + 1) (sum + n)
  summing_on n h e b =
      let a = v.left in
      let s = v.small in
      let f = from_next l k h in
      let g = ap (bytes_from l) (add-one k) in
      record { few = omega arith; small = omega arith; left = omega arith }
