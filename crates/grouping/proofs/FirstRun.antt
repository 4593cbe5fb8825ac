-- The first group of slots (`grouped_first`), and how many of them it has: a slot goes on in the next one where that has the next name
-- (`run_on`, `run_ends`, `run_last`). Assumes nothing.
use mathlib.Core.Path.{◌≡◌, refl, sym, ap, ◌∙◌}
use mathlib.Core.List.{List, [], ◌∷◌, map}
use mathlib.Core.Bool.{Bool, true, false, cond}
use Prim.Native.Nat.{ℕ, suc, ◌+◌, ◌-◌, ◌<◌, ◌≤◌}
use native.Mathlib.Omega.{arith}
use lib.ListN.{length, take, drop, get_or, length-map, drop_of_length-le, get_or-map}
use lib.Seq.{drop-cons, length-take-le}
use Rattle.slots.specs.Slots.{Slot}
use Rattle.pages.specs.Pages.{name_in}
use Rattle.runs.specs.Runs.{is_next}
use Rattle.groups.specs.Groups.{Group, line_in, alone, joined, grouped}
use Rattle.grouping.specs.FirstGroup.{size_of_first, first_run}

-- how many slots, of x and those after it, are one run
abbrev pub run_of : Slot → List Slot → ℕ
run_of x [] = 1
run_of x (y ∷ l) = cond (is_next x.name y.name) (suc (run_of y l)) 1

-- ── the first group ──

-- n slots, the first of which is x, as a group
abbrev pub group_on : Slot → List Slot → ℕ → Group
group_on x l n = record { first = x.name; lines = map line_in (take n (x ∷ l)) }

pub grouped_run_of : (x : Slot) (l : List Slot) → grouped (x ∷ l) ≡ group_on x l (run_of x l) ∷ grouped (drop (run_of x l) (x ∷ l))
grouped_run_of x [] = refl
grouped_run_of x (y ∷ l) = ap (joined x) (grouped_run_of y l) ∙ go (is_next x.name y.name) (grouped_run_of y l)
  where
    go : (b : Bool) → grouped (y ∷ l) ≡ group_on y l (run_of y l) ∷ grouped (drop (run_of y l) (y ∷ l))
        → cond b (group_on x (y ∷ l) (suc (run_of y l)) ∷ grouped (drop (run_of y l) (y ∷ l))) (alone x ∷ group_on y l (run_of y l) ∷ grouped (drop (run_of y l) (y ∷ l)))
        ≡ group_on x (y ∷ l) (cond b (suc (run_of y l)) 1) ∷ grouped (drop (cond b (suc (run_of y l)) 1) (x ∷ y ∷ l))
    go true e = refl
    go false e = ap (λ (gs : List Group). alone x ∷ gs) (sym e)

pub run_long : (x : Slot) (l : List Slot) → (1 ≤ run_of x l) × (run_of x l ≤ length (x ∷ l))
run_long x [] = (omega arith, omega arith)
run_long x (y ∷ l) = go (is_next x.name y.name) (run_long y l)
  where
    go : (b : Bool) → (1 ≤ run_of y l) × (run_of y l ≤ length (y ∷ l))
        → (1 ≤ cond b (suc (run_of y l)) 1) × (cond b (suc (run_of y l)) 1 ≤ length (x ∷ y ∷ l))
    go true h = (omega arith, omega arith)
    go false h = (omega arith, omega arith)

pub first_run_lem : (x : Slot) (l : List Slot) → first_run (x ∷ l) ≡ run_of x l
first_run_lem x l =
    ap size_of_first (grouped_run_of x l)
    ∙ length-map (take (run_of x l) (x ∷ l)) line_in
    ∙ length-take-le (run_of x l) (x ∷ l) (run_long x l).1

-- ── from slot k on ──

abbrev pub no_slot : Slot
no_slot = record { line = 0; name = [] }

module _ (l : List Slot) where
  abbrev pub slot_at : ℕ → Slot
  slot_at k = get_or l k no_slot

  pub name_of_lem : (k : ℕ) → get_or (map name_in l) k [] ≡ (slot_at k).name
  name_of_lem k = get_or-map name_in l k no_slot

  -- how many are one run, of slot k and those after it
  abbrev pub run_at : ℕ → ℕ
  run_at k = run_of (slot_at k) (drop (suc k) l)

  pub run_at_lem : (k : ℕ) → k < length l → first_run (drop k l) ≡ run_at k
  run_at_lem k h = ap first_run (drop-cons l k no_slot h) ∙ first_run_lem (slot_at k) (drop (suc k) l)

  -- the first group from slot k on, and the groups of what is left
  pub grouped_first : (k : ℕ) → k < length l
      → grouped (drop k l)
      ≡ record { first = get_or (map name_in l) k []; lines = map line_in (take (first_run (drop k l)) (drop k l)) }
      ∷ grouped (drop (first_run (drop k l)) (drop k l))
  grouped_first k h =
      let e = drop-cons l k no_slot h in
      let q = sym (run_at_lem k h) in
      ap grouped e
      ∙ grouped_run_of (slot_at k) (drop (suc k) l)
      ∙ (λ i. record { first = sym (name_of_lem k) i; lines = map line_in (take (q i) (sym e i)) } ∷ grouped (drop (q i) (sym e i)))

  -- ── slot by slot ──

  module _ (k : ℕ) (h : suc k < length l) where
    next_slot : drop (suc k) l ≡ slot_at (suc k) ∷ drop (suc (suc k)) l
    next_slot = drop-cons l (suc k) no_slot h

    run_is : {b : Bool} → b ≡ is_next (get_or (map name_in l) k []) (get_or (map name_in l) (suc k) []) → run_at k ≡ cond b (suc (run_at (suc k))) 1
    run_is {b} e =
        ap (run_of (slot_at k)) next_slot
        ∙ ap (λ (c : Bool). cond c (suc (run_at (suc k))) 1) (sym (e ∙ (λ i. is_next (name_of_lem k i) (name_of_lem (suc k) i))))

    pub run_on : true ≡ is_next (get_or (map name_in l) k []) (get_or (map name_in l) (suc k) []) → run_at k ≡ suc (run_at (suc k))
    run_on e = run_is e

    pub run_ends : false ≡ is_next (get_or (map name_in l) k []) (get_or (map name_in l) (suc k) []) → run_at k ≡ 1
    run_ends e = run_is e

  pub run_last : (k : ℕ) → length l ≤ suc k → run_at k ≡ 1
  run_last k h = ap (run_of (slot_at k)) (drop_of_length-le l {i = suc k} h)

-- ── along the slots ──

-- the slots from slot k on up to slot i are of one run
pub record Along (l : List Slot) (k i : ℕ) : Type 0 where
  pub some : k < i
  pub few : i ≤ length l
  pub left : first_run (drop k l) + k + 1 ≡ run_at l (i - 1) + i

pub along_first : (l : List Slot) (k : ℕ) → k < length l → Along l k (k + 1)
along_first l k h =
    let e : k ≡ k + 1 - 1 = omega arith in
    let a = run_at_lem l k h ∙ ap (run_at l) e in
    record { some = omega arith; few = omega arith; left = omega arith }

module _ {l : List Slot} {k i : ℕ} (v : Along l k i) where
  abbrev one : i ≡ suc (i - 1)
  one = let h = v.some in omega arith

  -- whether slot i goes on
  module _ (h : i < length l) {b : Bool} (e : b ≡ is_next (get_or (map name_in l) (i - 1) []) (get_or (map name_in l) i [])) where
    step : suc (i - 1) < length l
    step = let s = v.some in omega arith

    asked : b ≡ is_next (get_or (map name_in l) (i - 1) []) (get_or (map name_in l) (suc (i - 1)) [])
    asked = e ∙ ap (λ (n : ℕ). is_next (get_or (map name_in l) (i - 1) []) (get_or (map name_in l) n [])) one

    pub along_on : b ≡ true → Along l k (i + 1)
    along_on t =
        let s = v.some in
        let a = v.left in
        let r = run_on l (i - 1) step (sym t ∙ asked) in
        let q : suc (i - 1) ≡ i + 1 - 1 = omega arith in
        let z = ap (run_at l) q in
        record { some = omega arith; few = omega arith; left = omega arith }

    pub along_ends : b ≡ false → i - k ≡ first_run (drop k l)
    along_ends f = omega (arith, v.some, v.left, run_ends l (i - 1) step (sym f ∙ asked))

  pub along_last : length l ≤ i → i - k ≡ first_run (drop k l)
  along_last h =
      let s = v.some in
      let z : length l ≤ suc (i - 1) = omega arith in
      omega (arith, v.left, run_last l (i - 1) z)
