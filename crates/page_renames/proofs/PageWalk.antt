-- A loop along a page and its log: what a turn says of the tests of results, and how far the log has been walked. Assumes nothing.
use mathlib.Core.Path.{◌≡◌, refl, ◌∙◌, sym, ap}
use mathlib.Core.List.{List, [], ◌∷◌, map}
use mathlib.Core.Bool.{Bool, true, ◌&&◌, ◌||◌, and_assoc, and-true}
use Prim.Native.Nat.{ℕ, zero, suc, ◌+◌, ◌-◌, ◌/◌, ◌<◌, ◌≤◌}
use native.Mathlib.Numerals.{add-one}
use native.Mathlib.Omega.{arith}
use borrow.Author.Tests.{le-ltb}
use lib.Dec.{ltb}
use lib.ListN.{length, get_or, drop, length-map, drop_of_length-le, get_or-map}
use lib.Seq.{drop-cons}
use Rattle.names.specs.Ordering.{Row, compare_rows, rising}
use Rattle.std.specs.Ordering.{is_lt}
use Rattle.names.proofs.Laws.{rising_Rising}
use Rattle.numbers.specs.Bytes.{Bytes}
use Rattle.std.specs.List.{list_all}
use Rattle.slots.specs.Slots.{slot_size, slot_of, name_of, keeps_slot}
use Rattle.std.proofs.lemmas.List.Folds.{list_all-map}
use Rattle.numbers.proofs.Every.{every_at, every_each, every_end}
use Rattle.pages.specs.Pages.{parts_of, slots_of, name_in, names_of, keeps_layout, rises}
use Rattle.pages.specs.Places.{below}
use Rattle.pages.proofs.SlotBySlot.{length_names, rising_cons}
use Rattle.pages.proofs.RoundTrip.{laid}
use Rattle.pages.proofs.FindByHalving.{index_below}
use Rattle.one_name.proofs.PlaceInLog.{place_grows}

-- slot i as the code finds it, among the slots
module _ (page : Bytes) (i : ℕ) {slots : List Bytes} (e : slots ≡ parts_of page) where
  pub slot_name : name_of (get_or slots i []) ≡ get_or (names_of page) i []
  slot_name =
      ap (λ (l : List Bytes). name_of (get_or l i [])) e
      ∙ ap name_in (sym (get_or-map slot_of (parts_of page) i []))
      ∙ sym (get_or-map name_in (slots_of page) i (slot_of []))

  pub slot_keeps : i < length slots → keeps_layout page ≡ true → keeps_slot (get_or slots i []) ≡ true
  slot_keeps h k = every_each keeps_slot slots i [] h (ap (list_all keeps_slot) e ∙ (laid page k).good)

module _ (page : Bytes) (i : ℕ) (h : i < length page / slot_size) where
  pub within_names : i < length (names_of page)
  within_names = omega (arith, length_names page (length page / slot_size))

  -- the test t of what f makes of name i, and what is left after it
  pub result_at : (f : Row → Row) (t : Row → Bool) {b : Bool} → b ≡ t (f (get_or (names_of page) i [])) →
      b && list_all t (drop (i + 1) (map f (names_of page))) ≡ list_all t (drop i (map f (names_of page)))
  result_at f t e =
      let l : i < length (map f (names_of page)) = omega (arith, length-map (names_of page) f, within_names) in
      every_at t (map f (names_of page)) i (f []) l (e ∙ ap t (sym (get_or-map f (names_of page) i [])))

  -- of the log, j names are below name i, and so below the next
  pub walked : (log : List Row) (j : ℕ) → rises page ≡ true → j ≤ below (get_or (names_of page) i []) log → i + 1 < length page / slot_size →
      j ≤ below (get_or (names_of page) (i + 1) []) log
  walked log j r g k =
      let o = rising_Rising (names_of page) r in
      let l : i + 1 < length (names_of page) = omega (arith, length_names page (length page / slot_size)) in
      let p = place_grows (get_or (names_of page) i []) (get_or (names_of page) (i + 1) []) log (index_below o i (i + 1) (omega arith) l) in
      omega arith

-- a test of every name, slot by slot
pub by_slots : (t : Row → Bool) (page : Bytes) → list_all (λ (s : Bytes). t (name_of s)) (parts_of page) ≡ list_all t (names_of page)
by_slots t page = sym (list_all-map t name_in (slots_of page) ∙ list_all-map (λ x. t (name_in x)) slot_of (parts_of page))

-- .. of what f makes of it
pub results_by_slots : (f : Row → Row) (t : Row → Bool) (page : Bytes) → list_all (λ (s : Bytes). t (f (name_of s))) (parts_of page) ≡ list_all t (map f (names_of page))
results_by_slots f t page = by_slots (λ x. t (f x)) page ∙ sym (list_all-map t f (names_of page))

-- no name is left
pub results_end : (page : Bytes) (i : ℕ) (f : Row → Row) (t : Row → Bool) → length page / slot_size ≤ i → true ≡ list_all t (drop i (map f (names_of page)))
results_end page i f t h = every_end t (map f (names_of page)) i (omega (arith, length-map (names_of page) f, length_names page (length page / slot_size)))

-- ── results that rise ──

none : rising [] ≡ true
unfolding rising
none = refl

one : (x : Row) → rising (x ∷ []) ≡ true
unfolding rising
one x = refl

module _ (page : Bytes) (f : Row → Row) where
  -- the results, and the one at k
  abbrev pub results : List Row
  results = map f (names_of page)

  result_is : (k : ℕ) → get_or results k (f []) ≡ f (get_or (names_of page) k [])
  result_is k = get_or-map f (names_of page) k []

  from : (k : ℕ) → k < length page / slot_size → drop k results ≡ f (get_or (names_of page) k []) ∷ drop (k + 1) results
  from k h =
      let l : k < length results = omega (arith, length-map (names_of page) f, within_names page k h) in
      drop-cons results k (f []) l ∙ (λ i. result_is k i ∷ drop (sym (add-one k) i) results)

  -- of results before i it is known that they rise; b says it of the one at i too, where it is not the first
  pub rising_turn : (i : ℕ) → i < length page / slot_size → (went b : Bool) →
      b ≡ went && (ltb i 1 || is_lt (compare_rows (f (get_or (names_of page) (i - 1) [])) (f (get_or (names_of page) i [])))) →
      b && rising (drop (i + 1 - 1) results) ≡ went && rising (drop (i - 1) results)
  rising_turn zero h went b e = ap (λ (t : Bool). t && rising results) (e ∙ and-true went)
  rising_turn (suc k) h went b e =
      let x = f (get_or (names_of page) k []) in
      let y = f (get_or (names_of page) (suc k) []) in
      let rest = drop (suc k + 1) results in
      let q : suc k - 1 ≡ k = omega arith in
      let r : suc k + 1 - 1 ≡ suc k = omega arith in
      let s = from k (omega arith) ∙ ap (λ (n : ℕ). x ∷ drop n results) (add-one k) ∙ ap (λ (l : List Row). x ∷ l) (from (suc k) h) in
      (λ i. e i && rising (drop (r i) results))
      ∙ (λ i. (went && (le-ltb (suc k) 1 (omega arith) i || is_lt (compare_rows (f (get_or (names_of page) (q i) [])) y))) && rising (drop (suc k) results))
      ∙ ap (λ (l : List Row). (went && is_lt (compare_rows x y)) && rising l) (from (suc k) h)
      ∙ and_assoc went (is_lt (compare_rows x y)) (rising (y ∷ rest))
      ∙ ap (λ (t : Bool). went && t) (sym (rising_cons x y rest))
      ∙ (λ i. went && rising (sym (ap (λ (n : ℕ). drop n results) q ∙ s) i))

  -- all are passed
  pub rising_ends : (i : ℕ) → i ≡ length page / slot_size → (went : Bool) → went ≡ went && rising (drop (i - 1) results)
  rising_ends i e went = sym (ap (λ (t : Bool). went && t) (go i e) ∙ and-true went)
    where
      go : (i : ℕ) → i ≡ length page / slot_size → rising (drop (i - 1) results) ≡ true
      go zero e = ap rising (drop_of_length-le results {i = 0} (omega (arith, length-map (names_of page) f, length_names page (length page / slot_size)))) ∙ none
      go (suc k) e =
          let q : suc k - 1 ≡ k = omega arith in
          let d : drop (k + 1) results ≡ [] = drop_of_length-le results {i = k + 1} (omega (arith, length-map (names_of page) f, length_names page (length page / slot_size))) in
          ap rising (ap (λ (n : ℕ). drop n results) q ∙ from k (omega arith) ∙ ap (λ (l : List Row). f (get_or (names_of page) k []) ∷ l) d) ∙ one (f (get_or (names_of page) k []))
