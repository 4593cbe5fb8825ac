-- The tests of a table in the code's order (`tests`), and a turn of the loop along its entries, and its end (`keeps_turn`, `keeps_end`).
-- Whether an entry is listed depends on its pair alone (`listed_pair`), and is asked of the entries' bytes (`listed_among`). A pair is new
-- whose sequence is above those of its group before it (`new_pair`), of which the greatest are kept (`under_same`, `under_raised`). Assumes
-- nothing.
use mathlib.Core.Path.{◌≡◌, refl, sym, ap, subst, ◌∙◌}
use mathlib.Core.List.{List, [], ◌∷◌}
use mathlib.Core.Bool.{Bool, true, false, ◌&&◌, ◌||◌}
use Prim.Native.Nat.{ℕ, ◌+◌, ◌/◌, ◌%◌, ◌<◌, ◌≤◌}
use native.Mathlib.Numerals.{add-one}
use native.Mathlib.Decide.{ℕ_discrete, dec_lt}
use native.Mathlib.Omega.{arith}
use lib.Dec.{eqb, leb}
use lib.ListN.{length, take, drop, get_or, set, length-take, drop_of_length-le}
use lib.Seq.{drop-cons, get_or-take, get_or-set_same, get_or-set_other}
use Rattle.numbers.specs.Bytes.{Bytes}
use Rattle.std.specs.List.{list_any}
use Rattle.epoch_tree.specs.Tables.{Entry, entry_of, entries_in, entry_size, max_entries, zero_entry, entry_at, entries_of, is_first, same_pair, listed, keeps_entry, keeps_from, is_table, keeps_table}
use Rattle.epoch_tree.proofs.TableBytes.{length_entries}
use Rattle.epoch_tree.proofs.TableFacts.{pair_differs, none_listed}
use Rattle.epochs.specs.Pairs.{group_of, Under}

in_order_lem : (t : List Entry) → is_table t ≡ leb 1 (length t) && leb (length t) max_entries && is_first (entry_at t 0) && keeps_from t 1 (drop 1 t)
unfolding is_table
in_order_lem t = refl

-- the tests of a table in their order
pub tests :
    (s : Bytes) →
    keeps_table s ≡ eqb (length s % entry_size) 0
    && (leb 1 (length s / entry_size) && leb (length s / entry_size) max_entries
    && is_first (entry_at (entries_of s) 0) && keeps_from (entries_of s) 1 (drop 1 (entries_of s)))
unfolding keeps_table
tests s =
    let t = entries_of s in
    let n = length_entries s in
    λ i. eqb (length s % entry_size) 0
    && (in_order_lem t ∙ (λ j. leb 1 (n j) && leb (n j) max_entries && is_first (entry_at t 0) && keeps_from t 1 (drop 1 t))) i

pub listed_pair : (e f : Entry) (l : List Entry) → e.node ≡ f.node → e.sequence ≡ f.sequence → listed e l ≡ listed f l
listed_pair e f l p q = λ i. list_any (λ x. eqb (p i) x.node && eqb (q i) x.sequence) l

-- whether an author's pair is one of those of the entries that have these bytes
pub listed_among : (l : List Bytes) (e : Entry) → list_any (λ s. same_pair e (entry_of s)) l ≡ listed e (entries_in l)
listed_among [] e = refl
listed_among (x ∷ l) e = ap (λ (b : Bool). same_pair e (entry_of x) || b) (listed_among l e)

module _ (t : List Entry) (i : ℕ) where
  pub keeps_turn : {b : Bool} → i < length t → b ≡ keeps_entry t i (entry_at t i) → b && keeps_from t (i + 1) (drop (i + 1) t) ≡ keeps_from t i (drop i t)
  keeps_turn h q = rw (q, add-one, drop-cons t i zero_entry h)

  pub keeps_end : length t ≤ i → true ≡ keeps_from t i (drop i t)
  keeps_end h = ap (keeps_from t i) (sym (drop_of_length-le t h))

-- what is kept of the sequences of entry k's group is no less than its own
abbrev Holds : List Entry → List ℕ → ℕ → Type 0
Holds t tops k = (entry_at t k).sequence ≤ get_or tops (group_of (entry_at t k).node) 0

module _ (t : List Entry) (i : ℕ) (tops : List ℕ) (h : Under t i tops) where
  pub new_pair : (e : Entry) → i ≤ length t → get_or tops (group_of e.node) 0 < e.sequence → listed e (take i t) ≡ false
  new_pair e g l = none_listed e (take i t) differs
    where
      differs : (j : ℕ) → j < length (take i t) → same_pair e (get_or (take i t) j zero_entry) ≡ false
      differs j k =
          let z = length-take i t in
          let q : j < i = omega arith in
          rw (get_or-take i t j zero_entry q)
          (pair_differs e (entry_at t j) (λ a b. let u = h j q in let v = ap (λ (n : ℕ). get_or tops (group_of n) 0) a in omega arith))

  -- one entry more
  more : (l : List ℕ) → ((j : ℕ) → j < i → Holds t l j) → Holds t l i → Under t (i + 1) l
  more l f b j k = elim (dec_lt j i) [ yes q ↦ f j q | no q ↦ let e : i ≡ j = omega arith in subst (Holds t l) e b ]

  module _ (g : ℕ) (a : g ≡ group_of (entry_at t i).node) where
    -- its sequence is not above what is kept of its group
    pub under_same : (entry_at t i).sequence ≤ get_or tops g 0 → Under t (i + 1) tops
    under_same k = more tops h (rw a at k)

    -- or it is, and is kept
    pub under_raised : g < length tops → get_or tops g 0 < (entry_at t i).sequence → Under t (i + 1) (set tops g (entry_at t i).sequence)
    under_raised l k = more (set tops g s) before (let v = ap (λ (n : ℕ). get_or (set tops g s) n 0) (sym a) ∙ there in omega arith)
      where
        s : ℕ
        s = (entry_at t i).sequence

        there : get_or (set tops g s) g 0 ≡ s
        there = get_or-set_same tops g s 0 l

        before : (j : ℕ) → j < i → Holds t (set tops g s) j
        before j q = elim (ℕ_discrete (group_of (entry_at t j).node) g) [
          | yes e ↦
              let u = h j q in
              let v = ap (λ (n : ℕ). get_or (set tops g s) n 0) e ∙ there in
              let w = ap (λ (n : ℕ). get_or tops n 0) e in
              omega arith
          | no e ↦
              let u = h j q in
              let v = get_or-set_other tops g (group_of (entry_at t j).node) s 0 (λ z. e (omega arith)) in
              omega arith
        ]
