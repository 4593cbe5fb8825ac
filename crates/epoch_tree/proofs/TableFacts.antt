-- What the check of a table says (`Table`): a checked table has these facts (`table`), and a table with them is accepted
-- (`is_table_lem`). A parent has a smaller index (`parent_below`), which is below 32 (`parent_few`). Assumes nothing.
use mathlib.Core.Path.{◌≡◌, refl, ap}
use mathlib.Core.List.{List, [], ◌∷◌}
use mathlib.Core.Bool.{Bool, true, false, not, ◌&&◌, ◌||◌}
use Prim.Native.Nat.{ℕ, zero, suc, ◌+◌, ◌<◌, ◌≤◌}
use native.Mathlib.Decide.{dec_lt}
use native.Mathlib.Omega.{arith}
use borrow.Author.Tests.{ltb-true, leb-true, eqb-true, not-true, eq-eqb, lt-ltb, le-leb}
use lib.Dec.{eqb, leb, ltb}
use lib.ListN.{length, take, drop, get_or, length-drop, length-take, get_or-eq_default}
use lib.Seq.{get_or-take, get_or-drop}
use Rattle.numbers.proofs.Bools.{and_0, and_1, or_0, or_1, yes_no}
use Rattle.epoch_tree.specs.Tables.{Entry, max_entries, zero_entry, entry_at, is_first, is_count, same_pair, listed, keeps_entry, keeps_from, is_table}
use Rattle.epoch_tree.specs.Tree.{parent_of}

-- "An epoch table is 1..32 entries", and what it says of them
pub record Table (t : List Entry) : Type 0 where
  pub some : 0 < length t
  pub few : length t ≤ max_entries
  pub first : entry_at t 0 ≡ zero_entry
  pub node : (i : ℕ) → suc i < length t → 1 ≤ (entry_at t (suc i)).node
  -- past the end too, where an entry is all zero
  pub parent : (i : ℕ) → parent_of t (suc i) ≤ i
  pub count : (i : ℕ) → suc i < length t → is_count (entry_at t (suc i)).count ≡ true
  pub pair : (i j : ℕ) → i < j → j < length t → (entry_at t j).node ≡ (entry_at t i).node → (entry_at t j).sequence ≡ (entry_at t i).sequence → ⊥

-- "each with a smaller index"
pub parent_below : (t : List Entry) → Table t → (i : ℕ) → 1 ≤ i → parent_of t i < i
parent_below t h zero l = absurd (omega arith)
parent_below t h (suc i) l = let p : parent_of t (suc i) ≤ i = h.parent i in omega arith

pub parent_few : (t : List Entry) → Table t → (i : ℕ) → i < length t → parent_of t i < max_entries
parent_few t h zero l = let z : parent_of t 0 ≡ 0 = ap (λ (e : Entry). e.parent) h.first in omega arith
parent_few t h (suc i) l =
    let p : parent_of t (suc i) ≤ i = h.parent i in
    let k : length t ≤ max_entries = h.few in
    omega arith

-- no entry of the list has the pair
pub not_listed : (e : Entry) (l : List Entry) (i : ℕ) → listed e l ≡ false → i < length l → same_pair e (get_or l i zero_entry) ≡ false
not_listed e [] i h g = absurd (omega arith)
not_listed e (f ∷ l) zero h g = or_0 (same_pair e f) (listed e l) h
not_listed e (f ∷ l) (suc i) h g = not_listed e l i (or_1 (same_pair e f) (listed e l) h) (omega arith)

kept : (t : List Entry) (k : ℕ) (l : List Entry) (i : ℕ) → keeps_from t k l ≡ true → i < length l → keeps_entry t (k + i) (get_or l i zero_entry) ≡ true
kept t k [] i h g = absurd (omega arith)
kept t k (e ∷ l) zero h g = let q : k + 0 ≡ k = omega arith in rw q (and_0 (keeps_entry t k e) (keeps_from t (suc k) l) h)
kept t k (e ∷ l) (suc i) h g =
    let q : suc k + i ≡ k + suc i = omega arith in
    rw q at (kept t (suc k) l i (and_1 (keeps_entry t k e) (keeps_from t (suc k) l) h) (omega arith))

pub pair_same : (e f : Entry) → e.node ≡ f.node → e.sequence ≡ f.sequence → same_pair e f ≡ true
pair_same e f a b = λ i. eq-eqb e.node f.node a i && eq-eqb e.sequence f.sequence b i

-- entry 0 is zero
pub first_zero : (e : Entry) → is_first e ≡ true → e ≡ zero_entry
first_zero e h =
    let b = and_0 (eqb e.node 0 && eqb e.sequence 0 && eqb e.parent 0) (eqb e.count 0) h in
    let a = and_0 (eqb e.node 0 && eqb e.sequence 0) (eqb e.parent 0) b in
    let p = eqb-true e.node 0 (and_0 (eqb e.node 0) (eqb e.sequence 0) a) in
    let q = eqb-true e.sequence 0 (and_1 (eqb e.node 0) (eqb e.sequence 0) a) in
    let r = eqb-true e.parent 0 (and_1 (eqb e.node 0 && eqb e.sequence 0) (eqb e.parent 0) b) in
    let n = eqb-true e.count 0 (and_1 (eqb e.node 0 && eqb e.sequence 0 && eqb e.parent 0) (eqb e.count 0) h) in
    λ i. record { node = p i; sequence = q i; parent = r i; count = n i }

module _ (t : List Entry) (h : is_table t ≡ true) where
  sizes : leb 1 (length t) && leb (length t) max_entries && is_first (entry_at t 0) ≡ true
  unfolding is_table
  sizes = and_0 (leb 1 (length t) && leb (length t) max_entries && is_first (entry_at t 0)) (keeps_from t 1 (drop 1 t)) h

  rest : keeps_from t 1 (drop 1 t) ≡ true
  unfolding is_table
  rest = and_1 (leb 1 (length t) && leb (length t) max_entries && is_first (entry_at t 0)) (keeps_from t 1 (drop 1 t)) h

  within_sizes : leb 1 (length t) && leb (length t) max_entries ≡ true
  within_sizes = and_0 (leb 1 (length t) && leb (length t) max_entries) (is_first (entry_at t 0)) sizes

  entry : (i : ℕ) → suc i < length t → keeps_entry t (suc i) (entry_at t (suc i)) ≡ true
  entry i g =
      let l : i < length (drop 1 t) = rw (length-drop 1 t) (omega arith) in
      let q : 1 + i ≡ suc i = omega arith in
      rw (get_or-drop 1 t i zero_entry, q) at (kept t 1 (drop 1 t) i rest l)

  -- the tests of entry i
  abbrev named_under : ℕ → Bool
  named_under i = leb 1 (entry_at t i).node && ltb (parent_of t i) i

  abbrev counted : ℕ → Bool
  counted i = is_count (entry_at t i).count

  abbrev new_at : ℕ → Bool
  new_at i = not (listed (entry_at t i) (take i t))

  ahead_of_pair : (i : ℕ) → suc i < length t → named_under (suc i) && counted (suc i) ≡ true
  ahead_of_pair i g = and_0 (named_under (suc i) && counted (suc i)) (new_at (suc i)) (entry i g)

  ahead : (i : ℕ) → suc i < length t → named_under (suc i) ≡ true
  ahead i g = and_0 (named_under (suc i)) (counted (suc i)) (ahead_of_pair i g)

  node_at : (i : ℕ) → suc i < length t → 1 ≤ (entry_at t (suc i)).node
  node_at i g = leb-true 1 (entry_at t (suc i)).node (and_0 (leb 1 (entry_at t (suc i)).node) (ltb (parent_of t (suc i)) (suc i)) (ahead i g))

  parent_at : (i : ℕ) → suc i < length t → parent_of t (suc i) < suc i
  parent_at i g = ltb-true (parent_of t (suc i)) (suc i) (and_1 (leb 1 (entry_at t (suc i)).node) (ltb (parent_of t (suc i)) (suc i)) (ahead i g))

  count_at : (i : ℕ) → suc i < length t → is_count (entry_at t (suc i)).count ≡ true
  count_at i g = and_1 (named_under (suc i)) (counted (suc i)) (ahead_of_pair i g)

  pairs : (i j : ℕ) → i < j → j < length t → same_pair (entry_at t j) (entry_at t i) ≡ false
  pairs i zero g k = absurd (omega arith)
  pairs i (suc j) g k =
      let f = entry_at t (suc j) in
      let n = not-true (listed f (take (suc j) t)) (and_1 (named_under (suc j) && counted (suc j)) (new_at (suc j)) (entry j k)) in
      let l : i < length (take (suc j) t) = rw (length-take (suc j) t) (omega arith) in
      rw (get_or-take (suc j) t i zero_entry g) at (not_listed f (take (suc j) t) i n l)

  -- a checked table
  pub table : Table t
  table = record {
    some = leb-true 1 (length t) (and_0 (leb 1 (length t)) (leb (length t) max_entries) within_sizes);
    few = leb-true (length t) max_entries (and_1 (leb 1 (length t)) (leb (length t) max_entries) within_sizes);
    first = first_zero (entry_at t 0) (and_1 (leb 1 (length t) && leb (length t) max_entries) (is_first (entry_at t 0)) sizes);
    node = node_at;
    count = count_at;
    parent = λ i. elim (dec_lt (suc i) (length t)) [
      | yes g ↦ let z : parent_of t (suc i) < suc i = parent_at i g in omega arith
      | no g ↦ let q : parent_of t (suc i) ≡ 0 = ap (λ (e : Entry). e.parent) (get_or-eq_default t zero_entry (omega arith)) in omega arith
    ];
    pair = λ i j g k a b. yes_no (pair_same (entry_at t j) (entry_at t i) a b) (pairs i j g k);
  }

-- ── and back ──

both : {a b : Bool} → a ≡ true → b ≡ true → a && b ≡ true
both p q = λ i. p i && q i

keeps :
    (t : List Entry) (k : ℕ) (l : List Entry) → ((i : ℕ) → i < length l → keeps_entry t (k + i) (get_or l i zero_entry) ≡ true) →
    keeps_from t k l ≡ true
keeps t k [] f = refl
keeps t k (e ∷ l) f =
    let p : k + 0 ≡ k = omega arith in
    both (rw p at (f 0 (omega arith))) (keeps t (suc k) l (λ i g. let q : k + suc i ≡ suc k + i = omega arith in rw q at (f (suc i) (omega arith))))

pub pair_differs : (e f : Entry) → (e.node ≡ f.node → e.sequence ≡ f.sequence → ⊥) → same_pair e f ≡ false
pair_differs e f g = go (eqb e.node f.node) (eqb e.sequence f.sequence) refl refl
  where
    go : (a b : Bool) → eqb e.node f.node ≡ a → eqb e.sequence f.sequence ≡ b → a && b ≡ false
    go false b p q = refl
    go true false p q = refl
    go true true p q = absurd (g (eqb-true e.node f.node p) (eqb-true e.sequence f.sequence q))

pub none_listed : (e : Entry) (l : List Entry) → ((i : ℕ) → i < length l → same_pair e (get_or l i zero_entry) ≡ false) → listed e l ≡ false
none_listed e [] f = refl
none_listed e (x ∷ l) f = λ i. f 0 (omega arith) i || none_listed e l (λ j g. f (suc j) (omega arith)) i

pub is_table_lem : (t : List Entry) → Table t → is_table t ≡ true
unfolding is_table
is_table_lem t h = both (both (both (le-leb 1 (length t) h.some) (le-leb (length t) max_entries h.few)) (ap is_first h.first)) (keeps t 1 (drop 1 t) go)
  where
    entry_kept : (i : ℕ) → suc i < length t → keeps_entry t (suc i) (entry_at t (suc i)) ≡ true
    entry_kept i g =
        let p : parent_of t (suc i) ≤ i = h.parent i in
        both (both (both (le-leb 1 (entry_at t (suc i)).node (h.node i g)) (lt-ltb (parent_of t (suc i)) (suc i) (omega arith))) (h.count i g))
        (ap not (none_listed (entry_at t (suc i)) (take (suc i) t) new))
      where
        new : (j : ℕ) → j < length (take (suc i) t) → same_pair (entry_at t (suc i)) (get_or (take (suc i) t) j zero_entry) ≡ false
        new j l =
            let k = length-take (suc i) t in
            let q : j < suc i = omega arith in
            rw (get_or-take (suc i) t j zero_entry q) (pair_differs (entry_at t (suc i)) (entry_at t j) (h.pair j (suc i) q g))

    go : (i : ℕ) → i < length (drop 1 t) → keeps_entry t (1 + i) (get_or (drop 1 t) i zero_entry) ≡ true
    go i g =
        let q : 1 + i ≡ suc i = omega arith in
        let l : suc i < length t = let k = length-drop 1 t in omega arith in
        rw (get_or-drop 1 t i zero_entry, q) (entry_kept i l)
