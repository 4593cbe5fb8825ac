-- The laws of specs/Counts.antt hold (`laws`). Assumes nothing.
use mathlib.Core.Path.{◌≡◌, refl, sym, ap, ◌∙◌}
use mathlib.Core.List.{List, [], ◌∷◌, ◌++◌}
use mathlib.Core.Logic.{◌⊎◌, inl, inr}
use mathlib.Core.Bool.{true, false}
use Prim.Native.Nat.{ℕ, suc, ◌<◌, ◌≤◌}
use native.Mathlib.Omega.{arith}
use lib.ListN.{length}
use Rattle.std.specs.declared.cmp.Ordering.{Ordering}
use Rattle.std.specs.declared.cmp.Ordering.TheVariants.{Less}
use Rattle.std.specs.Ordering.{ordering_then}
use Rattle.names.proofs.Laws.{ℕ_less, ℕ_same}
use Rattle.numbers.specs.Bytes.{Bytes, at16}
use Rattle.numbers.proofs.Bools.{never}
use Rattle.epoch_tree.specs.Tables.{Entry, entry_at, entries_of, is_table, keeps_table}
use Rattle.epoch_tree.specs.Tree.{parent_of, path, compare_pairs, compare_keys, compare_paths, compare_epochs, Smaller}
use Rattle.epoch_tree.specs.Counts.{compare_by_pairs, EqualCounts, Laws}
use Rattle.epoch_tree.proofs.TableFacts.{Table, table}
use Rattle.epoch_tree.proofs.Routes.{route_ind, path_suc}
use Rattle.epoch_tree.proofs.CompareByParent.{key_same, siblings}
use Rattle.epoch_tree.proofs.TableBytes.{whole, checked, length_entries, entry_at_lem}

fewer : (e f : Entry) → e.count < f.count → compare_keys e f ≡ Less
fewer e f h = ap (λ (o : Ordering). ordering_then o (compare_pairs e f)) (ℕ_less e.count f.count h)

as_many : (e f : Entry) → e.count ≡ f.count → compare_keys e f ≡ compare_pairs e f
as_many e f h = ap (λ (o : Ordering). ordering_then o (compare_pairs e f)) (ℕ_same e.count f.count h)

onwards : (p q r : List Entry) (e f : Entry) → e.count < f.count → compare_paths (p ++ (e ∷ q)) (p ++ (f ∷ r)) ≡ Less
onwards [] q r e f h = ap (λ (o : Ordering). ordering_then o (compare_paths q r)) (fewer e f h)
onwards (x ∷ p) q r e f h = ap (λ (o : Ordering). ordering_then o (compare_paths (p ++ (e ∷ q)) (p ++ (f ∷ r)))) (key_same x) ∙ onwards p q r e f h

-- ── equal counts ──

-- each entry has that count
abbrev Counted : ℕ → List Entry → Type 0
Counted n [] = Unit {0}
Counted n (e ∷ p) = (e.count ≡ n) × Counted n p

counted_end : (n : ℕ) (p : List Entry) (e : Entry) → Counted n p → e.count ≡ n → Counted n (p ++ (e ∷ []))
counted_end n [] e k h = (h, tt)
counted_end n (x ∷ p) e k h = (k.0, counted_end n p e k.1 h)

by_pairs : (n : ℕ) (p q : List Entry) → Counted n p → Counted n q → compare_paths p q ≡ compare_by_pairs p q
by_pairs n [] [] a b = refl
by_pairs n [] (f ∷ q) a b = refl
by_pairs n (e ∷ p) [] a b = refl
by_pairs n (e ∷ p) (f ∷ q) a b = λ i. ordering_then (as_many e f (a.0 ∙ sym b.0) i) (by_pairs n p q a.1 b.1 i)

module _ (t : List Entry) (n : ℕ) (h : Table t) (equal : EqualCounts t n) where
  -- a path is entry 0, and then entries of that count
  abbrev Levelled : ℕ → Type 0
  Levelled i = i < length t → (p : List Entry) × (path t i ≡ entry_at t 0 ∷ p) × Counted n p

  levelled : (i : ℕ) → Levelled i
  levelled = route_ind t h Levelled (λ l. ([], refl, tt)) step
    where
      step : (i : ℕ) → Levelled (parent_of t (suc i)) → Levelled (suc i)
      step i f l =
          let k : parent_of t (suc i) ≤ i = h.parent i in
          let (p, e, c) = f (omega arith) in
          let x = entry_at t (suc i) in
          (p ++ (x ∷ []), path_suc t h i ∙ ap (λ (r : List Entry). r ++ (x ∷ [])) e, counted_end n p x c (equal (suc i) (omega arith) l))

  as_before : (i j : ℕ) → i < length t → j < length t → compare_epochs t i j ≡ compare_by_pairs (path t i) (path t j)
  as_before i j a b =
      let (p, e, c) = levelled i a in
      let (q, f, d) = levelled j b in
      let first = entry_at t 0 in
      (λ z. compare_paths (e z) (f z))
      ∙ (λ z. ordering_then (as_many first first refl z) (by_pairs n p q c d z))
      ∙ sym (λ z. compare_by_pairs (e z) (f z))

under_one :
    (t : List Entry) → is_table t ≡ true → (i j : ℕ) → 1 ≤ i → i < length t → 1 ≤ j → j < length t → parent_of t i ≡ parent_of t j →
    (entry_at t i).count < (entry_at t j).count → Smaller t i j
under_one t k i j a l b m p h = siblings t (table t k) i j a b p ∙ fewer (entry_at t i) (entry_at t j) h

-- ── entries of 8 bytes ──

no_old : (s : Bytes) → (length s ≡ 8) ⊎ (1 ≤ at16 s 8) → keeps_table s ≡ true → ⊥
no_old s o h = elim o [
  | inl l ↦ let w = whole s h in omega arith
  | inr n ↦
      let w = whole s h in
      let some : 0 < length (entries_of s) = (checked s h).some in
      let c = length_entries s in
      let e : at16 s 8 ≡ 0 = ap (λ (x : Entry). x.count) (sym (entry_at_lem s 0 (omega arith)) ∙ (checked s h).first) in
      omega arith
]

old_entries : (s : Bytes) → (length s ≡ 8) ⊎ (1 ≤ at16 s 8) → keeps_table s ≡ false
old_entries s o = never (keeps_table s) (no_old s o)

pub laws : Laws
laws = record {
  fewer = fewer;
  as_many = as_many;
  siblings = under_one;
  onwards = onwards;
  as_before = λ t n k equal. as_before t n (table t k) equal;
  old_entries = old_entries;
}
