-- `one_name::is_unmarked` meets its contract. Assumes nothing.
use mathlib.Core.Path.{◌≡◌, ◌∙◌, sym, ap, refl}
use mathlib.Core.Bool.{Bool, true, false, not}
use mathlib.Core.List.{List}
use Prim.Native.Nat.{ℕ, ◌+◌, ◌-◌, ◌*◌, ◌≤◌, ◌<◌}
use native.Mathlib.Omega.{arith}
use native.Mathlib.Decide.{dec_lt}
use lib.ListN.{length, get_or, drop, length-drop}
use lib.Seq.{get_or-drop}
use Rattle.std.proofs.Common.{rules, tests}
use Rattle.std.proofs.lemmas.Iterator.{YieldsList-from_range, cases_from_all}
use Rattle.std.proofs.lemmas.List.{get_or_default}
use Rattle.std.proofs.lemmas.List.FromFn.{get_or-range_with_len, length-range_with_len}
use Rattle.std.proofs.lemmas.List.Folds.{list_all_at}
use Rattle.std.proofs.lemmas.List.Sums.{list_all-from_AllPass}
use Rattle.std.specs.Bool.{MatchBool}
use Rattle.std.specs.List.{range_with_len, AllWithin, HoldsAt}
use Rattle.names.specs.declared.Tuple.{Tuple}
use Rattle.names.specs.Ordering.{Row}
use Rattle.names.specs.Names.{marker, m}
use Rattle.names.proofs.Validity.{Valid, name_valid}
use Rattle.slots.specs.Tuples.{tuple_at, tuples_at, row_at, tuple_size}
use Rattle.slots.proofs.TuplesInBytes.{length_tuples_at, get_or_tuples_at}
use Rattle.numbers.proofs.Bools.{and_0}
use Rattle.numbers.proofs.Every.{every_at}
use Rattle.numbers.specs.Bytes.{Bytes}
use Rattle.one_name.specs.Markers.{unmarked}
use Rattle.one_name.proofs.Unmarked.{name_some, last_free}
use Rattle.one_name.proofs.is_unmarked.Goals as goal

abbrev plain : Tuple → Bool
plain t = not (marker t)

-- the tuples before the last were tested
module _ (s : Bytes) (p n from : ℕ) (v : Valid (tuples_at s p n)) where
  abbrev row : Row
  row = tuples_at s p n

  abbrev inner : List ℕ
  inner = range_with_len from (n - 1 - from)

  tuple_is : (k : ℕ) → from + k < n → get_or (drop from row) k m ≡ tuple_at s (p + tuple_size * (from + k))
  tuple_is k h = get_or-drop from row k m ∙ get_or_tuples_at s p n (from + k) h

  each : AllWithin (λ i. marker (tuple_at s (p + tuple_size * i)) ≡ false) inner 0 (length inner) → (k : ℕ) → k < length (drop from row) → plain (get_or (drop from row) k m) ≡ true
  each f k h =
      let l : from + k < n = omega (arith, length-drop from row, length_tuples_at s p n) in
      elim (dec_lt k (n - 1 - from)) [
        | yes g ↦
            let i : k < length inner = rw length-range_with_len g in
            ap plain (tuple_is k l) ∙ ap (λ (j : ℕ). plain (tuple_at s (p + tuple_size * j))) (sym (get_or-range_with_len from (n - 1 - from) k 0 g)) ∙ ap not (f k 0 (omega arith) i)
        | no g ↦
            let last : length row ≤ from + k + 1 = omega (arith, length_tuples_at s p n) in
            let e = every_at plain row (from + k) m (omega (arith, length_tuples_at s p n)) refl ∙ sym (last_free (from + k) v last) in
            ap plain (get_or-drop from row k m) ∙ and_0 (plain (get_or row (from + k) m)) (unmarked (drop (from + k + 1) row)) e
      ]

  tested : (r : Bool) → MatchBool r (AllWithin (λ i. marker (tuple_at s (p + tuple_size * i)) ≡ false) inner 0 (length inner))
      ((k : ℕ) × (k < length inner) × HoldsAt (λ i. marker (tuple_at s (p + tuple_size * i)) ≡ true) inner k) → r ≡ unmarked (drop from row)
  tested true f = sym (list_all-from_AllPass plain (drop from row) (λ k d h. ap plain (get_or_default (drop from row) k d m h) ∙ each f k h))
  tested false (k, h, e) =
      let g : k < n - 1 - from = rw length-range_with_len at h in
      let i = tuple_is k (omega arith) ∙ ap (λ (j : ℕ). tuple_at s (p + tuple_size * j)) (sym (get_or-range_with_len from (n - 1 - from) k 0 g)) in
      sym (list_all_at plain (drop from row) k m (omega (arith, length-drop from row, length_tuples_at s p n)) (ap plain i ∙ ap not (e 0)))

pub overflow_sub-x : goal.overflow_sub-x
overflow_sub-x c =
    let x = row_at c.args.s.now c.args.x in
    omega (arith, name_some (name_valid x c.requires.1), length_tuples_at c.args.s.now c.args.x.at c.args.x.count)

pub returns : goal.returns
returns c =
    let x = c.args.x in
    let s = c.args.s.now in
    let a = row_at s x in
    let n = x.count - 1 - c.args.from in
    let Yes = λ (i : ℕ). marker (tuple_at s (x.at + tuple_size * i)) ≡ false in
    let No = λ (i : ℕ). marker (tuple_at s (x.at + tuple_size * i)) ≡ true in
    tested s x.at x.count c.args.from (name_valid a c.requires.1) c.all.result (cases_from_all _ _ c.all.result Yes No c.all.ensures.ran (YieldsList-from_range c.args.from (x.count - 1) n refl refl) (λ i q k. search (rules, tests)) (λ i q k. search (rules, tests)))
