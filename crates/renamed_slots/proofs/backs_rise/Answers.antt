use mathlib.Core.Path.{◌≡◌, ◌∙◌, sym, ap}
use mathlib.Core.Bool.{true, false}
use borrow.Author.Tests.{lt-ltb, le-ltb}
use lib.Dec.{ltb}
use Prim.Native.Nat.{ℕ, min, ◌+◌, ◌≤◌, ◌<◌}
use native.Mathlib.Decide.{dec_le, dec_lt}
use native.Mathlib.Omega.{arith}
use lib.ListN.{length, get_or}
use lib.Seq.{take_all}
use Rattle.std.specs.declared.cmp.Ordering.{Ordering}
use Rattle.names.specs.declared.Tuple.{Tuple}
use Rattle.names.specs.Ordering.{Row, compare_tuples, compare_rows}
use Rattle.std.specs.Ordering.{ordering_then, is_lt}
use Rattle.names.specs.Names.{m}
use Rattle.names.proofs.CompareTuples.{left, left_same, left_less, left_more, left_at}
use Rattle.renamed_slots.proofs.backs_rise.Goals as goal
use Rattle.renamed_slots.proofs.backs_rise.Invariants.{back_of}

-- from number i on, of a with n tuples and b with k
module _ (a b : Row) (n k i : ℕ) (e : n ≡ length a) (f : k ≡ length b) where
  long : n ≤ length a
  long = omega arith

  long' : k ≤ length b
  long' = omega arith

  -- nothing is below a row of no tuples
  none_left : k ≤ i → false ≡ is_lt (left a b n k i)
  none_left h = elim (dec_le n i) [
    | yes g ↦ ap is_lt (left_same a b n k i m long long' g h)
    | no g ↦ ap is_lt (left_more a b n k i m long long' (omega arith) h)
  ]

  -- "a proper prefix is smaller"
  prefix : n ≤ i → i < k → true ≡ is_lt (left a b n k i)
  prefix g h = ap is_lt (left_less a b n k i m long long' g h)

  -- at the end of the shorter
  ends : i ≡ min n k → ltb n k ≡ is_lt (left a b n k i)
  ends h = elim (dec_lt n k) [
    | yes g ↦ lt-ltb n k g ∙ prefix (omega (arith, h)) (omega (arith, h))
    | no g ↦ le-ltb n k (omega arith) ∙ none_left (omega (arith, h))
  ]

  -- the tuples at i compare as o
  turn : {s t : Tuple} {r o : Ordering} → s ≡ get_or a i m → t ≡ get_or b i m → r ≡ compare_tuples s t → r ≡ o → i < n → i < k →
      is_lt (ordering_then o (left a b n k (i + 1))) ≡ is_lt (left a b n k i)
  turn p q c d g h = ap is_lt (left_at a b n k i m long long' (sym d ∙ c ∙ (λ j. compare_tuples (p j) (q j))) g h)

pub loop-i-init : goal.loop-i-init
loop-i-init c =
    let x = c.args in
    let a = back_of x.first.now x.log.now x.a in
    let b = back_of x.second.now x.log.now x.b in
    λ i. is_lt (compare_rows (take_all c.count_back-n.result a (omega (arith, c.count_back-n.ensures)) i) (take_all c.count_back-m.result b (omega (arith, c.count_back-m.ensures)) i))

pub tuple_back-requires : goal.tuple_back-requires
tuple_back-requires c = (c.requires.first_value.0, c.requires.first_value.2, c.requires.stands.0, omega (arith, c.loop-i-test.true, c.min-i-end.ensures, c.count_back-n.ensures))

pub tuple_back-requires-in-loop-i : goal.tuple_back-requires-in-loop-i
tuple_back-requires-in-loop-i c = (c.requires.first_value.1, c.requires.first_value.2, c.requires.stands.1, omega (arith, c.loop-i-test.true, c.min-i-end.ensures, c.count_back-m.ensures))

pub loop-i-preserved : goal.loop-i-preserved
loop-i-preserved c =
    turn _ _ _ _ _ c.count_back-n.ensures c.count_back-m.ensures c.tuple_back.ensures c.tuple_back-in-loop-i.ensures c.compare_tuples.ensures c.in-Equal.is (omega (arith, c.loop-i-test.true, c.min-i-end.ensures)) (omega (arith, c.loop-i-test.true, c.min-i-end.ensures)) ∙ c.loop-i.invariant

pub returns-in-Less : goal.returns-in-Less
returns-in-Less c =
    turn _ _ _ _ _ c.count_back-n.ensures c.count_back-m.ensures c.tuple_back.ensures c.tuple_back-in-loop-i.ensures c.compare_tuples.ensures c.in-Less.is (omega (arith, c.loop-i-test.true, c.min-i-end.ensures)) (omega (arith, c.loop-i-test.true, c.min-i-end.ensures)) ∙ c.loop-i.invariant

pub returns-in-Greater : goal.returns-in-Greater
returns-in-Greater c =
    turn _ _ _ _ _ c.count_back-n.ensures c.count_back-m.ensures c.tuple_back.ensures c.tuple_back-in-loop-i.ensures c.compare_tuples.ensures c.in-Greater.is (omega (arith, c.loop-i-test.true, c.min-i-end.ensures)) (omega (arith, c.loop-i-test.true, c.min-i-end.ensures)) ∙ c.loop-i.invariant

pub returns : goal.returns
returns c = ends _ _ _ _ _ c.count_back-n.ensures c.count_back-m.ensures (omega (arith, c.loop-i-test.false, c.loop-i.auto.i-end, c.min-i-end.ensures)) ∙ c.loop-i.invariant
