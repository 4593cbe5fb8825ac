-- Rows of tuples as values with zeros after them: their row, one tuple more, and two joined. Assumes nothing.
use Rattle.std.specs.declared.option.Option.TheVariants.{Some, None}
use mathlib.Core.Path.{◌≡◌, refl, ◌∙◌, sym, ap}
use mathlib.Core.List.{[], ◌∷◌, ◌++◌, append_assoc}
use Prim.Native.Nat.{ℕ, suc, ◌+◌, ◌-◌, ◌<◌, ◌≤◌}
use native.Mathlib.Numerals.{add-one}
use native.Mathlib.Omega.{arith}
use borrow.Author.Tests.{le-leb, lt-leb}
use lib.ListN.{length, take, set, get_or, replicate, length-append}
use lib.Seq.{take-append_seam, set_at, take-suc}
use Rattle.names.specs.declared.Tuple.{Tuple}
use Rattle.names.specs.declared.Name.{Name}
use Rattle.names.specs.Ordering.{Row}
use Rattle.names.specs.Names.{limit, row_of, value_of, joined, m}

pub value_row : (a : Row) → row_of (value_of a) ≡ a
value_row a = take-append_seam a (replicate (limit - length a) m)

-- a value is that of its own row
pub value_of_lem : {x : Name} (a : Row) → x ≡ value_of a → x ≡ value_of (row_of x)
value_of_lem {x} a e = e ∙ ap value_of (sym (value_row a) ∙ ap row_of (sym e))

pub row_of_lem : {x : Name} (a : Row) → x ≡ value_of a → row_of x ≡ a
row_of_lem {x} a e = ap row_of e ∙ value_row a

zeros : (n k : ℕ) → n ≡ suc k → replicate n m ≡ m ∷ replicate k m
zeros n k e = ap (λ (j : ℕ). replicate j m) e

-- a tuple stored after the row's own
pub value_more : {x : Name} (a : Row) (t : Tuple) → x ≡ value_of a → length a < limit → record { depth = x.depth + 1; tuples = set x.tuples x.depth t } ≡ value_of (a ++ (t ∷ []))
value_more {x} a t e h =
    let k = limit - length (a ++ (t ∷ [])) in
    let l = length-append a (t ∷ []) in
    let d : x.depth + 1 ≡ length (a ++ (t ∷ [])) = ap (λ (y : Name). y.depth + 1) e ∙ sym l in
    let s : limit - length a ≡ suc k = omega arith in
    let z : set x.tuples x.depth t ≡ (a ++ (t ∷ [])) ++ replicate k m =
    ap (λ (y : Name). set y.tuples y.depth t) e
    ∙ ap (λ (r : Row). set (a ++ r) (length a) t) (zeros (limit - length a) k s)
    ∙ set_at a m (replicate k m) t (length a) refl
    ∙ sym (append_assoc a (t ∷ []) (replicate k m)) in
    λ i. record { depth = d i; tuples = z i }

-- one tuple more of a row that is joined to a
pub take_more : (a l : Row) (i : ℕ) → i < length l → (a ++ take i l) ++ (get_or l i m ∷ []) ≡ a ++ take (i + 1) l
take_more a l i h =
    append_assoc a (take i l) (get_or l i m ∷ []) ∙ ap (λ (r : Row). a ++ r) (sym (ap (λ (n : ℕ). take n l) (add-one i) ∙ take-suc l i m h))

module _ (a b : Row) where
  pub joined_all : length a + length b ≤ limit → Some (value_of (a ++ b)) ≡ joined a b
  joined_all h = simp (le-leb (length (a ++ b)) limit (omega (arith, length-append a b)))

  pub joined_none : limit < length a + length b → None ≡ joined a b
  joined_none h = simp (lt-leb (length (a ++ b)) limit (omega (arith, length-append a b)))
