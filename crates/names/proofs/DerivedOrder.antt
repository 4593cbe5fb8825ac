-- The derived order of numbers (`nat_is`, `int_is`) and of tuples, field by field, is the comparison of 01 (`tuples_ordered`), and that of slices the comparison
-- of rows (`rows_ordered`).
-- Assumes nothing.
use mathlib.Core.Path.{◌≡◌, ◌∙◌, refl}
use mathlib.Core.List.{[], ◌∷◌}
use mathlib.Core.Bool.{Bool, true, false}
use Prim.Native.Nat.{ℕ, ◌<◌}
use lib.IntN.{ℤ}
use Rattle.std.specs.Prelude.{cond}
use Rattle.std.specs.declared.cmp.Ordering.{Ordering}
use Rattle.std.specs.declared.cmp.Ordering.TheVariants.{Less, Equal, Greater}
use Rattle.std.specs.Ordering.{MatchOrdering, nat_cmp, int_cmp, ordering_then}
use Rattle.std.specs.Int.Signed.{lt_z}
use Rattle.std.specs.Cmp.{nat_cmp_is}
use Rattle.std.specs.Cmp.Lexicographic.{slice_cmp}
use Rattle.names.specs.declared.Tuple.{Tuple}
use Rattle.names.specs.Ordering.{Row, by_tests, compare_ℕ, compare_ℤ, compare_tuples, compare_rows}
use Rattle.names.proofs.Laws.{Tri, below, level, above, tri_ℕ}

ranked : {a b : ℕ} (o : Ordering) → Tri ◌<◌ a b o → MatchOrdering o (a < b) (a ≡ b) (b < a)
ranked _ (below h) = h
ranked _ (level h) = h
ranked _ (above h) = h

pub nat_is : (a b : ℕ) → compare_ℕ a b ≡ nat_cmp a b
nat_is a b = nat_cmp_is a b (compare_ℕ a b) (ranked (compare_ℕ a b) (tri_ℕ a b))

tests_are : (p q : Bool) → by_tests p q ≡ cond p Less (cond q Greater Equal)
tests_are true q = refl
tests_are false true = refl
tests_are false false = refl

pub int_is : (a b : ℤ) → compare_ℤ a b ≡ int_cmp a b
int_is a b = tests_are (lt_z a b) (lt_z b a)

pub tuples_ordered : (s t : Tuple) → ordering_then (nat_cmp s.position t.position) (ordering_then (nat_cmp s.node t.node) (ordering_then (nat_cmp s.sequence t.sequence) (int_cmp s.offset t.offset))) ≡ compare_tuples s t
unfolding compare_tuples
tuples_ordered s t = rw (nat_is s.position t.position, nat_is s.node t.node, nat_is s.sequence t.sequence, int_is s.offset t.offset)

pub rows_ordered : (R : Tuple → Tuple → Ordering) → ((s t : Tuple) → R s t ≡ compare_tuples s t) → (a b : Row) → slice_cmp R a b ≡ compare_rows a b
unfolding compare_rows
rows_ordered R f [] [] = refl
rows_ordered R f [] (t ∷ b) = refl
rows_ordered R f (s ∷ a) [] = refl
rows_ordered R f (s ∷ a) (t ∷ b) = λ i. ordering_then (f s t i) (rows_ordered R f a b i)

-- two slices compare as the rows that they are
pub rows_compared : {o : Ordering} {x y a b : Row} → o ≡ slice_cmp (λ (s t : Tuple). ordering_then (nat_cmp s.position t.position) (ordering_then (nat_cmp s.node t.node) (ordering_then (nat_cmp s.sequence t.sequence) (int_cmp s.offset t.offset)))) x y → x ≡ a → y ≡ b → o ≡ compare_rows a b
rows_compared {x = x} {y = y} e p q = e ∙ rows_ordered _ tuples_ordered x y ∙ (λ i. compare_rows (p i) (q i))

-- numbers that differ decide
pub differ_decides : (a b : ℕ) (o : Ordering) → ¬ (a ≡ b) → compare_ℕ a b ≡ ordering_then (compare_ℕ a b) o
differ_decides a b o f = go (compare_ℕ a b) (tri_ℕ a b)
  where
    go : (r : Ordering) → Tri ◌<◌ a b r → r ≡ ordering_then r o
    go _ (below h) = refl
    go _ (level e) = absurd (f e)
    go _ (above h) = refl
