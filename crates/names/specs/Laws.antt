-- What holds of the order of names, beyond what a comparison answers. proofs/NameLaws.antt has that all of it holds.
use Rattle.std.specs.Prelude.{◌≡◌, List, ◌∷◌, ◌++◌, ◌⊎◌, true}
use Rattle.names.specs.declared.Tuple.{Tuple}
use Rattle.std.specs.declared.cmp.Ordering.TheVariants.{Less, Equal, Greater}
use Rattle.names.specs.Ordering.{Row, compare_tuples, compare_rows, rising, ◌<ᵗ◌, ◌<ⁿ◌, Rising}
use Rattle.names.specs.Names.{m, M, ordinary, lowered, one_below}

pub record Laws : Type 0 where
  -- "Names compare at the first tuple that differs": the comparison answers what the relation says, so of two names one is below
  -- the other or they are the same
  pub less : (a b : Row) → compare_rows a b ≡ Less → a <ⁿ b
  pub same : (a b : Row) → compare_rows a b ≡ Equal → a ≡ b
  pub more : (a b : Row) → compare_rows a b ≡ Greater → b <ⁿ a
  -- so do those of tuples, and the test and the relation "strictly rising"
  pub tuple_less : (s t : Tuple) → compare_tuples s t ≡ Less → s <ᵗ t
  pub tuple_same : (s t : Tuple) → compare_tuples s t ≡ Equal → s ≡ t
  pub tuple_more : (s t : Tuple) → compare_tuples s t ≡ Greater → t <ᵗ s
  pub test_rises : (l : List Row) → rising l ≡ true → Rising l
  pub rises_test : {l : List Row} → Rising l → rising l ≡ true
  -- it is a strict order
  pub not_below_itself : {a : Row} → ¬ (a <ⁿ a)
  pub in_turn : {a b c : Row} → a <ⁿ b → b <ⁿ c → a <ⁿ c
  -- "a proper prefix is smaller"
  pub prefix : (a : Row) (t : Tuple) (b : Row) → a <ⁿ a ++ (t ∷ b)
  -- the same tuples before both names change nothing
  pub joined : (a : Row) {x y : Row} → x <ⁿ y → a ++ x <ⁿ a ++ y
  pub taken_off : (a : Row) {x y : Row} → a ++ x <ⁿ a ++ y → x <ⁿ y
  -- m is below every ordinary tuple, and M above
  pub m_low : (t : Tuple) → ordinary t ≡ true → m <ᵗ t
  pub M_high : (t : Tuple) → ordinary t ≡ true → t <ᵗ M
  -- "One below" is below, and no tuple lies between a tuple and the one that is one offset lower
  pub one_below_lem : (t : Tuple) (a : Row) → one_below (t ∷ a) <ⁿ t ∷ a
  pub next_below : {s t : Tuple} → s <ᵗ t → (s ≡ lowered t) ⊎ (s <ᵗ lowered t)
