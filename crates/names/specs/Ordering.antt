-- The order of tuples and of names: document 01, "Names", and 001, section 2.1. It stands here twice: as the comparison
-- that a function computes, and as the relation "below", with one constructor for each reason. specs/Laws.antt has that
-- the two agree, and the laws of the order.
use Rattle.std.specs.Prelude.{ℕ, ◌<◌, ◌≡◌, List, [], ◌∷◌, Bool, true, false, ◌&&◌, ltb, ℤ, pos, negsuc}
use Rattle.std.specs.Int.Signed.{lt_z}
use Rattle.std.specs.Ordering.{is_lt, ordering_then}
use Rattle.names.specs.declared.Tuple.{Tuple}
use Rattle.std.specs.declared.cmp.Ordering.{Ordering}
use Rattle.std.specs.declared.cmp.Ordering.TheVariants.{Less, Equal, Greater}

-- "A name is a row of .. tuples": the list of them. a·b, "the tuples of a, then those of b", is `a ++ b`.
abbrev pub Row : Type 0
Row = List Tuple

-- ── the comparison ──

-- by whether the first is below the second, and the second below the first
abbrev pub by_tests : Bool → Bool → Ordering
by_tests true b = Less
by_tests false true = Greater
by_tests false false = Equal

abbrev pub compare_ℕ : ℕ → ℕ → Ordering
compare_ℕ a b = by_tests (ltb a b) (ltb b a)

abbrev pub compare_ℤ : ℤ → ℤ → Ordering
compare_ℤ a b = by_tests (lt_z a b) (lt_z b a)

-- "Tuples compare by position, node, sequence, offset, in that order, offset signed."
unfoldable pub compare_tuples : Tuple → Tuple → Ordering
compare_tuples s t =
    ordering_then (compare_ℕ s.position t.position)
    (ordering_then (compare_ℕ s.node t.node)
    (ordering_then (compare_ℕ s.sequence t.sequence) (compare_ℤ s.offset t.offset)))

-- "Names compare at the first tuple that differs; a proper prefix is smaller (001, section 2.1)."
unfoldable pub compare_rows : Row → Row → Ordering
compare_rows [] [] = Equal
compare_rows [] (t ∷ b) = Less
compare_rows (s ∷ a) [] = Greater
compare_rows (s ∷ a) (t ∷ b) = ordering_then (compare_tuples s t) (compare_rows a b)

-- "strictly rising names"
unfoldable pub rising : List Row → Bool
rising [] = true
rising (a ∷ []) = true
rising (a ∷ b ∷ l) = is_lt (compare_rows a b) && rising (b ∷ l)

-- ── the relation ──

infix 4 ◌<ᶻ◌ ◌<ᵗ◌ ◌<ⁿ◌ ◌≤ⁿ◌
pub data ◌<ᶻ◌ : ℤ → ℤ → Type 0 where
  up : {a b : ℕ} → a < b → pos a <ᶻ pos b
  across : {a b : ℕ} → negsuc a <ᶻ pos b
  down : {a b : ℕ} → b < a → negsuc a <ᶻ negsuc b

pub data ◌<ᵗ◌ (s t : Tuple) : Type 0 where
  position : s.position < t.position → s <ᵗ t
  node : s.position ≡ t.position → s.node < t.node → s <ᵗ t
  sequence : s.position ≡ t.position → s.node ≡ t.node → s.sequence < t.sequence → s <ᵗ t
  offset : s.position ≡ t.position → s.node ≡ t.node → s.sequence ≡ t.sequence → s.offset <ᶻ t.offset → s <ᵗ t

pub data ◌<ⁿ◌ : Row → Row → Type 0 where
  ends : {t : Tuple} {b : Row} → [] <ⁿ t ∷ b
  differ : {s t : Tuple} {a b : Row} → s <ᵗ t → s ∷ a <ⁿ t ∷ b
  same : {s t : Tuple} {a b : Row} → s ≡ t → a <ⁿ b → s ∷ a <ⁿ t ∷ b

pub data ◌≤ⁿ◌ (a b : Row) : Type 0 where
  less : a <ⁿ b → a ≤ⁿ b
  equal : a ≡ b → a ≤ⁿ b

pub data Rising : List Row → Type 0 where
  none : Rising []
  one : {a : Row} → Rising (a ∷ [])
  more : {a b : Row} {l : List Row} → a <ⁿ b → Rising (b ∷ l) → Rising (a ∷ b ∷ l)
