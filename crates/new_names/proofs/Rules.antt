-- The rule for new names, way by way, as the code takes it. Assumes nothing.
use mathlib.Core.Path.{◌≡◌, refl}
use mathlib.Core.Logic.{◌⊎◌, inl, inr}
use mathlib.Core.List.{[], ◌∷◌, ◌++◌}
use mathlib.Core.Option.{none, some}
use mathlib.Core.Bool.{Bool, true, false, cond}
use Prim.Native.Nat.{ℕ, ◌+◌, ◌/◌, ◌<◌, ◌≤◌}
use native.Mathlib.Nat.{not-suc-le-zero}
use native.Mathlib.Omega.{arith}
use borrow.Author.Tests.{le-leb, lt-leb, eq-eqb, ne_eqb}
use lib.ListN.{length, get_or, drop}
use lib.Seq.{drop-cons}
use lib.Signed.{non_neg}
use Rattle.names.specs.declared.Author.{Author}
use Rattle.names.specs.declared.Tuple.{Tuple}
use Rattle.names.specs.Ordering.{Row, compare_tuples}
use Rattle.std.specs.Ordering.{is_eq}
use Rattle.names.specs.Names.{lowered, m}
use Rattle.new_names.specs.NewNames.{first_before, first_after, rest, own, before_tuple, close_by, new_name}

-- ── before b's first tuple after a ──

module _ (author : Author) (a : Row) (y : Tuple) where
  pub half : 2 ≤ y.position → some (a ++ (own author (y.position / 2) ∷ [])) ≡ before_tuple author a y
  unfolding before_tuple
  half h = simp (le-leb 2 y.position h)

  pub lower : y.position ≡ 1 → non_neg y.offset ≡ true → some (a ++ (lowered y ∷ own author 32768 ∷ [])) ≡ before_tuple author a y
  unfolding before_tuple
  lower e h = let l : y.position < 2 = omega arith in simp (lt-leb 2 y.position l, eq-eqb y.position 1 e, h)

  pub no_position : y.position < 2 → (y.position ≡ 1 → ⊥) → none ≡ before_tuple author a y
  unfolding before_tuple
  no_position l e = simp (lt-leb 2 y.position l, ne_eqb y.position 1 e)

  pub no_offset : y.position ≡ 1 → non_neg y.offset ≡ false → none ≡ before_tuple author a y
  unfolding before_tuple
  no_offset e h = let l : y.position < 2 = omega arith in simp (lt-leb 2 y.position l, eq-eqb y.position 1 e, h)

-- ── by what follows a in b ──

no_rest : (a b : Row) → length b ≤ length a → (rest a b ≡ some []) ⊎ (rest a b ≡ none)
unfolding rest
no_rest [] [] h = inl refl
no_rest [] (t ∷ b) h = absurd (not-suc-le-zero h)
no_rest (s ∷ a) [] h = inr refl
no_rest (s ∷ a) (t ∷ b) h = go (is_eq (compare_tuples s t)) (no_rest a b (omega arith))
  where
    go : (c : Bool) → (rest a b ≡ some []) ⊎ (rest a b ≡ none) → (cond c (rest a b) none ≡ some []) ⊎ (cond c (rest a b) none ≡ none)
    go true r = r
    go false r = inr refl

module _ (author : Author) (a b : Row) where
  pub close_short : length b ≤ length a → some (a ++ (own author 32768 ∷ [])) ≡ close_by author a (rest a b)
  unfolding close_by
  close_short h = elim (no_rest a b h) [ inl e ↦ rw e | inr e ↦ rw e ]

  -- r tells whether a is a prefix of b, and then b's tuples from number n on follow it
  module _ (n : ℕ) {r : Bool} (e : rest a b ≡ cond r (some (drop n b)) none) where
    pub close_apart : r ≡ false → some (a ++ (own author 32768 ∷ [])) ≡ close_by author a (rest a b)
    unfolding close_by
    close_apart f = rw (e, f)

    pub close_before : {y : Tuple} → r ≡ true → n < length b → y ≡ get_or b n m → before_tuple author a y ≡ close_by author a (rest a b)
    unfolding close_by
    close_before f h g = rw (e, f, drop-cons b n m h, g)

  -- ── by first positions ──

  pub new_apart : first_before a + 2 ≤ first_after b → some (own author ((first_before a + first_after b) / 2) ∷ []) ≡ new_name author a b
  unfolding new_name
  new_apart h = simp (le-leb (first_before a + 2) (first_after b) h)

  pub new_close : first_after b < first_before a + 2 → close_by author a (rest a b) ≡ new_name author a b
  unfolding new_name
  new_close h = simp (lt-leb (first_before a + 2) (first_after b) h)
