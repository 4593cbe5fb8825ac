-- A name that is taken back has at most as many tuples as it has itself, as a name of the log has, and one marker (`back_depth`). Assumes nothing.
use mathlib.Core.List.{List, [], ◌∷◌, ◌++◌}
use Prim.Native.Nat.{ℕ, suc, ◌+◌, ◌<◌, ◌≤◌}
use native.Mathlib.Omega.{arith}
use lib.ListN.{length, length-append}
use Rattle.names.specs.declared.Author.{Author}
use Rattle.std.specs.declared.cmp.Ordering.{Ordering}
use Rattle.std.specs.declared.cmp.Ordering.TheVariants.{Less, Equal, Greater}
use Rattle.names.specs.Ordering.{Row, compare_rows}
use Rattle.names.specs.Names.{m, M, one_below}
use Rattle.names.proofs.Laws.{below_length}
use Rattle.name_renames.specs.Renaming.{choose, N, tail, under, over, strip_below, strip_above, back_between, back_from, back_of, take_back, first_position}
use Rattle.name_renames.proofs.Lists.{at}
use Rattle.name_renames.proofs.Walk.{StripBelow, kept_below, cut_below, strip_below_lem, StripAbove, kept_above, cut_above, strip_above_lem}

-- whichever of three is chosen, it is not longer than the longest may be
chosen : (n : ℕ) (o : Ordering) (a b c : Row) → length a ≤ n → length b ≤ n → length c ≤ n → length (choose o a b c) ≤ n
chosen n Less a b c p q r = p
chosen n Equal a b c p q r = q
chosen n Greater a b c p q r = r

module _ (most bound : ℕ) where
  -- a row that is not too long
  abbrev Short : Row → Type 0
  Short a = length a ≤ most + 1 + bound

  behind_short : (r v : Row) → length r ≤ most → length v ≤ bound → Short (r ++ (m ∷ v))
  behind_short r v h g = omega (arith, length-append r (m ∷ v))

  ahead_short : (r v : Row) → length r ≤ most → length v ≤ bound → Short (one_below r ++ (M ∷ v))
  ahead_short r v h g = omega (arith, length-append (one_below r) (M ∷ v), below_length r)

  under_short : (r v : Row) → length r ≤ most → length v ≤ bound → Short (under r v)
  unfolding under
  under_short r v h g =
      let a = ahead_short r v h g in
      chosen (most + 1 + bound) (compare_rows v r) _ _ _ (omega arith) a a

  over_short : (r v : Row) → length r ≤ most → length v ≤ bound → Short (over r v v)
  unfolding over
  over_short r v h g =
      let a = behind_short r v h g in
      chosen (most + 1 + bound) (compare_rows v r) _ _ _ a a (omega arith)

  between_short : (r q t : Row) → length r ≤ most → length q ≤ most → length t ≤ bound → Short (back_between r q t)
  between_short r q t h i g =
      let a = behind_short r t h g in
      let b = ahead_short q t i g in
      chosen (most + 1 + bound) (compare_rows t r) _ _ _ a a (chosen (most + 1 + bound) (compare_rows t q) _ _ _ (omega arith) b b)

module _ (p : ℕ) (author : Author) where
  below_strips : {c v : Row} → StripBelow p author c v → length v ≤ length c
  below_strips (kept_below s) = omega arith
  below_strips (cut_below e h) = omega arith

  above_strips : {k : ℕ} {c v : Row} → StripAbove p author k c v → length v ≤ length c
  above_strips (kept_above s) = omega arith
  above_strips (cut_above e h) = omega arith

  tail_length : (c : Row) → length (tail c) ≤ length c
  tail_length [] = omega arith
  tail_length (h ∷ t) = omega arith

  module _ (most : ℕ) (c : Row) where
    from_short : (k : ℕ) (r : Row) (rest : List Row) → ((i : ℕ) → i < length (r ∷ rest) → length (at (r ∷ rest) i) ≤ most) → Short most (length c) (back_from p author k r rest c)
    unfolding back_from
    from_short k r [] h =
        let first : length r ≤ most = h 0 (omega arith) in
        let same : Short most (length c) r = omega arith in
        chosen (most + 1 + length c) (compare_rows c (N p author k)) _ _ _ same same (over_short most (length c) r (strip_above p author k c) first (above_strips (strip_above_lem p author k c)))
    from_short k r (q ∷ rest) h =
        let first : length r ≤ most = h 0 (omega arith) in
        let second : length q ≤ most = h 1 (omega arith) in
        let same : Short most (length c) r = omega arith in
        let gap = between_short most (length c) r q (tail c) first second (tail_length c) in
        let on = from_short (suc k) q rest (λ i j. h (suc i) (omega arith)) in
        chosen (most + 1 + length c) (compare_rows c (N p author (suc k))) _ _ _ (chosen (most + 1 + length c) (compare_rows c (N p author k)) _ _ _ same same gap) on on

    back_short : (log : List Row) → ((i : ℕ) → i < length log → length (at log i) ≤ most) → Short most (length c) (back_of p author log c)
    unfolding back_of
    back_short [] h = omega arith
    back_short (r ∷ rest) h =
        let first : length r ≤ most = h 0 (omega arith) in
        let low = under_short most (length c) r (strip_below p author c) first (below_strips (strip_below_lem p author c)) in
        let on = from_short 0 r rest h in
        chosen (most + 1 + length c) (compare_rows c (N p author 0)) _ _ _ low on on

pub back_depth : (author : Author) (log : List Row) (most : ℕ) → ((k : ℕ) → k < length log → length (at log k) ≤ most) → (c : Row) → length (take_back author log c) ≤ most + 1 + length c
unfolding take_back
back_depth author log most h c = back_short (first_position log) author most c log h
