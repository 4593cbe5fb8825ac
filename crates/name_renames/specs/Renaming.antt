-- Renaming one name and taking it back: document 01, "Renaming one name" and "Taking it back"; 001, algorithm 1 (section
-- 4.2) with appendix B, and algorithm 2 (section 5.3) with appendix C. A log is the list of its names, r0 first. A name is a
-- row of any number of tuples: the limit is asked apart, of results. −1 is written `negsuc 0`. Here the two are defined so that they
-- compute; specs/Rules.antt has 01's table and bullets line by line, and proofs/Rules.antt that these are they.
use Rattle.std.specs.Prelude.{ℕ, suc, List, [], ◌∷◌, ◌++◌, Bool, true, ◌&&◌, not, eqb, ℤ, pos, negsuc}
use Rattle.names.specs.declared.Tuple.{Tuple}
use Rattle.names.specs.declared.Author.{Author}
use Rattle.std.specs.declared.cmp.Ordering.{Ordering}
use Rattle.std.specs.declared.cmp.Ordering.TheVariants.{Less, Equal, Greater}
use Rattle.name_renames.specs.declared.Case.{Case}
use Rattle.name_renames.specs.declared.Case.TheVariants.{KeepBelow, PutBelow, Logged, Between, PutAbove, KeepAbove}
use Rattle.names.specs.Ordering.{Row, compare_tuples, compare_rows}
use Rattle.names.specs.Names.{m, M, one_below}

-- ── by a comparison ──

-- one of three: where the first is below the second, where they are the same, where it is above
abbrev pub choose : {A : Type 0} → Ordering → A → A → A → A
choose Less a b c = a
choose Equal a b c = b
choose Greater a b c = c

-- a where the name x is below y, otherwise b
abbrev pub if_below : {A : Type 0} → Row → Row → A → A → A
if_below x y a b = choose (compare_rows x y) a b b

-- a where the name x is above y, otherwise b
abbrev pub if_above : {A : Type 0} → Row → Row → A → A → A
if_above x y a b = choose (compare_rows x y) b b a

-- a where the name x is not below y, otherwise b
abbrev pub if_not_below : {A : Type 0} → Row → Row → A → A → A
if_not_below x y a b = choose (compare_rows x y) b a a

-- a where the name x is not above y, otherwise b
abbrev pub if_not_above : {A : Type 0} → Row → Row → A → A → A
if_not_above x y a b = choose (compare_rows x y) a a b

-- a where the tuples s and t are the same, otherwise b
abbrev pub if_same : {A : Type 0} → Tuple → Tuple → A → A → A
if_same s t a b = choose (compare_tuples s t) b a b

-- ── the log ──

-- "p = position of r0's first tuple"
abbrev pub first_position : List Row → ℕ
first_position [] = 0
first_position ([] ∷ log) = 0
first_position ((t ∷ r) ∷ log) = t.position

-- ── renaming one name: 001, algorithm 1 and appendix B ──

module _ (p : ℕ) (author : Author) where
  -- (p, A, s, z)
  abbrev pub lead : ℤ → Tuple
  lead z = record { position = p; node = author.node; sequence = author.sequence; offset = z }

  -- "N(k) = the name (p, A, s, k)"
  abbrev pub N : ℕ → Row
  N k = lead (pos k) ∷ []

  -- The cases of 01's table are the type `Case` (src/lib.rt), one constructor for each line, in the table's order.
  -- The case of a name x above r(k), by the rest of the log after r(k): x is below r(k+1), equal to it, or above it and so on;
  -- after the last name, where k = n − 1, it is below N(n−1) or not.
  unfoldable pub case_above : ℕ → List Row → Row → Case
  case_above k [] x = if_below x (N k) (PutAbove k) KeepAbove
  case_above k (r ∷ rest) x = choose (compare_rows x r) (Between k) (Logged (suc k)) (case_above (suc k) rest x)

  -- The case of a name x: it is below r0, equal to it, or above it. (A log has at least one name; with none, names stay.)
  unfoldable pub case_of : List Row → Row → Case
  case_of [] x = KeepBelow
  case_of (r ∷ rest) x = choose (compare_rows x r) (if_below x (N 0) KeepBelow PutBelow) (Logged 0) (case_above 0 rest x)

  -- what a case makes of x: the second column of the table
  unfoldable pub become : Case → Row → Row
  become KeepBelow x = x
  become PutBelow x = lead (negsuc 0) ∷ x
  become (Logged k) x = N k
  become (Between k) x = N k ++ x
  become (PutAbove k) x = N k ++ x
  become KeepAbove x = x

-- renaming: what the case of x makes of x
unfoldable pub rename : Author → List Row → Row → Row
rename author log x = become (first_position log) author (case_of (first_position log) author log x) x

-- "Fresh means: no name in page or log has (A, s) as node and sequence of its first tuple." Of one name.
unfoldable pub fresh : Author → Row → Bool
fresh author [] = true
fresh author (t ∷ x) = not (eqb t.node author.node && eqb t.sequence author.sequence)

-- ── taking it back: 001, algorithm 2 and appendix C ──

-- "If v is below r0 the result is v, else one below r0, then M, then v", with any name of the log for r0. Algorithm 4 has
-- createIdFromBase(firstId, offset) with the offset of firstId itself, so that its result is above r0; 01 lowers it.
unfoldable pub under : Row → Row → Row
under r v = if_below v r v (one_below r ++ (M ∷ v))

-- "If v is above r(n−1) the result is v, else r(n−1)·m·v", with any name of the log for r(n−1) and w for the first v.
-- Algorithm 4 lets v be the result where it equals the logged name, and so meets it; here equal counts as not above.
unfoldable pub over : Row → Row → Row → Row
over r v w = if_above v r w (r ++ (m ∷ v))

-- t, where c = (its first tuple)·t
abbrev pub tail : Row → Row
tail [] = []
tail (h ∷ t) = t

-- "c between N(k) and N(k+1), so c = N(k)·t: if t is not above r(k), r(k)·m·t. If t is not below r(k+1), one below r(k+1),
-- then M, then t. Otherwise t." Here r is r(k) and q is r(k+1). Algorithm 2 asks for "below" and "above" instead, so that a t that
-- equals a logged name meets it.
abbrev pub back_between : Row → Row → Row → Row
back_between r q t = if_not_above t r (r ++ (m ∷ t)) (if_not_below t q (one_below q ++ (M ∷ t)) t)

module _ (p : ℕ) (author : Author) where
  -- "v is t where c = (p, A, s, −1)·t with t not empty and t not below N(0); otherwise v is c." (An empty t is below N(0).)
  -- Algorithm 4 strips (p, A, s, −1) from every name that has it; a tail below N(0) then passes its left neighbours.
  unfoldable pub strip_below : Row → Row
  strip_below [] = []
  strip_below (h ∷ t) = if_same h (lead p author (negsuc 0)) (if_below t (N p author 0) (h ∷ t) t) (h ∷ t)

  -- "v is t where c = N(n−1)·t and t is below N(n−1); otherwise v is c", with k = n − 1. Algorithm 4 asks first whether the
  -- whole of c is below r(n−1), and puts c, not t, behind r(n−1)·m where it is.
  unfoldable pub strip_above : ℕ → Row → Row
  strip_above k [] = []
  strip_above k (h ∷ t) = if_same h (lead p author (pos k)) (if_below t (N p author k) t (h ∷ t)) (h ∷ t)

  -- "c below N(0): v is ..; otherwise v is c. If v is below r0 the result is v, else one below r0, then M, then v." Algorithm 4
  -- returns a name without (p, A, s, −1) as it is, also where it is not below r0.
  abbrev pub back_below : Row → Row → Row
  back_below r c = under r (strip_below c)

  -- "c above N(n−1): v is ..; otherwise v is c. If v is above r(n−1) the result is v, else r(n−1)·m·v."
  abbrev pub back_above : ℕ → Row → Row → Row
  back_above k r c = over r (strip_above k c) (strip_above k c)

  -- A name c that is not below N(k), by r(k) and the rest of the log after it: c is between N(k) and N(k+1), or above N(n−1), or
  -- neither, and then "c = N(k), 0 ≤ k < n: r(k)."
  unfoldable pub back_from : ℕ → Row → List Row → Row → Row
  back_from k r [] c = if_above c (N p author k) (back_above k r c) r
  back_from k r (q ∷ rest) c = if_below c (N p author (suc k)) (if_above c (N p author k) (back_between r q (tail c)) r) (back_from (suc k) q rest c)

  -- Any name c: it is below N(0) or not. (With no log, names stay.)
  unfoldable pub back_of : List Row → Row → Row
  back_of [] c = c
  back_of (r ∷ rest) c = if_below c (N p author 0) (back_below r c) (back_from 0 r rest c)

-- taking back a name c of the child epoch
unfoldable pub take_back : Author → List Row → Row → Row
take_back author log c = back_of (first_position log) author log c
