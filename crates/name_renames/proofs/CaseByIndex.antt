-- The case of 01's table for a name, by where the name lies among the names of the log, read by index: `case_before`, `case_equal`,
-- `case_between`, `case_after`. The k of a case is an index of the log (`logged_within`, `between_within`, `above_within`); and what a case
-- that was found makes of the name is the name renamed (`by_case`). Assumes nothing.
use mathlib.Core.Path.{◌≡◌, ◌∙◌, sym, ap, subst}
use mathlib.Core.List.{List, [], ◌∷◌}
use Prim.Native.Nat.{ℕ, zero, suc, ◌<◌, ◌≤◌}
use native.Mathlib.Nat.{not-suc-le-zero}
use native.Mathlib.Omega.{arith}
use lib.IntN.{ℤ}
use lib.ListN.{length, drop, drop_of_length-le}
use lib.Seq.{drop-cons}
use Rattle.names.specs.declared.Author.{Author}
use Rattle.names.specs.declared.Tuple.{Tuple}
use Rattle.names.specs.Ordering.{Row, ◌<ⁿ◌, Rising}
use Rattle.names.proofs.Laws.{row_less, row_more}
use Rattle.name_renames.specs.declared.Case.{Case}
use Rattle.name_renames.specs.declared.Case.TheVariants.{KeepBelow, PutBelow, Logged, Between, PutAbove, KeepAbove}
use Rattle.name_renames.specs.Renaming.{first_position, lead, N, if_below, case_above, case_of, become, rename}
use Rattle.name_renames.proofs.Lists.{at}
use Rattle.name_renames.proofs.Table.{Says, case_says, case_logged}

-- ── the case, by the log's names below x ──

module _ (p : ℕ) (author : Author) where
  -- the names before r(k) and r(k) are below x
  past : (r : Row) (rest : List Row) (x : Row) (k : ℕ) → k < length (r ∷ rest) → ((i : ℕ) → i < suc k → at (r ∷ rest) i <ⁿ x) → case_of p author (r ∷ rest) x ≡ case_above p author k (drop (suc k) (r ∷ rest)) x
  unfolding case_of case_above
  past r rest x zero h f = rw (row_more (f 0 (omega arith)))
  past r rest x (suc k) h f =
      past r rest x k (omega arith) (λ i j. f i (omega arith))
      ∙ rw (drop-cons (r ∷ rest) (suc k) [] h, row_more (f (suc k) (omega arith)))

  -- "below r0 and below N(0)", "below r0, otherwise"
  pub case_before : (x : Row) (log : List Row) → 1 ≤ length log → x <ⁿ at log 0 → case_of p author log x ≡ if_below x (N p author 0) KeepBelow PutBelow
  unfolding case_of
  case_before x [] n h = absurd (not-suc-le-zero n)
  case_before x (r ∷ rest) n h = rw (row_less h)

  -- "equal to r(k)"
  pub case_equal : (x : Row) (log : List Row) (k : ℕ) → Rising log → k < length log → at log k ≡ x → case_of p author log x ≡ Logged k
  case_equal x [] k o h e = absurd (not-suc-le-zero h)
  case_equal x (r ∷ rest) k o h e = ap (case_of p author (r ∷ rest)) (sym e) ∙ case_logged p author r rest k o h

  -- "between r(k) and r(k+1)"
  pub case_between : (x : Row) (log : List Row) (k : ℕ) → suc k < length log → ((i : ℕ) → i < suc k → at log i <ⁿ x) → x <ⁿ at log (suc k) → case_of p author log x ≡ Between k
  unfolding case_above
  case_between x [] k h f g = absurd (not-suc-le-zero h)
  case_between x (r ∷ rest) k h f g = past r rest x k (omega arith) f ∙ rw (drop-cons (r ∷ rest) (suc k) [] h, row_less g)

  -- "above r(n−1) and below N(n−1)", "above r(n−1), otherwise"; k is n − 1
  pub case_after : (x : Row) (log : List Row) (k : ℕ) → suc k ≡ length log → ((i : ℕ) → i < suc k → at log i <ⁿ x) → case_of p author log x ≡ if_below x (N p author k) (PutAbove k) KeepAbove
  unfolding case_above
  case_after x [] k n f = absurd (omega arith)
  case_after x (r ∷ rest) k n f = past r rest x k (omega arith) f ∙ rw (drop_of_length-le (r ∷ rest) {i = suc k} (omega arith))

-- ── what it makes of x ──

-- q is which of the six the code's case c is
module _ (author : Author) (log : List Row) (x : Row) {c q : Case} (e : c ≡ case_of (first_position log) author log x) (f : c ≡ q) where
  pub by_case : become (first_position log) author q x ≡ rename author log x
  unfolding rename
  by_case = ap (λ (d : Case). become (first_position log) author d x) (sym f ∙ e)

-- (p, A, s, z) before x, with the p that the code has read
pub leads : {p q : ℕ} {t : Tuple} (author : Author) (z : ℤ) (x : Row) → t ≡ lead p author z → p ≡ q → t ∷ x ≡ lead q author z ∷ x
leads author z x e f = ap (λ (u : Tuple). u ∷ x) (e ∙ ap (λ (n : ℕ). lead n author z) f)

-- ── its k ──

module _ (p : ℕ) (author : Author) (log : List Row) (x : Row) (n : 1 ≤ length log) {c : Case} (e : c ≡ case_of p author log x) where
  says : {q : Case} → c ≡ q → Says p author log x q
  says {q} f = go log n (sym e ∙ f)
    where
      go : (log : List Row) → 1 ≤ length log → case_of p author log x ≡ q → Says p author log x q
      go [] n g = absurd (not-suc-le-zero n)
      go (r ∷ rest) n g = subst (Says p author (r ∷ rest) x) g (case_says p author r rest x)

  pub logged_within : (k : ℕ) → c ≡ Logged k → k < length log
  logged_within k f = (says f).0

  pub between_within : (k : ℕ) → c ≡ Between k → k < length log
  between_within k f = let h = (says f).0 in omega arith

  pub above_within : (k : ℕ) → c ≡ PutAbove k → k < length log
  above_within k f = let h = (says f).0 in omega arith
