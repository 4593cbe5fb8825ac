-- The case of a name has 01's condition, the log read by index (`case_says`); the names of the log become N(0), N(1), ..
-- (`rename_logged`); a renamed name is at most one tuple longer (`rename_depth`). Assumes nothing.
use mathlib.Core.Path.{◌≡◌, refl, sym, ap, ◌∙◌}
use mathlib.Core.List.{List, [], ◌∷◌}
use Prim.Native.Nat.{ℕ, zero, suc, ◌+◌, ◌-◌, ◌<◌, ◌≤◌}
use native.Mathlib.Omega.{arith}
use lib.ListN.{length, drop, length-drop}
use lib.Seq.{drop-cons}
use Rattle.names.specs.declared.Author.{Author}
use Rattle.names.specs.Ordering.{Row, ◌<ⁿ◌, ◌≤ⁿ◌, Rising}
use Rattle.names.proofs.Laws.{head_below, row_more, row_same}
use Rattle.name_renames.specs.declared.Case.{Case}
use Rattle.name_renames.specs.declared.Case.TheVariants.{KeepBelow, PutBelow, Logged, Between, PutAbove, KeepAbove}
use Rattle.name_renames.specs.Renaming.{N, case_above, case_of, become, rename, first_position}
use Rattle.name_renames.proofs.Lists.{at, rising_drop}
use Rattle.name_renames.proofs.Splits.{SplitN, is_below, is_level, is_above, split_n, Half, half, is_under, at_least, if_below_lem, if_not_below_lem}

module _ (p : ℕ) (author : Author) where
  -- the table's first column
  abbrev pub Says : List Row → Row → Case → Type 0
  Says log x KeepBelow = (x <ⁿ at log 0) × (x <ⁿ N p author 0)
  Says log x PutBelow = (x <ⁿ at log 0) × (N p author 0 ≤ⁿ x)
  Says log x (Logged k) = (k < length log) × (x ≡ at log k)
  Says log x (Between k) = (suc k < length log) × (at log k <ⁿ x) × (x <ⁿ at log (suc k))
  Says log x (PutAbove k) = (suc k ≡ length log) × (at log k <ⁿ x) × (x <ⁿ N p author k)
  Says log x KeepAbove = (at log (length log - 1) <ⁿ x) × (N p author (length log - 1) ≤ⁿ x)

  says_above : (log : List Row) (x : Row) (k : ℕ) (rest : List Row) → drop (suc k) log ≡ rest → k < length log → at log k <ⁿ x → Says log x (case_above p author k rest x)
  unfolding case_above
  says_above log x k [] e i h = go (half x (N p author k))
    where
      n : suc k ≡ length log
      n = omega (arith, length-drop (suc k) log, ap length e)

      last : length log - 1 ≡ k
      last = omega (arith, n)

      go : Half x (N p author k) → Says log x (case_above p author k [] x)
      go (is_under j) = rw if_below_lem (n, h, j)
      go (at_least j) = rw (if_not_below_lem, last) (h, j)
  says_above log x k (r ∷ rest) e i h = go (split_n x r) (λ j. says_above log x (suc k) rest e'' n (rw e' j))
    where
      n : suc k < length log
      n = omega (arith, length-drop (suc k) log, ap length e)

      e' : at log (suc k) ≡ r
      e' = cc (drop-cons log (suc k) [] n)

      e'' : drop (suc (suc k)) log ≡ rest
      e'' = cc (drop-cons log (suc k) [] n)

      go : SplitN x r → (r <ⁿ x → Says log x (case_above p author (suc k) rest x)) → Says log x (case_above p author k (r ∷ rest) x)
      go (is_below j d) f = rw d (n, h, rw e' j)
      go (is_level j d) f = rw d (n, j ∙ sym e')
      go (is_above j d) f = rw d (f j)

  pub case_says : (r : Row) (rest : List Row) (x : Row) → Says (r ∷ rest) x (case_of p author (r ∷ rest) x)
  unfolding case_of
  case_says r rest x = go (split_n x r) (half x (N p author 0))
    where
      go : SplitN x r → Half x (N p author 0) → Says (r ∷ rest) x (case_of p author (r ∷ rest) x)
      go (is_below h d) (is_under j) = rw (d, if_below_lem) (h, j)
      go (is_below h d) (at_least j) = rw (d, if_not_below_lem) (h, j)
      go (is_level h d) j = rw d (omega arith, h)
      go (is_above h d) j = rw d (says_above (r ∷ rest) x 0 rest refl (omega arith) h)

  -- ── the names of the log ──

  above_logged : (k : ℕ) (rest : List Row) (j n : ℕ) → Rising rest → j < length rest → suc (k + j) ≡ n → case_above p author k rest (at rest j) ≡ Logged n
  unfolding case_above
  above_logged k [] j n o h e = absurd (omega arith)
  above_logged k (r ∷ rest) zero n o h e = let i : suc k ≡ n = omega arith in rw (row_same r) (ap Logged i)
  above_logged k (r ∷ rest) (suc j) n o h e =
      let a : r <ⁿ at rest j = head_below j o (omega arith) in
      rw (row_more a) (above_logged (suc k) rest j n (rising_drop 1 o) (omega arith) (omega arith))

  pub case_logged : (r : Row) (rest : List Row) (k : ℕ) → Rising (r ∷ rest) → k < length (r ∷ rest) → case_of p author (r ∷ rest) (at (r ∷ rest) k) ≡ Logged k
  unfolding case_of
  case_logged r rest zero o h = rw (row_same r)
  case_logged r rest (suc k) o h =
      let a : r <ⁿ at rest k = head_below k o (omega arith) in
      rw (row_more a) (above_logged 0 rest k (suc k) (rising_drop 1 o) (omega arith) (omega arith))

  -- ── depth ──

  become_depth : (c : Case) (x : Row) → length (become p author c x) ≤ suc (length x)
  unfolding become
  become_depth KeepBelow x = omega arith
  become_depth PutBelow x = omega arith
  become_depth (Logged k) x = omega arith
  become_depth (Between k) x = omega arith
  become_depth (PutAbove k) x = omega arith
  become_depth KeepAbove x = omega arith

-- "equal to r(k) | N(k)": the names of a rising log become N(0), N(1), ..
pub rename_logged : (author : Author) (log : List Row) (k : ℕ) → Rising log → k < length log → rename author log (at log k) ≡ N (first_position log) author k
unfolding rename become
rename_logged author [] k o h = absurd (omega arith)
rename_logged author (r ∷ rest) k o h = let p = first_position (r ∷ rest) in rw (case_logged p author r rest k o h)

-- "a name gains at most one tuple"
pub rename_depth : (author : Author) (log : List Row) (x : Row) → length (rename author log x) ≤ suc (length x)
unfolding rename
rename_depth author log x = become_depth _ _ _ x
