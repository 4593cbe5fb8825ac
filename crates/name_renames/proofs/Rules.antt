-- Renaming is 01's table and taking back its four bullets, line by line: `rules`. Each case has its condition (`case_is`), so that the
-- table is what `become` makes of it. Assumes nothing.
use mathlib.Core.Path.{◌≡◌, refl, sym, ◌∙◌}
use mathlib.Core.List.{List, [], ◌∷◌}
use Prim.Native.Nat.{ℕ, zero, suc, ◌+◌, ◌-◌, ◌<◌}
use native.Mathlib.Numerals.{add-one}
use native.Mathlib.Omega.{arith}
use lib.ListN.{length, drop, drop_of_length-le}
use lib.Seq.{drop-cons}
use Rattle.names.specs.declared.Author.{Author}
use Rattle.names.specs.Ordering.{Row, ◌<ⁿ◌, ◌≤ⁿ◌, Rising}
use Rattle.names.proofs.Laws.{<ⁿ_irrefl, <≤_trans, ≤<_trans, <ⁿ_trans, row_less, row_more}
use Rattle.name_renames.specs.declared.Case.{Case}
use Rattle.name_renames.specs.declared.Case.TheVariants.{KeepBelow, PutBelow, Logged, Between, PutAbove, KeepAbove}
use Rattle.name_renames.specs.Renaming.{N, case_above, case_of, become, rename, take_back, first_position, strip_below, strip_above, tail}
use Rattle.name_renames.specs.Rules.{Table, Applies, OneCase, Bullets, BackBelow, BackBetween, BackAbove, LowTail, HighTail, Rules}
use Rattle.name_renames.proofs.Lists.{at, rising_next}
use Rattle.name_renames.proofs.Splits.{half, is_under, at_least, if_not_below_lem, no_nil, ≤_nonempty}
use Rattle.name_renames.proofs.Table.{Says, case_says, case_logged}
use Rattle.name_renames.proofs.Walk.{StaysBelow, StripBelow, kept_below, cut_below, strip_below_lem, StaysAbove, StripAbove, kept_above, cut_above, strip_above_lem, bullet_logged, bullet_below, bullet_between, bullet_above}
use Rattle.name_renames.proofs.Gaps.{under_in, under_out, over_in, over_out, gap_low, gap_high, gap_in}

not_below : {a b : Row} → ¬ (a <ⁿ b) → b ≤ⁿ a
not_below {a} {b} f = elim (half a b) [ is_under h ↦ absurd (f h) | at_least h ↦ h ]

-- ── the table ──

module _ (p : ℕ) (author : Author) (r : Row) (rest : List Row) (o : Rising (r ∷ rest)) where
  abbrev log : List Row
  log = r ∷ rest

  -- the case of a name above r(k) may be looked for from r(k) on
  case_from : (k : ℕ) {x : Row} → k < length log → at log k <ⁿ x → case_of p author log x ≡ case_above p author k (drop (suc k) log) x
  unfolding case_of case_above
  case_from zero i h = rw (row_more h)
  case_from (suc k) i h = case_from k (omega arith) (<ⁿ_trans (rising_next k o i) h) ∙ rw (drop-cons log (suc k) [] i, row_more h)

  -- the case of a name is the one whose condition holds of it
  pub case_is : (x : Row) (c : Case) → Says p author log x c → case_of p author log x ≡ c
  unfolding case_of case_above
  case_is x KeepBelow (h, j) = rw (row_less h, row_less j)
  case_is x PutBelow (h, j) = rw (row_less h) (if_not_below_lem _ _ j)
  case_is x (Logged k) (i, e) = rw e (case_logged p author r rest k o i)
  case_is x (Between k) (i, h, j) = case_from k (omega arith) h ∙ rw (drop-cons log (suc k) [] i, row_less j)
  case_is x (PutAbove k) (i, h, j) = case_from k (omega arith) h ∙ rw (drop_of_length-le log {i = suc k} (omega arith), row_less j)
  case_is x KeepAbove (h, j) =
      let n = length rest in
      let e : length log - 1 ≡ n = omega arith in
      case_from n (omega arith) (rw e at h) ∙ rw (drop_of_length-le log {i = suc n} (omega arith)) (if_not_below_lem _ _ (rw e at j))

-- 01's condition, with "not below" said by the order
says : (author : Author) (log : List Row) (x : Row) (c : Case) → 0 < length log → Applies author log x c → Says (first_position log) author log x c
says author log x KeepBelow i a = a
says author log x PutBelow i (h, f) = (h, not_below f)
says author log x (Logged k) i a = a
says author log x (Between k) i (j, h, l) = (omega (arith, j), h, rw (add-one k) at l)
says author log x (PutAbove k) i (e, h, l) = (omega (arith, e, i), h, l)
says author log x KeepAbove i (h, f) = (h, not_below f)

applies : (author : Author) (log : List Row) (x : Row) (c : Case) → Says (first_position log) author log x c → Applies author log x c
applies author log x KeepBelow a = a
applies author log x PutBelow (h, j) = (h, λ l. <ⁿ_irrefl (≤<_trans j l))
applies author log x (Logged k) a = a
applies author log x (Between k) (j, h, l) = (omega (arith, j), h, rw (add-one k) l)
applies author log x (PutAbove k) (e, h, l) = (omega (arith, e), h, l)
applies author log x KeepAbove (h, j) = (h, λ l. <ⁿ_irrefl (≤<_trans j l))

one_case : (author : Author) (log : List Row) → 0 < length log → Rising log → OneCase author log
one_case author [] i o = absurd (omega arith)
one_case author (r ∷ rest) i o =
    let p = first_position (r ∷ rest) in
    let is = case_is p author r rest o in
    record {
      some = λ x. let c = case_of p author (r ∷ rest) x in (c, applies author (r ∷ rest) x c (case_says p author r rest x));
      no_two = λ x c d a b. sym (is x c (says author (r ∷ rest) x c i a)) ∙ is x d (says author (r ∷ rest) x d i b);
    }

table : (author : Author) (log : List Row) → 0 < length log → Rising log → Table author log
unfolding rename become
table author [] i o = absurd (omega arith)
table author (r ∷ rest) i o =
    record {
      keep_below = λ x h j. rw (is x KeepBelow (h, j));
      put_below = λ x h f. rw (is x PutBelow (h, f));
      logged = λ x k i e. rw (is x (Logged k) (i, e));
      between = λ x k i h j. rw (is x (Between k) (i, h, j));
      put_above = λ x h j. rw (is x (PutAbove (length (r ∷ rest) - 1)) (refl, h, j));
      keep_above = λ x h f. rw (is x KeepAbove (h, f));
    }
  where
    is : (x : Row) (c : Case) → Applies author (r ∷ rest) x c → case_of (first_position (r ∷ rest)) author (r ∷ rest) x ≡ c
    is x c a = case_is (first_position (r ∷ rest)) author r rest o x c (says author (r ∷ rest) x c i a)

-- ── the bullets ──

module _ (author : Author) (r : Row) (rest : List Row) where
  abbrev p : ℕ
  p = first_position (r ∷ rest)

  abbrev names : List Row
  names = r ∷ rest

  abbrev n : ℕ
  n = length (r ∷ rest) - 1

  -- "v is t where c = (p, A, s, −1)·t .. otherwise v is c"
  low_t : {c v : Row} → StripBelow p author c v → (t : Row) → LowTail author names c t → v ≡ t
  unfolding StaysBelow
  low_t (kept_below f) t (e, d, h) = absurd (h (rw e at f refl))
  low_t (cut_below d k) t (e, f, h) = cc

  low_c : {c v : Row} → StripBelow p author c v → ¬ ((t : Row) × LowTail author names c t) → v ≡ c
  low_c (kept_below f) g = refl
  low_c (cut_below {t} e k) g = absurd (g (t, (cc, λ d. no_nil (rw d at (≤_nonempty k)), λ h. <ⁿ_irrefl (≤<_trans k h))))

  back_below_lem : {c : Row} → c <ⁿ N p author 0 → BackBelow author names c (strip_below p author c)
  unfolding take_back
  back_below_lem {c} h =
      record {
        v_is_t = low_t (strip_below_lem p author c);
        v_is_c = low_c (strip_below_lem p author c);
        if_below_lem = λ k. bullet_below p author r rest h ∙ under_in r k;
        otherwise = λ f. bullet_below p author r rest h ∙ under_out r (not_below f);
      }

  back_between_lem : (k : ℕ) {c : Row} → Rising names → k + 1 < length names → N p author k <ⁿ c → c <ⁿ N p author (k + 1) → BackBetween author names k c (tail c)
  unfolding take_back
  back_between_lem k {c} o i h l =
      let low = at names k in
      let high = at names (suc k) in
      let j : suc k < length names = omega (arith, i) in
      let b = bullet_between p author r rest k j h (rw (add-one k) at l) in
      record {
        c_is = b.0;
        if_not_above_lem = λ f. b.1 ∙ gap_low low high (not_below f);
        if_not_below_lem = λ f. let d = not_below (rw (add-one k) at f) in b.1 ∙ rw (add-one k) (gap_high low high (<≤_trans (rising_next k o j) d) d);
        otherwise = λ d u. b.1 ∙ gap_in low high d (rw (add-one k) at u);
      }

  high_t : {c v : Row} → StripAbove p author n c v → (t : Row) → HighTail author names c t → v ≡ t
  unfolding StaysAbove
  high_t (kept_above f) t (e, h) = absurd (<ⁿ_irrefl (≤<_trans (rw e at f refl) h))
  high_t (cut_above d k) t (e, h) = cc

  high_c : {c v : Row} → StripAbove p author n c v → ¬ ((t : Row) × HighTail author names c t) → v ≡ c
  high_c (kept_above f) g = refl
  high_c (cut_above {t} e k) g = absurd (g (t, (cc, k)))

  back_above_lem : {c : Row} → N p author n <ⁿ c → BackAbove author names c (strip_above p author n c)
  unfolding take_back
  back_above_lem {c} h =
      let b = bullet_above p author r rest n (omega arith) h in
      record {
        v_is_t = high_t (strip_above_lem p author n c);
        v_is_c = high_c (strip_above_lem p author n c);
        if_above_lem = λ k. b ∙ over_in (at names n) _ k;
        otherwise = λ f. b ∙ over_out (at names n) _ (not_below f);
      }

bullets : (author : Author) (log : List Row) → 0 < length log → Rising log → Bullets author log
unfolding take_back
bullets author [] i o = absurd (omega arith)
bullets author (r ∷ rest) i o =
    record {
      logged = λ c k i e. rw e (bullet_logged (first_position (r ∷ rest)) author r rest k i);
      back_below_lem = λ c h. (_, back_below_lem author r rest h);
      back_between_lem = λ c k i h l. (_, back_between_lem author r rest k o i h l);
      back_above_lem = λ c h. (_, back_above_lem author r rest h);
    }

pub rules : Rules
rules = record { table = table; one_case = one_case; bullets = bullets }
