-- 01 and the paper, whose own steps are in specs/Paper.antt. Each departure lets two names meet or cross: `departures`. What specs/Paper.antt
-- states of every log holds: `compared`. Renaming agrees on every name (`rename_agrees`), taking back on every name but those that
-- `Departs` lists (`back_agrees`), and on those it differs (`departs_differ`). So the paper gives every renamed fresh name back
-- (`paper_back_rename`), and keeps the order of names without markers that do not depart (`paper_mono`), over a log of fresh names also
-- of `whole_below_last` (`paper_mono_last`). Assumes nothing.
use mathlib.Core.Path.{◌≡◌, refl, sym, ap, ◌∙◌}
use mathlib.Core.Logic.{◌⊎◌, inl, inr}
use mathlib.Core.List.{List, [], ◌∷◌, ◌++◌}
use mathlib.Core.Bool.{true, false, cond}
use Prim.Native.Nat.{ℕ, zero, suc, ◌+◌, ◌-◌, ◌<◌, ◌≤◌}
use native.Mathlib.Omega.{arith}
use borrow.Author.Tests.{lt-ltb, le-ltb}
use lib.ListN.{length, get_or, length-append}
use lib.Signed.{lt_z}
use lib.IntN.{ℤ, pos, negsuc, pred_ℤ}
use Rattle.names.specs.declared.Author.{Author}
use Rattle.names.specs.declared.Tuple.{Tuple}
use Rattle.names.specs.Ordering.{Row, compare_tuples, compare_rows, rising, ◌<ᶻ◌, up, across, ◌<ᵗ◌, position, node, sequence, offset, ◌<ⁿ◌, ends, differ, same, ◌≤ⁿ◌, less, equal, Rising, more}
use Rattle.names.specs.Names.{m, M, one_below, ordinary_from, ends_well, is_name}
use Rattle.numbers.proofs.Bools.{yes_no}
use Rattle.names.proofs.Laws.{++_prefix, ++_left, head_below, <ᵗ_irrefl, <ⁿ_irrefl, ℕ_cases, tuple_same, row_less, row_more, row_same, <ⁿ_trans, <≤_trans, ≤<_trans, below_length}
use Rattle.name_renames.specs.declared.Case.{Case}
use Rattle.name_renames.specs.declared.Case.TheVariants.{KeepBelow, PutBelow, Logged, Between, PutAbove, KeepAbove}
use Rattle.name_renames.specs.Renaming.{if_below, lead, N, tail, case_above, case_of, become, rename, first_position, fresh, take_back, under, over, strip_below, strip_above, back_below, back_between, back_above, back_from, back_of}
use Rattle.name_renames.specs.Laws.{plain, are_plain, Log}
use Rattle.paper.specs.Paper.{last_id, new_first_id, pred_new_first_id, new_last_id, Departs, tail_is_pred, tail_is_succ, low_tail, high_tail, no_prefix, tail_is_last, is_last, whole_below_last, late_test, is_among, find_index, find_index_of_pred, is_renamed_id, get_last_offset, create_id_from_base, is_prefix, ren_id_less_than_first_id, ren_id_greater_than_last_id, ren_id_from_pred_id, rename_id, rev_ren_id_less_than_new_first_id, rev_ren_id_greater_than_new_last_id, rev_ren_id_from_pred_id, revert_rename_id, plain_names, reverted, Steady, Compared, Comparison, Departures}
use Rattle.name_renames.proofs.Fresh.{Fresh, fresh_Fresh}
use Rattle.name_renames.proofs.Lists.{All, cons, at, rising_next}
use Rattle.name_renames.proofs.Laws.{all_valid, all_free}
use Rattle.name_renames.proofs.Validity.{valid_nonempty}
use Rattle.name_renames.proofs.Table.{Says, case_says}
use Rattle.name_renames.proofs.Forward.{side}
use Rattle.name_renames.proofs.Walk.{StripBelow, kept_below, cut_below, strip_below_lem, StripAbove, kept_above, cut_above, strip_above_lem, bullet_logged, bullet_below, bullet_between, bullet_above, Starts, starts, squeeze}
use Rattle.name_renames.proofs.Backward.{below_first, below_logged, take_back_mono}
use Rattle.name_renames.proofs.Gaps.{MarkerFree, all_inner, over_low, under_low, under_in, under_out, over_in, over_out}
use Rattle.name_renames.proofs.Splits.{clash, no_nil, nonempty, next, ≤_nonempty, SplitT, split_t, SplitN, is_below, is_level, is_above, split_n, Half, half, is_under, at_least, if_below_lem, if_not_below_lem}

-- ── the examples ──

pub departures : Departures
unfolding compare_tuples compare_rows rising one_below ordinary_from ends_well is_name fresh rename case_of become take_back under over strip_below strip_above back_from back_of is_renamed_id get_last_offset create_id_from_base is_prefix ren_id_less_than_first_id rename_id rev_ren_id_less_than_new_first_id rev_ren_id_greater_than_new_last_id rev_ren_id_from_pred_id revert_rename_id plain plain_names
departures =
    record {
      tail_is_pred_lem = record { names = refl; log_rises = refl; child = refl; paper = refl; ours = refl };
      tail_is_pred_back = record { paper = refl; ours = refl };
      tail_is_succ_lem = record { names = refl; log_rises = refl; child = refl; paper = refl; ours = refl };
      tail_is_succ_back = record { paper = refl; ours = refl };
      low_tail_lem = record { names = refl; log_rises = refl; child = refl; paper = refl; ours = refl };
      low_tail_back = record { paper = refl; ours = refl };
      high_tail_lem = record { names = refl; log_rises = refl; child = refl; paper = refl; ours = refl };
      high_tail_back = record { paper = refl; ours = refl };
      no_prefix_lem = record { names = refl; log_rises = refl; child = refl; paper = refl; ours = refl };
      no_prefix_back = record { paper = refl; ours = refl };
      tail_is_last_lem = record { names = refl; log_rises = refl; child = refl; paper = refl; ours = refl };
      tail_is_last_back = record { paper = refl; ours = refl };
      is_last_lem = record { names = refl; log_rises = refl; child = refl; paper = refl; ours = refl };
      is_last_back = record { paper = refl; ours = refl };
      whole_below_last_lem = record { names = refl; log_rises = refl; child = refl; paper = refl; ours = refl };
      whole_below_last_back = record { paper = refl; ours = refl };
      late_test_lem = record { names = refl; log_rises = refl; child = refl; paper = refl; ours = refl };
      late_test_back = record { paper = refl; ours = refl };
      not_fresh_names = refl;
      not_fresh_paper = refl;
      not_fresh_ours = refl;
      not_fresh_refused = refl;
    }

-- ── rising lists ──

last_not_below : (r : Row) (rest : List Row) → Rising (r ∷ rest) → r ≤ⁿ get_or (r ∷ rest) (length rest) []
last_not_below r [] o = equal refl
last_not_below r (q ∷ rest) (more l o) = less (<≤_trans l (last_not_below q rest o))

at_last : (r : Row) (rest : List Row) (k : ℕ) → Rising (r ∷ rest) → k ≤ length rest → at (r ∷ rest) k ≤ⁿ at (r ∷ rest) (length rest)
at_last r rest zero o i = last_not_below r rest o
at_last r [] (suc k) o i = absurd (omega arith)
at_last r (q ∷ rest) (suc k) (more h o) i = at_last q rest k o (omega arith)

rising_nonempty : {r : Row} {rest : List Row} (k : ℕ) → [] <ⁿ r → Rising (r ∷ rest) → k < length (r ∷ rest) → [] <ⁿ at (r ∷ rest) k
rising_nonempty zero e o i = e
rising_nonempty (suc k) e o i = nonempty (head_below k o (omega arith))

has_length : {x : Row} → [] <ⁿ x → 0 < length x
has_length ends = omega arith

-- ── renaming ──

-- what is below the first of a rising list is not in it
not_among : {x : Row} (r : Row) (rest : List Row) → Rising (r ∷ rest) → x <ⁿ r → is_among x (r ∷ rest) ≡ false
unfolding is_among
not_among r [] o h = rw (row_less h)
not_among r (q ∷ rest) (more l o) h = rw (row_less h) (not_among q rest o (<ⁿ_trans h l))

module _ (p : ℕ) (author : Author) where
  -- what the paper's steps make of a name x above the first of a list that goes on with `rest` and ends with `last`: i, j and l
  -- are the index of x, of its predecessor and of the last
  abbrev steps : List Row → Row → Row → ℕ → ℕ → ℕ → Row
  steps rest last x i j l = cond (is_among x rest) (N p author i) (if_below last x (ren_id_greater_than_last_id x (N p author l)) (N p author j ++ x))

  module _ (x : Row) where
    -- that this is what 01's case makes of x, for a list that follows the k-th name r
    abbrev Goal : ℕ → Row → List Row → ℕ → ℕ → ℕ → Type 0
    Goal k r rest i j l = steps rest (get_or (r ∷ rest) (length rest) []) x i j l ≡ become p author (case_above p author k rest x) x

    -- the indices that the paper finds
    abbrev Indices : ℕ → Row → List Row → ℕ → ℕ → Type 0
    Indices k r rest i j = (i ≡ suc (k + find_index x rest)) × (j ≡ k + find_index_of_pred x (r ∷ rest))

    rename_above : (k : ℕ) (r : Row) (rest : List Row) {i j l : ℕ} → Indices k r rest i j → l ≡ k + length rest → Rising (r ∷ rest) → r <ⁿ x → Goal k r rest i j l
    unfolding is_among find_index find_index_of_pred ren_id_greater_than_last_id case_above become
    rename_above k r [] {i} {j} {l} (a, b) c o h = go (split_n x (N p author k))
      where
        d : l ≡ k
        d = omega arith

        go : SplitN x (N p author k) → Goal k r [] i j l
        go (is_below u e) = rw (row_less h, d, e)
        go (is_level u e) = rw (row_less h, d, e)
        go (is_above u e) = rw (row_less h, d, e)
    rename_above k r (q ∷ rest) {i} {j} {l} (a, b) c (more u o) h = go (split_n x q) (λ ab v. rename_above (suc k) q rest ab (omega arith) o v)
      where
        go : SplitN x q → (Indices (suc k) q rest i j → q <ⁿ x → Goal (suc k) q rest i j l) → Goal k r (q ∷ rest) i j l
        go (is_below v e) f =
            let b₀ : find_index_of_pred x (r ∷ q ∷ rest) ≡ 0 = rw (row_more v) in
            let b₁ : j ≡ k = omega (arith, b₀) in
            rw (not_among q rest o v, if_not_below_lem _ _ (less (<≤_trans v (last_not_below q rest o))), e, b₁)
        go (is_level v e) f =
            let a₀ : find_index x (q ∷ rest) ≡ 0 = rw e in
            let a₁ : i ≡ suc k = omega (arith, a₀) in
            rw (e, a₁)
        go (is_above v e) f =
            let a₀ : find_index x (q ∷ rest) ≡ suc (find_index x rest) = rw e in
            let b₀ : find_index_of_pred x (r ∷ q ∷ rest) ≡ suc (find_index_of_pred x (q ∷ rest)) = rw (row_less v) in
            rw e (f (omega (arith, a₀), omega (arith, b₀)) v)

-- renaming is the paper's, for every name, fresh or not
pub rename_agrees : (author : Author) (r : Row) (rest : List Row) (x : Row) → Rising (r ∷ rest) → rename_id x (r ∷ rest) author ≡ rename author (r ∷ rest) x
unfolding rename_id rename ren_id_less_than_first_id ren_id_from_pred_id create_id_from_base is_among find_index case_of become
rename_agrees author r rest x o = go (split_n x r)
  where
    p : ℕ
    p = first_position (r ∷ rest)

    last_index : length (r ∷ rest) - 1 ≡ length rest
    last_index = omega arith

    low : SplitN x (N p author 0) → x <ⁿ r → rename_id x (r ∷ rest) author ≡ rename author (r ∷ rest) x
    low (is_below k e) h = rw (row_less h, e)
    low (is_level k e) h = rw (row_less h, e)
    low (is_above k e) h = rw (row_less h, e)

    go : SplitN x r → rename_id x (r ∷ rest) author ≡ rename author (r ∷ rest) x
    go (is_below h e) = low (split_n x (N p author 0)) h
    go (is_level h e) = rw e
    go (is_above h e) =
        let found : Indices p author x 0 r rest (suc (find_index x rest)) (find_index_of_pred x (r ∷ rest)) = (omega arith, omega arith) in
        rw (e, last_index) (rename_above p author x 0 r rest found (omega arith) o h)

-- ── reverting: the paper's four branches ──

-- create_id_from_base with the last offset less 1 gives one below
base_lowered : (x : Row) → create_id_from_base x (pred_ℤ (get_last_offset x)) ≡ one_below x
unfolding create_id_from_base get_last_offset one_below
base_lowered [] = refl
base_lowered (t ∷ []) = refl
base_lowered (t ∷ u ∷ x) = ap (λ (y : Row). t ∷ y) (base_lowered (u ∷ x))

-- and with its own last offset the id itself
base_same : (x : Row) → create_id_from_base x (get_last_offset x) ≡ x
unfolding create_id_from_base get_last_offset
base_same [] = refl
base_same (t ∷ []) = refl
base_same (t ∷ u ∷ x) = ap (λ (y : Row). t ∷ y) (base_same (u ∷ x))

-- c begins with s and goes on, or not
data Beginning (s : Tuple) (c : Row) : Type 0 where
  begins : (t : Row) → [] <ⁿ t → c ≡ s ∷ t → Beginning s c
  begins_not : is_prefix (s ∷ []) c ≡ false → ((t : Row) → c ≡ s ∷ t → t ≡ []) → Beginning s c

prefix_yes : (s : Tuple) {t : Row} → [] <ⁿ t → is_prefix (s ∷ []) (s ∷ t) ≡ true
unfolding is_prefix
prefix_yes s ends = rw (tuple_same s)

prefix_no : {s : Tuple} {c : Row} → is_prefix (s ∷ []) c ≡ false → (t : Row) → c ≡ s ∷ t → t ≡ []
prefix_no {s} f [] e = refl
prefix_no {s} f (u ∷ t) e = yes_no (prefix_yes s {t = u ∷ t} ends) (rw e at f)

beginning : (s : Tuple) (c : Row) → Beginning s c
unfolding is_prefix
beginning s [] = begins_not refl (λ t e. absurd (let z : ◌≡◌ {A = ℕ} 0 1 = cc in omega arith))
beginning s (h ∷ c) = go c (split_t h s)
  where
    go : (c : Row) → SplitT h s → Beginning s (h ∷ c)
    go c (is_below v e) = begins_not (rw e) (λ t q. let d : h ≡ s = cc in absurd (<ᵗ_irrefl (rw d at v)))
    go [] (is_level v e) = begins_not (rw e) (λ t q. cc)
    go (u ∷ c) (is_level v e) = begins (u ∷ c) ends (cc)
    go c (is_above v e) = begins_not (rw e) (λ t q. let d : h ≡ s = cc in absurd (<ᵗ_irrefl (rw d at v)))

module _ (p : ℕ) (author : Author) where
  -- ── what 01 strips ──

  cut_below_lem : {t : Row} → N p author 0 ≤ⁿ t → strip_below p author (lead p author (negsuc 0) ∷ t) ≡ t
  unfolding strip_below
  cut_below_lem h = rw (tuple_same (lead p author (negsuc 0)), if_not_below_lem _ _ h)

  keep_below : {c : Row} → ((t : Row) → c ≡ lead p author (negsuc 0) ∷ t → t ≡ []) → strip_below p author c ≡ c
  keep_below {c} g = go (strip_below_lem p author c) g
    where
      go : {c v : Row} → StripBelow p author c v → ((t : Row) → c ≡ lead p author (negsuc 0) ∷ t → t ≡ []) → v ≡ c
      go (kept_below f) g = refl
      go (cut_below {t} e k) g = no_nil (rw (g t (cc)) at (≤_nonempty k))

  cut_above_lem : (k : ℕ) {t : Row} → t <ⁿ N p author k → strip_above p author k (lead p author (pos k) ∷ t) ≡ t
  unfolding strip_above
  cut_above_lem k h = rw (tuple_same (lead p author (pos k)), row_less h)

  keep_above : (k : ℕ) {c : Row} → ((t : Row) → c ≡ lead p author (pos k) ∷ t → N p author k ≤ⁿ t) → strip_above p author k c ≡ c
  keep_above k {c} g = go (strip_above_lem p author k c) g
    where
      go : {c v : Row} → StripAbove p author k c v → ((t : Row) → c ≡ lead p author (pos k) ∷ t → N p author k ≤ⁿ t) → v ≡ c
      go (kept_above f) g = refl
      go (cut_above {t} e j) g = absurd (<ⁿ_irrefl (≤<_trans (g t (cc)) j))

  -- ── where a name lies ──

  N_rises : {k j : ℕ} → k < j → N p author k <ⁿ N p author j
  N_rises h = differ (offset refl refl refl (up h))

  N_not_below : {k j : ℕ} → k ≤ j → N p author k ≤ⁿ N p author j
  N_not_below {k} {j} i = elim (ℕ_cases k j) [ inl h ↦ less (N_rises h) | inr c ↦ elim c [ inl e ↦ equal (ap (N p author) e) | inr h ↦ absurd (omega arith) ] ]

  -- where a name lies beside N(0), .. N(n)
  data Spot (n : ℕ) (c : Row) : Type 0 where
    first_over : c <ⁿ N p author 0 → Spot n c
    level_with : (k : ℕ) → k ≤ n → c ≡ N p author k → Spot n c
    in_gap_lem : (k : ℕ) → k < n → N p author k <ⁿ c → c <ⁿ N p author (suc k) → Spot n c
    last_under : N p author n <ⁿ c → Spot n c

  spot : (n : ℕ) (c : Row) → Spot n c
  spot zero c = go (split_n c (N p author 0))
    where
      go : SplitN c (N p author 0) → Spot 0 c
      go (is_below h e) = first_over h
      go (is_level h e) = level_with 0 (omega arith) h
      go (is_above h e) = last_under h
  spot (suc n) c = go (spot n c) (split_n c (N p author (suc n)))
    where
      go : Spot n c → SplitN c (N p author (suc n)) → Spot (suc n) c
      go (first_over h) d = first_over h
      go (level_with k i h) d = level_with k (omega arith) h
      go (in_gap_lem k i h l) d = in_gap_lem k (omega arith) h l
      go (last_under h) (is_below l e) = in_gap_lem n (omega arith) h l
      go (last_under h) (is_level l e) = level_with (suc n) (omega arith) l
      go (last_under h) (is_above l e) = last_under l

  not_lower : {n : ℕ} {z : ℤ} → pos n <ᶻ z → lt_z z (pos (suc n)) ≡ false
  not_lower {n} (up {b} h) = le-ltb b (suc n) (omega arith)

  -- what is above N(n) is none of N(0), .. N(n)
  renamed_not : (n : ℕ) (c : Row) → N p author n <ⁿ c → is_renamed_id c p author (suc n) ≡ false
  unfolding is_renamed_id
  renamed_not n [] h = refl
  renamed_not n (t ∷ []) (differ h) = go (split_t t (lead p author t.offset)) h
    where
      go : SplitT t (lead p author t.offset) → lead p author (pos n) <ᵗ t → is_renamed_id (t ∷ []) p author (suc n) ≡ false
      go (is_below v e) h = rw e
      go (is_level v e) (position k) = absurd (omega (arith, ap (λ (s : Tuple). s.position) v))
      go (is_level v e) (node a k) = absurd (omega (arith, ap (λ (s : Tuple). s.node) v))
      go (is_level v e) (sequence a b k) = absurd (omega (arith, ap (λ (s : Tuple). s.sequence) v))
      go (is_level v e) (offset a b c k) = rw (e, not_lower k)
      go (is_above v e) h = rw e
  renamed_not n (t ∷ []) (same e h) = no_nil h
  renamed_not n (t ∷ u ∷ c) h = refl

-- of the last logged name itself
last_differs : {s : Tuple} (q : Row) → Beginning s q → ((t : Row) → q ≡ s ∷ t → s ∷ [] ≤ⁿ t) → ¬ (rev_ren_id_greater_than_new_last_id q q (s ∷ []) ≡ q ++ (m ∷ q))
unfolding rev_ren_id_greater_than_new_last_id
last_differs {s} q (begins t e v) g = rw v (go (half t (s ∷ t)))
  where
    go : Half t (s ∷ t) → ¬ (rev_ren_id_greater_than_new_last_id (s ∷ t) (s ∷ t) (s ∷ []) ≡ (s ∷ t) ++ (m ∷ (s ∷ t)))
    go (is_under k) = rw (row_same (s ∷ t), prefix_yes s e, row_less k) (λ d. omega (arith, ap length d, length-append t (m ∷ t), length-append t (m ∷ (s ∷ t))))
    go (at_least k) = rw (row_same (s ∷ t), prefix_yes s e, if_not_below_lem _ _ k, if_not_below_lem _ _ (g t v)) (λ d. omega (arith, ap length d, length-append t (m ∷ (s ∷ t))))
last_differs q (begins_not f _) g = rw (row_same q, f) (λ d. <ⁿ_irrefl (rw (← d) at (++_prefix q m q)))

module _ (author : Author) (r : Row) (rest : List Row) where
  abbrev log : List Row
  log = r ∷ rest

  abbrev p : ℕ
  p = first_position log

  abbrev n : ℕ
  n = length log - 1

  -- N(0), (p, A, s, −1) and N(n−1)
  abbrev new_first : Row
  new_first = new_first_id log author

  abbrev pred_new_first : Row
  pred_new_first = pred_new_first_id log author

  abbrev new_last : Row
  new_last = new_last_id log author

  -- what the paper makes of an id, and what 01 makes of it
  abbrev paper : Row → Row
  paper c = revert_rename_id c log author

  abbrev ours : Row → Row
  ours c = take_back author log c

  paper_below : {c : Row} → c <ⁿ N p author 0 → paper c ≡ rev_ren_id_less_than_new_first_id c r (N p author 0)
  unfolding revert_rename_id
  paper_below h = if_below_lem _ _ h

  paper_logged : (k : ℕ) → k < length log → paper (N p author k) ≡ at log k
  unfolding revert_rename_id is_renamed_id
  paper_logged k i = rw (if_not_below_lem _ _ (N_not_below p author {k = 0} {j = k} (omega arith)), tuple_same (lead p author (pos k)), lt-ltb k (length log) i)

  abbrev from_pred : Row → Row → Row → Row
  from_pred t predId succId = if_below t predId (predId ++ (m ∷ t)) (if_below succId t (create_id_from_base succId (pred_ℤ (get_last_offset succId)) ++ (M ∷ t)) t)

  paper_between : (k : ℕ) {c : Row} → suc k < length log → N p author k <ⁿ c → c <ⁿ N p author (suc k) → paper c ≡ from_pred (tail c) (at log k) (at log (suc k))
  unfolding revert_rename_id is_renamed_id rev_ren_id_from_pred_id
  paper_between k i h l = go (squeeze h l) h l
    where
      go : {c : Row} → Starts (lead p author (pos k)) [] c → N p author k <ⁿ c → c <ⁿ N p author (suc k) → paper c ≡ from_pred (tail c) (at log k) (at log (suc k))
      go (starts {s} e (ends {t = u} {b = t})) h l =
          let a : N p author 0 ≤ⁿ s ∷ u ∷ t = less (≤<_trans (N_not_below p author {k = 0} {j = k} (omega arith)) h) in
          let b : s ∷ u ∷ t ≤ⁿ N p author n = less (<≤_trans l (N_not_below p author {k = suc k} {j = n} (omega arith))) in
          rw (if_not_below_lem _ _ a, if_not_below_lem _ _ b, e)

  paper_above : {c : Row} → N p author n <ⁿ c → paper c ≡ rev_ren_id_greater_than_new_last_id c (last_id log) (new_last)
  unfolding revert_rename_id
  paper_above {c} h =
      let a : N p author 0 ≤ⁿ c = less (≤<_trans (N_not_below p author {k = 0} {j = n} (omega arith)) h) in
      let e : length log ≡ suc n = omega arith in
      let f : is_renamed_id c p author (length log) ≡ false = rw e (renamed_not p author n c h) in
      rw (if_not_below_lem _ _ a, f, row_less h)

  -- ── 01's bullets ──

  ours_below : {c : Row} → c <ⁿ new_first → ours c ≡ back_below p author r c
  unfolding take_back
  ours_below h = bullet_below p author r rest h

  ours_logged : (k : ℕ) → k < length log → ours (N p author k) ≡ at log k
  unfolding take_back
  ours_logged k i = bullet_logged p author r rest k i

  ours_between : (k : ℕ) {c : Row} → suc k < length log → N p author k <ⁿ c → c <ⁿ N p author (suc k) → ours c ≡ back_between (at log k) (at log (suc k)) (tail c)
  unfolding take_back
  ours_between k i h l = (bullet_between p author r rest k i h l).1

  ours_above : {c : Row} → new_last <ⁿ c → ours c ≡ back_above p author n (last_id log) c
  unfolding take_back
  ours_above h = bullet_above p author r rest n (omega arith) h

  -- ── reverting: where the two agree ──

  abbrev Agrees : Row → Type 0
  Agrees c = (paper c ≡ ours c) ⊎ Departs author log c

  below_agrees : (c : Row) → c <ⁿ new_first → Agrees c
  unfolding rev_ren_id_less_than_new_first_id create_id_from_base
  below_agrees c l = rw (paper_below l, ours_below l) (go (beginning (lead p author (negsuc 0)) c) (half c r))
    where
      Goal : Row → Type 0
      Goal c = (rev_ren_id_less_than_new_first_id c r (new_first) ≡ back_below p author r c) ⊎ Departs author log c

      cut : {t : Row} → [] <ⁿ t → Half t (new_first) → Half t r → Goal (pred_new_first ++ t)
      cut e (is_under h) k = inr (low_tail e h)
      cut e (at_least h) (is_under k) = inl (rw (prefix_yes _ e, cut_below_lem p author h, row_less k, under_in r k))
      cut e (at_least h) (at_least k) = inr (high_tail h k)

      go : Beginning (lead p author (negsuc 0)) c → Half c r → Goal c
      go (begins t e q) k = rw q (cut e (half t (new_first)) (half t r))
      go (begins_not f g) (is_under k) = inl (rw (f, keep_below p author g, under_in r k))
      go (begins_not f g) (at_least k) = inr (no_prefix f l k)

  between_agrees : (k : ℕ) (c : Row) → suc k < length log → N p author k <ⁿ c → c <ⁿ N p author (suc k) → Agrees c
  between_agrees k c i h l = rw (paper_between k i h l, ours_between k i h l) (go (split_n (tail c) (at log k)) (split_n (at log (suc k)) (tail c)))
    where
      e : c ≡ N p author k ++ tail c
      e = (bullet_between p author r rest k i h l).0

      a : Row
      a = at log k

      b : Row
      b = at log (suc k)

      go : SplitN (tail c) a → SplitN b (tail c) → (from_pred (tail c) a b ≡ back_between a b (tail c)) ⊎ Departs author log c
      go (is_below v f) w = inl (rw f)
      go (is_level v f) w = inr (rw (e, v) (tail_is_pred k i))
      go (is_above v f) (is_below w g) = inl (rw (f, g, row_more w, base_lowered))
      go (is_above v f) (is_level w g) = inr (rw (e, ← w) (tail_is_succ k i))
      go (is_above v f) (is_above w g) = inl (rw (f, g, row_less w))

  above_agrees : (c : Row) → new_last <ⁿ c → Agrees c
  unfolding rev_ren_id_greater_than_new_last_id
  above_agrees c l = rw (paper_above l, ours_above l) (go (beginning (lead p author (pos n)) c))
    where
      q : Row
      q = last_id log

      Goal : Row → Type 0
      Goal c = (rev_ren_id_greater_than_new_last_id c q (new_last) ≡ back_above p author n q c) ⊎ Departs author log c

      whole : {c : Row} → new_last <ⁿ c → ((t : Row) → c ≡ new_last ++ t → new_last ≤ⁿ t) → SplitN c q → (q <ⁿ c → strip_above p author n c ≡ c → Goal c) → Goal c
      whole l g (is_below k e) f = inl (rw (e, keep_above p author n g, over_out q _ (less k)))
      whole l g (is_level k e) f = inr (rw k (is_last (rw k at l) (rw k at g)))
      whole l g (is_above k e) f = f k (keep_above p author n g)

      cut : {t : Row} → [] <ⁿ t → Half (new_last ++ t) q → SplitN t q → t <ⁿ new_last → Goal (new_last ++ t)
      cut e (is_under k) v h = inr (whole_below_last e h k)
      cut e (at_least k) (is_below v d) h = inl (rw (if_not_below_lem _ _ k, prefix_yes _ e, d, cut_above_lem p author n h, over_out q _ (less v)))
      cut e (at_least k) (is_level v d) h = inr (rw v (tail_is_last (rw v at h)))
      cut e (at_least k) (is_above v d) h = inl (rw (if_not_below_lem _ _ k, prefix_yes _ e, d, row_less h, cut_above_lem p author n h, over_in q _ v))

      late : {t : Row} → [] <ⁿ t → new_last ≤ⁿ t → Half t q → q <ⁿ new_last ++ t → strip_above p author n (new_last ++ t) ≡ new_last ++ t → Goal (new_last ++ t)
      late e h (is_under v) k s = inr (late_test h v k)
      late e h (at_least v) k s = inl (rw (row_more k, prefix_yes _ e, if_not_below_lem _ _ v, if_not_below_lem _ _ h, s, over_in q _ k))

      stripped : {t : Row} → [] <ⁿ t → Half t (new_last) → Goal (new_last ++ t)
      stripped {t} e (is_under h) = cut e (half (new_last ++ t) q) (split_n t q) h
      stripped {t} e (at_least h) = whole (same refl e) (λ t' d. let f : t ≡ t' = cc in rw f at h) (split_n (new_last ++ t) q) (late e h (half t q))

      go : Beginning (lead p author (pos n)) c → Goal c
      go (begins t e v) = rw v (stripped e (half t (new_last)))
      go (begins_not f g) = whole l (λ t e. absurd (<ⁿ_irrefl (rw (e, g t e) at l))) (split_n c q) (λ k s. inl (rw (row_more k, f, s, over_in q _ k)))

  -- on every name the two give the same, or it is one of those that `Departs` lists
  pub back_agrees : (c : Row) → (paper c ≡ ours c) ⊎ Departs author log c
  back_agrees c = go (spot p author n c)
    where
      go : Spot p author n c → Agrees c
      go (first_over h) = below_agrees c h
      go (level_with k i e) = inl (rw (e, paper_logged k (omega arith), ours_logged k (omega arith)))
      go (in_gap_lem k i h l) = between_agrees k c (omega arith) h l
      go (last_under h) = above_agrees c h

  -- ── where they do not agree, they differ ──

  module _ (filled : [] <ⁿ r) (o : Rising log) where
    abbrev q : Row
    q = last_id log

    q_filled : [] <ⁿ q
    q_filled = rising_nonempty n filled o (omega arith)

    -- two results that are a and b, which differ
    unlike : {x y a b : Row} → x ≡ a → y ≡ b → ¬ (a ≡ b) → ¬ (x ≡ y)
    unlike u v f e = f (sym u ∙ e ∙ v)

    low_differs : {t : Row} → [] <ⁿ t → t <ⁿ new_first → Half t r → Half (pred_new_first ++ t) r → ¬ (paper (pred_new_first ++ t) ≡ ours (pred_new_first ++ t))
    unfolding rev_ren_id_less_than_new_first_id create_id_from_base strip_below
    low_differs {t} e h u v =
        let front = lead p author (negsuc 0) in
        rw (paper_below l, ours_below l, prefix_yes front e, tuple_same front, row_less h, base_same r) (go u v)
      where
        c : Row
        c = pred_new_first ++ t

        l : pred_new_first ++ t <ⁿ new_first
        l = differ (offset refl refl refl across)

        high : length (one_below r ++ (M ∷ c)) ≡ length r + suc (suc (length t))
        high = omega (arith, length-append (one_below r) (M ∷ c), below_length r)

        go : Half t r → Half c r → ¬ (if_below t r t (r ++ (M ∷ t)) ≡ under r c)
        go (is_under u) (is_under v) = rw (row_less u, under_in r v) (λ e. omega (arith, ap length e))
        go (is_under u) (at_least v) = rw (row_less u, under_out r v) (λ e. omega (arith, ap length e, high))
        go (at_least u) (is_under v) = rw (if_not_below_lem _ _ u, under_in r v) (λ e. omega (arith, ap length e, length-append r (M ∷ t), has_length filled))
        go (at_least u) (at_least v) = rw (if_not_below_lem _ _ u, under_out r v) (λ e. omega (arith, ap length e, length-append r (M ∷ t), high))

    pub departs_differ : {c : Row} → Departs author log c → ¬ (paper c ≡ ours c)
    unfolding rev_ren_id_less_than_new_first_id rev_ren_id_greater_than_new_last_id create_id_from_base
    departs_differ (tail_is_pred k i) =
        let a = at log k in
        let h : N p author k <ⁿ N p author k ++ a = same refl (rising_nonempty k filled o (omega arith)) in
        let l : N p author k ++ a <ⁿ N p author (suc k) = differ (offset refl refl refl next) in
        let u : paper (N p author k ++ a) ≡ a = rw (paper_between k i h l, row_same a, row_more (rising_next k o i)) in
        let v : ours (N p author k ++ a) ≡ a ++ (m ∷ a) = rw (ours_between k i h l, row_same a) in
        unlike u v (λ e. <ⁿ_irrefl (rw (← e) at (++_prefix a m a)))
    departs_differ (tail_is_succ k i) =
        let b = at log (suc k) in
        let d : at log k <ⁿ b = rising_next k o i in
        let h : N p author k <ⁿ N p author k ++ b = same refl (rising_nonempty (suc k) filled o i) in
        let l : N p author k ++ b <ⁿ N p author (suc k) = differ (offset refl refl refl next) in
        let u : paper (N p author k ++ b) ≡ b = rw (paper_between k i h l, row_same b, row_more d) in
        let v : ours (N p author k ++ b) ≡ one_below b ++ (M ∷ b) = rw (ours_between k i h l, row_same b, row_more d) in
        unlike u v (λ e. <ⁿ_irrefl (rw (← e) at (under_low d b)))
    departs_differ (low_tail {t} e h) = low_differs e h (half t r) (half (pred_new_first ++ t) r)
    departs_differ (high_tail {t} h k) =
        let l : pred_new_first ++ t <ⁿ new_first = differ (offset refl refl refl across) in
        let f = prefix_yes (lead p author (negsuc 0)) (≤_nonempty h) in
        let u : paper (pred_new_first ++ t) ≡ r ++ (M ∷ t) = rw (paper_below l, f, if_not_below_lem _ _ k, base_same r) in
        let v : ours (pred_new_first ++ t) ≡ one_below r ++ (M ∷ t) = rw (ours_below l, cut_below_lem p author h, under_out r k) in
        unlike u v (λ e. <ⁿ_irrefl (<ⁿ_trans (++_prefix r M t) (rw (← e) at (under_low filled t))))
    departs_differ (no_prefix {c} f l k) =
        let u : paper c ≡ c = rw (paper_below l, f) in
        let v : ours c ≡ one_below r ++ (M ∷ c) = rw (ours_below l, keep_below p author (prefix_no f), under_out r k) in
        unlike u v (λ e. omega (arith, ap length e, length-append (one_below r) (M ∷ c)))
    departs_differ (tail_is_last h) =
        let l : new_last <ⁿ new_last ++ q = same refl q_filled in
        let f = prefix_yes (lead p author (pos n)) q_filled in
        let u : paper (new_last ++ q) ≡ q = rw (paper_above l, row_more (<ⁿ_trans h l), f, row_same q, row_less h) in
        let v : ours (new_last ++ q) ≡ q ++ (m ∷ q) = rw (ours_above l, cut_above_lem p author n h, over_out q _ (equal refl)) in
        unlike u v (λ e. <ⁿ_irrefl (rw (← e) at (++_prefix q m q)))
    departs_differ (is_last l g) =
        let v : ours q ≡ q ++ (m ∷ q) = rw (ours_above l, keep_above p author n g, over_out q _ (equal refl)) in
        unlike (paper_above l) v (last_differs q (beginning (lead p author (pos n)) q) g)
    departs_differ (whole_below_last {t} e h k) =
        let l : new_last <ⁿ new_last ++ t = same refl e in
        let under-q = less (<ⁿ_trans h (<ⁿ_trans l k)) in
        let u : paper (new_last ++ t) ≡ q ++ (m ∷ (new_last ++ t)) = rw (paper_above l, row_less k) in
        let v : ours (new_last ++ t) ≡ q ++ (m ∷ t) = rw (ours_above l, cut_above_lem p author n h, over_out q _ under-q) in
        unlike u v (λ d. omega (arith, ap length d, length-append q (m ∷ t), length-append q (m ∷ (new_last ++ t))))
    departs_differ (late_test {t} h j k) =
        let l : new_last <ⁿ new_last ++ t = same refl (≤_nonempty h) in
        let f = prefix_yes (lead p author (pos n)) (≤_nonempty h) in
        let g = keep_above p author n {c = new_last ++ t} (λ t' d. let f : t ≡ t' = cc in rw f at h) in
        let u : paper (new_last ++ t) ≡ q ++ (m ∷ t) = rw (paper_above l, row_more k, f, row_less j) in
        let v : ours (new_last ++ t) ≡ new_last ++ t = rw (ours_above l, g, over_in q _ k) in
        unlike u v (λ d. omega (arith, ap length d, length-append q (m ∷ t), has_length q_filled))

  -- ── renamed, and reverted ──

  -- a fresh name does not begin with (p, A, s, z)
  fresh_prefix : {x : Row} (z : ℤ) → Fresh author x → Beginning (lead p author z) x → is_prefix (lead p author z ∷ []) x ≡ false
  unfolding Fresh
  fresh_prefix z f (begins t e v) = absurd (rw v at f (refl, refl))
  fresh_prefix z f (begins_not g _) = g

  fresh_above : {x : Row} (k : ℕ) → Fresh author x → N p author k ≤ⁿ x → N p author k <ⁿ x
  unfolding Fresh
  fresh_above k f (less h) = h
  fresh_above k f (equal e) = absurd (rw (← e) at f (refl, refl))

  gives_back_lem : (x : Row) → Fresh author x → (c : Case) → Says p author log x c → paper (become p author c x) ≡ x
  unfolding become rev_ren_id_less_than_new_first_id rev_ren_id_greater_than_new_last_id create_id_from_base
  gives_back_lem x f KeepBelow (h, k) = rw (paper_below k, fresh_prefix (negsuc 0) f (beginning _ x))
  gives_back_lem x f PutBelow (h, k) =
      let l : pred_new_first ++ x <ⁿ new_first = differ (offset refl refl refl across) in
      rw (paper_below l, prefix_yes (lead p author (negsuc 0)) (≤_nonempty k), row_less h)
  gives_back_lem x f (Logged k) (i, e) = paper_logged k i ∙ sym e
  gives_back_lem x f (Between k) (i, h, l) =
      let a : N p author k <ⁿ N p author k ++ x = same refl (nonempty h) in
      let b : N p author k ++ x <ⁿ N p author (suc k) = differ (offset refl refl refl next) in
      rw (paper_between k i a b, row_more h, row_more l)
  gives_back_lem x f (PutAbove k) (i, h, l) =
      let d : k ≡ n = omega arith in
      let a : new_last <ⁿ new_last ++ x = same refl (nonempty h) in
      let f = prefix_yes (lead p author (pos n)) (nonempty h) in
      let over_last = rw d at h in
      let under-new = rw d at l in
      rw (d, paper_above a, row_more (<ⁿ_trans over_last (<ⁿ_trans under-new a)), f, row_more over_last, row_less under-new)
  gives_back_lem x f KeepAbove (h, l) = rw (paper_above (fresh_above n f l), row_more h, fresh_prefix (pos n) f (beginning _ x))

  -- the paper takes every fresh name back that it has renamed
  pub paper_back_rename : (x : Row) → Rising log → Fresh author x → paper (rename_id x log author) ≡ x
  unfolding rename
  paper_back_rename x o f = rw (rename_agrees author r rest x o) (gives_back_lem x f (case_of p author log x) (case_says p author r rest x))

  -- ── the order ──

  agreed : {c : Row} → ¬ Departs author log c → Agrees c → paper c ≡ ours c
  agreed u (inl e) = e
  agreed u (inr d) = absurd (u d)

  module _ (filled : [] <ⁿ r) (o : Rising log) (free : All MarkerFree log) where
    -- where no name has a marker, the paper keeps the order of all names but those that depart
    pub paper_mono : {c d : Row} → MarkerFree c → MarkerFree d → ¬ Departs author log c → ¬ Departs author log d → c <ⁿ d → paper c <ⁿ paper d
    paper_mono {c} {d} i j u v l = rw (agreed u (back_agrees c), agreed v (back_agrees d)) (take_back_mono author r rest filled o free i j l)

    -- ── names between N(n−1) and r(n−1), the last logged name being fresh ──

    abbrev BelowLast : Row → Type 0
    BelowLast c = (new_last <ⁿ c) × (c <ⁿ last_id log)

    below_last : {c : Row} → BelowLast c → paper c ≡ last_id log ++ (m ∷ c)
    unfolding rev_ren_id_greater_than_new_last_id
    below_last (h, k) = rw (paper_above h, row_less k)

    -- what is not above N(n−1) is taken back to the last logged name or below it
    not_past : (c : Row) → c ≤ⁿ new_last → ours c ≤ⁿ last_id log
    unfolding take_back
    not_past c h = go (spot p author n c)
      where
        upto : (k : ℕ) → k ≤ n → at log k ≤ⁿ last_id log
        upto k i = let e : n ≡ length rest = omega arith in rw e (at_last r rest k o (omega arith))

        go : Spot p author n c → back_of p author log c ≤ⁿ last_id log
        go (first_over l) = less (<≤_trans (below_first p author r rest filled l) (upto 0 (omega arith)))
        go (level_with k i e) = rw (e, bullet_logged p author r rest k (omega arith)) (upto k i)
        go (in_gap_lem k i l u) = less (<≤_trans (below_logged p author r rest o free k (omega arith) l u) (upto (suc k) (omega arith)))
        go (last_under l) = absurd (<ⁿ_irrefl (<≤_trans l h))

    module _ (new : Fresh author (last_id log)) where
      no_start : (t : Row) → ¬ (last_id log ≡ new_last ++ t)
      unfolding Fresh
      no_start t e = rw e at new (refl, refl)

      pub paper_mono_last : {c d : Row} → MarkerFree c → MarkerFree d → Steady author log c → Steady author log d → c <ⁿ d → paper c <ⁿ paper d
      unfolding rev_ren_id_greater_than_new_last_id
      paper_mono_last {c} {d} i j u v l = go u v
        where
          both : BelowLast c → BelowLast d → paper c <ⁿ paper d
          both h k = rw (below_last h, below_last k) (++_left (last_id log) (same refl l))

          right : BelowLast c → ¬ Departs author log d → SplitN d (last_id log) → Beginning (lead p author (pos n)) d → paper c <ⁿ paper d
          right h v (is_below k e) b = both h (<ⁿ_trans h.0 l, k)
          right h v (is_level k e) b = absurd (v (rw k (is_last (<ⁿ_trans h.0 h.1) (λ t e. absurd (no_start t e)))))
          right h v (is_above k e) (begins t f w) =
              elim (side p author (last_id log) new) [ inl b ↦ clash (<ⁿ_trans h.0 h.1) (b (pos n) []) | inr b ↦ clash (rw w at k) (b (pos n) t) ]
          right h v (is_above k e) (begins_not f w) = rw (below_last h, paper_above (<ⁿ_trans h.0 l), row_more k, f) (over_low c k (all_inner j))

          left : ¬ Departs author log c → BelowLast d → Half (new_last) c → paper c <ⁿ paper d
          left u k (is_under h) = both (h, <ⁿ_trans l k.1) k
          left u k (at_least h) = rw (agreed u (back_agrees c), below_last k) (≤<_trans (not_past c h) (++_prefix (last_id log) m d))

          go : Steady author log c → Steady author log d → paper c <ⁿ paper d
          go (inl u) (inl v) = paper_mono i j u v l
          go (inl u) (inr k) = left u k (half (new_last) c)
          go (inr h) (inl v) = right h v (split_n d (last_id log)) (beginning (lead p author (pos n)) d)
          go (inr h) (inr k) = both h k

-- ── of every log ──

module _ (author : Author) (r : Row) (rest : List Row) (g : Log (r ∷ rest)) where
  valid_first : [] <ⁿ r
  valid_first = elim (all_valid (r ∷ rest) g.names) [ cons v vs ↦ valid_nonempty v ]

  module _ (c d : Row) (e : are_plain (c ∷ d ∷ r ∷ rest) ≡ true) (l : c <ⁿ d) where
    abbrev Kept : Type 0
    Kept = reverted author (r ∷ rest) c <ⁿ reverted author (r ∷ rest) d

    kept : ¬ Departs author (r ∷ rest) c → ¬ Departs author (r ∷ rest) d → Kept
    kept u v = go (all_free (c ∷ d ∷ r ∷ rest) e)
      where
        go : All MarkerFree (c ∷ d ∷ r ∷ rest) → Kept
        go (cons i (cons j is)) = paper_mono author r rest valid_first g.rises is i j u v l

    kept_last : fresh author (last_id (r ∷ rest)) ≡ true → Steady author (r ∷ rest) c → Steady author (r ∷ rest) d → Kept
    kept_last f u v = go (all_free (c ∷ d ∷ r ∷ rest) e)
      where
        go : All MarkerFree (c ∷ d ∷ r ∷ rest) → Kept
        go (cons i (cons j is)) = paper_mono_last author r rest valid_first g.rises is (fresh_Fresh author (last_id (r ∷ rest)) f) i j u v l

  compared_with : Compared author (r ∷ rest)
  compared_with =
      record {
        rename_agrees = λ x. rename_agrees author r rest x g.rises;
        back_agrees = back_agrees author r rest;
        departs_differ = λ c. departs_differ author r rest valid_first g.rises;
        given_back = λ x f. paper_back_rename author r rest x g.rises (fresh_Fresh author x f);
        order_kept = λ c d e u v l. kept c d e l u v;
        order_kept_last = λ c d e f u v l. kept_last c d e l f u v;
      }

pub compared : Comparison
compared author [] g = absurd (let i = g.some in omega arith)
compared author (r ∷ rest) g = compared_with author r rest g
