-- What renaming and taking back give are names again, markers or not: `rename_valid`, `take_back_valid`, and of lists
-- `rename_valid_all`, `take_back_valid_all`. A log may have as many names as offsets count. Assumes nothing.
use mathlib.Core.Path.{refl, sym}
use mathlib.Core.List.{List, [], ◌∷◌, ◌++◌, map}
use Prim.Native.Nat.{ℕ, suc, ◌+◌, ◌≤◌}
use native.Mathlib.Omega.{arith}
use lib.IntN.{ℤ, pos, negsuc}
use lib.ListN.{length}
use Rattle.names.specs.declared.Author.{Author}
use Rattle.names.specs.declared.Tuple.{Tuple}
use Rattle.names.specs.Ordering.{Row, ◌<ᶻ◌, up, across, down, ◌<ⁿ◌, ends, differ, ◌≤ⁿ◌, less, equal}
use Rattle.names.specs.Names.{m, M, one_below}
use Rattle.names.proofs.Validity.{Allowed, Ordinary, Middle, plain, marker_m, marker_M, Ends, final, onward, Valid, valid, valid_ends, ends_middle, lowered_ordinary}
use Rattle.name_renames.specs.declared.Case.{Case}
use Rattle.name_renames.specs.declared.Case.TheVariants.{KeepBelow, PutBelow, Logged, Between, PutAbove, KeepAbove}
use Rattle.name_renames.specs.Renaming.{lead, N, case_of, become, rename, take_back, under, over, tail, back_below, back_between, back_above, back_from, back_of}
use Rattle.name_renames.proofs.Splits.{Half, half, is_under, at_least, clash, no_nil, ≤_nonempty, same_head}
use Rattle.name_renames.proofs.Lists.{All, nil, cons, all_map}
use Rattle.name_renames.proofs.Table.{Says, case_says}
use Rattle.name_renames.proofs.Gaps.{ordinary_inner, under_in, under_out, over_in, over_out, gap_is}
use Rattle.name_renames.proofs.Walk.{Starts, starts, squeeze, StripBelow, kept_below, cut_below, strip_below_lem, StripAbove, kept_above, cut_above, strip_above_lem, back_N, back_past, back_gap, back_end, back_low, back_high}

-- ── (p, A, s, z) ──

module _ (p : ℕ) (author : Author) (p-min : 1 ≤ p) (p-max : p ≤ 65534) (a : Allowed author) where
  lead_ordinary : {z : ℤ} → negsuc 1 <ᶻ z → z <ᶻ pos 2147483647 → Ordinary (lead p author z)
  lead_ordinary i j = record { position_min = p-min; position_max = p-max; node_min = a.node_min; node_max = a.node_max; sequence_max = a.sequence_max; offset_min = i; offset_max = j }

  N_ordinary : {k : ℕ} → k ≤ 2147483646 → Ordinary (lead p author (pos k))
  N_ordinary {k} h = lead_ordinary across (up {a = k} {b = 2147483647} (omega arith))

  N_valid : {k : ℕ} → k ≤ 2147483646 → Valid (N p author k)
  N_valid h = valid (N_ordinary h) (final (N_ordinary h) across)

  -- ── renaming ──

  put_valid : {z : ℤ} {x : Row} → Ordinary (lead p author z) → Valid x → Valid (lead p author z ∷ x)
  put_valid o (valid i e) = valid o (onward (plain o) e)

  become_valid : (log : List Row) (c : Case) (x : Row) → length log ≤ 2147483647 → Says p author log x c → Valid x → Valid (become p author c x)
  unfolding become
  become_valid log KeepBelow x b h v = v
  become_valid log PutBelow x b h v = put_valid (lead_ordinary (down {a = 1} {b = 0} (omega arith)) across) v
  become_valid log (Logged k) x b h v = N_valid (omega arith)
  become_valid log (Between k) x b h v = put_valid (N_ordinary (omega arith)) v
  become_valid log (PutAbove k) x b h v = put_valid (N_ordinary (omega arith)) v
  become_valid log KeepAbove x b h v = v

pub rename_valid : (author : Author) (r : Row) (rest : List Row) (x : Row) → Allowed author → length (r ∷ rest) ≤ 2147483647 → Valid r → Valid x → Valid (rename author (r ∷ rest) x)
unfolding rename
rename_valid author [] rest x a b x6 v = elim x6 [ ]
rename_valid author (t ∷ r) rest x a b (valid o e) v =
    let p = t.position in
    let log = (t ∷ r) ∷ rest in
    become_valid p author o.position_min o.position_max a log (case_of p author log x) x b (case_says p author (t ∷ r) rest x) v

module _ (author : Author) (r : Row) (rest : List Row) where
  abbrev log : List Row
  log = r ∷ rest

  pub rename_valid_all : {names : List Row} → Allowed author → length log ≤ 2147483647 → Valid r → All Valid names → All Valid (map (rename author log) names)
  rename_valid_all a b v vs = all_map (rename author log) (λ x i. rename_valid author r rest x a b v i) vs

-- ── r·m·t, (one below r)·M·t, and t between two names ──

over_valid : {r t : Row} → Valid r → Ends t → Valid (r ++ (m ∷ t))
over_valid {t = t} (valid o e) f = valid o (go e)
  where
    go : {r : Row} → Ends r → Ends (r ++ (m ∷ t))
    go (final j h) = onward (plain j) (onward (marker_m refl) f)
    go (onward b e) = onward b (go e)

ends_nonempty : {a : Row} → Ends a → [] <ⁿ a
ends_nonempty (final o h) = ends
ends_nonempty (onward b e) = ends

-- what `take_back_mono` asks of r0
pub valid_nonempty : {a : Row} → Valid a → [] <ⁿ a
valid_nonempty v = ends_nonempty (valid_ends v)

under_ends : (r : Row) {t : Row} → Ends r → Ends t → Ends (one_below r ++ (M ∷ t))
unfolding one_below
under_ends [] {t = t} x'' f = elim x'' [ ]
under_ends (w ∷ []) (final o h) f = onward (plain (lowered_ordinary o h)) (onward (marker_M refl) f)
under_ends (w ∷ []) (onward b e) f = no_nil (ends_nonempty e)
under_ends (w ∷ u ∷ r) (onward b e) f = onward b (under_ends (u ∷ r) e f)

under_valid : {r t : Row} → Valid r → Ends t → Valid (one_below r ++ (M ∷ t))
unfolding one_below
under_valid {r = []} {t = t} x'' f = elim x'' [ ]
under_valid {r = w ∷ []} (valid o (final i h)) f = valid (lowered_ordinary i h) (under_ends (w ∷ []) (final i h) f)
under_valid {r = w ∷ []} (valid o (onward b e)) f = no_nil (ends_nonempty e)
under_valid {r = w ∷ u ∷ r} (valid o e) f = valid o (under_ends (w ∷ u ∷ r) e f)

-- what lies between two names that begin with ordinary tuples begins with one itself
between_ordinary : {s u : Tuple} {a b t : Row} → Ordinary s → Ordinary u → s ∷ a <ⁿ t → t <ⁿ u ∷ b → Ends t → Valid t
between_ordinary {t = []} o i h k e = no_nil h
between_ordinary {s} {u} {a} {b} {t = w ∷ t} o i h k e = go (ends_middle e)
  where
    go : Middle w → Valid (w ∷ t)
    go (plain j) = valid j e
    go (marker_m f) = clash {b = s ∷ a} (differ (rw f (ordinary_inner o).low)) h
    go (marker_M f) = clash {a = u ∷ b} (differ (rw f (ordinary_inner i).high)) k

between_valid : {r q t : Row} → Valid r → Valid q → r ≤ⁿ t → t <ⁿ q → Ends t → Valid t
between_valid (valid o e) (valid i f) (less h) k g = between_ordinary o i h k g
between_valid v w (equal e) k g = rw e at v

ends_tail : {h : Tuple} {t : Row} → Ends (h ∷ t) → [] <ⁿ t → Ends t
ends_tail (final o h) k = no_nil k
ends_tail (onward b e) k = e

starts_ends : {h : Tuple} {c : Row} → Starts h [] c → Ends c → Ends (tail c)
starts_ends (starts e k) f = ends_tail f k

over_name : {r v w : Row} → Valid r → Ends v → (r <ⁿ v → Valid w) → Valid (over r v w)
over_name {r} {v} {w} a e f = go (half r v)
  where
    go : Half r v → Valid (over r v w)
    go (is_under h) = rw (over_in r w h) (f h)
    go (at_least h) = rw (over_out r w h) (over_valid a e)

under_name : {r v : Row} → Valid r → Ends v → (v <ⁿ r → Valid v) → Valid (under r v)
under_name {r} {v} a e f = go (half v r)
  where
    go : Half v r → Valid (under r v)
    go (is_under h) = rw (under_in r h) (f h)
    go (at_least h) = rw (under_out r h) (under_valid a e)

-- ── taking back ──

module _ (p : ℕ) (author : Author) (p-min : 1 ≤ p) (p-max : p ≤ 65534) (a : Allowed author) where
  below_valid : (r : Row) {c : Row} → Valid r → Valid c → Valid (back_below p author r c)
  below_valid r {c} vr vc = go (strip_below_lem p author c) vc
    where
      go : {c v : Row} → StripBelow p author c v → Valid c → Valid (under r v)
      go (kept_below f) vc = under_name vr (valid_ends vc) (λ _. vc)
      go (cut_below e k) (valid o i) = let f = ends_tail i (≤_nonempty k) in under_name vr f (λ x. between_valid (N_valid p author p-min p-max a (omega arith)) vr k x f)

  gap_valid : (r q t : Row) → Valid r → Valid q → Ends t → Valid (back_between r q t)
  gap_valid r q t vr vq e = rw (gap_is r q t) (over_name vr e (λ x. under_name vq e (λ y. between_valid vr vq (less x) y e)))

  above_valid : (k : ℕ) (r : Row) {c : Row} → k ≤ 2147483646 → Valid r → Valid c → N p author k <ⁿ c → Valid (back_above p author k r c)
  above_valid k r {c} b vr vc h = go (strip_above_lem p author k c) vc h
    where
      go : {c v : Row} → StripAbove p author k c v → Valid c → N p author k <ⁿ c → Valid (over r v v)
      go (kept_above f) vc h = over_name vr (valid_ends vc) (λ _. vc)
      go (cut_above e j) (valid o i) h = let f = ends_tail i (same_head (sym e) h) in over_name vr f (λ x. between_valid vr (N_valid p author p-min p-max a b) (less x) j f)

  from_valid : (k : ℕ) (r : Row) (rest : List Row) (c : Row) → k + length rest ≤ 2147483646 → All Valid (r ∷ rest) → Valid c → N p author k ≤ⁿ c → Valid (back_from p author k r rest c)
  from_valid k r [] c b (cons vr vs) vc h = go h
    where
      go : N p author k ≤ⁿ c → Valid (back_from p author k r [] c)
      go (equal e) = rw (← e, back_N p author k r []) vr
      go (less h) = rw (back_end p author k r h) (above_valid k r (omega arith) vr vc h)
  from_valid k r (q ∷ rest) c b (cons vr (cons vq vs)) vc h = go h (half c (N p author (suc k))) (λ x. from_valid (suc k) q rest c (omega arith) (cons vq vs) vc x)
    where
      go : N p author k ≤ⁿ c → Half c (N p author (suc k)) → (N p author (suc k) ≤ⁿ c → Valid (back_from p author (suc k) q rest c)) → Valid (back_from p author k r (q ∷ rest) c)
      go (equal e) x f = rw (← e, back_N p author k r (q ∷ rest)) vr
      go (less h) (is_under x) f = rw (back_gap p author k r q rest h x) (gap_valid r q (tail c) vr vq (starts_ends (squeeze h x) (valid_ends vc)))
      go (less h) (at_least x) f = rw (back_past p author k r q rest x) (f x)

  back_valid : (r : Row) (rest : List Row) (c : Row) → length (r ∷ rest) ≤ 2147483647 → All Valid (r ∷ rest) → Valid c → Valid (back_of p author (r ∷ rest) c)
  back_valid r rest c b (cons vr vs) vc = go (half c (N p author 0))
    where
      go : Half c (N p author 0) → Valid (back_of p author (r ∷ rest) c)
      go (is_under x) = rw (back_low p author r rest x) (below_valid r vr vc)
      go (at_least x) = rw (back_high p author r rest x) (from_valid 0 r rest c (omega arith) (cons vr vs) vc x)

pub take_back_valid : (author : Author) (log : List Row) (c : Row) → Allowed author → length log ≤ 2147483647 → All Valid log → Valid c → Valid (take_back author log c)
unfolding take_back back_of
take_back_valid author [] c a b nil v = v
take_back_valid author (r ∷ rest) c a b (cons (valid {t} o e) vs) v = back_valid t.position author o.position_min o.position_max a r rest c b (cons (valid o e) vs) v

module _ (author : Author) (log : List Row) where
  pub take_back_valid_all : {names : List Row} → Allowed author → length log ≤ 2147483647 → All Valid log → All Valid names → All Valid (map (take_back author log) names)
  take_back_valid_all a b vs cs = all_map (take_back author log) (λ c i. take_back_valid author log c a b vs i) cs
