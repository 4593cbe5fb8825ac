-- Renaming keeps the order of fresh names strictly, markers or not: `rename_mono`, and of rising lists `rename_rising`.
-- A fresh name lies on one side of all names that begin with (p, A, s, ..): with that, the case of a name places it
-- (`Place`), and two places decide the order of what the names become. Assumes nothing.
use mathlib.Core.Path.{◌≡◌, refl, sym, ◌∙◌}
use mathlib.Core.Logic.{◌⊎◌, inl, inr}
use mathlib.Core.List.{List, [], ◌∷◌, map}
use Prim.Native.Nat.{ℕ, suc, ◌<◌}
use lib.IntN.{ℤ, pos, negsuc}
use Rattle.names.specs.declared.Author.{Author}
use Rattle.std.specs.declared.cmp.Ordering.{Ordering}
use Rattle.std.specs.declared.cmp.Ordering.TheVariants.{Less, Equal, Greater}
use Rattle.names.specs.Ordering.{Row, compare_ℕ, ◌<ᶻ◌, across, position, node, sequence, offset, ◌<ⁿ◌, ends, differ, same, Rising}
use Rattle.names.proofs.Laws.{Tri, below, level, above, tri_ℕ, <ⁿ_trans, <ⁿ_irrefl, <ᶻ_trans, row_less, row_more}
use Rattle.name_renames.specs.declared.Case.{Case}
use Rattle.name_renames.specs.declared.Case.TheVariants.{KeepBelow, PutBelow, Logged, Between, PutAbove, KeepAbove}
use Rattle.name_renames.specs.Renaming.{lead, N, case_above, case_of, become, rename, first_position}
use Rattle.name_renames.proofs.Fresh.{Fresh}
use Rattle.name_renames.proofs.Splits.{SplitN, is_below, is_level, is_above, split_n, clash, nonempty, next}
use Rattle.name_renames.proofs.Lists.{All, rising_map}

module _ (p : ℕ) (author : Author) where
  -- x is below every (p, A, s, z)·y
  abbrev pub BelowLeads : Row → Type 0
  BelowLeads x = (z : ℤ) (y : Row) → x <ⁿ lead p author z ∷ y

  -- x is above every (p, A, s, z)·y
  abbrev pub AboveLeads : Row → Type 0
  AboveLeads x = (z : ℤ) (y : Row) → lead p author z ∷ y <ⁿ x

  abbrev pub Side : Row → Type 0
  Side x = BelowLeads x ⊎ AboveLeads x

  pub side : (x : Row) → Fresh author x → Side x
  unfolding Fresh
  side [] f = inl (λ z y. ends)
  side (t ∷ x) f = by_position (compare_ℕ t.position p) (tri_ℕ t.position p)
    where
      by_sequence : (o : Ordering) → t.position ≡ p → t.node ≡ author.node → Tri ◌<◌ t.sequence author.sequence o → Side (t ∷ x)
      by_sequence Less e d (below h) = inl (λ z y. differ (sequence e d h))
      by_sequence Equal e d (level h) = absurd (f (d, h))
      by_sequence Greater e d (above h) = inr (λ z y. differ (sequence (sym e) (sym d) h))

      by_node : (o : Ordering) → t.position ≡ p → Tri ◌<◌ t.node author.node o → Side (t ∷ x)
      by_node Less e (below h) = inl (λ z y. differ (node e h))
      by_node Equal e (level d) = by_sequence (compare_ℕ t.sequence author.sequence) e d (tri_ℕ t.sequence author.sequence)
      by_node Greater e (above h) = inr (λ z y. differ (node (sym e) h))

      by_position : (o : Ordering) → Tri ◌<◌ t.position p o → Side (t ∷ x)
      by_position Less (below h) = inl (λ z y. differ (position h))
      by_position Equal (level e) = by_node (compare_ℕ t.node author.node) e (tri_ℕ t.node author.node)
      by_position Greater (above h) = inr (λ z y. differ (position h))

  -- ── the case of a name above r(k), with what places it there; the list is what follows r(k) in the log ──

  pub data PlaceAbove : ℕ → List Row → Row → Case → Type 0 where
    in_gap : {k : ℕ} {r x : Row} {rest : List Row} → x <ⁿ r → PlaceAbove k (r ∷ rest) x (Between k)
    at_next : {k : ℕ} {r x : Row} {rest : List Row} → x ≡ r → PlaceAbove k (r ∷ rest) x (Logged (suc k))
    past : {k : ℕ} {r x : Row} {rest : List Row} {c : Case} → r <ⁿ x → PlaceAbove (suc k) rest x c → PlaceAbove k (r ∷ rest) x c
    last_put : {k : ℕ} {x : Row} → BelowLeads x → PlaceAbove k [] x (PutAbove k)
    last_kept : {k : ℕ} {x : Row} → AboveLeads x → PlaceAbove k [] x KeepAbove

  pub place_above : (k : ℕ) (rest : List Row) (x : Row) → Fresh author x → PlaceAbove k rest x (case_above p author k rest x)
  unfolding case_above
  place_above k [] x f = go (side x f)
    where
      go : Side x → PlaceAbove k [] x (case_above p author k [] x)
      go (inl b) = rw (row_less (b (pos k) [])) (last_put b)
      go (inr b) = rw (row_more (b (pos k) [])) (last_kept b)
  place_above k (r ∷ rest) x f = go (split_n x r) (place_above (suc k) rest x f)
    where
      go : SplitN x r → PlaceAbove (suc k) rest x (case_above p author (suc k) rest x) → PlaceAbove k (r ∷ rest) x (case_above p author k (r ∷ rest) x)
      go (is_below h e) v = rw e (in_gap h)
      go (is_level h e) v = rw e (at_next h)
      go (is_above h e) v = rw e (past h v)

  -- the result is above (p, A, s, z)·y for each z below k
  pub above_lead : {k : ℕ} {rest : List Row} {x : Row} {c : Case} → PlaceAbove k rest x c → (z : ℤ) (y : Row) → z <ᶻ pos k → lead p author z ∷ y <ⁿ become p author c x
  unfolding become
  above_lead (in_gap h) z y l = differ (offset refl refl refl l)
  above_lead (at_next e) z y l = differ (offset refl refl refl (<ᶻ_trans l next))
  above_lead (past h v) z y l = above_lead v z y (<ᶻ_trans l next)
  above_lead (last_put b) z y l = differ (offset refl refl refl l)
  above_lead (last_kept b) z y l = b z y

  -- the result is above N(k), if x is not empty
  pub above_N : {k : ℕ} {rest : List Row} {x : Row} {c : Case} → PlaceAbove k rest x c → [] <ⁿ x → N p author k <ⁿ become p author c x
  unfolding become
  above_N (in_gap h) e = same refl e
  above_N (at_next _) e = differ (offset refl refl refl next)
  above_N (past h v) e = above_lead v _ _ next
  above_N (last_put b) e = same refl e
  above_N (last_kept b) e = b _ _

  pub above_mono : {k : ℕ} {rest : List Row} {x y : Row} {c d : Case} → PlaceAbove k rest x c → PlaceAbove k rest y d → x <ⁿ y → become p author c x <ⁿ become p author d y
  unfolding become
  above_mono (in_gap h) (in_gap k) l = same refl l
  above_mono (in_gap h) (at_next k) l = differ (offset refl refl refl next)
  above_mono (in_gap h) (past k w) l = above_lead w _ _ next
  above_mono (at_next h) (in_gap k) l = clash l (rw h k)
  above_mono (at_next h) (at_next k) l = absurd (<ⁿ_irrefl (rw (h ∙ sym k) at l))
  above_mono (at_next h) (past k w) l = above_N w (nonempty k)
  above_mono (past h v) (in_gap k) l = clash h (<ⁿ_trans l k)
  above_mono (past h v) (at_next k) l = clash h (rw k at l)
  above_mono (past h v) (past k w) l = above_mono v w l
  above_mono (last_put b) (last_put d) l = same refl l
  above_mono (last_put b) (last_kept d) l = d _ _
  above_mono (last_kept b) (last_put d) l = clash l (<ⁿ_trans (d (pos 0) []) (b (pos 0) []))
  above_mono (last_kept b) (last_kept d) l = l

  -- ── the case of any name, with what places it there ──

  pub data Place : List Row → Row → Case → Type 0 where
    low_kept : {r x : Row} {rest : List Row} → x <ⁿ r → BelowLeads x → Place (r ∷ rest) x KeepBelow
    low_put : {r x : Row} {rest : List Row} → x <ⁿ r → AboveLeads x → Place (r ∷ rest) x PutBelow
    at_first : {r x : Row} {rest : List Row} → x ≡ r → Place (r ∷ rest) x (Logged 0)
    higher : {r x : Row} {rest : List Row} {c : Case} → r <ⁿ x → PlaceAbove 0 rest x c → Place (r ∷ rest) x c

  pub place : (r : Row) (rest : List Row) (x : Row) → Fresh author x → Place (r ∷ rest) x (case_of p author (r ∷ rest) x)
  unfolding case_of
  place r rest x f = go (split_n x r) (side x f)
    where
      go : SplitN x r → Side x → Place (r ∷ rest) x (case_of p author (r ∷ rest) x)
      go (is_below h e) (inl b) = rw (e, row_less (b (pos 0) [])) (low_kept h b)
      go (is_below h e) (inr b) = rw (e, row_more (b (pos 0) [])) (low_put h b)
      go (is_level h e) b = rw e (at_first h)
      go (is_above h e) b = rw e (higher h (place_above 0 rest x f))

  pub place_mono : {log : List Row} {x y : Row} {c d : Case} → Place log x c → Place log y d → x <ⁿ y → become p author c x <ⁿ become p author d y
  unfolding become
  place_mono (low_kept h b) (low_kept k d) l = l
  place_mono (low_kept h b) (low_put k d) l = b _ _
  place_mono (low_kept h b) (at_first k) l = b _ _
  place_mono (low_kept h b) (higher k w) l = <ⁿ_trans (b (negsuc 0) []) (above_lead w (negsuc 0) [] across)
  place_mono (low_put h b) (low_kept k d) l = clash l (<ⁿ_trans (d (pos 0) []) (b (pos 0) []))
  place_mono (low_put h b) (low_put k d) l = same refl l
  place_mono (low_put h b) (at_first k) l = differ (offset refl refl refl across)
  place_mono (low_put h b) (higher k w) l = above_lead w _ _ across
  place_mono (at_first h) (low_kept k d) l = clash l (rw h k)
  place_mono (at_first h) (low_put k d) l = clash l (rw h k)
  place_mono (at_first h) (at_first k) l = absurd (<ⁿ_irrefl (rw (h ∙ sym k) at l))
  place_mono (at_first h) (higher k w) l = above_N w (nonempty k)
  place_mono (higher h v) (low_kept k d) l = clash h (<ⁿ_trans l k)
  place_mono (higher h v) (low_put k d) l = clash h (<ⁿ_trans l k)
  place_mono (higher h v) (at_first k) l = clash h (rw k at l)
  place_mono (higher h v) (higher k w) l = above_mono v w l

-- ── the theorem ──

-- "For fresh names the order is kept strictly, markers or not."
pub rename_mono : (author : Author) (log : List Row) {x y : Row} → Fresh author x → Fresh author y → x <ⁿ y → rename author log x <ⁿ rename author log y
unfolding rename case_of become
rename_mono author [] f g l = l
rename_mono author (r ∷ rest) {x} {y} f g l = let p = first_position (r ∷ rest) in place_mono p author (place p author r rest x f) (place p author r rest y g) l

-- a rising list of fresh names, renamed, is rising
pub rename_rising : (author : Author) (log : List Row) {names : List Row} → All (Fresh author) names → Rising names → Rising (map (rename author log) names)
rename_rising author log fs o = rising_map (rename author log) (λ a b f g l. rename_mono author log f g l) fs o
