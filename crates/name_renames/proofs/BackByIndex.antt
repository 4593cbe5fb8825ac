-- 01's bullets of taking back, by the name's own first tuple: a name c that is neither below N(0) nor above N(n−1) is N(k), or N(k)·t with
-- k + 1 < n, and k is the first tuple's offset (`lies_within`, `within_at`); the bullets over any log that has a name (`back_under`,
-- `back_logged`, `back_in_gap`, `back_over`). Assumes nothing.
use mathlib.Core.Path.{◌≡◌, refl, ◌∙◌, sym, ap, subst}
use mathlib.Core.List.{List, [], ◌∷◌}
use mathlib.Core.Bool.{true}
use Prim.Native.Nat.{ℕ, suc, ◌<◌, ◌≤◌}
use native.Mathlib.Decide.{dec_lt}
use native.Mathlib.Nat.{not-suc-le-zero}
use native.Mathlib.Omega.{arith}
use lib.IntN.{ℤ, pos, negsuc, nat_abs}
use lib.ListN.{length, drop, get_or, length-drop, drop_of_length-le}
use lib.Signed.{non_neg}
use Rattle.names.specs.declared.Author.{Author}
use Rattle.names.specs.declared.Tuple.{Tuple}
use Rattle.std.specs.declared.cmp.Ordering.{Ordering}
use Rattle.names.specs.Ordering.{Row, compare_tuples, up, across, ◌<ᵗ◌, position, node, sequence, offset, ◌<ⁿ◌, differ, same, ◌≤ⁿ◌, less, equal}
use Rattle.names.specs.Names.{m}
use Rattle.names.proofs.Laws.{<ᶻ_irrefl, <ⁿ_irrefl, ≤<_trans, Tri, below, level, above, tri_t}
use Rattle.names.proofs.TestedOrder.{above_none}
use Rattle.name_renames.specs.Renaming.{lead, N, tail, back_below, back_between, back_above, back_of, take_back, first_position}
use Rattle.name_renames.proofs.Lists.{at}
use Rattle.name_renames.proofs.Splits.{no_nil, next}
use Rattle.name_renames.proofs.Walk.{bullet_logged, bullet_below, bullet_between, bullet_above}

-- ── between N(0) and N(n−1) ──

module _ (p : ℕ) (author : Author) where
  -- a tuple below (p, A, s, its own offset) is below all (p, A, s, ..), and so is one above
  front_below : {h : Tuple} (z : ℤ) → h <ᵗ lead p author h.offset → h <ᵗ lead p author z
  front_below z (position i) = position i
  front_below z (node e i) = node e i
  front_below z (sequence e f i) = sequence e f i
  front_below z (offset e f g i) = absurd (<ᶻ_irrefl i)

  front_above : {h : Tuple} (z : ℤ) → lead p author h.offset <ᵗ h → lead p author z <ᵗ h
  front_above z (position i) = position i
  front_above z (node e i) = node e i
  front_above z (sequence e f i) = sequence e f i
  front_above z (offset e f g i) = absurd (<ᶻ_irrefl i)

  -- c is N(k), or N(k)·t with a name of the log after r(k)
  pub record Within (last : ℕ) (c : Row) : Type 0 where
    pub k : ℕ
    pub is : c ≡ lead p author (pos k) ∷ drop 1 c
    pub most : k ≤ last
    pub room : 2 ≤ length c → k < last

  pub lies_within : (last : ℕ) (c : Row) → N p author 0 ≤ⁿ c → c ≤ⁿ N p author last → Within last c
  lies_within last [] (less h) g = no_nil h
  lies_within last [] (equal e) g = absurd (let q = ap length e in omega arith)
  lies_within last (h ∷ t) f g = by (compare_tuples h (lead p author h.offset)) (tri_t h (lead p author h.offset))
    where
      too_low : {X : Type 0} → h <ᵗ lead p author (pos 0) → X
      too_low i = absurd (<ⁿ_irrefl (≤<_trans f (differ i)))

      too_high : {X : Type 0} → N p author last <ⁿ h ∷ t → X
      too_high i = absurd (<ⁿ_irrefl (≤<_trans g i))

      most : (k : ℕ) → h ≡ lead p author (pos k) → k ≤ last
      most k e = elim (dec_lt last k) [
        | yes i ↦ too_high (differ (rw e (offset refl refl refl (up {a = last} {b = k} i))))
        | no i ↦ omega arith
      ]

      more : (k : ℕ) → h ≡ lead p author (pos k) → k ≡ last → 2 ≤ length (h ∷ t) → [] <ⁿ t → k < last
      more k e q i n = too_high (same (ap (λ (j : ℕ). lead p author (pos j)) (sym q) ∙ sym e) n)

      room : (k : ℕ) → h ≡ lead p author (pos k) → 2 ≤ length (h ∷ t) → k < last
      room k e i = elim (dec_lt k last) [
        | yes j ↦ j
        | no j ↦ let m = most k e in more k e (omega arith) i (above_none t (omega arith))
      ]

      by_offset : (z : ℤ) → h ≡ lead p author z → Within last (h ∷ t)
      by_offset (negsuc n) e = too_low (rw e (offset refl refl refl across))
      by_offset (pos k) e = record { k = k; is = ap (λ (u : Tuple). u ∷ t) e; most = most k e; room = room k e }

      by : (o : Ordering) → Tri ◌<ᵗ◌ h (lead p author h.offset) o → Within last (h ∷ t)
      by _ (below i) = too_low (front_below (pos 0) i)
      by _ (level e) = by_offset h.offset e
      by _ (above i) = too_high (differ (front_above (pos last) i))

-- the offset of the first tuple is that k
module _ (p : ℕ) (author : Author) {last : ℕ} {c : Row} (w : Within p author last c) where
  pub within_long : 1 ≤ length c
  within_long = omega (arith, ap length w.is)

  within_offset : (get_or c 0 m).offset ≡ pos w.k
  within_offset = ap (λ (x : Row). (get_or x 0 m).offset) w.is

  pub within_natural : non_neg (get_or c 0 m).offset ≡ true
  within_natural = ap non_neg within_offset

  pub within_at : (i : ℕ) → pos i ≡ (get_or c 0 m).offset → (c ≡ lead p author (pos i) ∷ drop 1 c) × (i ≤ last) × (2 ≤ length c → i < last)
  within_at i e =
      let q : w.k ≡ i = ap nat_abs (sym (e ∙ within_offset)) in
      (w.is ∙ ap (λ (j : ℕ). lead p author (pos j) ∷ drop 1 c) q, omega (arith, w.most), λ h. let r = w.room h in omega arith)

-- ── 01's bullets, over any log that has a name ──

module _ (author : Author) (c : Row) where
  -- "c below N(0)"
  pub back_under : (log : List Row) → 1 ≤ length log → c <ⁿ N (first_position log) author 0 → back_below (first_position log) author (at log 0) c ≡ take_back author log c
  unfolding take_back
  back_under [] n h = absurd (not-suc-le-zero n)
  back_under (r ∷ rest) n h = sym (bullet_below (first_position (r ∷ rest)) author r rest h)

  -- "c above N(n−1)"
  pub back_over : (log : List Row) (k : ℕ) → suc k ≡ length log → N (first_position log) author k <ⁿ c → back_above (first_position log) author k (at log k) c ≡ take_back author log c
  unfolding take_back
  back_over [] k n h = absurd (omega arith)
  back_over (r ∷ rest) k n h = sym (bullet_above (first_position (r ∷ rest)) author r rest k n h)

  -- "c = N(k), 0 ≤ k < n"
  pub back_logged : (log : List Row) (k : ℕ) → k < length log → c ≡ lead (first_position log) author (pos k) ∷ drop 1 c → length c < 2 → at log k ≡ take_back author log c
  unfolding take_back
  back_logged [] k i e h = absurd (not-suc-le-zero i)
  back_logged (r ∷ rest) k i e h =
      let p = first_position (r ∷ rest) in
      let q : c ≡ N p author k = e ∙ ap (λ (t : Row). lead p author (pos k) ∷ t) (drop_of_length-le c {i = 1} (omega arith)) in
      sym (ap (back_of p author (r ∷ rest)) q ∙ bullet_logged p author r rest k i)

  -- "c between N(k) and N(k+1), so c = N(k)·t"
  pub back_in_gap : (log : List Row) (k : ℕ) → suc k < length log → c ≡ lead (first_position log) author (pos k) ∷ drop 1 c → 2 ≤ length c →
      back_between (at log k) (at log (suc k)) (drop 1 c) ≡ take_back author log c
  unfolding take_back
  back_in_gap [] k i e h = absurd (not-suc-le-zero i)
  back_in_gap (r ∷ rest) k i e h =
      let p = first_position (r ∷ rest) in
      let log = r ∷ rest in
      let t = above_none (drop 1 c) (omega (arith, length-drop 1 c)) in
      let a : N p author k <ⁿ c = subst (λ (x : Row). N p author k <ⁿ x) (sym e) (same refl t) in
      let b : c <ⁿ N p author (suc k) = subst (λ (x : Row). x <ⁿ N p author (suc k)) (sym e) (differ (offset refl refl refl next)) in
      sym ((bullet_between p author r rest k i a b).1 ∙ ap (back_between (at log k) (at log (suc k))) (ap tail e))
