-- What the choices of specs/Renaming.antt come to, and what is stripped of a name, where a function has tested it: a comparison that was
-- made (`chosen`, `chosen_one`), the first tuple and the rest (`begins_as`, `low_as`, `begins_long`), and by these two the stripped name:
-- `below_kept`, `below_low`, `below_cut` of `strip_below`, `above_kept`, `above_high`, `above_cut` of `strip_above`. Assumes nothing.
use mathlib.Core.Path.{◌≡◌, refl, ◌∙◌, sym, ap}
use mathlib.Core.List.{[], ◌∷◌}
use mathlib.Core.Bool.{Bool, true, false}
use Prim.Native.Nat.{ℕ, ◌≤◌}
use native.Mathlib.Omega.{arith}
use lib.IntN.{ℤ, pos, negsuc}
use lib.ListN.{length, take, drop}
use Rattle.names.specs.declared.Author.{Author}
use Rattle.names.specs.declared.Tuple.{Tuple}
use Rattle.std.specs.declared.cmp.Ordering.{Ordering}
use Rattle.std.specs.declared.cmp.Ordering.TheVariants.{Less, Equal, Greater}
use Rattle.names.specs.Ordering.{Row, compare_tuples, compare_rows}
use Rattle.std.specs.Ordering.{is_lt, is_eq, ordering_then}
use Rattle.numbers.proofs.Bools.{yes_no}
use Rattle.names.proofs.TestedOrder.{is_under_lem, not_under}
use Rattle.name_renames.specs.Renaming.{choose, if_below, if_same, lead, N, strip_below, strip_above}
use Rattle.name_renames.proofs.Splits.{if_below_lem, if_not_below_lem}

-- ── a comparison that was made ──

-- r is what comparing x with y gave, and o which of the three it is
pub chosen : {A : Type 0} (x y : Row) {o r : Ordering} (a b d : A) → r ≡ compare_rows x y → r ≡ o → choose o a b d ≡ choose (compare_rows x y) a b d
chosen x y a b d e f = ap (λ (p : Ordering). choose p a b d) (sym f ∙ e)

-- the same against the name of one tuple t, which is u
pub chosen_one : {A : Type 0} (x : Row) (t u : Tuple) {o r : Ordering} (a b d : A) → t ≡ u → r ≡ compare_rows x (t ∷ []) → r ≡ o → choose o a b d ≡ choose (compare_rows x (u ∷ [])) a b d
chosen_one x t u a b d q e f = chosen x (u ∷ []) a b d (e ∙ ap (λ (s : Tuple). compare_rows x (s ∷ [])) q) f

below_yes : {A : Type 0} (x y : Row) (a b : A) → is_lt (compare_rows x y) ≡ true → if_below x y a b ≡ a
below_yes x y a b e = if_below_lem a b (is_under_lem x y e)

below_no : {A : Type 0} (x y : Row) (a b : A) → is_lt (compare_rows x y) ≡ false → if_below x y a b ≡ b
below_no x y a b e = if_not_below_lem a b (not_under x y e)

first_same : (h u : Tuple) {A : Type 0} (a b : A) → is_eq (compare_rows (h ∷ []) (u ∷ [])) ≡ true → if_same h u a b ≡ a
unfolding compare_rows
first_same h u a b e = go (compare_tuples h u) e
  where
    go : (o : Ordering) → is_eq (ordering_then o Equal) ≡ true → choose o b a b ≡ a
    go Less e = yes_no e refl
    go Equal e = refl
    go Greater e = yes_no e refl

first_other : (h u : Tuple) {A : Type 0} (a b : A) → is_eq (compare_rows (h ∷ []) (u ∷ [])) ≡ false → if_same h u a b ≡ b
unfolding compare_rows
first_other h u a b e = go (compare_tuples h u) e
  where
    go : (o : Ordering) → is_eq (ordering_then o Equal) ≡ false → choose o b a b ≡ b
    go Less e = refl
    go Equal e = yes_no refl e
    go Greater e = refl

-- ── the first tuple and the rest ──

-- what the tests say of the tuple v, where the code has made the tuple u for them
pub begins_as : (c : Row) {u v : Tuple} {b r : Bool} → u ≡ v → r ≡ is_eq (compare_rows (take 1 c) (u ∷ [])) → r ≡ b → is_eq (compare_rows (take 1 c) (v ∷ [])) ≡ b
begins_as c e f g = sym (ap (λ (t : Tuple). is_eq (compare_rows (take 1 c) (t ∷ []))) e) ∙ sym f ∙ g

pub low_as : {x y : Row} {u v : Tuple} {b r : Bool} → x ≡ y → u ≡ v → r ≡ is_lt (compare_rows x (u ∷ [])) → r ≡ b → is_lt (compare_rows y (v ∷ [])) ≡ b
low_as e d f g = sym (λ i. is_lt (compare_rows (e i) (d i ∷ []))) ∙ sym f ∙ g

pub begins_long : (c : Row) (u : Tuple) → is_eq (compare_rows (take 1 c) (u ∷ [])) ≡ true → 1 ≤ length c
unfolding compare_rows
begins_long [] u e = yes_no e refl
begins_long (h ∷ t) u e = omega arith

-- ── what is stripped ──

module _ (p : ℕ) (author : Author) where
  abbrev Begins : ℤ → Row → Bool → Type 0
  Begins z c b = is_eq (compare_rows (take 1 c) (lead p author z ∷ [])) ≡ b

  abbrev Low : ℕ → Row → Bool → Type 0
  Low k c b = is_lt (compare_rows (drop 1 c) (N p author k)) ≡ b

  pub below_kept : (c : Row) → Begins (negsuc 0) c false → c ≡ strip_below p author c
  unfolding strip_below
  below_kept [] e = refl
  below_kept (h ∷ t) e = sym (first_other h (lead p author (negsuc 0)) _ (h ∷ t) e)

  pub below_low : (c : Row) → Begins (negsuc 0) c true → Low 0 c true → c ≡ strip_below p author c
  unfolding strip_below
  below_low [] e f = refl
  below_low (h ∷ t) e f =
      let stripped = if_below t (N p author 0) (h ∷ t) t in
      sym (first_same h (lead p author (negsuc 0)) stripped (h ∷ t) e ∙ below_yes t (N p author 0) (h ∷ t) t f)

  pub below_cut : (c : Row) → Begins (negsuc 0) c true → Low 0 c false → drop 1 c ≡ strip_below p author c
  unfolding strip_below
  below_cut [] e f = refl
  below_cut (h ∷ t) e f =
      let stripped = if_below t (N p author 0) (h ∷ t) t in
      sym (first_same h (lead p author (negsuc 0)) stripped (h ∷ t) e ∙ below_no t (N p author 0) (h ∷ t) t f)

  pub above_kept : (k : ℕ) (c : Row) → Begins (pos k) c false → c ≡ strip_above p author k c
  unfolding strip_above
  above_kept k [] e = refl
  above_kept k (h ∷ t) e = sym (first_other h (lead p author (pos k)) _ (h ∷ t) e)

  pub above_high : (k : ℕ) (c : Row) → Begins (pos k) c true → Low k c false → c ≡ strip_above p author k c
  unfolding strip_above
  above_high k [] e f = refl
  above_high k (h ∷ t) e f =
      let stripped = if_below t (N p author k) t (h ∷ t) in
      sym (first_same h (lead p author (pos k)) stripped (h ∷ t) e ∙ below_no t (N p author k) t (h ∷ t) f)

  pub above_cut : (k : ℕ) (c : Row) → Begins (pos k) c true → Low k c true → drop 1 c ≡ strip_above p author k c
  unfolding strip_above
  above_cut k [] e f = refl
  above_cut k (h ∷ t) e f =
      let stripped = if_below t (N p author k) t (h ∷ t) in
      sym (first_same h (lead p author (pos k)) stripped (h ∷ t) e ∙ below_yes t (N p author k) t (h ∷ t) f)
