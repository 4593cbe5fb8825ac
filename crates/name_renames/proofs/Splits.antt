-- Cases of a comparison, each with the equation that `rw` wants (`Split`, `Half`), what the choices of specs/Renaming.antt
-- come to in them, and a few laws of the order that only renaming wants. Assumes nothing.
use mathlib.Core.Path.{◌≡◌, refl, sym}
use mathlib.Core.List.{[], ◌∷◌}
use Prim.Native.Nat.{suc}
use native.Mathlib.Omega.{arith}
use lib.IntN.{pos}
use Rattle.names.specs.declared.Tuple.{Tuple}
use Rattle.std.specs.declared.cmp.Ordering.{Ordering}
use Rattle.std.specs.declared.cmp.Ordering.TheVariants.{Less, Equal, Greater}
use Rattle.names.specs.Ordering.{Row, compare_tuples, compare_rows, ◌<ᶻ◌, up, ◌<ᵗ◌, ◌<ⁿ◌, ends, differ, same, ◌≤ⁿ◌, less, equal}
use Rattle.names.proofs.Laws.{Tri, below, level, above, tri_t, tri_n, row_less, row_more, row_same, <ᵗ_irrefl, <ⁿ_trans, <ⁿ_irrefl, <≤_trans}
use Rattle.name_renames.specs.Renaming.{if_below, if_above}

-- ── below, the same, above ──

pub data Split {A : Type 0} (R : A → A → Type 0) (compare : A → A → Ordering) (a b : A) : Type 0 where
  is_below : R a b → compare a b ≡ Less → Split R compare a b
  is_level : a ≡ b → compare a b ≡ Equal → Split R compare a b
  is_above : R b a → compare a b ≡ Greater → Split R compare a b

split : {A : Type 0} (R : A → A → Type 0) (compare : A → A → Ordering) (a b : A) {o : Ordering} → Tri R a b o → compare a b ≡ o → Split R compare a b
split R compare a b (below h) e = is_below h e
split R compare a b (level h) e = is_level h e
split R compare a b (above h) e = is_above h e

abbrev pub SplitT : Tuple → Tuple → Type 0
SplitT s t = Split ◌<ᵗ◌ compare_tuples s t

abbrev pub SplitN : Row → Row → Type 0
SplitN a b = Split ◌<ⁿ◌ compare_rows a b

pub split_t : (s t : Tuple) → SplitT s t
split_t s t = split ◌<ᵗ◌ compare_tuples s t (tri_t s t) refl

pub split_n : (a b : Row) → SplitN a b
split_n a b = split ◌<ⁿ◌ compare_rows a b (tri_n a b) refl

-- ── below, or not ──

-- for `if_below a b`, and with a and b changed over for `if_above b a`
pub data Half (a b : Row) : Type 0 where
  is_under : a <ⁿ b → Half a b
  at_least : b ≤ⁿ a → Half a b

pub half : (a b : Row) → Half a b
half a b = go (split_n a b)
  where
    go : SplitN a b → Half a b
    go (is_below h e) = is_under h
    go (is_level h e) = at_least (equal (sym h))
    go (is_above h e) = at_least (less h)

module _ {A : Type 0} {a b : Row} (x y : A) where
  pub if_below_lem : a <ⁿ b → if_below a b x y ≡ x
  if_below_lem h = rw (row_less h)

  pub if_not_below_lem : b ≤ⁿ a → if_below a b x y ≡ y
  if_not_below_lem (less h) = rw (row_more h)
  if_not_below_lem (equal e) = rw (← e, row_same b)

  pub if_above_lem : b <ⁿ a → if_above a b x y ≡ x
  if_above_lem h = rw (row_more h)

  pub if_not_above_lem : a ≤ⁿ b → if_above a b x y ≡ y
  if_not_above_lem (less h) = rw (row_less h)
  if_not_above_lem (equal e) = rw (e, row_same b)

-- ── laws of the order ──

-- nothing lies on both sides of a name
pub clash {ℓ} : {X : Type ℓ} {a b : Row} → a <ⁿ b → b <ⁿ a → X
clash h k = absurd (<ⁿ_irrefl (<ⁿ_trans h k))

-- nothing is below the empty row
pub no_nil {ℓ} : {X : Type ℓ} {a : Row} → a <ⁿ [] → X
no_nil {a = []} h = absurd (<ⁿ_irrefl h)
no_nil {a = s ∷ a} h = clash h ends

-- what is above some row is not empty
pub nonempty : {a b : Row} → a <ⁿ b → [] <ⁿ b
nonempty ends = ends
nonempty (differ h) = ends
nonempty (same e h) = ends

pub ≤_nonempty : {t : Tuple} {a b : Row} → t ∷ a ≤ⁿ b → [] <ⁿ b
≤_nonempty h = <≤_trans ends h

-- with the same first tuple the rests decide
pub same_head : {s t : Tuple} {a b : Row} → s ≡ t → s ∷ a <ⁿ t ∷ b → a <ⁿ b
same_head e (differ h) = absurd (<ᵗ_irrefl (rw e at h))
same_head e (same f h) = h

pub next : {k : _} → pos k <ᶻ pos (suc k)
next {k} = up {a = k} {b = suc k} (omega arith)
