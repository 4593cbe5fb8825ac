-- What is put behind a name, x·m·v, and ahead of one, (one below x)·M·v, against another name and what is put behind or ahead of that: in their order
-- wherever no marker stands at one place (`rise`). Assumes nothing.
use mathlib.Core.Path.{◌≡◌, refl}
use mathlib.Core.Logic.{◌⊎◌, inl, inr}
use mathlib.Core.List.{[], ◌∷◌, ◌++◌}
use Prim.Native.Nat.{ℕ, ◌<◌}
use native.Mathlib.Omega.{arith}
use lib.ListN.{length, get_or}
use Rattle.names.specs.Ordering.{Row, ◌<ᵗ◌, position, ◌<ⁿ◌, ends, differ, same}
use Rattle.names.specs.Names.{m, M, lowered, one_below}
use Rattle.names.proofs.Laws.{lowered_next, ++_left, ++_prefix, <ⁿ_trans}
use Rattle.names.proofs.Validity.{Ordinary}
use Rattle.name_renames.proofs.Gaps.{ordinary_inner, under_low}

-- x has no marker right behind its first n tuples
abbrev pub Free : Row → ℕ → Type 0
Free x n = n < length x → Ordinary (get_or x n m)

-- x·m·v is below what is above x, where no marker follows as many tuples there
behind_low : {x y : Row} (v : Row) → x <ⁿ y → Free y (length x) → x ++ (m ∷ v) <ⁿ y
behind_low v ends f = differ (ordinary_inner (f (omega arith))).low
behind_low v (differ h) f = differ h
behind_low v (same e h) f = same e (behind_low v h (λ i. f (omega arith)))

-- (one below y)·M·w is above what is below y, where no marker follows as many tuples there
ahead_high : (y : Row) {x : Row} (w : Row) → x <ⁿ y → Free x (length y) → x <ⁿ one_below y ++ (M ∷ w)
unfolding one_below
ahead_high (t ∷ []) w (same {s = s} {a = a} e h) f = elim h [ ]
ahead_high [] w x4 f = elim x4 [ ]
ahead_high (t ∷ []) w ends f = ends
ahead_high (t ∷ []) w (differ {s} {a = a} h) f = go a f (lowered_next h)
  where
    go : (a : Row) → Free (s ∷ a) 1 → (s ≡ lowered t) ⊎ (s <ᵗ lowered t) → s ∷ a <ⁿ lowered t ∷ M ∷ w
    go [] f (inl e) = same e ends
    go (u ∷ a) f (inl e) = same e (differ (ordinary_inner (f (omega arith))).high)
    go a f (inr k) = differ k
ahead_high (t ∷ u ∷ y) w ends f = ends
ahead_high (t ∷ u ∷ y) w (differ h) f = differ h
ahead_high (t ∷ u ∷ y) w (same e h) f = same e (ahead_high (u ∷ y) w h (λ i. f (omega arith)))

-- and x·m·v is below (one below y)·M·w, where x is below y and neither has a marker there
between : (y : Row) {x : Row} (v w : Row) → x <ⁿ y → Free y (length x) → Free x (length y) → x ++ (m ∷ v) <ⁿ one_below y ++ (M ∷ w)
unfolding one_below
between (t ∷ []) v w (same {s = s} {a = a} e h) f g = elim h [ ]
between [] v w x5 f g = elim x5 [ ]
between (t ∷ []) v w ends f g = differ (position (f (omega arith)).position_min)
between (t ∷ []) v w (differ {s} {a = a} h) f g = go a g (lowered_next h)
  where
    go : (a : Row) → Free (s ∷ a) 1 → (s ≡ lowered t) ⊎ (s <ᵗ lowered t) → s ∷ a ++ (m ∷ v) <ⁿ lowered t ∷ M ∷ w
    go [] g (inl e) = same e (differ {s = m} {t = M} (position (omega arith)))
    go (u ∷ a) g (inl e) = same e (differ (ordinary_inner (g (omega arith))).high)
    go a g (inr k) = differ k
between (t ∷ u ∷ y) v w ends f g = differ (ordinary_inner (f (omega arith))).low
between (t ∷ u ∷ y) v w (differ h) f g = differ h
between (t ∷ u ∷ y) v w (same e h) f g = same e (between (u ∷ y) v w h (λ i. f (omega arith)) (λ i. g (omega arith)))

-- ── of any two ──

-- what is made of a name, its stem: v is put ahead of it or behind it, or it stands alone
pub data Side : Type 0 where
  ahead : Side
  alone : Side
  behind : Side

abbrev pub made : Side → Row → Row → Row
made ahead x v = one_below x ++ (M ∷ v)
made alone x v = x
made behind x v = x ++ (m ∷ v)

-- of one stem: first what is ahead of it, then itself, then what is behind it
pub data Next : Side → Row → Side → Row → Type 0 where
  ahead_ahead : {v w : Row} → v <ⁿ w → Next ahead v ahead w
  ahead_alone : {v w : Row} → Next ahead v alone w
  ahead_behind : {v w : Row} → Next ahead v behind w
  alone_behind : {v w : Row} → Next alone v behind w
  behind_behind : {v w : Row} → v <ⁿ w → Next behind v behind w

-- stems in their order, or one stem and what is made of it
pub data Before (x : Row) (s : Side) (v y : Row) (t : Side) (w : Row) : Type 0 where
  stems : x <ⁿ y → Before x s v y t w
  level : x ≡ y → Next s v t w → Before x s v y t w

-- the places at which there must be no marker
abbrev pub FreeBehind : Side → Row → Row → Type 0
FreeBehind ahead x y = Unit
FreeBehind alone x y = Unit
FreeBehind behind x y = Free y (length x)

abbrev pub FreeAhead : Side → Row → Row → Type 0
FreeAhead ahead x y = Free x (length y)
FreeAhead alone x y = Unit
FreeAhead behind x y = Unit

-- something can be ahead of a name that is not empty
abbrev pub Some : Side → Row → Type 0
Some ahead x = [] <ⁿ x
Some alone x = Unit
Some behind x = Unit

module _ (x v w : Row) where
  beside : {s t : Side} → Some s x → Next s v t w → made s x v <ⁿ made t x w
  beside n (ahead_ahead l) = ++_left (one_below x) (same refl l)
  beside n ahead_alone = under_low n v
  beside n ahead_behind = <ⁿ_trans (under_low n v) (++_prefix x m w)
  beside n alone_behind = ++_prefix x m w
  beside n (behind_behind l) = ++_left x (same refl l)

  apart : (s t : Side) {y : Row} → Some s x → x <ⁿ y → FreeBehind s x y → FreeAhead t x y → made s x v <ⁿ made t y w
  apart ahead ahead {y} n l f g = <ⁿ_trans (under_low n v) (ahead_high y w l g)
  apart ahead alone n l f g = <ⁿ_trans (under_low n v) l
  apart ahead behind {y} n l f g = <ⁿ_trans (under_low n v) (<ⁿ_trans l (++_prefix y m w))
  apart alone ahead {y} n l f g = ahead_high y w l g
  apart alone alone n l f g = l
  apart alone behind {y} n l f g = <ⁿ_trans l (++_prefix y m w)
  apart behind ahead {y} n l f g = between y v w l f g
  apart behind alone n l f g = behind_low v l f
  apart behind behind {y} n l f g = <ⁿ_trans (behind_low v l f) (++_prefix y m w)

  pub rise : {s t : Side} {y : Row} → Some s x → Before x s v y t w → FreeBehind s x y → FreeAhead t x y → made s x v <ⁿ made t y w
  rise {s} {t} n (stems l) f g = apart s t n l f g
  rise n (level e b) f g = rw (← e) (beside n b)
