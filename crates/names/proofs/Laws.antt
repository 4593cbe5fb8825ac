-- The laws of the order: the comparison and the relation agree (`tri_t`, `tri_n`); irreflexive, transitive, trichotomous; a
-- proper prefix is smaller; joining on the left keeps and reflects the order; nothing lies between a tuple and the tuple one
-- offset lower. Assumes nothing.
use mathlib.Core.Path.{◌≡◌, refl, sym, ap, ◌∙◌, subst}
use mathlib.Core.Logic.{◌⊎◌, inl, inr}
use mathlib.Core.List.{List, [], ◌∷◌, ◌++◌}
use mathlib.Core.Bool.{true}
use Prim.Native.Nat.{ℕ, zero, suc, ◌<◌, ◌≤◌}
use native.Mathlib.Decide.{dec_lt}
use native.Mathlib.Nat.{lt_trans}
use native.Mathlib.Omega.{arith}
use borrow.Author.Tests.{lt-ltb, le-ltb}
use lib.IntN.{ℤ, pos, negsuc, pred_ℤ}
use lib.ListN.{length, get_or}
use Rattle.numbers.proofs.Bools.{and_0, and_1}
use Rattle.names.specs.declared.Tuple.{Tuple}
use Rattle.std.specs.declared.cmp.Ordering.{Ordering}
use Rattle.std.specs.declared.cmp.Ordering.TheVariants.{Less, Equal, Greater}
use Rattle.names.specs.Ordering.{Row, compare_ℕ, compare_ℤ, compare_tuples, compare_rows, rising, ◌<ᶻ◌, up, across, down, ◌<ᵗ◌, position, node, sequence, offset, ◌<ⁿ◌, ends, differ, same, ◌≤ⁿ◌, less, equal, Rising, none, one, more}
use Rattle.std.specs.Ordering.{ordering_then, is_lt}
use Rattle.names.specs.Names.{lowered, one_below}

-- ── "this decides, else that" ──

pub then_same : (o : Ordering) → ordering_then o Equal ≡ o
then_same Less = refl
then_same Equal = refl
then_same Greater = refl

-- ── numbers ──

module _ (a b : ℕ) where
  pub ℕ_less : a < b → compare_ℕ a b ≡ Less
  ℕ_less h = simp (lt-ltb a b h)

  pub ℕ_same : a ≡ b → compare_ℕ a b ≡ Equal
  ℕ_same h = let p : b ≤ a = omega arith in let q : a ≤ b = omega arith in simp (le-ltb a b p, le-ltb b a q)

  pub ℕ_more : b < a → compare_ℕ a b ≡ Greater
  ℕ_more h = let p : b ≤ a = omega arith in simp (le-ltb a b p, lt-ltb b a h)

  pub ℕ_cases : (a < b) ⊎ ((a ≡ b) ⊎ (b < a))
  ℕ_cases = elim (dec_lt a b) [ yes h ↦ inl h | no h ↦ elim (dec_lt b a) [ yes k ↦ inr (inr k) | no k ↦ inr (inl (omega arith)) ] ]

-- what an answer of a comparison says
pub data Tri {A : Type 0} (R : A → A → Type 0) (a b : A) : Ordering → Type 0 where
  below : R a b → Tri R a b Less
  level : a ≡ b → Tri R a b Equal
  above : R b a → Tri R a b Greater

pub tri_ℕ : (a b : ℕ) → Tri ◌<◌ a b (compare_ℕ a b)
tri_ℕ a b = elim (ℕ_cases a b) [
  | inl h ↦ subst (Tri ◌<◌ a b) (sym (ℕ_less a b h)) (below h)
  | inr r ↦ elim r [ inl h ↦ subst (Tri ◌<◌ a b) (sym (ℕ_same a b h)) (level h) | inr h ↦ subst (Tri ◌<◌ a b) (sym (ℕ_more a b h)) (above h) ]
]

pub tri_ℤ : (a b : ℤ) → Tri ◌<ᶻ◌ a b (compare_ℤ a b)
tri_ℤ (pos a) (pos b) = go (compare_ℕ a b) (tri_ℕ a b)
  where
    go : (o : Ordering) → Tri ◌<◌ a b o → Tri ◌<ᶻ◌ (pos a) (pos b) o
    go Less (below h) = below (up h)
    go Equal (level e) = level (ap pos e)
    go Greater (above h) = above (up h)
tri_ℤ (pos a) (negsuc b) = above across
tri_ℤ (negsuc a) (pos b) = below across
tri_ℤ (negsuc a) (negsuc b) = go (compare_ℕ b a) (tri_ℕ b a)
  where
    go : (o : Ordering) → Tri ◌<◌ b a o → Tri ◌<ᶻ◌ (negsuc a) (negsuc b) o
    go Less (below h) = below (down h)
    go Equal (level e) = level (ap negsuc (sym e))
    go Greater (above h) = above (down h)

pub <ᶻ_trans : {a b c : ℤ} → a <ᶻ b → b <ᶻ c → a <ᶻ c
<ᶻ_trans (up h) (up k) = up (lt_trans h k)
<ᶻ_trans across (up k) = across
<ᶻ_trans (down h) across = across
<ᶻ_trans (down h) (down k) = down (lt_trans k h)

pub <ᶻ_irrefl : {a : ℤ} → ¬ (a <ᶻ a)
<ᶻ_irrefl (up h) = omega arith
<ᶻ_irrefl (down h) = omega arith

-- ── tuples ──

pub <ᵗ_trans : {s t u : Tuple} → s <ᵗ t → t <ᵗ u → s <ᵗ u
<ᵗ_trans (position h) (position k) = position (omega arith)
<ᵗ_trans (position h) (node a k) = position (omega arith)
<ᵗ_trans (position h) (sequence a b k) = position (omega arith)
<ᵗ_trans (position h) (offset a b c k) = position (omega arith)
<ᵗ_trans (node d h) (position k) = position (omega arith)
<ᵗ_trans (node d h) (node a k) = node (cc) (omega arith)
<ᵗ_trans (node d h) (sequence a b k) = node (cc) (omega arith)
<ᵗ_trans (node d h) (offset a b c k) = node (cc) (omega arith)
<ᵗ_trans (sequence d e h) (position k) = position (omega arith)
<ᵗ_trans (sequence d e h) (node a k) = node (cc) (omega arith)
<ᵗ_trans (sequence d e h) (sequence a b k) = sequence (cc) (cc) (omega arith)
<ᵗ_trans (sequence d e h) (offset a b c k) = sequence (cc) (cc) (omega arith)
<ᵗ_trans (offset d e f h) (position k) = position (omega arith)
<ᵗ_trans (offset d e f h) (node a k) = node (cc) (omega arith)
<ᵗ_trans (offset d e f h) (sequence a b k) = sequence (cc) (cc) (omega arith)
<ᵗ_trans (offset d e f h) (offset a b c k) = offset (cc) (cc) (cc) (<ᶻ_trans h k)

pub <ᵗ_irrefl : {t : Tuple} → ¬ (t <ᵗ t)
<ᵗ_irrefl (position h) = omega arith
<ᵗ_irrefl (node a h) = omega arith
<ᵗ_irrefl (sequence a b h) = omega arith
<ᵗ_irrefl (offset a b c h) = <ᶻ_irrefl h

pub tuple_≡ : {s t : Tuple} → s.position ≡ t.position → s.node ≡ t.node → s.sequence ≡ t.sequence → s.offset ≡ t.offset → s ≡ t
tuple_≡ a b c d = λ i. record { position = a i; node = b i; sequence = c i; offset = d i }

pub tri_t : (s t : Tuple) → Tri ◌<ᵗ◌ s t (compare_tuples s t)
unfolding compare_tuples
tri_t s t = p (compare_ℕ s.position t.position) (tri_ℕ s.position t.position)
  where
    z : {o : Ordering} → s.position ≡ t.position → s.node ≡ t.node → s.sequence ≡ t.sequence → Tri ◌<ᶻ◌ s.offset t.offset o → Tri ◌<ᵗ◌ s t o
    z a b c (below h) = below (offset a b c h)
    z a b c (level e) = level (tuple_≡ a b c e)
    z a b c (above h) = above (offset (sym a) (sym b) (sym c) h)

    q : (o : Ordering) → s.position ≡ t.position → s.node ≡ t.node → Tri ◌<◌ s.sequence t.sequence o → Tri ◌<ᵗ◌ s t (ordering_then o (compare_ℤ s.offset t.offset))
    q Less a b (below h) = below (sequence a b h)
    q Equal a b (level e) = z a b e (tri_ℤ s.offset t.offset)
    q Greater a b (above h) = above (sequence (sym a) (sym b) h)

    n : (o : Ordering) → s.position ≡ t.position → Tri ◌<◌ s.node t.node o → Tri ◌<ᵗ◌ s t (ordering_then o (ordering_then (compare_ℕ s.sequence t.sequence) (compare_ℤ s.offset t.offset)))
    n Less a (below h) = below (node a h)
    n Equal a (level e) = q (compare_ℕ s.sequence t.sequence) a e (tri_ℕ s.sequence t.sequence)
    n Greater a (above h) = above (node (sym a) h)

    p : (o : Ordering) → Tri ◌<◌ s.position t.position o → Tri ◌<ᵗ◌ s t (ordering_then o (ordering_then (compare_ℕ s.node t.node) (ordering_then (compare_ℕ s.sequence t.sequence) (compare_ℤ s.offset t.offset))))
    p Less (below h) = below (position h)
    p Equal (level e) = n (compare_ℕ s.node t.node) e (tri_ℕ s.node t.node)
    p Greater (above h) = above (position h)

-- ── names ──

pub <ⁿ_trans : {a b c : Row} → a <ⁿ b → b <ⁿ c → a <ⁿ c
<ⁿ_trans ends (differ k) = ends
<ⁿ_trans ends (same e k) = ends
<ⁿ_trans (differ h) (differ k) = differ (<ᵗ_trans h k)
<ⁿ_trans (differ h) (same e k) = differ (rw e at h)
<ⁿ_trans (same d h) (differ k) = differ (rw (← d) at k)
<ⁿ_trans (same d h) (same e k) = same (d ∙ e) (<ⁿ_trans h k)

pub <ⁿ_irrefl : {a : Row} → ¬ (a <ⁿ a)
<ⁿ_irrefl (differ h) = <ᵗ_irrefl h
<ⁿ_irrefl (same e h) = <ⁿ_irrefl h

pub tri_n : (a b : Row) → Tri ◌<ⁿ◌ a b (compare_rows a b)
unfolding compare_rows
tri_n [] [] = level refl
tri_n [] (t ∷ b) = below ends
tri_n (s ∷ a) [] = above ends
tri_n (s ∷ a) (t ∷ b) = go (compare_tuples s t) (tri_t s t) (tri_n a b)
  where
    rest : {o : Ordering} → s ≡ t → Tri ◌<ⁿ◌ a b o → Tri ◌<ⁿ◌ (s ∷ a) (t ∷ b) o
    rest e (below h) = below (same e h)
    rest e (level f) = level (cc)
    rest e (above h) = above (same (sym e) h)

    go : (o : Ordering) → Tri ◌<ᵗ◌ s t o → Tri ◌<ⁿ◌ a b (compare_rows a b) → Tri ◌<ⁿ◌ (s ∷ a) (t ∷ b) (ordering_then o (compare_rows a b))
    go Less (below h) v = below (differ h)
    go Equal (level e) v = rest e v
    go Greater (above h) v = above (differ h)

-- ── from the relation to the comparison, for any order that is transitive and irreflexive ──

module _ {A : Type 0} {R : A → A → Type 0} (trans : (a b c : A) → R a b → R b c → R a c) (irrefl : (a : A) → ¬ (R a a)) where
  told_less : (a b : A) {o : Ordering} → R a b → Tri R a b o → o ≡ Less
  told_less a b h (below k) = refl
  told_less a b h (level e) = absurd (irrefl b (rw e at h))
  told_less a b h (above k) = absurd (irrefl a (trans a b a h k))

  told_more : (a b : A) {o : Ordering} → R b a → Tri R a b o → o ≡ Greater
  told_more a b h (below k) = absurd (irrefl a (trans a b a k h))
  told_more a b h (level e) = absurd (irrefl b (rw e at h))
  told_more a b h (above k) = refl

  told_same : (a : A) {o : Ordering} → Tri R a a o → o ≡ Equal
  told_same a (below k) = absurd (irrefl a k)
  told_same a (level e) = refl
  told_same a (above k) = absurd (irrefl a k)

pub tuple_less : {s t : Tuple} → s <ᵗ t → compare_tuples s t ≡ Less
tuple_less {s} {t} h = told_less (λ a b c h k. <ᵗ_trans h k) (λ a h. <ᵗ_irrefl h) s t h (tri_t s t)

pub tuple_same : (t : Tuple) → compare_tuples t t ≡ Equal
tuple_same t = told_same (λ a b c h k. <ᵗ_trans h k) (λ a h. <ᵗ_irrefl h) t (tri_t t t)

pub row_less : {a b : Row} → a <ⁿ b → compare_rows a b ≡ Less
row_less {a} {b} h = told_less (λ a b c h k. <ⁿ_trans h k) (λ a h. <ⁿ_irrefl h) a b h (tri_n a b)

pub row_more : {a b : Row} → b <ⁿ a → compare_rows a b ≡ Greater
row_more {a} {b} h = told_more (λ a b c h k. <ⁿ_trans h k) (λ a h. <ⁿ_irrefl h) a b h (tri_n a b)

pub row_same : (a : Row) → compare_rows a a ≡ Equal
row_same a = told_same (λ a b c h k. <ⁿ_trans h k) (λ a h. <ⁿ_irrefl h) a (tri_n a a)

-- ── and back ──

module _ {A : Type 0} {R : A → A → Type 0} {a b : A} where
  tri_less : {o : Ordering} → Tri R a b o → o ≡ Less → R a b
  tri_less (below h) e = h
  tri_less (level h) e = absurd (let z : ◌≡◌ {A = ℕ} 0 1 = cc in omega arith)
  tri_less (above h) e = absurd (let z : ◌≡◌ {A = ℕ} 0 1 = cc in omega arith)

  tri_same : {o : Ordering} → Tri R a b o → o ≡ Equal → a ≡ b
  tri_same (below h) e = absurd (let z : ◌≡◌ {A = ℕ} 0 1 = cc in omega arith)
  tri_same (level h) e = h
  tri_same (above h) e = absurd (let z : ◌≡◌ {A = ℕ} 0 1 = cc in omega arith)

  tri_more : {o : Ordering} → Tri R a b o → o ≡ Greater → R b a
  tri_more (below h) e = absurd (let z : ◌≡◌ {A = ℕ} 0 1 = cc in omega arith)
  tri_more (level h) e = absurd (let z : ◌≡◌ {A = ℕ} 0 1 = cc in omega arith)
  tri_more (above h) e = h

pub same_tuple : (s t : Tuple) → compare_tuples s t ≡ Equal → s ≡ t
same_tuple s t e = tri_same (tri_t s t) e

pub less_row : (a b : Row) → compare_rows a b ≡ Less → a <ⁿ b
less_row a b e = tri_less (tri_n a b) e

pub same_row : (a b : Row) → compare_rows a b ≡ Equal → a ≡ b
same_row a b e = tri_same (tri_n a b) e

pub more_row : (a b : Row) → compare_rows a b ≡ Greater → b <ⁿ a
more_row a b e = tri_more (tri_n a b) e

-- ── below or equal ──

pub <≤_trans : {a b c : Row} → a <ⁿ b → b ≤ⁿ c → a <ⁿ c
<≤_trans h (less k) = <ⁿ_trans h k
<≤_trans h (equal e) = rw e at h

pub ≤<_trans : {a b c : Row} → a ≤ⁿ b → b <ⁿ c → a <ⁿ c
≤<_trans (less h) k = <ⁿ_trans h k
≤<_trans (equal e) k = rw (← e) at k

-- ── prefixes ──

-- a proper prefix is smaller
pub ++_prefix : (a : Row) (t : Tuple) (b : Row) → a <ⁿ a ++ (t ∷ b)
++_prefix [] t b = ends
++_prefix (s ∷ a) t b = same refl (++_prefix a t b)

-- joining on the left keeps the order, and reflects it
pub ++_left : (a : Row) {x y : Row} → x <ⁿ y → a ++ x <ⁿ a ++ y
++_left [] h = h
++_left (s ∷ a) h = same refl (++_left a h)

pub ++_cancel : (a : Row) {x y : Row} → a ++ x <ⁿ a ++ y → x <ⁿ y
++_cancel [] h = h
++_cancel (s ∷ a) (differ h) = absurd (<ᵗ_irrefl h)
++_cancel (s ∷ a) (same e h) = ++_cancel a h

-- a is below b: it is a proper prefix of b, or they differ at a place, and then whatever follows a is below whatever follows b
pub data Before (a b : Row) : Type 0 where
  prefix : (t : Tuple) (u : Row) → b ≡ a ++ (t ∷ u) → Before a b
  apart : ((x y : Row) → a ++ x <ⁿ b ++ y) → Before a b

pub before : {a b : Row} → a <ⁿ b → Before a b
before (ends {t} {b}) = prefix t b refl
before (differ h) = apart (λ x y. differ h)
before (same {s} {t} {a} {b} e h) = go (before h)
  where
    go : Before a b → Before (s ∷ a) (t ∷ b)
    go (prefix u v f) = prefix u v (cc)
    go (apart f) = apart (λ x y. same e (f x y))

-- ── one offset lower ──

pub pred_below : (z : ℤ) → pred_ℤ z <ᶻ z
pred_below (pos zero) = across
pred_below (pos (suc n)) = up {a = n} {b = suc n} (omega arith)
pred_below (negsuc n) = down {a = suc n} {b = n} (omega arith)

pub pred_next : {a b : ℤ} → a <ᶻ b → (a ≡ pred_ℤ b) ⊎ (a <ᶻ pred_ℤ b)
pred_next (up {a} {b = zero} h) = absurd (omega arith)
pred_next (up {a} {b = suc b} h) = elim (ℕ_cases a b) [ inl k ↦ inr (up k) | inr r ↦ elim r [ inl e ↦ inl (ap pos e) | inr k ↦ absurd (omega arith) ] ]
pred_next (across {a = zero} {b = zero}) = inl refl
pred_next (across {a = suc a} {b = zero}) = inr (down {a = suc a} {b = 0} (omega arith))
pred_next (across {b = suc b}) = inr across
pred_next (down {a} {b} h) = elim (ℕ_cases a (suc b)) [ inl k ↦ absurd (omega arith) | inr r ↦ elim r [ inl e ↦ inl (ap negsuc e) | inr k ↦ inr (down k) ] ]

pub lowered_below : (t : Tuple) → lowered t <ᵗ t
lowered_below t = offset refl refl refl (pred_below t.offset)

-- one below a name has as many tuples
pub below_length : (a : Row) → length (one_below a) ≡ length a
unfolding one_below
below_length [] = refl
below_length (t ∷ []) = refl
below_length (t ∷ u ∷ a) = ap suc (below_length (u ∷ a))

-- nothing lies between a tuple and the tuple one offset lower
pub lowered_next : {s t : Tuple} → s <ᵗ t → (s ≡ lowered t) ⊎ (s <ᵗ lowered t)
lowered_next (position h) = inr (position h)
lowered_next (node a h) = inr (node a h)
lowered_next (sequence a b h) = inr (sequence a b h)
lowered_next {s} {t} (offset a b c h) = elim (pred_next h) [ inl e ↦ inl (tuple_≡ a b c e) | inr k ↦ inr (offset a b c k) ]

-- ── rising rows of names ──

is_less_lem : (o : Ordering) → is_lt o ≡ true → o ≡ Less
is_less_lem Less e = refl
is_less_lem Equal e = absurd (let z : ◌≡◌ {A = ℕ} 0 1 = cc in omega arith)
is_less_lem Greater e = absurd (let z : ◌≡◌ {A = ℕ} 0 1 = cc in omega arith)

pub rising_Rising : (l : List Row) → rising l ≡ true → Rising l
unfolding rising
rising_Rising [] e = none
rising_Rising (a ∷ []) e = one
rising_Rising (a ∷ b ∷ l) e =
    more (less_row a b (is_less_lem (compare_rows a b) (and_0 (is_lt (compare_rows a b)) (rising (b ∷ l)) e))) (rising_Rising (b ∷ l) (and_1 (is_lt (compare_rows a b)) (rising (b ∷ l)) e))

pub Rising_rising : {l : List Row} → Rising l → rising l ≡ true
unfolding rising
Rising_rising none = refl
Rising_rising one = refl
Rising_rising (more h r) = rw (row_less h) (Rising_rising r)

pub tail_rising : {a : Row} {l : List Row} → Rising (a ∷ l) → Rising l
tail_rising one = none
tail_rising (more h r) = r

-- the first of a rising row is below each of the others
pub head_below : {a : Row} {l : List Row} (k : ℕ) → Rising (a ∷ l) → k < length l → a <ⁿ get_or l k []
head_below k one h = absurd (omega arith)
head_below zero (more h r) g = h
head_below (suc k) (more h r) g = <ⁿ_trans h (head_below k r (omega arith))
