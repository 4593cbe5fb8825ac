-- Names that "differ only in the last offset": `same_but_last` in bytes (`same_at`), what `beside_of` answers of such (`beside_same`) and of others
-- (`beside_other`), and that a name comes k after another where they are such and the offsets say so (`onward_exactly`, in bytes
-- `is_onward_at`). Assumes nothing.
use mathlib.Core.Path.{◌≡◌, refl, sym, ap, ◌∙◌}
use mathlib.Core.Logic.{◌⊎◌, inl, inr}
use mathlib.Core.List.{[], ◌∷◌, ◌++◌}
use mathlib.Core.Bool.{Bool, true, false, ◌&&◌, and_assoc}
use Prim.Native.Nat.{ℕ, ◌+◌, ◌-◌, ◌*◌, ◌≤◌}
use native.Mathlib.Omega.{arith}
use borrow.Author.Tests.{eq-eqb, ne_eqb}
use lib.Dec.{eqb}
use lib.IntN.{pos}
use lib.ListN.{length, take}
use Rattle.names.specs.declared.Tuple.{Tuple}
use Rattle.std.specs.declared.cmp.Ordering.{Ordering}
use Rattle.std.specs.declared.cmp.Ordering.TheVariants.{Less, Equal, Greater}
use Rattle.names.specs.Ordering.{Row, compare_ℕ, compare_ℤ, compare_tuples, compare_rows}
use Rattle.std.specs.Ordering.{ordering_then, is_eq}
use Rattle.names.proofs.Laws.{then_same, ℕ_less, ℕ_same, ℕ_more, ℕ_cases}
use Rattle.names.specs.Names.{is_name}
use Rattle.numbers.specs.Bytes.{Bytes, Octets, at32, at64}
use Rattle.numbers.proofs.Bools.{and_0, and_1, yes_no}
use Rattle.slots.specs.Tuples.{tuple_at, tuples_at, tuple_size}
use Rattle.slots.proofs.TuplesInBytes.{length_tuples_at}
use Rattle.runs.specs.declared.Stand.{Stand}
use Rattle.runs.specs.declared.Stand.TheVariants.{Below, Above}
use Rattle.runs.specs.Runs.{onward}
use Rattle.runs.specs.Beside.{decided, compare_fronts, by_offsets, is_empty, beside_of, same_but_last}
use Rattle.runs.proofs.RunNames.{onward_after, with_offset, onward_last, last_offset, last_long, to_last, name_count, name_at}
use Rattle.runs.proofs.TupleFronts.{fronts_at}

-- ── whether two are the same ──

is_same_lem : (o : Ordering) → is_eq o ≡ true → o ≡ Equal
is_same_lem Less e = yes_no e refl
is_same_lem Equal e = refl
is_same_lem Greater e = yes_no e refl

same_then : (o p : Ordering) → is_eq (ordering_then o p) ≡ is_eq o && is_eq p
same_then Less p = refl
same_then Equal p = refl
same_then Greater p = refl

same_numbers : (x y : ℕ) → is_eq (compare_ℕ x y) ≡ eqb x y
same_numbers x y = elim (ℕ_cases x y) [
  | inl h ↦ ap is_eq (ℕ_less x y h) ∙ sym (ne_eqb x y (λ e. omega arith))
  | inr r ↦ elim r [
    | inl e ↦ ap is_eq (ℕ_same x y e) ∙ sym (eq-eqb x y e)
    | inr h ↦ ap is_eq (ℕ_more x y h) ∙ sym (ne_eqb x y (λ e. omega arith))
  ]
]

-- ── in bytes ──

-- the last tuples told apart
same_first : (s : Tuple) (w : Row) (t u : Tuple) (b : Row) → same_but_last (s ∷ (w ++ (t ∷ []))) (u ∷ b) ≡ is_eq (compare_tuples s u) && same_but_last (w ++ (t ∷ [])) b
unfolding same_but_last
same_first s [] t u b = refl
same_first s (v ∷ w) t u b = refl

by_last_lem : (w : Row) (t : Tuple) (v : Row) (u : Tuple) → length v ≡ length w
    → same_but_last (w ++ (t ∷ [])) (v ++ (u ∷ [])) ≡ is_eq (compare_rows w v) && is_eq (compare_fronts t u)
unfolding same_but_last compare_rows
by_last_lem [] t [] u e = refl
by_last_lem [] t (r ∷ v) u e = absurd (omega arith)
by_last_lem (s ∷ w) t [] u e = absurd (omega arith)
by_last_lem (s ∷ w) t (r ∷ v) u e =
    same_first s w t r (v ++ (u ∷ []))
    ∙ ap (λ (b : Bool). is_eq (compare_tuples s r) && b) (by_last_lem w t v u (omega arith))
    ∙ sym (and_assoc (is_eq (compare_tuples s r)) (is_eq (compare_rows w v)) (is_eq (compare_fronts t u)))
    ∙ ap (λ (b : Bool). b && is_eq (compare_fronts t u)) (sym (same_then (compare_tuples s r) (compare_rows w v)))

-- the n tuples from p on in a, and as many from q on in b: all before the last, and the first eight bytes of the last
pub same_at : (a : Bytes) (p : ℕ) (b : Bytes) (q n : ℕ) → Octets a → Octets b → 1 ≤ n
    → same_but_last (tuples_at a p n) (tuples_at b q n)
    ≡ is_eq (compare_rows (tuples_at a p (n - 1)) (tuples_at b q (n - 1))) && eqb (at64 a (p + tuple_size * (n - 1))) (at64 b (q + tuple_size * (n - 1)))
same_at a p b q n k l h =
    let x = p + tuple_size * (n - 1) in
    let y = q + tuple_size * (n - 1) in
    let w = tuples_at a p (n - 1) in
    let v = tuples_at b q (n - 1) in
    (λ i. same_but_last (to_last a p n h i) (to_last b q n h i))
    ∙ by_last_lem w (tuple_at a x) v (tuple_at b y) (length_tuples_at b q (n - 1) ∙ sym (length_tuples_at a p (n - 1)))
    ∙ ap (λ (c : Bool). is_eq (compare_rows w v) && c) (sym (ap is_eq (fronts_at a x b y k l)) ∙ same_numbers (at64 a x) (at64 b y))

-- ── beside the run that begins with a ──

-- a name that begins with b, which differs from a only in the last offset
pub beside_same : (a b r : Row) → same_but_last a b ≡ true → beside_of a (b ++ r) ≡ by_offsets (last_offset a) (last_offset b) (is_empty r)
unfolding same_but_last beside_of last_offset
beside_same [] b r e = yes_no e refl
beside_same (t ∷ []) [] r e = yes_no e refl
beside_same (t ∷ s ∷ a) [] r e = yes_no e refl
beside_same (t ∷ []) (u ∷ []) r e = ap (λ (o : Ordering). decided o (by_offsets t.offset u.offset (is_empty r))) (is_same_lem (compare_fronts t u) e)
beside_same (t ∷ []) (u ∷ v ∷ b) r e = yes_no e refl
beside_same (t ∷ s ∷ a) (u ∷ []) r e = yes_no (and_1 (is_eq (compare_tuples t u)) false e) refl
beside_same (t ∷ s ∷ a) (u ∷ v ∷ b) r e =
    let rest = same_but_last (s ∷ a) (v ∷ b) in
    ap (λ (o : Ordering). decided o (beside_of (s ∷ a) ((v ∷ b) ++ r))) (is_same_lem (compare_tuples t u) (and_0 (is_eq (compare_tuples t u)) rest e))
    ∙ beside_same (s ∷ a) (v ∷ b) r (and_1 (is_eq (compare_tuples t u)) rest e)

-- a name of at least as many tuples that does not begin so is above or below
decides : (o : Ordering) (r : Stand) → is_eq o ≡ false → (decided o r ≡ Above) ⊎ (decided o r ≡ Below)
decides Less r e = inl refl
decides Equal r e = yes_no refl e
decides Greater r e = inr refl

pub beside_other : (a b : Row) → length a ≤ length b → same_but_last a (take (length a) b) ≡ false → (beside_of a b ≡ Above) ⊎ (beside_of a b ≡ Below)
unfolding same_but_last beside_of
beside_other [] b h e = inl refl
beside_other (t ∷ a) [] h e = absurd (omega arith)
beside_other (t ∷ []) (u ∷ b) h e = decides (compare_fronts t u) (by_offsets t.offset u.offset (is_empty b)) e
beside_other (t ∷ s ∷ a) (u ∷ b) h e = go (compare_tuples t u) e (beside_other (s ∷ a) b (omega arith))
  where
    rest : Bool
    rest = same_but_last (s ∷ a) (take (length (s ∷ a)) b)

    go : (o : Ordering) → is_eq o && rest ≡ false → (rest ≡ false → (beside_of (s ∷ a) b ≡ Above) ⊎ (beside_of (s ∷ a) b ≡ Below))
        → (decided o (beside_of (s ∷ a) b) ≡ Above) ⊎ (decided o (beside_of (s ∷ a) b) ≡ Below)
    go Less e f = inl refl
    go Equal e f = f e
    go Greater e f = inr refl

-- ── whether one comes k after the other ──

front_then : (t u : Tuple) (z : ℕ) {n : ℕ} → u.offset ≡ pos n → is_eq (compare_tuples (with_offset t (pos z)) u) ≡ is_eq (compare_fronts t u) && eqb z n
unfolding compare_tuples
front_then t u z {n} f =
    let p = compare_ℕ t.position u.position in
    let d = compare_ℕ t.node u.node in
    let q = compare_ℕ t.sequence u.sequence in
    let o = compare_ℤ (pos z) u.offset in
    same_then p (ordering_then d (ordering_then q o))
    ∙ ap (λ (b : Bool). is_eq p && b) (same_then d (ordering_then q o) ∙ ap (λ (b : Bool). is_eq d && b) (same_then q o))
    ∙ ap (λ (b : Bool). is_eq p && b) (sym (and_assoc (is_eq d) (is_eq q) (is_eq o)))
    ∙ sym (and_assoc (is_eq p) (is_eq d && is_eq q) (is_eq o))
    ∙ (λ i. sym (same_then p (ordering_then d q) ∙ ap (λ (b : Bool). is_eq p && b) (same_then d q)) i && is_eq (compare_ℤ (pos z) (f i)))
    ∙ ap (λ (b : Bool). is_eq (compare_fronts t u) && b) (same_numbers z n)

pub onward_exactly : (k : ℕ) (a b : Row) {m n : ℕ} → length a ≡ length b → last_offset a ≡ pos m → last_offset b ≡ pos n
    → is_eq (compare_rows (onward k a) b) ≡ same_but_last a b && eqb (m + k) n
unfolding same_but_last compare_rows last_offset
onward_exactly k [] b l e f = absurd (let h = last_long [] e in omega arith)
onward_exactly k (t ∷ []) [] l e f = absurd (omega arith)
onward_exactly k (t ∷ s ∷ a) [] l e f = absurd (omega arith)
onward_exactly k (t ∷ []) (u ∷ []) {m} {n} l e f =
    ap (λ (r : Row). is_eq (compare_rows r (u ∷ []))) (onward_last k t e)
    ∙ ap is_eq (then_same (compare_tuples (with_offset t (pos (m + k))) u))
    ∙ front_then t u (m + k) f
onward_exactly k (t ∷ []) (u ∷ v ∷ b) l e f = absurd (omega arith)
onward_exactly k (t ∷ s ∷ a) (u ∷ []) l e f = absurd (omega arith)
onward_exactly k (t ∷ s ∷ a) (u ∷ v ∷ b) {m} {n} l e f =
    ap (λ (r : Row). is_eq (compare_rows r (u ∷ v ∷ b))) (onward_after k (t ∷ []) s a)
    ∙ same_then (compare_tuples t u) (compare_rows (onward k (s ∷ a)) (v ∷ b))
    ∙ ap (λ (c : Bool). is_eq (compare_tuples t u) && c) (onward_exactly k (s ∷ a) (v ∷ b) (omega arith) e f)
    ∙ sym (and_assoc (is_eq (compare_tuples t u)) (same_but_last (s ∷ a) (v ∷ b)) (eqb (m + k) n))

-- of names in bytes
pub is_onward_at : (k : ℕ) (a : Bytes) (p : ℕ) (b : Bytes) (q n : ℕ) → is_name (tuples_at a p n) ≡ true → is_name (tuples_at b q n) ≡ true
    → is_eq (compare_rows (onward k (tuples_at a p n)) (tuples_at b q n))
    ≡ same_but_last (tuples_at a p n) (tuples_at b q n) && eqb (at32 a (p + (tuple_size * n - 4)) + k) (at32 b (q + (tuple_size * n - 4)))
is_onward_at k a p b q n e f =
    let h = name_count a p n e in
    let x : p + tuple_size * n - 4 ≡ p + (tuple_size * n - 4) = omega arith in
    let y : q + tuple_size * n - 4 ≡ q + (tuple_size * n - 4) = omega arith in
    onward_exactly k (tuples_at a p n) (tuples_at b q n) (length_tuples_at a p n ∙ sym (length_tuples_at b q n)) (name_at a p n e).0 (name_at b q n f).0
    ∙ (λ i. same_but_last (tuples_at a p n) (tuples_at b q n) && eqb (at32 a (x i) + k) (at32 b (y i)))
