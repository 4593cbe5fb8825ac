-- Tuples one after the other in a row of bytes. Assumes nothing.
use Rattle.std.proofs.Common.{◌≡◌, ℕ, zero, suc, ◌+◌, ◌-◌, ◌*◌, ◌<◌, ◌≤◌, [], ◌∷◌, ◌++◌, length, get_or, take, drop, sym, refl, ap, ◌∙◌, le_of_suc-le-suc, not-suc-le-zero, arith, take-append-drop, length-take-le, get_or-take, ext_get_or}
use Rattle.names.specs.Ordering.{Row}
use Rattle.names.specs.Names.{m}
use Rattle.numbers.specs.Bytes.{Bytes, signed}
use Rattle.slots.specs.Tuples.{tuple_at, tuples_at, tuple_size}
use Rattle.numbers.proofs.ReadNumbers.{two_on, four_on, two_within, four_within}

pub length_tuples_at : (s : Bytes) (p n : ℕ) → length (tuples_at s p n) ≡ n
length_tuples_at s p zero = refl
length_tuples_at s p (suc n) = ap suc (length_tuples_at s (p + tuple_size) n)

pub get_or_tuples_at : (s : Bytes) (p n j : ℕ) → j < n → get_or (tuples_at s p n) j m ≡ tuple_at s (p + tuple_size * j)
get_or_tuples_at s p zero j h = absurd (not-suc-le-zero h)
get_or_tuples_at s p (suc n) zero h = ap (tuple_at s) (omega arith)
get_or_tuples_at s p (suc n) (suc j) h = get_or_tuples_at s (p + tuple_size) n j (le_of_suc-le-suc h) ∙ ap (tuple_at s) (omega arith)

pub take_tuples_at : (s : Bytes) (p n k : ℕ) → k ≤ n → take k (tuples_at s p n) ≡ tuples_at s p k
take_tuples_at s p n zero h = refl
take_tuples_at s p zero (suc k) h = absurd (not-suc-le-zero h)
take_tuples_at s p (suc n) (suc k) h = ap (λ (l : Row). tuple_at s p ∷ l) (take_tuples_at s (p + tuple_size) n k (le_of_suc-le-suc h))

-- the tuples after the first k
pub drop_tuples_at : (s : Bytes) (p n k : ℕ) → k ≤ n → tuples_at s (p + tuple_size * k) (n - k) ≡ drop k (tuples_at s p n)
drop_tuples_at s p n zero h = let e : p + tuple_size * 0 ≡ p = omega arith in let f : n - 0 ≡ n = omega arith in λ i. tuples_at s (e i) (f i)
drop_tuples_at s p zero (suc k) h = absurd (not-suc-le-zero h)
drop_tuples_at s p (suc n) (suc k) h =
    let e : p + tuple_size * suc k ≡ p + tuple_size + tuple_size * k = omega arith in
    let f : suc n - suc k ≡ n - k = omega arith in
    (λ i. tuples_at s (e i) (f i)) ∙ drop_tuples_at s (p + tuple_size) n k (le_of_suc-le-suc h)

-- the first k tuples, and those after them
pub split_tuples_at : (s : Bytes) (p n k : ℕ) → k ≤ n → tuples_at s p k ++ tuples_at s (p + tuple_size * k) (n - k) ≡ tuples_at s p n
split_tuples_at s p n k h =
    (λ i. sym (take_tuples_at s p n k h) i ++ drop_tuples_at s p n k h i) ∙ take-append-drop k (tuples_at s p n)

-- one more tuple
pub more_tuples_at : (s : Bytes) (p k : ℕ) → tuples_at s p k ++ (tuple_at s (p + tuple_size * k) ∷ []) ≡ tuples_at s p (k + 1)
more_tuples_at s p k =
    let e : 1 ≡ k + 1 - k = omega arith in
    ap (λ (n : ℕ). tuples_at s p k ++ tuples_at s (p + tuple_size * k) n) e ∙ split_tuples_at s p (k + 1) k (omega arith)

-- tuples that stand d bytes further on
module _ (d : ℕ) (s : Bytes) where
  tuple_on : (p q : ℕ) → q ≡ d + p → tuple_at (drop d s) p ≡ tuple_at s q
  unfolding tuple_at
  tuple_on p q e = λ i. record {
    position = two_on d s p q e i;
    node = two_on d s (p + 2) (q + 2) (omega arith) i;
    sequence = four_on d s (p + 4) (q + 4) (omega arith) i;
    offset = signed (four_on d s (p + 8) (q + 8) (omega arith) i);
  }

  pub tuples_on : (p q n : ℕ) → q ≡ d + p → tuples_at (drop d s) p n ≡ tuples_at s q n
  tuples_on p q zero e = refl
  tuples_on p q (suc n) e = λ i. tuple_on p q e i ∷ tuples_on (p + tuple_size) (q + tuple_size) n (omega arith) i

-- tuples within the first k bytes
module _ (k : ℕ) (s : Bytes) where
  tuple_within : (p : ℕ) → p + tuple_size ≤ k → tuple_at (take k s) p ≡ tuple_at s p
  unfolding tuple_at
  tuple_within p h = λ i. record {
    position = two_within k s p (omega arith) i;
    node = two_within k s (p + 2) (omega arith) i;
    sequence = four_within k s (p + 4) (omega arith) i;
    offset = signed (four_within k s (p + 8) (omega arith) i);
  }

  pub tuples_within : (p n : ℕ) → p + tuple_size * n ≤ k → tuples_at (take k s) p n ≡ tuples_at s p n
  tuples_within p zero h = refl
  tuples_within p (suc n) h = λ i. tuple_within p (omega arith) i ∷ tuples_within (p + tuple_size) n (omega arith) i

pub filled_all : (s : Bytes) (p n : ℕ) (l : Row) → n ≤ length l → ((j : ℕ) → j < n → get_or l j m ≡ tuple_at s (p + tuple_size * j)) → take n l ≡ tuples_at s p n
filled_all s p n l h f =
    let e = length-take-le n l h in
    ext_get_or m (take n l) (tuples_at s p n) (e ∙ sym (length_tuples_at s p n))
    (λ i k. let k' : i < n = omega arith in get_or-take n l i m k' ∙ f i k' ∙ sym (get_or_tuples_at s p n i k'))
