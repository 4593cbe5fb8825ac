-- Zero bytes where a tuple would stand, and in two runs at once. Assumes nothing.
use Rattle.std.proofs.Common.{◌≡◌, ℕ, ◌+◌, ◌-◌, ◌<◌, ◌≤◌, Bool, true, false, ◌&&◌, eqb, length, get_or, take, drop, sym, refl, ap, ◌∙◌, arith, length-drop, take_all}
use lib.Bits.{bit_or, or_add_and, and_le_l, and_le_r}
use Rattle.numbers.specs.Bytes.{Bytes, at32, at64, is_zero, all_zero}
use Rattle.slots.specs.Tuples.{tuple_size}
use Rattle.numbers.proofs.Bools.{and_1}
use Rattle.numbers.proofs.Every.{every_split, every_rest, every_fails}
use Rattle.numbers.proofs.Zeros.{zero_by, zero8, zero32, zero64}

-- a tuple's place
pub zero96 : (s : Bytes) (p : ℕ) → p + tuple_size ≤ length s → all_zero (take tuple_size (drop p s)) ≡ eqb (at64 s p) 0 && eqb (at32 s (p + 8)) 0
zero96 s p h =
    every_split is_zero s p 8 4
    ∙ (λ i. zero64 s p (omega arith) i && zero32 s (p + 8) (omega arith) i)

swap : (a b x y : Bool) → (a && b) && (x && y) ≡ (a && x) && (b && y)
swap false b x y = refl
swap true true x y = refl
swap true false true y = refl
swap true false false y = refl

-- the bits of two numbers together: those that are in both are counted twice in the sum, and are no more than either
pub bits_zero : (a b : ℕ) → eqb (bit_or a b) 0 ≡ eqb a 0 && eqb b 0
bits_zero a b =
    let sum = or_add_and a b in
    let first = and_le_l a b in
    let second = and_le_r a b in
    sym (zero_by (bit_or a b) a b (λ e. omega arith) (λ e. omega arith) (λ e f. omega arith))

-- n bytes from p on and the next
zeros_next : (s : Bytes) (p n : ℕ) → p + n < length s → all_zero (take n (drop p s)) && eqb (get_or s (p + n) 0) 0 ≡ all_zero (take (n + 1) (drop p s))
zeros_next s p n h = (λ i. all_zero (take n (drop p s)) && sym (zero8 s (p + n) h) i) ∙ sym (every_split is_zero s p n 1)

-- at a turn: the bits of n bytes from p on and n from q on, and of the next of each
pub zeros_both : (s : Bytes) (p q n all : ℕ) → p + n < length s → q + n < length s → eqb all 0 ≡ all_zero (take n (drop p s)) && all_zero (take n (drop q s)) →
    eqb (bit_or all (bit_or (get_or s (p + n) 0) (get_or s (q + n) 0))) 0 ≡ all_zero (take (n + 1) (drop p s)) && all_zero (take (n + 1) (drop q s))
zeros_both s p q n all h g e =
    let x = get_or s (p + n) 0 in
    let y = get_or s (q + n) 0 in
    bits_zero all (bit_or x y)
    ∙ (λ i. e i && bits_zero x y i)
    ∙ swap (all_zero (take n (drop p s))) (all_zero (take n (drop q s))) (eqb x 0) (eqb y 0)
    ∙ (λ i. zeros_next s p n h i && zeros_next s q n g i)

-- the first n bytes from p on, and the last n of all, which begin at q, with the answers a and b
module _ (s : Bytes) (p n q : ℕ) (h : q + n ≡ length s) (k : p ≤ q) (g : q ≤ p + n) where
  last_all : all_zero (take n (drop q s)) ≡ all_zero (drop q s)
  last_all = let l : length (drop q s) ≤ n = rw length-drop (omega arith) in ap all_zero (take_all n (drop q s) l)

  ends_by : (a b : Bool) → a ≡ all_zero (take n (drop p s)) → b ≡ all_zero (drop q s) → a && b ≡ all_zero (drop p s)
  ends_by false b e f = sym (sym (every_rest is_zero s p n) ∙ (λ i. sym e i && all_zero (drop (p + n) s)))
  ends_by true false e f = let z : p + (q - p) ≡ q = omega arith in sym (every_fails is_zero s p (q - p) (ap (λ (j : ℕ). all_zero (drop j s)) z ∙ sym f))
  ends_by true true e f =
      let z : q + (p + n - q) ≡ p + n = omega arith in
      let later = and_1 (all_zero (take (p + n - q) (drop q s))) (all_zero (drop (q + (p + n - q)) s)) (every_rest is_zero s q (p + n - q) ∙ sym f) in
      sym (sym (every_rest is_zero s p n) ∙ (λ i. sym e i && (ap (λ (j : ℕ). all_zero (drop j s)) (sym z) ∙ later) i))

  pub zeros_ends : all_zero (take n (drop p s)) && all_zero (take n (drop q s)) ≡ all_zero (drop p s)
  zeros_ends = ends_by (all_zero (take n (drop p s))) (all_zero (take n (drop q s))) refl last_all

-- n bytes at p, tested after all that follow them, of bytes that are tested from q on
module _ (s : Bytes) (p n : ℕ) where
  pub zeros_more : (r : ℕ) → p + n ≡ r → true ≡ all_zero (take n (drop p s)) → all_zero (drop r s) ≡ true → all_zero (drop p s) ≡ true
  zeros_more r h e z = sym (every_rest is_zero s p n) ∙ (λ i. sym e i && (ap (λ (j : ℕ). all_zero (drop j s)) h ∙ z) i)

  pub zeros_fail : (q : ℕ) → q ≤ p → false ≡ all_zero (take n (drop p s)) → false ≡ all_zero (drop q s)
  zeros_fail q h e =
      let k : q + (p - q) ≡ p = omega arith in
      sym (every_fails is_zero s q (p - q)
      (ap (λ (j : ℕ). all_zero (drop j s)) k ∙ sym (every_rest is_zero s p n) ∙ (λ i. sym e i && all_zero (drop (p + n) s))))
