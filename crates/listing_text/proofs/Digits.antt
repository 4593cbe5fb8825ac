-- The digits of a number: how they come one after the other, how many they are, and what they read back as. Assumes nothing.
use Rattle.std.proofs.lemmas.List.Folds.{list_all-append}
use mathlib.Core.Path.{◌≡◌, refl, ◌∙◌, sym, ap}
use mathlib.Core.List.{[], ◌∷◌, ◌++◌}
use mathlib.Core.Bool.{Bool, true}
use Prim.Native.Nat.{ℕ, zero, suc, ◌+◌, ◌-◌, ◌*◌, ◌/◌, ◌%◌, ◌<◌, ◌≤◌, ◌^◌}
use native.Mathlib.Decide.{dec_lt}
use native.Mathlib.Nat.{not-suc-le-zero, pow-suc}
use native.Mathlib.Omega.{arith}
use borrow.Author.Tests.{lt-ltb, le-ltb, le-leb}
use lib.ListN.{length, get_or, length-append, get_or-append}
use Rattle.names.specs.Names.{within}
use Rattle.numbers.specs.Bytes.{Bytes}
use Rattle.std.specs.List.{list_all}
use Rattle.listing_text.specs.Listing.{digits, decimal}

-- the last digit
abbrev pub last : ℕ → ℕ
last n = 48 + n % 10

digits_one : (k n : ℕ) → n < 10 → digits (suc k) n ≡ last n ∷ []
digits_one k n h = rw (lt-ltb n 10 h)

digits_more : (k n : ℕ) → 10 ≤ n → digits (suc k) n ≡ digits k (n / 10) ++ (last n ∷ [])
digits_more k n h = rw (le-ltb n 10 h)

-- the first argument has no say once it is above n
pub digits_any : (k j n : ℕ) → n < k → n < j → digits k n ≡ digits j n
digits_any zero j n h g = absurd (not-suc-le-zero h)
digits_any (suc k) zero n h g = absurd (not-suc-le-zero g)
digits_any (suc k) (suc j) n h g = elim (dec_lt n 10) [
  | yes e ↦ digits_one k n e ∙ sym (digits_one j n e)
  | no e ↦
      let t : 10 ≤ n = omega arith in
      let a : n / 10 < k = omega arith in
      let b : n / 10 < j = omega arith in
      digits_more k n t ∙ ap (λ (l : Bytes). l ++ (last n ∷ [])) (digits_any k j (n / 10) a b) ∙ sym (digits_more j n t)
]

pub decimal_one : (n : ℕ) → n < 10 → decimal n ≡ last n ∷ []
unfolding decimal
decimal_one n h = digits_one n n h

pub decimal_more : (n : ℕ) → 10 ≤ n → decimal n ≡ decimal (n / 10) ++ (last n ∷ [])
unfolding decimal
decimal_more n h =
    let a : n / 10 < n = omega arith in
    let b : n / 10 < suc (n / 10) = omega arith in
    digits_more n n h ∙ ap (λ (l : Bytes). l ++ (last n ∷ [])) (digits_any n (suc (n / 10)) (n / 10) a b)

-- as many digits as a power of ten asks for are enough
pub digits_enough : (k n : ℕ) → n < 10 ^ k → 1 ≤ k → decimal n ≡ digits k n
digits_enough zero n h g = absurd (not-suc-le-zero g)
digits_enough (suc zero) n h g = decimal_one n h ∙ sym (digits_one 0 n h)
digits_enough (suc (suc k)) n h g = elim (dec_lt n 10) [
  | yes e ↦ decimal_one n e ∙ sym (digits_one (suc k) n e)
  | no e ↦
      let t : 10 ≤ n = omega arith in
      let p = pow-suc 10 (suc k) in
      let a : n / 10 < 10 ^ suc k = omega arith in
      decimal_more n t
      ∙ ap (λ (l : Bytes). l ++ (last n ∷ [])) (digits_enough (suc k) (n / 10) a (omega arith))
      ∙ sym (digits_more (suc k) n t)
]

-- what holds of numbers below 10, and of n where it holds of n / 10, holds of every number
by_digits_below : (P : ℕ → Type 0) → ((n : ℕ) → n < 10 → P n) → ((n : ℕ) → 10 ≤ n → P (n / 10) → P n) → (k n : ℕ) → n < k → P n
by_digits_below P one more zero n h = absurd (not-suc-le-zero h)
by_digits_below P one more (suc k) n h = elim (dec_lt n 10) [
  | yes e ↦ one n e
  | no e ↦
      let a : n / 10 < k = omega arith in
      more n (omega arith) (by_digits_below P one more k (n / 10) a)
]

pub by_digits : (P : ℕ → Type 0) → ((n : ℕ) → n < 10 → P n) → ((n : ℕ) → 10 ≤ n → P (n / 10) → P n) → (n : ℕ) → P n
by_digits P one more n = let h : n < suc n = omega arith in by_digits_below P one more (suc n) n h

-- ── how many ──

pub length_one : (n : ℕ) → n < 10 → length (decimal n) ≡ 1
length_one n h = ap length (decimal_one n h)

pub length_more : (n : ℕ) → 10 ≤ n → length (decimal n) ≡ length (decimal (n / 10)) + 1
length_more n h = ap length (decimal_more n h) ∙ length-append (decimal (n / 10)) (last n ∷ [])

pub length_some : (n : ℕ) → 1 ≤ length (decimal n)
length_some =
    by_digits (λ n. 1 ≤ length (decimal n))
    (λ n h. omega (arith, length_one n h))
    (λ n h v. omega (arith, length_more n h))

pub length_decimal : (k n : ℕ) → n < 10 ^ k → 1 ≤ k → length (decimal n) ≤ k
length_decimal zero n h g = absurd (not-suc-le-zero g)
length_decimal (suc zero) n h g = omega (arith, length_one n h)
length_decimal (suc (suc k)) n h g = elim (dec_lt n 10) [
  | yes e ↦ omega (arith, length_one n e)
  | no e ↦
      let t : 10 ≤ n = omega arith in
      let p = pow-suc 10 (suc k) in
      let a : n / 10 < 10 ^ suc k = omega arith in
      omega (arith, length_more n t, length_decimal (suc k) (n / 10) a (omega arith))
]

-- a u32 has at most ten digits, and nine before the last
pub ten_digits : (n : ℕ) → n < 4294967296 → length (decimal n) ≤ 10
ten_digits n h = let a : n < 10000000000 = omega arith in length_decimal 10 n a (omega arith)

pub nine_before : (n : ℕ) → n < 4294967296 → length (decimal (n / 10)) ≤ 9
nine_before n h = let a : n / 10 < 1000000000 = omega arith in length_decimal 9 (n / 10) a (omega arith)

-- ── what they say ──

-- the number that digits say after those that say v, and the number that a row of digits says
abbrev pub read_on : ℕ → Bytes → ℕ
read_on v [] = v
read_on v (b ∷ l) = read_on (v * 10 + (b - 48)) l

abbrev pub value : Bytes → ℕ
value l = read_on 0 l

read_on_append : (v : ℕ) (a b : Bytes) → read_on v (a ++ b) ≡ read_on (read_on v a) b
read_on_append v [] b = refl
read_on_append v (x ∷ a) b = read_on_append (v * 10 + (x - 48)) a b

-- read back, the digits of n say n
pub value_decimal : (n : ℕ) → value (decimal n) ≡ n
value_decimal =
    by_digits (λ n. value (decimal n) ≡ n)
    (λ n h. ap value (decimal_one n h) ∙ omega arith)
    (λ n h v. ap value (decimal_more n h) ∙ read_on_append 0 (decimal (n / 10)) (last n ∷ []) ∙ omega arith)

pub same_decimal : (n k : ℕ) → decimal n ≡ decimal k → n ≡ k
same_decimal n k e = sym (value_decimal n) ∙ ap value e ∙ value_decimal k

-- no digit but that of 0 itself is a zero in front
pub no_zero_first : (n : ℕ) → 1 ≤ n → 49 ≤ get_or (decimal n) 0 0
no_zero_first =
    by_digits (λ n. 1 ≤ n → 49 ≤ get_or (decimal n) 0 0)
    (λ n h g. rw (decimal_one n h) (omega arith))
    (λ n h v g.
    let a : 1 ≤ n / 10 = omega arith in
    let b : 0 < length (decimal (n / 10)) = omega (arith, length_some (n / 10)) in
    rw (decimal_more n h, get_or-append (decimal (n / 10)) (last n ∷ []) 0 0 b) (v a))

abbrev pub is_digit : ℕ → Bool
is_digit b = within 48 57 b

last_digit : (n : ℕ) → is_digit (last n) ≡ true
last_digit n = rw (le-leb 48 (last n) (omega arith), le-leb (last n) 57 (omega arith))

pub all_digits : (n : ℕ) → list_all is_digit (decimal n) ≡ true
all_digits =
    by_digits (λ n. list_all is_digit (decimal n) ≡ true)
    (λ n h. rw (decimal_one n h, last_digit n))
    (λ n h v. ap (list_all is_digit) (decimal_more n h) ∙ list_all-append is_digit (decimal (n / 10)) (last n ∷ []) ∙ rw (v, last_digit n))
