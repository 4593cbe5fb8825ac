-- The bytes of a number, read back from bytes that stand somewhere (`here16`, `here32`) or were written (`sum16`, `back32`). Assumes nothing.
use mathlib.Core.Path.{◌≡◌, ◌∙◌, ap}
use mathlib.Core.List.{[], ◌∷◌, ◌++◌}
use Prim.Native.Nat.{ℕ, ◌+◌, ◌*◌, ◌/◌, ◌%◌, ◌<◌, suc, ◌≤◌}
use native.Mathlib.Omega.{arith}
use native.Mathlib.Nat.{add_assoc}
use lib.ListN.{length, take, get_or, drop}
use lib.Seq.{drop-cons, get_or-append-add}
use Rattle.numbers.specs.Bytes.{Bytes, bytes16, bytes32, Octets, at16, at32}
use Rattle.numbers.proofs.ReadNumbers.{fits16}
use Rattle.numbers.proofs.Lists.{next_to}

high_part : (p n : ℕ) → n < 65536 → (p * 65536 + n) / 65536 ≡ p
high_part p n h = omega arith

low_part : (p n : ℕ) → n < 65536 → (p * 65536 + n) % 65536 ≡ n
low_part p n h = omega arith

-- two numbers of two bytes written as one of four
pub pair : (p n : ℕ) → n < 65536 → bytes32 (p * 65536 + n) ≡ bytes16 p ++ bytes16 n
pair p n h = λ i. bytes16 (high_part p n h i) ++ bytes16 (low_part p n h i)

-- ── from bytes and back ──

high16 : (x y : ℕ) → y < 256 → (x * 256 + y) / 256 ≡ x
high16 x y h = omega arith

low16 : (x y : ℕ) → y < 256 → (x * 256 + y) % 256 ≡ y
low16 x y h = omega arith

high32 : (x y : ℕ) → y < 65536 → (x * 65536 + y) / 65536 ≡ x
high32 x y h = omega arith

low32 : (x y : ℕ) → y < 65536 → (x * 65536 + y) % 65536 ≡ y
low32 x y h = omega arith

module _ (s : Bytes) (k : Octets s) where
  pub here16 : (p : ℕ) → p + 2 ≤ length s → bytes16 (at16 s p) ≡ take 2 (drop p s)
  here16 p h =
      let a : p < length s = omega arith in
      let b : suc p < length s = omega arith in
      let e : p + 1 ≡ suc p = omega arith in
      (λ i. high16 (get_or s p 0) (get_or s (p + 1) 0) (k (p + 1)) i ∷ low16 (get_or s p 0) (get_or s (p + 1) 0) (k (p + 1)) i ∷ [])
      ∙ rw (e, drop-cons s p 0 a, drop-cons s (suc p) 0 b)

  pub here32 : (p : ℕ) → p + 4 ≤ length s → bytes32 (at32 s p) ≡ take 4 (drop p s)
  here32 p h =
      (λ i. bytes16 (high32 (at16 s p) (at16 s (p + 2)) (fits16 s (p + 2) k) i) ++ bytes16 (low32 (at16 s p) (at16 s (p + 2)) (fits16 s (p + 2) k) i))
      ∙ (λ i. here16 p (omega arith) i ++ here16 (p + 2) (omega arith) i)
      ∙ next_to s p 2 2

-- ── to bytes and back ──

-- reading past a front
module _ (w y : Bytes) where
  pub at16_past : (k : ℕ) → at16 (w ++ y) (length w + k) ≡ at16 y k
  at16_past k =
      let e = get_or-append-add w y k 0 in
      let f = ap (λ (n : ℕ). get_or (w ++ y) n 0) (add_assoc (length w) k 1) ∙ get_or-append-add w y (k + 1) 0 in
      λ i. e i * 256 + f i

  pub at32_past : (k : ℕ) → at32 (w ++ y) (length w + k) ≡ at32 y k
  at32_past k =
      let e = at16_past k in
      let f = ap (at16 (w ++ y)) (add_assoc (length w) k 2) ∙ at16_past (k + 2) in
      λ i. e i * 65536 + f i

pub sum16 : (v : ℕ) → v / 256 * 256 + v % 256 ≡ v
sum16 v = omega arith

pub sum32 : (v : ℕ) → v / 65536 * 65536 + v % 65536 ≡ v
sum32 v = omega arith

pub back32 : (v : ℕ) (r : Bytes) → at32 (bytes32 v ++ r) 0 ≡ v
back32 v r = (λ i. sum16 (v / 65536) i * 65536 + sum16 (v % 65536) i) ∙ sum32 v
