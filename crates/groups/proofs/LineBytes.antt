-- Line numbers one after the other as bytes: how many bytes (`lines_length`), that they are bytes (`lines_all`); written they are read back
-- (`lines_back`), and read they are the bytes that stand there (`here_lines`); and line numbers that stand in bytes, one by one. Assumes
-- nothing.
use mathlib.Core.Path.{◌≡◌, refl, sym, ap, ◌∙◌}
use mathlib.Core.List.{List, [], ◌∷◌, ◌++◌, map, append_assoc}
use mathlib.Core.Bool.{true, ◌&&◌}
use Prim.Native.Nat.{ℕ, zero, suc, ◌+◌, ◌*◌, ◌<◌, ◌≤◌}
use native.Mathlib.Nat.{not-suc-le-zero, le_of_suc-le-suc}
use native.Mathlib.Omega.{arith}
use borrow.Author.Tests.{le-leb, leb-true}
use lib.ListN.{length, take, drop, get_or, length-append}
use Rattle.numbers.specs.Bytes.{Bytes, Octets, at32, bytes32}
use Rattle.std.specs.List.{list_all}
use Rattle.numbers.proofs.Bools.{and_0, and_1}
use Rattle.numbers.proofs.Lists.{next_to, flat, flat_none}
use Rattle.numbers.proofs.NumberBytes.{here32, at32_past, back32}
use Rattle.numbers.proofs.Octets.{AllBytes, nil, join, four}
use Rattle.numbers.proofs.ReadNumbers.{fits32, four_on}
use Rattle.groups.specs.Groups.{line_size}
use Rattle.groups.specs.Forms.{line_bytes, lines_at}
use Rattle.groups.proofs.RunSlots.{is_line}

-- ── to bytes ──

pub lines_none : line_bytes [] ≡ []
lines_none = flat_none

pub lines_more : (x : ℕ) (l : List ℕ) → line_bytes (x ∷ l) ≡ bytes32 x ++ line_bytes l
lines_more x l = flat (bytes32 x) (map bytes32 l)

pub lines_length : (l : List ℕ) → length (line_bytes l) ≡ line_size * length l
lines_length [] = ap length lines_none
lines_length (x ∷ l) = let e = lines_length l in ap length (lines_more x l) ∙ length-append (bytes32 x) (line_bytes l) ∙ omega arith

pub lines_append : (l m : List ℕ) → line_bytes (l ++ m) ≡ line_bytes l ++ line_bytes m
lines_append [] m = ap (λ (b : Bytes). b ++ line_bytes m) (sym lines_none)
lines_append (x ∷ l) m =
    lines_more x (l ++ m)
    ∙ ap (λ (b : Bytes). bytes32 x ++ b) (lines_append l m)
    ∙ sym (append_assoc (bytes32 x) (line_bytes l) (line_bytes m))
    ∙ ap (λ (b : Bytes). b ++ line_bytes m) (sym (lines_more x l))

pub lines_all : (l : List ℕ) → list_all is_line l ≡ true → AllBytes (line_bytes l)
lines_all [] e = rw lines_none nil
lines_all (x ∷ l) e =
    let h = leb-true x 4294967295 (and_0 (is_line x) (list_all is_line l) e) in
    rw (lines_more x l) (join (four x (omega arith)) (lines_all l (and_1 (is_line x) (list_all is_line l) e)))

-- after the bytes w they are read back
pub lines_back : (w : Bytes) (l : List ℕ) (r : Bytes) → lines_at (w ++ (line_bytes l ++ r)) (length w) (length l) ≡ l
lines_back w [] r = refl
lines_back w (x ∷ l) r =
    let s = w ++ (line_bytes (x ∷ l) ++ r) in
    let t = line_bytes l ++ r in
    let b : line_bytes (x ∷ l) ++ r ≡ bytes32 x ++ t = ap (λ (y : Bytes). y ++ r) (lines_more x l) ∙ append_assoc (bytes32 x) (line_bytes l) r in
    let c : s ≡ (w ++ bytes32 x) ++ t = ap (λ (y : Bytes). w ++ y) b ∙ sym (append_assoc w (bytes32 x) t) in
    let n : length w + line_size ≡ length (w ++ bytes32 x) = sym (length-append w (bytes32 x)) in
    let z : length w ≡ length w + 0 = omega arith in
    let here : at32 s (length w) ≡ x = (λ i. at32 (w ++ b i) (z i)) ∙ at32_past w (bytes32 x ++ t) 0 ∙ back32 x t in
    let rest : lines_at s (length w + line_size) (length l) ≡ l = (λ i. lines_at (c i) (n i) (length l)) ∙ lines_back (w ++ bytes32 x) l r in
    λ i. here i ∷ rest i

-- ── from bytes ──

pub length_lines_at : (s : Bytes) (p n : ℕ) → length (lines_at s p n) ≡ n
length_lines_at s p zero = refl
length_lines_at s p (suc n) = ap suc (length_lines_at s (p + line_size) n)

pub here_lines : (s : Bytes) → Octets s → (p n : ℕ) → p + line_size * n ≤ length s → line_bytes (lines_at s p n) ≡ take (line_size * n) (drop p s)
here_lines s k p zero h = lines_none
here_lines s k p (suc n) h =
    let e : line_size + line_size * n ≡ line_size * suc n = omega arith in
    lines_more (at32 s p) (lines_at s (p + line_size) n)
    ∙ (λ i. here32 s k p (omega arith) i ++ here_lines s k (p + line_size) n (omega arith) i)
    ∙ next_to s p line_size (line_size * n)
    ∙ ap (λ (j : ℕ). take j (drop p s)) e

pub lines_u32 : (s : Bytes) → Octets s → (p n : ℕ) → list_all is_line (lines_at s p n) ≡ true
lines_u32 s k p zero = refl
lines_u32 s k p (suc n) = λ i. le-leb (at32 s p) 4294967295 (omega (arith, fits32 s p k)) i && lines_u32 s k (p + line_size) n i

-- what stands m bytes further on
pub lines_on : (m : ℕ) (s : Bytes) (p q n : ℕ) → q ≡ m + p → lines_at (drop m s) p n ≡ lines_at s q n
lines_on m s p q zero e = refl
lines_on m s p q (suc n) e = λ i. four_on m s p q e i ∷ lines_on m s (p + line_size) (q + line_size) n (omega arith) i

-- one by one, and the first of them
pub line_at : (s : Bytes) (p n k : ℕ) → k < n → get_or (lines_at s p n) k 0 ≡ at32 s (p + line_size * k)
line_at s p zero k h = absurd (not-suc-le-zero h)
line_at s p (suc n) zero h = let e : p ≡ p + line_size * 0 = omega arith in ap (at32 s) e
line_at s p (suc n) (suc k) h =
    let e : p + line_size + line_size * k ≡ p + line_size * suc k = omega arith in
    line_at s (p + line_size) n k (le_of_suc-le-suc h) ∙ ap (at32 s) e

pub lines_add : (s : Bytes) (p m n : ℕ) → lines_at s p (m + n) ≡ lines_at s p m ++ lines_at s (p + line_size * m) n
lines_add s p zero n =
    let e : 0 + n ≡ n = omega arith in
    let f : p ≡ p + line_size * 0 = omega arith in
    λ i. lines_at s (f i) (e i)
lines_add s p (suc m) n =
    let e : suc m + n ≡ suc (m + n) = omega arith in
    let f : p + line_size + line_size * m ≡ p + line_size * suc m = omega arith in
    ap (lines_at s p) e
    ∙ ap (λ (l : List ℕ). at32 s p ∷ l) (lines_add s (p + line_size) m n ∙ ap (λ (q : ℕ). lines_at s (p + line_size) m ++ lines_at s q n) f)
