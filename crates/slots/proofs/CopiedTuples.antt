-- Tuples copied as bytes: three words are a tuple's bytes (`three_words`), what is copied after m bytes joins them (`copied_on`), or is
-- copied over the last of them (`copied_over`; up to the end, `copied_last`), and as many bytes as n tuples have are these (`copied_row`). Zeros that are written before
-- what stands in their place (`zeros_first`), and bytes that are written over the last of others (`put_over`). Assumes nothing.
use Rattle.std.proofs.Common.{◌≡◌, ℕ, ◌+◌, ◌-◌, ◌*◌, ◌≤◌, ◌++◌, length, take, drop, replicate, sym, refl, ap, ◌∙◌, append_assoc, append-nil, arith, length-append, length-drop, take-append-drop, drop_of_length-le, length-take, length-take-le, take_all, drop-drop, take_at, take-add, drop_at}
use native.Mathlib.Decide.{dec_le}
use lib.ListN.{length-replicate, replicate-append-replicate}
use lib.Seq.{drop-append-le, drop-append-add}
use Rattle.numbers.specs.Bytes.{Bytes, Octets, at32, bytes32, put}
use Rattle.numbers.proofs.Lists.{next_to}
use Rattle.numbers.proofs.NumberBytes.{here32}
use Rattle.numbers.proofs.Put.{put_put, put_more, put_length}
use Rattle.slots.specs.Tuples.{tuples_at, tuple_size, row_bytes}
use Rattle.slots.proofs.RoundTrip.{here_row}

module _ (s : Bytes) (k : Octets s) where
  -- the words x, y and z that stand one after the other from p on
  pub three_words : (p q r : ℕ) {x y z : ℕ} → p + tuple_size ≤ length s → q ≡ p + 4 → r ≡ p + 8 → x ≡ at32 s p → y ≡ at32 s q → z ≡ at32 s r →
      bytes32 x ++ bytes32 y ++ bytes32 z ≡ take tuple_size (drop p s)
  three_words p q r h a b e f g =
      (λ i. bytes32 (e i) ++ bytes32 ((f ∙ ap (at32 s) a) i) ++ bytes32 ((g ∙ ap (at32 s) b) i))
      ∙ (λ i. here32 s k p (omega arith) i ++ here32 s k (p + 4) (omega arith) i ++ here32 s k (p + 8) (omega arith) i)
      ∙ (λ i. next_to s p 4 4 i ++ take 4 (drop (p + 8) s))
      ∙ next_to s p 8 4

  pub copied_row : (o : Bytes) (p at m n : ℕ) {e : Bytes} → at + tuple_size * n ≤ length s → m ≡ tuple_size * n → e ≡ put o p (take m (drop at s)) → e ≡ put o p (row_bytes (tuples_at s at n))
  copied_row o p at m n h f g = g ∙ ap (put o p) (ap (λ (j : ℕ). take j (drop at s)) f ∙ sym (here_row s k at n h))

-- ── what is written in the place of something else ──

-- what follows k bytes, where x stands before what follows as many in o
after : (k : ℕ) (x o : Bytes) → drop k (x ++ drop (length x) o) ≡ drop k x ++ drop (k + (length x - k)) o
after k x o = elim (dec_le k (length x)) [
  | yes h ↦
      let e : length x ≡ k + (length x - k) = omega arith in
      drop-append-le k x (drop (length x) o) h ∙ ap (λ (n : ℕ). drop k x ++ drop n o) e
  | no h ↦
      let e : k ≡ length x + (k - length x) = omega arith in
      let f : length x + (k - length x) ≡ k + (length x - k) = omega arith in
      let l : length x ≤ k = omega arith in
      ap (λ (n : ℕ). drop n (x ++ drop (length x) o)) e
      ∙ drop-append-add x (drop (length x) o) (k - length x)
      ∙ drop-drop (k - length x) (length x) o
      ∙ (λ i. sym (drop_of_length-le x l) i ++ drop (f i) o)
]

module _ (o : Bytes) (p : ℕ) (h : p ≤ length o) where
  -- y in the place of x, or of its first bytes
  put_again : (x y : Bytes) → put (put o p x) p y ≡ put o p (y ++ drop (length y) x)
  put_again x y =
      let first = take p o in
      let l = length-take-le p o h in
      let rest = x ++ drop (length x) (drop p o) in
      let left = drop (length y) x in
      let n = length y + (length x - length y) in
      let long : n ≡ length (y ++ left) = sym (length-append y left ∙ ap (λ (j : ℕ). length y + j) (length-drop (length y) x)) in
      let whole : put o p x ≡ first ++ rest = append_assoc first x (drop (p + length x) o) ∙ ap (λ (z : Bytes). first ++ (x ++ z)) (sym (drop-drop (length x) p o)) in
      let end : drop (p + length y) (first ++ rest) ≡ left ++ drop (p + n) o =
      ap (λ (j : ℕ). drop (j + length y) (first ++ rest)) (sym l)
      ∙ drop-append-add first rest (length y)
      ∙ after (length y) x (drop p o)
      ∙ ap (λ (z : Bytes). left ++ z) (drop-drop n p o) in
      ap (λ (z : Bytes). put z p y) whole
      ∙ (λ i. take_at first rest p l i ++ y ++ end i)
      ∙ sym (append_assoc (first ++ y) left (drop (p + n) o))
      ∙ (λ i. append_assoc first y left i ++ drop (p + long i) o)

  -- z written first, from number a on, and then w, over all before it and the first of z
  later_first : (a : ℕ) (z w : Bytes) → p + a ≤ length o → a ≤ length w → put (put o (p + a) z) p w ≡ put o p (w ++ drop (length w - a) z)
  later_first a z w k l =
      let t = take a (drop p o) in
      let d = length-drop p o in
      let n : length t ≡ a = length-take-le a (drop p o) (omega arith) in
      let e : a + (length w - a) ≡ length w = omega arith in
      let own : put o p t ≡ o = (λ i. sym (take-add p a o) i ++ drop (p + n i) o) ∙ take-append-drop (p + a) o in
      let first : put o (p + a) z ≡ put o p (t ++ z) = (λ i. put (sym own i) (p + sym n i) z) ∙ put_put o p h t z in
      ap (λ (x : Bytes). put x p w) first
      ∙ put_again (t ++ z) w
      ∙ ap (λ (j : ℕ). put o p (w ++ drop j (t ++ z))) (sym e ∙ ap (λ (j : ℕ). j + (length w - a)) (sym n))
      ∙ ap (λ (x : Bytes). put o p (w ++ x)) (drop-append-add t z (length w - a))

  -- so many zeros of which the first a are before p + length w
  pub zeros_first : (a m : ℕ) (w : Bytes) → p + a ≤ length o → a ≤ length w → length w ≤ a + m →
      put (put o (p + a) (replicate m 0)) p w ≡ put o p (w ++ replicate (a + m - length w) 0)
  zeros_first a m w k l u =
      let j = length w - a in
      let e : m ≡ j + (a + m - length w) = omega arith in
      later_first a (replicate m 0) w k l
      ∙ ap (λ (n : ℕ). put o p (w ++ drop j (replicate n 0))) e
      ∙ ap (λ (x : Bytes). put o p (w ++ drop j x)) (sym (replicate-append-replicate j (a + m - length w) 0))
      ∙ ap (λ (x : Bytes). put o p (w ++ x)) (drop_at (replicate j 0) (replicate (a + m - length w) 0) j (length-replicate j 0))

-- w and x from p on, and then y over x: what it does not reach of x stays
pub put_over : (o : Bytes) (p : ℕ) → p ≤ length o → (w x y : Bytes) {d e : Bytes} {q : ℕ} →
    p + length w ≤ length o → d ≡ put o p (w ++ x) → q ≡ p + length w → e ≡ put d q y → e ≡ put o p (w ++ (y ++ drop (length y) x))
put_over o p h w x y k a b c =
    c
    ∙ (λ i. put ((a ∙ sym (put_put o p h w x)) i) (b i) y)
    ∙ put_again (put o p w) (p + length w) (omega (arith, put_length o p h w k)) x y
    ∙ put_put o p h w (y ++ drop (length y) x)

module _ (o s : Bytes) (p at m n : ℕ) {d e : Bytes} (h : p ≤ length o) (g : at + m ≤ length s) where
  pub copied_on :
      d ≡ put o p (take m (drop at s)) → e ≡ put d (p + m) (take n (drop (at + m) s)) → e ≡ put o p (take (m + n) (drop at s))
  copied_on a b =
      let l = length-take m (drop at s) in
      let k = length-drop at s in
      let q : p + m ≡ p + length (take m (drop at s)) = omega arith in
      put_more o p h (take m (drop at s)) (take n (drop (at + m) s)) a q b ∙ ap (put o p) (next_to s at m n)

-- m bytes, and then n from number b on, which are some of the same and those that follow
module _ (o s : Bytes) (p at m b n : ℕ) {d e : Bytes} (h : p + (b + n) ≤ length o) (g : at + (b + n) ≤ length s) (u : b ≤ m) (v : m ≤ b + n) where
  pub copied_over :
      d ≡ put o p (take m (drop at s)) → e ≡ put d (p + b) (take n (drop (at + b) s)) → e ≡ put o p (take (b + n) (drop at s))
  copied_over f k =
      let w : b + (m - b) ≡ m = omega arith in
      let first = put o p (take b (drop at s)) in
      let x = take (m - b) (drop (at + b) s) in
      let y = take n (drop (at + b) s) in
      let la = length-drop at s in
      let lb : length (take b (drop at s)) ≡ b = length-take-le b (drop at s) (omega arith) in
      let lo : length first ≡ length o = put_length o p (omega arith) (take b (drop at s)) (omega arith) in
      let lx = length-take (m - b) (drop (at + b) s) in
      let ly = length-take n (drop (at + b) s) in
      let ld = length-drop (at + b) s in
      let fits : p + b ≤ length first = omega arith in
      let none : length x ≤ length y = omega arith in
      let split = copied_on o s p at b (m - b) (omega arith) (omega arith) refl refl ∙ ap (λ (j : ℕ). put o p (take j (drop at s))) w in
      copied_on o s p at b n (omega arith) (omega arith) refl
      (k
      ∙ ap (λ (z : Bytes). put z (p + b) y) (f ∙ sym split)
      ∙ put_again first (p + b) fits x y
      ∙ ap (λ (z : Bytes). put first (p + b) (y ++ z)) (drop_of_length-le x none)
      ∙ ap (put first (p + b)) (append-nil y))

-- m bytes of s from its first on, and then its last n, some of which stand there already
pub copied_last : (o s : Bytes) (p m n : ℕ) {d e : Bytes} → p + length s ≤ length o → m ≤ length s → n ≤ length s → length s ≤ m + n
    → d ≡ put o p (take m s) → e ≡ put d (p + (length s - n)) (take n (drop (length s - n) s)) → e ≡ put o p s
copied_last o s p m n {d} h u v w f g =
    let b = length s - n in
    let z : b ≡ 0 + b = omega arith in
    copied_over o s p 0 m b n (omega arith) (omega arith) (omega arith) (omega arith) f (g ∙ ap (λ (j : ℕ). put d (p + b) (take n (drop j s))) z)
    ∙ ap (put o p) (take_all (b + n) s (omega arith))
