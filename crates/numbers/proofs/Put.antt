-- Bytes put into an output one after the other, and one by one. Assumes nothing.
use mathlib.Core.Path.{◌≡◌, ◌∙◌, sym, ap, refl}
use mathlib.Core.List.{List, [], ◌++◌, append_assoc, append-nil, ◌∷◌}
use Prim.Native.Nat.{ℕ, ◌+◌, ◌≤◌, suc, ◌<◌}
use native.Mathlib.Nat.{add_assoc, add-zero}
use native.Mathlib.Omega.{arith}
use native.Mathlib.Numerals.{add-one}
use lib.ListN.{length, take, drop, length-append, length-drop, take-append-drop, get_or, set}
use lib.Seq.{take_at, drop-append-add, drop-drop, length-take-le, take-suc, set_split}
use Rattle.numbers.specs.Bytes.{put, Bytes}

module _ (o : List ℕ) (p : ℕ) (h : p ≤ length o) where
  head_length : (w : List ℕ) → length (take p o ++ w) ≡ p + length w
  head_length w = length-append (take p o) w ∙ ap (λ (n : ℕ). n + length w) (length-take-le p o h)

  pub put_put : (w s : List ℕ) → put (put o p w) (p + length w) s ≡ put o p (w ++ s)
  put_put w s =
      let e = head_length w in
      let d : drop (p + length w + length s) (take p o ++ w ++ drop (p + length w) o) ≡ drop (p + length (w ++ s)) o =
      ap (λ (n : ℕ). drop (n + length s) (take p o ++ w ++ drop (p + length w) o)) (sym e)
      ∙ drop-append-add (take p o ++ w) (drop (p + length w) o) (length s)
      ∙ drop-drop (length s) (p + length w) o
      ∙ ap (λ (n : ℕ). drop n o) (add_assoc p (length w) (length s) ∙ ap (λ (n : ℕ). p + n) (sym (length-append w s))) in
      (λ i. take_at (take p o ++ w) (drop (p + length w) o) (p + length w) e i ++ s ++ d i)
      ∙ ap (λ (l : List ℕ). l ++ drop (p + length (w ++ s)) o) (append_assoc (take p o) w s)

  -- as a call leaves it
  pub put_more : {d e : List ℕ} {q : ℕ} (w s : List ℕ) → d ≡ put o p w → q ≡ p + length w → e ≡ put d q s → e ≡ put o p (w ++ s)
  put_more w s a b c = c ∙ rw (a, b) (put_put w s)

  pub put_length : (w : List ℕ) → p + length w ≤ length o → length (put o p w) ≡ length o
  put_length w k = length-append (take p o ++ w) (drop (p + length w) o) ∙ rw (head_length w, length-drop) (omega arith)

pub put_none : (o : List ℕ) (p : ℕ) → o ≡ put o p []
put_none o p = sym (rw (append-nil (take p o), add-zero p) (take-append-drop p o))

-- one byte more: after i bytes of s stand from p on, s's next at p + i
pub copied_more : (o s d : Bytes) (p i : ℕ) → p + length s ≤ length o → i < length s → d ≡ put o p (take i s) → p + i < length d → set d (p + i) (get_or s i 0) ≡ put o p (take (i + 1) s)
copied_more o s d p i h k e l =
    let q : length (take i s) ≡ i = length-take-le i s (omega arith) in
    let r : p + i ≡ p + length (take i s) = ap (λ (n : ℕ). p + n) (sym q) in
    let a : p + i + 1 ≡ suc (p + i) = omega arith in
    set_split d (p + i) (get_or s i 0) l
    ∙ snoc (take (p + i) d) (get_or s i 0) (drop (suc (p + i)) d)
    ∙ ap (λ (n : ℕ). take (p + i) d ++ (get_or s i 0 ∷ []) ++ drop n d) (sym a)
    ∙ (λ j. put (e j) (r j) (get_or s i 0 ∷ []))
    ∙ put_put o p (omega arith) (take i s) (get_or s i 0 ∷ [])
    ∙ ap (put o p) (sym (ap (λ (n : ℕ). take n s) (add-one i) ∙ take-suc s i 0 k))
  where
    snoc : (x : Bytes) (b : ℕ) (y : Bytes) → x ++ b ∷ y ≡ x ++ (b ∷ []) ++ y
    snoc [] b y = refl
    snoc (c ∷ x) b y = ap (λ (l : Bytes). c ∷ l) (snoc x b y)
