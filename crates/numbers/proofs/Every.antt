-- A test of every element of a list. Assumes nothing.
use mathlib.Core.Path.{◌≡◌, ◌∙◌, sym, ap}
use mathlib.Core.List.{List, [], ◌∷◌}
use mathlib.Core.Bool.{Bool, true, false, ◌&&◌, and-false}
use Prim.Native.Nat.{ℕ, zero, suc, ◌+◌, ◌<◌, ◌≤◌}
use native.Mathlib.Nat.{not-suc-le-zero, le_of_suc-le-suc}
use native.Mathlib.Numerals.{add-one}
use lib.ListN.{length, get_or, take, drop, take-append-drop, drop_of_length-le}
use lib.Seq.{drop-cons, drop-drop, take-add}
use Rattle.std.specs.List.{list_all}
use Rattle.std.proofs.lemmas.List.Folds.{list_all-append}
use Rattle.numbers.proofs.Bools.{and_0, and_1}

module _ {A : Type 0} (f : A → Bool) where
  -- a row from p on: n elements, and the rest
  pub every_rest : (s : List A) (p n : ℕ) → list_all f (take n (drop p s)) && list_all f (drop (p + n) s) ≡ list_all f (drop p s)
  every_rest s p n =
      ap (λ (l : List A). list_all f (take n (drop p s)) && list_all f l) (sym (drop-drop n p s))
      ∙ sym (list_all-append f (take n (drop p s)) (drop n (drop p s)))
      ∙ ap (list_all f) (take-append-drop n (drop p s))

  -- m + n elements from p on
  pub every_split : (s : List A) (p m n : ℕ) → list_all f (take (m + n) (drop p s)) ≡ list_all f (take m (drop p s)) && list_all f (take n (drop (p + m) s))
  every_split s p m n =
      ap (list_all f) (take-add m n (drop p s))
      ∙ list_all-append f (take m (drop p s)) (take n (drop m (drop p s)))
      ∙ ap (λ (l : List A). list_all f (take m (drop p s)) && list_all f (take n l)) (drop-drop m p s)

  -- where a later part fails the whole does
  pub every_fails : (s : List A) (p n : ℕ) → list_all f (drop (p + n) s) ≡ false → list_all f (drop p s) ≡ false
  every_fails s p n e = sym (every_rest s p n) ∙ ap (λ (b : Bool). list_all f (take n (drop p s)) && b) e ∙ and-false (list_all f (take n (drop p s)))

  -- the answer b for the element at i, and what is left after it
  pub every_at : {b : Bool} (l : List A) (i : ℕ) (d : A) → i < length l → b ≡ f (get_or l i d) → b && list_all f (drop (i + 1) l) ≡ list_all f (drop i l)
  every_at l i d h e = rw (e, add-one, drop-cons l i d h)

  -- where all pass each does
  pub every_each : (l : List A) (i : ℕ) (d : A) → i < length l → list_all f l ≡ true → f (get_or l i d) ≡ true
  every_each [] i d h e = absurd (not-suc-le-zero h)
  every_each (x ∷ l) zero d h e = and_0 (f x) (list_all f l) e
  every_each (x ∷ l) (suc i) d h e = every_each l i d (le_of_suc-le-suc h) (and_1 (f x) (list_all f l) e)

  pub every_end : (l : List A) (i : ℕ) → length l ≤ i → true ≡ list_all f (drop i l)
  every_end l i h = rw (drop_of_length-le l h)
