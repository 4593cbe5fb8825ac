-- Lists: parts next to each other, elements taken, an array filled from the front, and lists joined. Assumes nothing.
use mathlib.Core.Path.{◌≡◌, refl, ◌∙◌, sym, ap}
use mathlib.Core.List.{List, [], ◌∷◌, ◌++◌, append_assoc, flatten}
use Prim.Native.Nat.{ℕ, ◌+◌, ◌<◌, min}
use native.Mathlib.Omega.{arith}
use native.Mathlib.Decide.{dec_le}
use borrow.Author.Count.{below_more}
use lib.ListN.{length, take, drop, get_or, set}
use lib.Seq.{drop-drop, take-add, take_all, get_or-set_same, get_or-set_other}
use Rattle.numbers.specs.Bytes.{Bytes}

-- two parts that stand next to each other
pub next_to : {A : Type 0} (s : List A) (p m n : ℕ) → take m (drop p s) ++ take n (drop (p + m) s) ≡ take (m + n) (drop p s)
next_to s p m n = ap (λ (l : List _). take m (drop p s) ++ take n l) (sym (drop-drop m p s)) ∙ sym (take-add m n (drop p s))

-- of a row of k elements n are taken, or all
pub take_min : {A : Type 0} (n k : ℕ) (xs : List A) → length xs ≡ k → take (min n k) xs ≡ take n xs
take_min n k xs e =
    elim (dec_le n k) [
      | yes h ↦ let q : min n k ≡ n = omega arith in rw q
      | no h ↦ take_all (min n k) xs (omega arith) ∙ sym (take_all n xs (omega arith))
    ]

-- an array filled from the front: what holds below k holds below k + 1 after a store at k
pub filled_more : {A : Type 0} (d : A) (P : ℕ → A) (l : List A) (k : ℕ) (v : A) → k < length l → ((j : ℕ) → j < k → get_or l j d ≡ P j) → v ≡ P k → (j : ℕ) → j < k + 1 → get_or (set l k v) j d ≡ P j
filled_more d P l k v h f e =
    below_more (λ j. get_or (set l k v) j d ≡ P j) k
    (λ j lt. get_or-set_other l k j v d (λ q. omega arith) ∙ f j lt)
    (get_or-set_same l k v d h ∙ e)

-- ── joined ──

pub flat : (x : Bytes) (l : List Bytes) → flatten (x ∷ l) ≡ x ++ flatten l
unfolding flatten
flat x l = refl

pub flat_none : flatten {A = ℕ} [] ≡ []
unfolding flatten
flat_none = refl

pub flat_append : (a b : List Bytes) → flatten (a ++ b) ≡ flatten a ++ flatten b
flat_append [] b = ap (λ (l : Bytes). l ++ flatten b) (sym flat_none)
flat_append (x ∷ a) b =
    flat x (a ++ b) ∙ ap (λ (l : Bytes). x ++ l) (flat_append a b) ∙ sym (append_assoc x (flatten a) (flatten b)) ∙ ap (λ (l : Bytes). l ++ flatten b) (sym (flat x a))
