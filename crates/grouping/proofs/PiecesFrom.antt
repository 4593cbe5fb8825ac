-- Pieces of one size written one after the other from a place on (`Writing`, a loop's invariant, with its start, a turn and its end). Assumes
-- nothing.
use mathlib.Core.Path.{◌≡◌, refl, sym, ap, ◌∙◌}
use mathlib.Core.List.{List, ◌++◌, flatten}
use Prim.Native.Nat.{ℕ, suc, ◌+◌, ◌*◌, ◌<◌, ◌≤◌}
use native.Mathlib.Nat.{mul-zero, mul-suc, add-zero, add_assoc}
use native.Mathlib.Numerals.{add-one}
use native.Mathlib.Omega.{arith}
use lib.ListN.{length, get_or, drop, drop_of_length-le}
use lib.Seq.{drop-cons}
use Rattle.numbers.specs.Bytes.{Bytes, put}
use Rattle.numbers.proofs.Lists.{flat, flat_none}
use Rattle.numbers.proofs.Put.{put_put, put_length, put_none}

-- i of the pieces were written from p on to o, which was o₀; the rest is to be written
pub record Writing (size p : ℕ) (all : List Bytes) (o₀ o : Bytes) (i : ℕ) : Type 0 where
  pub few : i ≤ length all
  pub room : length o ≡ length o₀
  pub stand : put o (p + size * i) (flatten (drop i all)) ≡ put o₀ p (flatten all)

pub writing_first : (size p : ℕ) (all : List Bytes) (o : Bytes) → Writing size p all o o 0
writing_first size p all o =
    let e : p + size * 0 ≡ p = ap (λ (n : ℕ). p + n) (mul-zero size) ∙ add-zero p in
    record { few = omega arith; room = refl; stand = ap (λ (n : ℕ). put o n (flatten all)) e }

module _ {size p : ℕ} {all : List Bytes} {o₀ o : Bytes} {i : ℕ} (v : Writing size p all o₀ o i) where
  pub writing_end : length all ≤ i → o ≡ put o₀ p (flatten all)
  writing_end h =
      put_none o (p + size * i)
      ∙ ap (put o (p + size * i)) (sym (ap flatten (drop_of_length-le all {i = i} h) ∙ flat_none))
      ∙ v.stand

  -- a turn: o' is o with piece i written
  module _ (h : i < length all) (none piece : Bytes) (is : get_or all i none ≡ piece) (long : length piece ≡ size) where
    left : flatten (drop i all) ≡ piece ++ flatten (drop (i + 1) all)
    left =
        ap flatten (drop-cons all i none h)
        ∙ flat (get_or all i none) (drop (suc i) all)
        ∙ (λ k. is k ++ flatten (drop (sym (add-one i) k) all))

    pub writing_on : (o' : Bytes) (q : ℕ) → q ≡ p + size * i → q + size ≤ length o → o' ≡ put o q piece → Writing size p all o₀ o' (i + 1)
    writing_on o' q at within e =
        let here : q + length piece ≡ p + size * (i + 1) =
        (λ k. at k + long k)
        ∙ add_assoc p (size * i) size
        ∙ ap (λ (n : ℕ). p + n) (sym (ap (λ (n : ℕ). size * n) (add-one i) ∙ mul-suc size i)) in
        record {
          few = omega arith;
          room = ap length e ∙ put_length o q (omega arith) piece (omega arith) ∙ v.room;
          stand =
              (λ k. put (e k) (sym here k) (flatten (drop (i + 1) all)))
              ∙ put_put o q (omega arith) piece (flatten (drop (i + 1) all))
              ∙ (λ k. put o (at k) (sym left k))
              ∙ v.stand;
        }
