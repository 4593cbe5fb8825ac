-- Pieces of one size written one after the other: what stands once the pieces from i on are written (`standing`) does not change in a
-- turn of the loop that writes them. Assumes nothing.
use mathlib.Core.Path.{◌≡◌, ◌∙◌, sym, ap}
use mathlib.Core.List.{List, ◌++◌, flatten}
use Prim.Native.Nat.{ℕ, suc, ◌+◌, ◌*◌, ◌<◌, ◌≤◌}
use native.Mathlib.Nat.{mul-zero, mul-suc}
use native.Mathlib.Numerals.{add-one}
use native.Mathlib.Omega.{arith}
use lib.ListN.{length, get_or, drop, drop_of_length-le}
use lib.Seq.{drop-cons}
use Rattle.numbers.specs.Bytes.{Bytes, put}
use Rattle.numbers.proofs.Lists.{flat, flat_none}
use Rattle.numbers.proofs.Put.{put_put, put_length, put_none}

module _ (size : ℕ) (all : List Bytes) where
  -- what stands once the pieces from i on are written to o
  abbrev pub standing : Bytes → ℕ → Bytes
  standing o i = put o (size * i) (flatten (drop i all))

  pub standing_first : (o : Bytes) → standing o 0 ≡ put o 0 (flatten all)
  standing_first o = ap (λ (p : ℕ). put o p (flatten all)) (mul-zero size)

  pub standing_last : (o : Bytes) (i : ℕ) → length all ≤ i → o ≡ standing o i
  standing_last o i h =
      put_none o (size * i) ∙ ap (put o (size * i)) (sym (ap flatten (drop_of_length-le all {i = i} h) ∙ flat_none))

  -- a turn: o' is o with piece i written
  module _ (i : ℕ) (h : i < length all) (piece none : Bytes) (is : get_or all i none ≡ piece) (long : length piece ≡ size) (o o' : Bytes) (within : size * i + size ≤ length o) (e : o' ≡ put o (size * i) piece) where
    left : flatten (drop i all) ≡ piece ++ flatten (drop (i + 1) all)
    left =
        ap flatten (drop-cons all i none h)
        ∙ flat (get_or all i none) (drop (suc i) all)
        ∙ (λ k. is k ++ flatten (drop (sym (add-one i) k) all))

    pub standing_on : standing o' (i + 1) ≡ standing o i
    standing_on =
        let q : size * (i + 1) ≡ size * i + length piece = rw (add-one, long) (mul-suc size i) in
        ap (λ (s : Bytes). put s (size * (i + 1)) (flatten (drop (i + 1) all))) e
        ∙ ap (λ (n : ℕ). put (put o (size * i) piece) n (flatten (drop (i + 1) all))) q
        ∙ put_put o (size * i) (omega arith) piece (flatten (drop (i + 1) all))
        ∙ ap (put o (size * i)) (sym left)

    pub same_room : length o' ≡ length o
    same_room = ap length e ∙ put_length o (size * i) (omega arith) piece (omega arith)
