-- Freshness of the name in a slot, by its first tuple, and of every name of a page, by its slots. Assumes nothing.
use mathlib.Core.Path.{◌≡◌, ◌∙◌, sym, ap}
use mathlib.Core.Bool.{Bool, true, ◌&&◌, not}
use Prim.Native.Nat.{ℕ, suc, ◌-◌}
use native.Mathlib.Omega.{arith}
use borrow.Author.Tests.{eq-eqb, ne_eqb}
use lib.Dec.{eqb}
use Rattle.names.specs.declared.Author.{Author}
use Rattle.names.specs.declared.Tuple.{Tuple}
use Rattle.name_renames.specs.Renaming.{fresh}
use Rattle.numbers.specs.Bytes.{Bytes}
use Rattle.slots.specs.Tuples.{tuple_at}
use Rattle.slots.specs.Slots.{head_size, depth_of, name_of, keeps_slot}
use Rattle.slots.proofs.RoundTrip.{kept}

module _ (author : Author) where
  deep : (s : Bytes) (n : ℕ) → depth_of s ≡ suc n →
      fresh author (name_of s) ≡ not (eqb (tuple_at s head_size).node author.node && eqb (tuple_at s head_size).sequence author.sequence)
  unfolding fresh
  deep s n e = rw e

  module _ (s : Bytes) (v : keeps_slot s ≡ true) {t : Tuple} (e : t ≡ tuple_at s head_size) where
    first : not (eqb t.node author.node && eqb t.sequence author.sequence) ≡ fresh author (name_of s)
    first =
        let d : depth_of s ≡ suc (depth_of s - 1) = omega (arith, (kept s v).deep) in
        ap (λ (u : Tuple). not (eqb u.node author.node && eqb u.sequence author.sequence)) e ∙ sym (deep s (depth_of s - 1) d)

    pub other_node : (t.node ≡ author.node → ⊥) → not (eqb t.node author.node) ≡ fresh author (name_of s)
    other_node h =
        let e = ne_eqb t.node author.node h in
        ap not e ∙ sym (ap (λ (b : Bool). not (b && eqb t.sequence author.sequence)) e) ∙ first

    pub same_node : t.node ≡ author.node → not (eqb t.sequence author.sequence) ≡ fresh author (name_of s)
    same_node h = sym (ap (λ (b : Bool). not (b && eqb t.sequence author.sequence)) (eq-eqb t.node author.node h)) ∙ first
