-- Tuples compared by all but the offset, "position, node, sequence": what the answer says (`fronts`), and that it is the answer for the number
-- that the three make where they stand in bytes (`fronts_at`). Assumes nothing.
use mathlib.Core.Path.{◌≡◌, refl, sym, ap, ◌∙◌, subst}
use Prim.Native.Nat.{ℕ}
use native.Mathlib.Omega.{arith}
use lib.IntN.{ℤ, pos}
use Rattle.names.specs.declared.Tuple.{Tuple}
use Rattle.std.specs.declared.cmp.Ordering.{Ordering}
use Rattle.names.specs.Ordering.{compare_ℕ, compare_tuples, ◌<ᵗ◌, position, node, sequence, offset}
use Rattle.std.specs.Ordering.{ordering_then}
use Rattle.names.proofs.Laws.{then_same, Tri, tri_t, <ᶻ_irrefl}
use Rattle.numbers.specs.Bytes.{Bytes, Octets, at64}
use Rattle.slots.specs.Tuples.{tuple_at}
use Rattle.slots.proofs.PackedTuples.{front, Held, packed, held_at, front_at}
use Rattle.runs.specs.Beside.{compare_fronts}
use Rattle.runs.proofs.RunNames.{with_offset}

-- the tuple with offset 0
abbrev pub front_of : Tuple → Tuple
front_of t = with_offset t (pos 0)

same_offsets : (s t : Tuple) → compare_tuples (front_of s) (front_of t) ≡ compare_fronts s t
unfolding compare_tuples
same_offsets s t =
    ap (λ (o : Ordering). ordering_then (compare_ℕ s.position t.position) (ordering_then (compare_ℕ s.node t.node) o)) (then_same (compare_ℕ s.sequence t.sequence))

pub fronts : (s t : Tuple) → Tri ◌<ᵗ◌ (front_of s) (front_of t) (compare_fronts s t)
fronts s t = subst (Tri ◌<ᵗ◌ (front_of s) (front_of t)) (same_offsets s t) (tri_t (front_of s) (front_of t))

-- where it tells the two apart it does so with any offsets
pub apart : (s t : Tuple) → front_of s <ᵗ front_of t → (x y : ℤ) → with_offset s x <ᵗ with_offset t y
apart s t (position h) x y = position h
apart s t (node a h) x y = node a h
apart s t (sequence a b h) x y = sequence a b h
apart s t (offset a b c h) x y = absurd (<ᶻ_irrefl h)

-- as one number, of tuples as the code has them
packed_fronts : (s t : Tuple) {o v : ℕ} → Held s o → Held t v → compare_ℕ (front s) (front t) ≡ compare_fronts s t
packed_fronts s t h k =
    let f : Held (front_of s) 0 = record { node = h.node; sequence = h.sequence; bits = omega arith; offset = refl } in
    let g : Held (front_of t) 0 = record { node = k.node; sequence = k.sequence; bits = omega arith; offset = refl } in
    sym (then_same (compare_ℕ (front s) (front t))) ∙ packed (front_of s) (front_of t) 0 0 f g ∙ same_offsets s t

-- of tuples in bytes it is the number of the first eight
pub fronts_at : (a : Bytes) (p : ℕ) (b : Bytes) (q : ℕ) → Octets a → Octets b → compare_ℕ (at64 a p) (at64 b q) ≡ compare_fronts (tuple_at a p) (tuple_at b q)
fronts_at a p b q k l = (λ i. compare_ℕ (sym (front_at a p) i) (sym (front_at b q) i)) ∙ packed_fronts (tuple_at a p) (tuple_at b q) (held_at a p k) (held_at b q l)
