-- `slots::compare_tuples` meets its contract. Assumes nothing.
use Rattle.std.proofs.Common.{◌+◌, sym, ap, ◌∙◌, arith}
use Rattle.names.specs.Ordering.{compare_ℕ}
use Rattle.std.specs.Ordering.{ordering_then}
use Rattle.numbers.specs.Bytes.{at32}
use Rattle.slots.specs.Tuples.{tuple_at}
use Rattle.slots.proofs.PackedTuples.{raised, packed, held_at, front_at}
use Rattle.slots.proofs.compare_tuples.Goals as goal

pub returns : goal.returns
returns c =
    let a = c.args.a.now in
    let b = c.args.b.now in
    let p = c.args.p in
    let q = c.args.q in
    let x = c.read_u64.ensures ∙ sym (front_at a p) in
    let u = c.raised.ensures ∙ ap raised c.read_u32.ensures in
    let y = c.read_u64-2.ensures ∙ sym (front_at b q) in
    let v = c.raised-2.ensures ∙ ap raised c.read_u32-2.ensures in
    c.compare_parts.ensures
    ∙ (λ i. ordering_then (compare_ℕ (x i) (y i)) (compare_ℕ (u i) (v i)))
    ∙ packed (tuple_at a p) (tuple_at b q) (at32 a (p + 8)) (at32 b (q + 8))
    (held_at a p (λ i. omega (arith, c.type_inv.a i)))
    (held_at b q (λ i. omega (arith, c.type_inv.b i)))
