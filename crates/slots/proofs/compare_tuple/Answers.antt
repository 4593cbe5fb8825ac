-- `slots::compare_tuple` meets its contract. Assumes nothing.
use Rattle.std.proofs.Common.{◌≡◌, ◌+◌, sym, ap, ◌∙◌, arith, w32, rules}
use mir.ValLaws.{to_z-of_z}
use Rattle.names.specs.Ordering.{compare_ℕ}
use Rattle.std.specs.Ordering.{ordering_then}
use Rattle.numbers.specs.Bytes.{at32, unsigned}
use Rattle.numbers.proofs.TwosComplement.{is_word}
use Rattle.slots.specs.Tuples.{tuple_at}
use Rattle.slots.proofs.PackedTuples.{raised, packed, held_at, held_by, front_at}
use Rattle.slots.proofs.compare_tuple.Goals as goal

pub returns : goal.returns
returns c =
    let a = c.args.a.now in
    let p = c.args.p in
    let t = c.args.t in
    let told = c.struct_told-1.given in
    let x = c.read_u64.ensures ∙ sym (front_at a p) in
    let u = c.raised.ensures ∙ ap raised c.read_u32.ensures in
    let bits : c.to_unsigned.result ≡ unsigned t.offset =
    c.to_unsigned.ensures ∙ ap unsigned (to_z-of_z w32 t.offset (record { sfits = told.1.1.1.0.1 })) in
    let v = c.raised-2.ensures ∙ ap raised bits in
    c.compare_parts.ensures
    ∙ (λ i. ordering_then (compare_ℕ (x i) (c.front.ensures i)) (compare_ℕ (u i) (v i)))
    ∙ packed (tuple_at a p) t (at32 a (p + 8)) (unsigned t.offset)
    (held_at a p (λ i. omega (arith, c.type_inv.a i)))
    (held_by t (search rules) (search rules) (is_word t.offset told.1.1.1.0.1))
