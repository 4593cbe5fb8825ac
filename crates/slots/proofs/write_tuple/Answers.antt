-- `slots::write_tuple` meets its contract. Assumes nothing.
use Rattle.std.proofs.Common.{◌≡◌, ℕ, ◌+◌, ◌*◌, ◌<◌, ◌≤◌, ◌++◌, length, refl, ap, ◌∙◌, arith, w32, rules}
use mir.ValLaws.{to_z-of_z}
use Rattle.numbers.specs.Bytes.{put, bytes16, bytes32, unsigned}
use Rattle.slots.specs.Tuples.{tuple_bytes}
use Rattle.numbers.proofs.Put.{put_more}
use Rattle.numbers.proofs.NumberBytes.{pair}
use Rattle.slots.proofs.write_tuple.Goals as goal

pub returns : goal.returns
unfolding tuple_bytes
returns c =
    let o = c.args.out.now in
    let p = c.args.p in
    let t = c.args.t in
    let h : p ≤ length o = omega arith in
    let n : t.node < 65536 = omega arith in
    let b : c.to_unsigned.result ≡ unsigned t.offset = c.to_unsigned.ensures ∙ ap unsigned (to_z-of_z w32 t.offset (search rules)) in
    let d₁ = c.write_u32.ensures ∙ (λ i. put o p (bytes32 (c.from.ensures i * 65536 + c.from-2.ensures i))) ∙ ap (put o p) (pair t.position t.node n) in
    let d₂ = put_more o p h (bytes16 t.position ++ bytes16 t.node) (bytes32 t.sequence) d₁ refl c.write_u32-2.ensures in
    put_more o p h (bytes16 t.position ++ bytes16 t.node ++ bytes32 t.sequence) (bytes32 (unsigned t.offset)) d₂ refl (c.write_u32-3.ensures ∙ ap (λ (n : ℕ). put c.write_u32-2.new.out (p + 8) (bytes32 n)) b)
