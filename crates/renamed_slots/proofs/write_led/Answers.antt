-- `renamed_slots::write_led` meets its contract. Assumes nothing.
use mathlib.Core.Path.{◌≡◌, refl, ◌∙◌, sym, ap}
use mathlib.Core.List.{[], ◌∷◌, ◌++◌, append_assoc}
use Prim.Native.Nat.{ℕ, ◌+◌, ◌-◌, ◌*◌, ◌≤◌}
use native.Mathlib.Omega.{arith}
use lib.ListN.{length, take, drop, replicate}
use Rattle.names.specs.Names.{limit}
use Rattle.numbers.specs.Bytes.{Bytes, Octets, put, bytes32}
use Rattle.slots.specs.Tuples.{tuple_size, tuple_bytes, row_bytes}
use Rattle.slots.specs.Slots.{head_size, depth_of, name_of, slot_bytes}
use Rattle.slots.proofs.RoundTrip.{kept}
use Rattle.slots.proofs.WrittenSlots.{tuple_length}
use Rattle.renamed_slots.proofs.CopiedTuples.{run, name_length, put_two, slot_of}
use Rattle.renamed_slots.proofs.write_led.Goals as goal

pub depth-requires : goal.depth-requires
depth-requires c = omega (arith, (kept c.args.slot.now c.requires.1).long)

pub read_line-requires : goal.read_line-requires
read_line-requires c = (kept c.args.slot.now c.requires.1).long

pub slice_bounds-copy-end : goal.slice_bounds-copy-end
slice_bounds-copy-end c = omega (arith, (kept c.args.slot.now c.requires.1).long)

pub returns : goal.returns
returns c =
    let o = c.args.out.now in
    let p = c.args.p in
    let h : p ≤ length o = omega arith in
    let s = c.args.slot.now in
    let octets : Octets s = λ i. omega (arith, c.type_inv.slot i) in
    let v = kept s c.requires.1 in
    let deep = c.requires.2 in
    let d = c.depth.result in
    let is = c.depth.ensures in
    let t = c.args.t in
    let a = name_of s in
    let n = name_length s octets v in
    let line = c.read_line.result in
    let copied = run s octets v 0 180 (omega arith) (omega arith) (omega arith) in
    let zeros : 180 - tuple_size * (depth_of s - 0) ≡ tuple_size * (limit - length (t ∷ a)) = omega arith in
    let row = ap (λ (w : Bytes). tuple_bytes t ++ w) (copied ∙ ap (λ (k : ℕ). row_bytes a ++ replicate k 0) zeros)
    ∙ sym (append_assoc (tuple_bytes t) (row_bytes a) (replicate (tuple_size * (limit - length (t ∷ a))) 0)) in
    let one : d + 1 ≡ length (t ∷ a) = omega arith in
    let next = ap (λ (k : ℕ). p + head_size + k) (sym (tuple_length t)) in
    slot_of o p h line (t ∷ a) one row (put_two o p h (((d + 1) ∷ 0 ∷ 0 ∷ 0 ∷ []) ++ bytes32 line) (tuple_bytes t) (take 180 (drop 8 s)) c.write_head.ensures refl c.write_tuple.ensures next c.copy.ensures)
    ∙ ap (λ (k : ℕ). put o p (slot_bytes (record { line = k; name = t ∷ a }))) c.read_line.ensures
