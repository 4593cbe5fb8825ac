-- `renamed_slots::write_tail` meets its contract. Assumes nothing.
use mathlib.Core.Path.{◌≡◌, refl, ◌∙◌, ap}
use mathlib.Core.List.{[], ◌∷◌, ◌++◌, append_assoc}
use Prim.Native.Nat.{ℕ, ◌+◌, ◌-◌, ◌*◌, ◌≤◌}
use native.Mathlib.Omega.{arith}
use lib.ListN.{length, take, drop, replicate, length-drop, length-take, replicate-append-replicate}
use Rattle.names.specs.Names.{limit}
use Rattle.numbers.specs.Bytes.{Bytes, Octets, put, bytes32}
use Rattle.slots.specs.Tuples.{tuple_size, row_bytes}
use Rattle.slots.specs.Slots.{head_size, slot_size, depth_of, name_of, slot_bytes}
use Rattle.slots.proofs.RoundTrip.{kept}
use Rattle.renamed_slots.proofs.CopiedTuples.{run, name_length, put_two, slot_of}
use Rattle.renamed_slots.proofs.write_tail.Goals as goal

pub depth-requires : goal.depth-requires
depth-requires c = omega (arith, (kept c.args.slot.now c.requires.1).long)

pub overflow_sub-depth : goal.overflow_sub-depth
overflow_sub-depth c =
    let v = kept c.args.slot.now c.requires.1 in
    omega (arith, v.deep, c.depth.ensures)

pub read_line-requires : goal.read_line-requires
read_line-requires c = (kept c.args.slot.now c.requires.1).long

pub slice_bounds-copy-count : goal.slice_bounds-copy-count
slice_bounds-copy-count c = omega (arith, (kept c.args.slot.now c.requires.1).long)

pub slice_bounds-copy-start : goal.slice_bounds-copy-start
slice_bounds-copy-start c = omega (arith, (kept c.args.slot.now c.requires.1).long)

pub copy-requires : goal.copy-requires
copy-requires c = omega (arith, (kept c.args.slot.now c.requires.1).long)

pub returns : goal.returns
returns c =
    let o = c.args.out.now in
    let p = c.args.p in
    let h : p ≤ length o = omega arith in
    let s = c.args.slot.now in
    let octets : Octets s = λ i. omega (arith, c.type_inv.slot i) in
    let v = kept s c.requires.1 in
    let long = v.long in
    let fit = v.fit in
    let some = v.deep in
    let d = c.depth.result in
    let is = c.depth.ensures in
    let a = drop 1 (name_of s) in
    let n : length a ≡ depth_of s - 1 = length-drop 1 (name_of s) ∙ ap (λ (k : ℕ). k - 1) (name_length s octets v) in
    let line = c.read_line.result in
    let copied = run s octets v 1 180 (omega arith) (omega arith) (omega arith) in
    let all : length s - 20 ≡ 180 = omega arith in
    let whole = take (length s - 20) (drop 20 s) in
    let size : length whole ≡ 180 = simp (length-take, length-drop) (omega arith) in
    let left = 180 - tuple_size * (depth_of s - 1) in
    let zeros : left + 12 ≡ tuple_size * (limit - length a) = omega arith in
    let row = ap (λ (k : ℕ). take k (drop 20 s) ++ replicate 12 0) all
    ∙ ap (λ (w : Bytes). w ++ replicate 12 0) copied
    ∙ append_assoc (row_bytes a) (replicate left 0) (replicate 12 0)
    ∙ ap (λ (w : Bytes). row_bytes a ++ w) (replicate-append-replicate left 12 0 ∙ ap (λ (k : ℕ). replicate k 0) zeros) in
    let one : d - 1 ≡ length a = omega arith in
    let last : p + (slot_size - tuple_size) ≡ p + head_size + length whole = omega arith in
    slot_of o p h line a one row (put_two o p h (((d - 1) ∷ 0 ∷ 0 ∷ 0 ∷ []) ++ bytes32 line) whole (replicate 12 0) c.write_head.ensures refl c.copy.ensures last c.write_zeros.ensures)
    ∙ ap (λ (k : ℕ). put o p (slot_bytes (record { line = k; name = a }))) c.read_line.ensures
