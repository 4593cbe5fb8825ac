-- `renamed_slots::write_name_of` meets its contract. Assumes nothing.
use mathlib.Core.Path.{◌≡◌, refl, ◌∙◌, ap}
use mathlib.Core.List.{[], ◌∷◌, ◌++◌}
use Prim.Native.Nat.{ℕ, ◌-◌, ◌*◌, ◌≤◌}
use native.Mathlib.Omega.{arith}
use lib.ListN.{length, take, drop, replicate}
use Rattle.names.specs.Names.{limit}
use Rattle.numbers.specs.Bytes.{Octets, put, bytes32}
use Rattle.slots.specs.Tuples.{tuple_size, row_bytes}
use Rattle.slots.specs.Slots.{head_size, depth_of, name_of, slot_bytes}
use Rattle.slots.proofs.RoundTrip.{kept}
use Rattle.numbers.proofs.Put.{put_more}
use Rattle.renamed_slots.proofs.CopiedTuples.{run, name_length, slot_of}
use Rattle.renamed_slots.proofs.write_name_of.Goals as goal

pub depth-requires : goal.depth-requires
depth-requires c = omega (arith, (kept c.args.other.now c.requires.2).long)

pub slice_bounds-copy-count : goal.slice_bounds-copy-count
slice_bounds-copy-count c = omega (arith, (kept c.args.other.now c.requires.2).long)

pub slice_bounds-copy-start : goal.slice_bounds-copy-start
slice_bounds-copy-start c = omega (arith, (kept c.args.other.now c.requires.2).long)

pub copy-requires : goal.copy-requires
copy-requires c = omega (arith, (kept c.args.other.now c.requires.2).long)

pub returns : goal.returns
returns c =
    let o = c.args.out.now in
    let p = c.args.p in
    let h : p ≤ length o = omega arith in
    let s = c.args.other.now in
    let octets : Octets s = λ i. omega (arith, c.type_inv.other i) in
    let v = kept s c.requires.2 in
    let long = v.long in
    let fit = v.fit in
    let d = c.depth.result in
    let is = c.depth.ensures in
    let a = name_of s in
    let n = name_length s octets v in
    let line = c.read_line.result in
    let copied = run s octets v 0 192 (omega arith) (omega arith) (omega arith) in
    let all : length s - head_size ≡ 192 = omega arith in
    let zeros : 192 - tuple_size * (depth_of s - 0) ≡ tuple_size * (limit - length a) = omega arith in
    let row = ap (λ (k : ℕ). take k (drop head_size s)) all ∙ copied ∙ ap (λ (k : ℕ). row_bytes a ++ replicate k 0) zeros in
    let one : d ≡ length a = omega arith in
    slot_of o p h line a one row (put_more o p h ((d ∷ 0 ∷ 0 ∷ 0 ∷ []) ++ bytes32 line) (take (length s - head_size) (drop head_size s)) c.write_head.ensures refl c.copy.ensures)
    ∙ ap (λ (k : ℕ). put o p (slot_bytes (record { line = k; name = a }))) c.read_line.ensures
