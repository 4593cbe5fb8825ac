-- `renamed_slots::write_joined` meets its contract. Assumes nothing.
use mathlib.Core.Path.{◌≡◌, refl, ◌∙◌, sym, ap}
use mathlib.Core.List.{[], ◌∷◌, ◌++◌}
use Prim.Native.Nat.{ℕ, ◌+◌, ◌-◌, ◌*◌, ◌≤◌}
use native.Mathlib.Omega.{arith}
use lib.ListN.{length, take, drop, get_or, replicate, length-append, length-take}
use Rattle.names.specs.Ordering.{Row}
use Rattle.names.specs.Names.{limit}
use Rattle.numbers.specs.Bytes.{Octets, bytes32, put}
use Rattle.numbers.proofs.Put.{put_more}
use Rattle.slots.specs.Tuples.{tuple_size, tuple_bytes, row_bytes}
use Rattle.slots.specs.Slots.{head_size, slot_size, name_of, slot_bytes}
use Rattle.slots.proofs.RoundTrip.{kept}
use Rattle.slots.proofs.WrittenSlots.{tuple_length}
use Rattle.pages.specs.Pages.{names_of}
use Rattle.one_name.proofs.CheckedLog.{logged}
use Rattle.renamed_slots.proofs.CopiedTuples.{logged_run, put_two, slot_of}
use Rattle.renamed_slots.proofs.JoinedRows.{ended, ended_over, logged_long}
use Rattle.renamed_slots.proofs.ReadTuples.{count_of}
use Rattle.renamed_slots.proofs.write_joined.Goals as goal

pub overflow_sub-first : goal.overflow_sub-first
overflow_sub-first c =
    let log = c.args.log.now in
    omega (arith, count_of log c.span_of-r.result c.span_of-r.ensures.1, logged_long log c.args.k c.requires.log_value.0 c.requires.log_value.1)

pub overflow_mul-at : goal.overflow_mul-at
overflow_mul-at c = omega (arith, (logged c.args.log.now c.requires.log_value.0).count, c.requires.log_value.1)

pub overflow_add-at : goal.overflow_add-at
overflow_add-at c = omega (arith, (logged c.args.log.now c.requires.log_value.0).count, c.requires.log_value.1)

pub overflow_add-at-2 : goal.overflow_add-at-2
overflow_add-at-2 c = omega (arith, (logged c.args.log.now c.requires.log_value.0).count, c.requires.log_value.1)

pub read_line-requires : goal.read_line-requires
read_line-requires c = (kept c.args.slot.now c.requires.slot_size_in_bounds.1).long

pub write_head-requires : goal.write_head-requires
write_head-requires c =
    let n = count_of c.args.log.now c.span_of-r.result c.span_of-r.ensures.1 in
    let v = count_of c.args.slot.now c.own-v.result c.own-v.ensures.1 in
    (omega (arith, c.requires.slot_size_in_bounds.0), omega (arith, c.requires.log_value.2))

pub slice_bounds-copy-end : goal.slice_bounds-copy-end
slice_bounds-copy-end c = omega (arith, (logged c.args.log.now c.requires.log_value.0).count, c.requires.log_value.1)

pub overflow_add-end-3 : goal.overflow_add-end-3
overflow_add-end-3 c =
    let n = count_of c.args.log.now c.span_of-r.result c.span_of-r.ensures.1 in
    let v = count_of c.args.slot.now c.own-v.result c.own-v.ensures.1 in
    omega (arith, n, v, c.requires.slot_size_in_bounds.0, c.requires.log_value.2)

pub write_tuple-requires-2 : goal.write_tuple-requires-2
write_tuple-requires-2 c =
    let n = count_of c.args.log.now c.span_of-r.result c.span_of-r.ensures.1 in
    let v = count_of c.args.slot.now c.own-v.result c.own-v.ensures.1 in
    let k = c.write_head.auto.out in
    let l = c.copy.auto.out in
    let t = c.write_tuple.auto.out in
    omega (arith, n, v, c.requires.slot_size_in_bounds.0, c.requires.log_value.2, k, l, t)

pub overflow_add-end-4 : goal.overflow_add-end-4
overflow_add-end-4 c =
    let n = count_of c.args.log.now c.span_of-r.result c.span_of-r.ensures.1 in
    let v = count_of c.args.slot.now c.own-v.result c.own-v.ensures.1 in
    omega (arith, n, v, c.requires.slot_size_in_bounds.0, c.requires.log_value.2)

pub overflow_add-end-5 : goal.overflow_add-end-5
overflow_add-end-5 c =
    let n = count_of c.args.log.now c.span_of-r.result c.span_of-r.ensures.1 in
    let v = count_of c.args.slot.now c.own-v.result c.own-v.ensures.1 in
    omega (arith, n, v, c.requires.slot_size_in_bounds.0, c.requires.log_value.2)

pub copy_row-requires : goal.copy_row-requires
copy_row-requires c =
    let n = count_of c.args.log.now c.span_of-r.result c.span_of-r.ensures.1 in
    let v = count_of c.args.slot.now c.own-v.result c.own-v.ensures.1 in
    let k = c.write_head.auto.out in
    let l = c.copy.auto.out in
    let t = c.write_tuple.auto.out in
    let u = c.write_tuple-2.auto.out in
    let some = logged_long c.args.log.now c.args.k c.requires.log_value.0 c.requires.log_value.1 in
    (c.own-v.ensures.0.1, omega (arith, n, v, some, c.requires.slot_size_in_bounds.0, c.requires.log_value.2, k, l, t, u), c.own-v.ensures.0.0)

pub returns : goal.returns
returns c =
    let x = c.args in
    let o = x.out.now in
    let q = x.p + head_size in
    let log = x.log.now in
    let r = get_or (names_of log) x.k [] in
    let y = drop x.cut (name_of x.slot.now) in
    let b = ended r x.last (x.marker ∷ y) in
    let n = count_of log c.span_of-r.result c.span_of-r.ensures.1 in
    let v = count_of x.slot.now c.own-v.result c.own-v.ensures.1 in
    let some = logged_long log x.k c.requires.log_value.0 c.requires.log_value.1 in
    let octets : Octets log = λ i. omega (arith, c.type_inv.log i) in
    let line = c.read_line.result in
    let count = c.span_of-r.result.count + 1 + c.own-v.result.count in
    let end = q + tuple_size * (c.span_of-r.result.count - 1) in
    let long = slot_size * x.k + slot_size - (slot_size * x.k + head_size) in
    let size : long ≡ slot_size - head_size = omega arith in
    let head = c.write_head.new.out in
    let kept-head = c.write_head.auto.out in
    let h : x.p ≤ length o = omega (arith, c.requires.slot_size_in_bounds.0) in
    let room : q + tuple_size * limit ≤ length head = omega (arith, c.requires.slot_size_in_bounds.0, kept-head) in
    let copied = c.copy.ensures ∙ ap (put head q) (logged_run log octets x.k c.requires.log_value.0 c.requires.log_value.1 long size) in
    let next = ap (λ (j : ℕ). end + j) (sym (tuple_length x.last)) in
    let after = ap (λ (j : ℕ). end + tuple_size + j) (sym (tuple_length x.marker)) in
    let within : end ≤ length c.copy.new.out = omega (arith, n, c.requires.slot_size_in_bounds.0, c.requires.log_value.2, kept-head, c.copy.auto.out) in
    let over = put_two c.copy.new.out end within (tuple_bytes x.last) (tuple_bytes x.marker) (row_bytes y) c.write_tuple.ensures next c.write_tuple-2.ensures after
    (c.copy_row.ensures ∙ ap (λ (z : Row). put c.write_tuple-2.new.out (end + tuple_size + tuple_size) (row_bytes z)) c.own-v.ensures.1) in
    let fit : length r + length (x.marker ∷ y) ≤ limit = omega (arith, c.requires.log_value.2) in
    let place = ap (λ (j : ℕ). q + tuple_size * (j - 1)) n in
    let row = ended_over head q r x.last (x.marker ∷ y) room some fit copied place over in
    let deep : count ≡ length b = omega (arith, n, v, some, length-append (take (length r - 1) r) (x.last ∷ x.marker ∷ y), length-take (length r - 1) r) in
    let w = row_bytes b ++ replicate (tuple_size * (limit - length b)) 0 in
    slot_of o x.p h line b deep refl (put_more o x.p h ((count ∷ 0 ∷ 0 ∷ 0 ∷ []) ++ bytes32 line) w c.write_head.ensures refl row)
    ∙ ap (λ (j : ℕ). put o x.p (slot_bytes (record { line = j; name = b }))) c.read_line.ensures
