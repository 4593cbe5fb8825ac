-- `renamed_slots::write_alone` meets its contract. Assumes nothing.
use mathlib.Core.Path.{refl, ◌∙◌, sym, ap}
use mathlib.Core.List.{[], ◌∷◌, append-nil}
use Prim.Native.Nat.{ℕ, ◌+◌}
use native.Mathlib.Omega.{arith}
use Rattle.numbers.specs.Bytes.{put}
use Rattle.slots.specs.Tuples.{tuple_bytes}
use Rattle.slots.specs.Slots.{head_size, slot_bytes}
use Rattle.slots.proofs.WrittenSlots.{slot_written}
use Rattle.renamed_slots.proofs.write_alone.Goals as goal

pub returns : goal.returns
returns c =
    let o = c.args.out.now in
    let p = c.args.p in
    let t = c.args.t in
    let line = c.read_line.result in
    slot_written o p (omega arith) line 1 (t ∷ []) refl c.write_head.ensures (c.write_tuple.ensures ∙ ap (put c.write_head.new.out (p + head_size)) (sym (append-nil (tuple_bytes t)))) c.write_rest.ensures
    ∙ ap (λ (k : ℕ). put o p (slot_bytes (record { line = k; name = t ∷ [] }))) c.read_line.ensures
