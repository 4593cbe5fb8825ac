-- `grouping::write_run` meets its contract. Assumes nothing.
use mathlib.Core.Path.{◌≡◌, sym, ap, ◌∙◌}
use Prim.Native.Nat.{ℕ, ◌+◌, ◌*◌, ◌<◌}
use native.Mathlib.Omega.{arith}
use Rattle.numbers.specs.Bytes.{put}
use Rattle.slots.specs.Slots.{slot_size, slot_bytes}
use Rattle.slots.specs.Tuples.{row_at}
use Rattle.runs.specs.Runs.{onward}
use Rattle.forms.proofs.GroupsInBlocks.{group_named}
use Rattle.grouping.proofs.FirstRun.{no_slot}
use Rattle.grouping.proofs.PiecesFrom.{writing_on, writing_end}
use Rattle.grouping.proofs.SlotsWritten.{slot_in, block_many, block_offset, block_slot, block_long}
use Rattle.grouping.proofs.write_run.Goals as goal

pub copy_slot_onward-requires : goal.copy_slot_onward-requires
copy_slot_onward-requires c =
    let s = c.args.form.now in
    let x = c.args.block in
    let name = group_named s x c.requires.1 in
    let offset = block_offset s x c.requires.1 in
    ((c.requires.0.0, name.short), name.deep, omega arith, omega arith)

pub loop-k-preserved : goal.loop-k-preserved
loop-k-preserved c =
    let s = c.args.form.now in
    let x = c.args.block in
    let i = c.args.i in
    let k = c.loop-k.k in
    let e = c.requires.1 in
    let h : k < x.count = omega arith in
    let inv = c.loop-k.invariant in
    let line : slot_bytes (slot_in s x k) ≡ slot_bytes (record { line = c.read_u32-line.result; name = onward k (row_at s x.name) }) =
    ap (λ (n : ℕ). slot_bytes (record { line = n; name = onward k (row_at s x.name) })) (sym c.read_u32-line.ensures) in
    let place : slot_size * (i + k) ≡ slot_size * i + slot_size * k = omega arith in
    let m = block_many s x in
    let room = inv.room in
    writing_on inv (omega arith) (slot_bytes no_slot) (slot_bytes (slot_in s x k)) (block_slot s x e k h) (block_long s x e k h) c.copy_slot_onward.new.out (slot_size * (i + k)) place (omega arith)
    (c.copy_slot_onward.ensures ∙ ap (put c.loop-k.out (slot_size * (i + k))) (sym line))

pub returns : goal.returns
returns c =
    let m = block_many c.args.form.now c.args.block in
    writing_end c.loop-k.invariant (omega arith)
