-- `runs::copy_slot_onward` meets its contract. Assumes nothing.
use mathlib.Core.Path.{sym}
use Rattle.slots.specs.Tuples.{row_at}
use Rattle.slots.proofs.TuplesInBytes.{length_tuples_at}
use Rattle.runs.proofs.WrittenRuns.{slot_onward, slot_copied}
use Rattle.runs.proofs.copy_slot_onward.Goals as goal

pub returns : goal.returns
returns c =
    let a = c.args in
    let o = a.out.now in
    let s = a.s.now in
    let x = a.x in
    let deep = c.requires.0.1 in
    let copied = slot_copied o a.p a.line x.count (row_at s x) (sym (length_tuples_at s x.at x.count)) deep c.requires.2
    c.write_head.ensures c.write_zeros.ensures c.copy_tuples.ensures in
    slot_onward s x.at x.count a.k c.requires.1 c.requires.3 o a.p a.line deep c.requires.2
    copied c.read_u32-offset.ensures c.write_u32.ensures
