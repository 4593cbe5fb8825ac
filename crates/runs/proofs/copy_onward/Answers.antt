-- `runs::copy_onward` meets its contract. Assumes nothing.
use Rattle.runs.proofs.WrittenRuns.{row_onward}
use Rattle.runs.proofs.copy_onward.Goals as goal

pub returns : goal.returns
returns c =
    let a = c.args in
    let x = a.x in
    row_onward a.s.now x.at x.count a.k c.requires.1 c.requires.3 a.out.now a.p c.requires.2
    c.copy_row.ensures c.read_u32-offset.ensures c.write_u32.ensures
