-- `forms::write_sizes` meets its contract. Assumes nothing.
use native.Mathlib.Omega.{arith}
use Rattle.forms.proofs.HeadBytes.{sizes_written}
use Rattle.forms.proofs.write_sizes.Goals as goal

pub returns : goal.returns
returns c =
    let x = c.args in
    sizes_written x.out.now x.p (omega arith) x.count c.write_field_head.ensures c.write_u16.ensures c.write_field_head-2.ensures
