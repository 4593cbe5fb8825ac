-- `forms::write_head` meets its contract. Assumes nothing.
use mathlib.Core.Path.{sym, ap}
use Prim.Native.Nat.{ℕ, ◌*◌}
use native.Mathlib.Omega.{arith}
use Rattle.slots.specs.Tuples.{tuple_size, row_at}
use Rattle.runs.specs.Runs.{onward}
use Rattle.forms.proofs.HeadBytes.{onward_size, head_at, head_written}
use Rattle.forms.proofs.write_head.Goals as goal

pub copy_onward-requires : goal.copy_onward-requires
copy_onward-requires c =
    let x = c.args in
    let l = head_at x.k x.s.now x.name x.count in
    let k = c.write_field_head.auto.out in
    (c.requires.lies.0, c.requires.lies.1, omega arith, c.requires.lies.3)

pub write_sizes-requires : goal.write_sizes-requires
write_sizes-requires c =
    let x = c.args in
    let l = head_at x.k x.s.now x.name x.count in
    (c.requires.lies.2, omega (arith, c.write_field_head.auto.out, c.copy_onward.auto.out))

pub returns : goal.returns
returns c =
    let x = c.args in
    let a = onward x.k (row_at x.s.now x.name) in
    let l = head_at x.k x.s.now x.name x.count in
    let e = ap (λ (n : ℕ). tuple_size * n) (sym (onward_size x.k x.s.now x.name)) in
    record {
      value = omega arith;
      out_after = head_written x.out.now x.p (omega arith) a x.count e c.write_field_head.ensures c.copy_onward.ensures c.write_sizes.ensures;
    }
