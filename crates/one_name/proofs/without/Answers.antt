-- `one_name::without` meets its contract. Assumes nothing.
use mathlib.Core.Path.{refl}
use native.Mathlib.Omega.{arith}
use Rattle.slots.proofs.TuplesInBytes.{drop_tuples_at}
use Rattle.one_name.proofs.without.Goals as goal

pub returns : goal.returns
returns c =
    let x = c.args.c in
    ((omega arith, omega arith), drop_tuples_at c.args.s.now x.at x.count c.args.cut c.requires.1, refl)
