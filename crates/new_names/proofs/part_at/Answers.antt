-- `new_names::part_at` meets its contract. Assumes nothing.
use native.Mathlib.Omega.{arith}
use Prim.Native.Nat.{◌+◌}
use mathlib.Core.Path.{◌≡◌, ◌∙◌}
use Rattle.new_names.proofs.PartsOfNames.{part_standing, part_first, part_second}
use Rattle.new_names.proofs.part_at.Goals as goal

pub returns-then-k-p : goal.returns-then-k-p
returns-then-k-p c = c.read_tuple.ensures ∙ part_standing c.args.page.now c.args.p c.args.k c.if-k-p.true

pub returns-then-k-p-2 : goal.returns-then-k-p-2
returns-then-k-p-2 c = part_first c.args.page.now c.args.p c.args.k c.if-k-p-2.true

pub returns : goal.returns
returns c =
    let e : c.args.k ≡ c.args.p.a.count + 1 = omega arith in
    part_second c.args.page.now c.args.p c.args.k e
