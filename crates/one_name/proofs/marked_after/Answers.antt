-- `one_name::marked_after` meets its contract. Assumes nothing.
use mathlib.Core.Path.{◌∙◌, sym, ap}
use mathlib.Core.Bool.{Bool, ◌&&◌}
use Prim.Native.Nat.{◌<◌, ◌≤◌}
use native.Mathlib.Omega.{arith}
use borrow.Author.Tests.{lt-ltb, le-ltb}
use lib.ListN.{length, get_or}
use Rattle.names.specs.Names.{m, marker}
use Rattle.slots.specs.Tuples.{row_at}
use Rattle.slots.proofs.TuplesInBytes.{length_tuples_at, get_or_tuples_at}
use Rattle.one_name.proofs.marked_after.Goals as goal

pub returns-then-n-x : goal.returns-then-n-x
returns-then-n-x c =
    let a = c.args in
    let x = row_at a.s.now a.x in
    let within : a.n < length x = omega (arith, c.if-n-x.true, length_tuples_at a.s.now a.x.at a.x.count) in
    c.marker_at.ensures ∙ sym (λ i. lt-ltb a.n (length x) within i && marker (get_or_tuples_at a.s.now a.x.at a.x.count a.n c.if-n-x.true i))

pub returns-else-n-x : goal.returns-else-n-x
returns-else-n-x c =
    let a = c.args in
    let x = row_at a.s.now a.x in
    let over : length x ≤ a.n = omega (arith, c.if-n-x.false, length_tuples_at a.s.now a.x.at a.x.count) in
    le-ltb a.n a.x.count c.if-n-x.false ∙ sym (ap (λ (b : Bool). b && marker (get_or x a.n m)) (le-ltb a.n (length x) over))
