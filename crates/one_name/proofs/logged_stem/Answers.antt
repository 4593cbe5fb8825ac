-- `one_name::logged_stem` meets its contract. Assumes nothing.
use mathlib.Core.Path.{refl, ◌∙◌, sym, ap}
use Prim.Native.Nat.{ℕ, ◌+◌}
use lib.ListN.{length}
use Rattle.slots.proofs.TuplesInBytes.{length_tuples_at}
use Rattle.one_name.proofs.logged_stem.Goals as goal

pub returns : goal.returns
returns c =
    let a = c.args in
    let row = c.span_of-row.result in
    let known = c.span_of-row.ensures in
    let deep = sym (length_tuples_at a.log.now row.at row.count) ∙ ap length known.1 in
    (refl, refl, refl, known.0, known.1, ap (λ (n : ℕ). n + a.more) deep)
