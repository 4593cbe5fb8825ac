-- `new_names::is_prefix` meets its contract. Assumes nothing.
use mathlib.Core.Path.{◌∙◌, sym, ap}
use mathlib.Core.Bool.{Bool, cond}
use mathlib.Core.Option.{none, some}
use lib.ListN.{drop}
use Rattle.slots.specs.Tuples.{row_at}
use Rattle.new_names.proofs.Prefixes.{rest_longer, rest_compared}
use Rattle.new_names.proofs.is_prefix.Goals as goal

pub returns-then-b-a : goal.returns-then-b-a
returns-then-b-a c =
    let a = c.args.a in
    let b = c.args.b in
    rest_longer c.args.page.now a.at a.count b.at b.count c.if-b-a.true

pub returns : goal.returns
returns c =
    let s = c.args.page.now in
    let a = c.args.a in
    let b = c.args.b in
    rest_compared s a.at a.count b.at b.count c.compare_rows.ensures c.if-b-a.false
    ∙ ap (λ (t : Bool). cond t (some (drop a.count (row_at s b))) none) (sym c.is_eq.ensures)
