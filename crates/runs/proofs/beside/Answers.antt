-- `runs::beside` meets its contract. Assumes nothing.
use mathlib.Core.Path.{sym, ◌∙◌}
use native.Mathlib.Omega.{arith}
use Rattle.std.proofs.Common.{inl, inr}
use Rattle.slots.specs.Tuples.{row_at}
use Rattle.runs.proofs.RunNames.{last_tuple, name_offset}
use Rattle.runs.proofs.BesideInBytes.{beside_short, beside_long}
use Rattle.runs.proofs.beside.Goals as goal

pub returns-in-Less : goal.returns-in-Less
returns-in-Less c =
    let x = c.args.x in
    let y = c.args.y in
    beside_short c.args.a.now x.at x.count c.args.b.now y.at y.count c.requires.2 c.if-y-last.true
    c.compare_rows.ensures c.in-Less.is

pub returns-in-Equal : goal.returns-in-Equal
returns-in-Equal c =
    let x = c.args.x in
    let y = c.args.y in
    elim c.in-Equal.is [
      | inl e ↦ beside_short c.args.a.now x.at x.count c.args.b.now y.at y.count c.requires.2 c.if-y-last.true c.compare_rows.ensures e
      | inr e ↦ beside_short c.args.a.now x.at x.count c.args.b.now y.at y.count c.requires.2 c.if-y-last.true c.compare_rows.ensures e
    ]

pub beside_tuples-requires : goal.beside_tuples-requires
beside_tuples-requires c =
    let a = c.args.a.now in
    let x = c.args.x in
    let n = name_offset (row_at a x) c.requires.1 in
    (omega arith, omega arith, (n.0, sym (last_tuple a x.at x.count c.requires.2) ∙ n.1))

pub returns-in-Less-compare_rows : goal.returns-in-Less-compare_rows
returns-in-Less-compare_rows c =
    let x = c.args.x in
    let y = c.args.y in
    beside_long c.args.a.now x.at x.count c.args.b.now y.at y.count c.requires.2 c.if-y-last.false
    c.compare_rows-2.ensures c.in-Less-compare_rows.is

pub returns-in-Equal-compare_rows : goal.returns-in-Equal-compare_rows
returns-in-Equal-compare_rows c =
    let x = c.args.x in
    let y = c.args.y in
    c.beside_tuples.ensures
    ∙ beside_long c.args.a.now x.at x.count c.args.b.now y.at y.count c.requires.2 c.if-y-last.false
    c.compare_rows-2.ensures c.in-Equal-compare_rows.is

pub returns-in-Greater : goal.returns-in-Greater
returns-in-Greater c =
    let x = c.args.x in
    let y = c.args.y in
    beside_long c.args.a.now x.at x.count c.args.b.now y.at y.count c.requires.2 c.if-y-last.false
    c.compare_rows-2.ensures c.in-Greater.is
