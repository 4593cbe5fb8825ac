-- `one_name::alone_of` meets its contract. Assumes nothing.
use mathlib.Core.Path.{◌∙◌}
use Prim.Native.Nat.{◌≤◌}
use native.Mathlib.Omega.{arith}
use lib.ListN.{length}
use Rattle.slots.specs.Tuples.{row_at}
use Rattle.slots.proofs.TuplesInBytes.{length_tuples_at}
use Rattle.pages.specs.Pages.{names_of}
use Rattle.name_renames.proofs.Alone.{alone_under, alone_over, alone_in_gap}
use Rattle.one_name.proofs.CheckedLog.{logged}
use Rattle.one_name.proofs.TestedSides.{under_first, from_first, over_last, to_last, low_is, high_is, index_read, restored}
use Rattle.one_name.proofs.alone_of.Goals as goal

pub returns-then-is_below : goal.returns-then-is_below
returns-then-is_below c =
    let a = c.args in
    let log = a.log.now in
    let x = row_at a.s.now a.c in
    let first = c.first_position-p.ensures in
    let h = under_first log a.author x c.requires.0 first c.lead.ensures c.is_below.ensures c.if-is_below.true in
    let deep = length_tuples_at a.s.now a.c.at a.c.count in
    let v = low_is log a.author x c.requires.0 first c.strip_below.ensures.2 in
    ((omega (arith, c.strip_below.ensures.0), c.strip_below.ensures.1), v ∙ alone_under a.author (names_of log) x (logged log c.requires.0).some c.requires.2 h)

pub overflow_sub-last : goal.overflow_sub-last
overflow_sub-last c =
    let l = logged c.args.log.now c.requires.0 in
    omega (arith, l.some, l.count)

pub numbered-requires : goal.numbered-requires
numbered-requires c =
    let l = logged c.args.log.now c.requires.0 in
    omega (arith, l.some, l.few, l.count)

pub strip_above-requires : goal.strip_above-requires
strip_above-requires c =
    let l = logged c.args.log.now c.requires.0 in
    (omega (arith, l.some, l.few, l.count), c.requires.1)

pub returns-then-is_above : goal.returns-then-is_above
returns-then-is_above c =
    let a = c.args in
    let log = a.log.now in
    let x = row_at a.s.now a.c in
    let first = c.first_position-p.ensures in
    let f = from_first log a.author x c.requires.0 first c.lead.ensures c.is_below.ensures c.if-is_below.false in
    let h = over_last log a.author x c.requires.0 first c.numbered.ensures c.is_above.ensures c.if-is_above.true in
    let deep = length_tuples_at a.s.now a.c.at a.c.count in
    let v = high_is log a.author x c.requires.0 first c.strip_above.ensures.2 in
    ((omega (arith, c.strip_above.ensures.0), c.strip_above.ensures.1), v ∙ alone_over a.author (names_of log) x (logged log c.requires.0).some c.requires.2 f h)

pub index_of-requires : goal.index_of-requires
index_of-requires c =
    let a = c.args in
    let log = a.log.now in
    let x = row_at a.s.now a.c in
    let first = c.first_position-p.ensures in
    let f = from_first log a.author x c.requires.0 first c.lead.ensures c.is_below.ensures c.if-is_below.false in
    let g = to_last log a.author x c.requires.0 first c.numbered.ensures c.is_above.ensures c.if-is_above.false in
    let deep = length_tuples_at a.s.now a.c.at a.c.count in
    let i = index_read log a.author x c.requires.0 f g in
    (c.requires.1, omega (arith, i.0), i.1)

pub returns-then-c-lt2 : goal.returns-then-c-lt2
returns-then-c-lt2 c =
    let a = c.args in
    let log = a.log.now in
    let x = row_at a.s.now a.c in
    let first = c.first_position-p.ensures in
    let f = from_first log a.author x c.requires.0 first c.lead.ensures c.is_below.ensures c.if-is_below.false in
    let g = to_last log a.author x c.requires.0 first c.numbered.ensures c.is_above.ensures c.if-is_above.false in
    let deep = length_tuples_at a.s.now a.c.at a.c.count in
    restored log a.author x c.requires.0 f g c.index_of.result c.index_of.ensures (omega (arith, c.if-c-lt2.true))

pub returns : goal.returns
returns c =
    let a = c.args in
    let log = a.log.now in
    let x = row_at a.s.now a.c in
    let first = c.first_position-p.ensures in
    let f = from_first log a.author x c.requires.0 first c.lead.ensures c.is_below.ensures c.if-is_below.false in
    let g = to_last log a.author x c.requires.0 first c.numbered.ensures c.is_above.ensures c.if-is_above.false in
    let deep = length_tuples_at a.s.now a.c.at a.c.count in
    let two : 2 ≤ length x = omega (arith, c.if-c-lt2.false) in
    ((omega arith, omega arith), alone_in_gap a.author (names_of log) x (logged log c.requires.0).some c.requires.2 f g two)
