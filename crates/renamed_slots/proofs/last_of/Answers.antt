-- `renamed_slots::last_of` meets its contract. Assumes nothing.
use mathlib.Core.Path.{◌∙◌, sym}
use mathlib.Core.List.{[]}
use Prim.Native.Nat.{◌-◌}
use native.Mathlib.Omega.{arith}
use lib.ListN.{get_or}
use Rattle.names.specs.Names.{m}
use Rattle.pages.specs.Pages.{names_of}
use Rattle.renamed_slots.specs.Joints.{below_if}
use Rattle.renamed_slots.proofs.JoinedRows.{logged_long}
use Rattle.renamed_slots.proofs.ReadTuples.{count_of}
use Rattle.renamed_slots.proofs.last_of.Goals as goal

pub overflow_sub-last : goal.overflow_sub-last
overflow_sub-last c =
    let log = c.args.log.now in
    omega (arith, count_of log c.span_of-r.result c.span_of-r.ensures.1, logged_long log c.args.k c.requires.0 c.requires.1)

pub tuple_lower-requires : goal.tuple_lower-requires
tuple_lower-requires c =
    let log = c.args.log.now in
    let n = count_of log c.span_of-r.result c.span_of-r.ensures.1 in
    let some = logged_long log c.args.k c.requires.0 c.requires.1 in
    (c.requires.0, c.requires.1, c.span_of-r.ensures.0, c.span_of-r.ensures.1, omega arith)

pub returns-then-lowered : goal.returns-then-lowered
returns-then-lowered c =
    let log = c.args.log.now in
    let n = count_of log c.span_of-r.result c.span_of-r.ensures.1 in
    c.tuple_lower.ensures ∙ (λ i. get_or (below_if (sym c.if-lowered.true i) (get_or (names_of log) c.args.k [])) (n i - 1) m)

pub tuple_of-requires : goal.tuple_of-requires
tuple_of-requires c =
    let log = c.args.log.now in
    let n = count_of log c.span_of-r.result c.span_of-r.ensures.1 in
    let some = logged_long log c.args.k c.requires.0 c.requires.1 in
    (c.span_of-r.ensures.0, omega arith)

pub returns : goal.returns
returns c =
    let row = c.span_of-r.ensures.1 in
    let n = count_of c.args.log.now c.span_of-r.result row in
    c.tuple_of.ensures ∙ (λ i. get_or (below_if (sym c.if-lowered.false i) (row i)) (n i - 1) m)
