-- `renamed_slots::tuple_ahead` meets its contract. Assumes nothing.
use mathlib.Core.Path.{◌∙◌, sym, ap}
use mathlib.Core.List.{[], ◌∷◌}
use Prim.Native.Nat.{◌-◌, ◌≤◌}
use native.Mathlib.Omega.{arith}
use lib.ListN.{length, drop, get_or, length-append, get_or-append}
use Rattle.names.specs.declared.Tuple.{Tuple}
use Rattle.names.specs.Names.{one_below, m, M}
use Rattle.slots.specs.Slots.{name_of}
use Rattle.pages.specs.Pages.{names_of}
use Rattle.names.proofs.Laws.{below_length}
use Rattle.renamed_slots.proofs.ReadTuples.{count_of, second_row}
use Rattle.renamed_slots.proofs.tuple_ahead.Goals as goal

pub returns-then-i-r : goal.returns-then-i-r
returns-then-i-r c =
    let x = c.args in
    let a = get_or (names_of x.log.now) x.k [] in
    let n = count_of x.log.now c.span_of-r.result c.span_of-r.ensures.1 ∙ sym (below_length a) in
    let v = drop x.cut (name_of x.slot.now) in
    c.tuple_lower.ensures ∙ sym (get_or-append (one_below a) (M ∷ v) m x.i (omega (arith, c.if-i-r.true)))

pub tuple_marked-requires : goal.tuple_marked-requires
tuple_marked-requires c =
    let x = c.args in
    let a = get_or (names_of x.log.now) x.k [] in
    let n = count_of x.log.now c.span_of-r.result c.span_of-r.ensures.1 ∙ sym (below_length a) in
    let v = drop x.cut (name_of x.slot.now) in
    let few : x.i - c.span_of-r.result.count ≤ length v = omega (arith, c.requires.4, length-append (one_below a) (M ∷ v)) in
    (c.requires.0, c.requires.1, few)

pub returns : goal.returns
returns c =
    let x = c.args in
    let a = get_or (names_of x.log.now) x.k [] in
    let n = count_of x.log.now c.span_of-r.result c.span_of-r.ensures.1 ∙ sym (below_length a) in
    let v = drop x.cut (name_of x.slot.now) in
    let count = c.span_of-r.result.count in
    c.tuple_marked.ensures
    ∙ ap (λ (t : Tuple). get_or (t ∷ v) (x.i - count) m) c.high_marker.ensures
    ∙ second_row (one_below a) (M ∷ v) x.i count m n c.if-i-r.false
