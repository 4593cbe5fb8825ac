-- `renamed_slots::tuple_behind` meets its contract. Assumes nothing.
use mathlib.Core.Path.{◌∙◌, sym, ap}
use mathlib.Core.List.{[], ◌∷◌}
use Prim.Native.Nat.{◌-◌, ◌≤◌}
use native.Mathlib.Omega.{arith}
use lib.ListN.{length, drop, get_or, length-append, get_or-append}
use Rattle.names.specs.declared.Tuple.{Tuple}
use Rattle.names.specs.Ordering.{Row}
use Rattle.names.specs.Names.{m}
use Rattle.slots.specs.Slots.{name_of}
use Rattle.pages.specs.Pages.{names_of}
use Rattle.renamed_slots.proofs.ReadTuples.{count_of, second_row}
use Rattle.renamed_slots.proofs.tuple_behind.Goals as goal

pub returns-then-i-r : goal.returns-then-i-r
returns-then-i-r c =
    let x = c.args in
    let row = c.span_of-r.ensures.1 in
    let n = count_of x.log.now c.span_of-r.result row in
    let r = get_or (names_of x.log.now) x.k [] in
    let v = drop x.cut (name_of x.slot.now) in
    c.tuple_of.ensures ∙ ap (λ (a : Row). get_or a x.i m) row ∙ sym (get_or-append r (m ∷ v) m x.i (omega (arith, c.if-i-r.true)))

pub tuple_marked-requires : goal.tuple_marked-requires
tuple_marked-requires c =
    let x = c.args in
    let n = count_of x.log.now c.span_of-r.result c.span_of-r.ensures.1 in
    let r = get_or (names_of x.log.now) x.k [] in
    let v = drop x.cut (name_of x.slot.now) in
    let few : x.i - c.span_of-r.result.count ≤ length v = omega (arith, c.requires.2, length-append r (m ∷ v)) in
    (c.requires.0, c.requires.1, few)

pub returns : goal.returns
returns c =
    let x = c.args in
    let n = count_of x.log.now c.span_of-r.result c.span_of-r.ensures.1 in
    let r = get_or (names_of x.log.now) x.k [] in
    let v = drop x.cut (name_of x.slot.now) in
    let count = c.span_of-r.result.count in
    c.tuple_marked.ensures
    ∙ ap (λ (t : Tuple). get_or (t ∷ v) (x.i - count) m) c.low_marker.ensures
    ∙ second_row r (m ∷ v) x.i count m n c.if-i-r.false
