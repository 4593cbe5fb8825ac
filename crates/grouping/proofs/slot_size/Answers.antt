-- `grouping::slot_size` meets its contract. Assumes nothing.
use mathlib.Core.Path.{◌≡◌, sym, ◌∙◌}
use mathlib.Core.List.{[]}
use mathlib.Core.Bool.{true}
use native.Mathlib.Omega.{arith}
use lib.ListN.{get_or}
use Rattle.pages.specs.Pages.{slots_of, names_of}
use Rattle.grouping.specs.FirstGroup.{begins}
use Rattle.grouping.proofs.SizeBySlot.{begins_here, begins_first, slot_begins}
use Rattle.grouping.proofs.PageNames.{depth_is}
use Rattle.grouping.proofs.slot_size.Goals as goal
use Rattle.grouping.proofs.slot_size.Goals.{else-k-gt0-via-then-k-gt0+else-is_next, else-k-gt0-via-else-k-gt0}

pub returns : goal.returns
returns c =
    let s = c.args.page.now in
    let l = slots_of s in
    let k = c.args.k in
    let x = c.span_of.result in
    let here : begins l k ≡ true =
    elim c.else-k-gt0.branch [ else-k-gt0-via-then-k-gt0+else-is_next w ↦ begins_here l k w.if-k-gt0.true (sym w.if-is_next.false ∙ w.is_next.ensures) | else-k-gt0-via-else-k-gt0 w ↦ begins_first l k w.if-k-gt0.false ] in
    let d = depth_is s x (get_or (names_of s) k []) c.span_of.ensures.1 in
    (slot_begins l k here x.count d, omega arith)
