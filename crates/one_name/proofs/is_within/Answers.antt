-- `one_name::is_within` meets its contract. Assumes nothing.
use mathlib.Core.Path.{◌∙◌, sym, ap}
use mathlib.Core.List.{[]}
use mathlib.Core.Bool.{Bool, ◌&&◌}
use Prim.Native.Nat.{◌+◌, ◌/◌}
use native.Mathlib.Omega.{arith}
use lib.ListN.{length, get_or}
use Rattle.std.specs.Ordering.{is_lt, is_gt}
use Rattle.slots.specs.Tuples.{row_at}
use Rattle.slots.specs.Slots.{slot_size}
use Rattle.pages.specs.Pages.{names_of}
use Rattle.pages.proofs.SlotBySlot.{length_names}
use Rattle.name_renames.specs.Alone.{is_below}
use Rattle.one_name.proofs.TestedSides.{turned}
use Rattle.one_name.proofs.is_within.Goals as goal

pub overflow_add-k : goal.overflow_add-k
overflow_add-k c =
    let log = c.args.log.now in
    omega (arith, length_names log (length log / slot_size))

pub returns-then-is_gt : goal.returns-then-is_gt
returns-then-is_gt c =
    let x = row_at c.args.s.now c.args.t in
    let log = names_of c.args.log.now in
    let over = sym c.if-is_gt.true ∙ c.is_gt.ensures ∙ ap is_gt c.against.ensures ∙ turned x (get_or log c.args.k []) in
    c.is_lt.ensures ∙ ap is_lt c.against-then-is_gt.ensures ∙ ap (λ (b : Bool). b && is_below x (get_or log (c.args.k + 1) [])) over

pub returns-else-is_gt : goal.returns-else-is_gt
returns-else-is_gt c =
    let x = row_at c.args.s.now c.args.t in
    let log = names_of c.args.log.now in
    let over = sym c.if-is_gt.false ∙ c.is_gt.ensures ∙ ap is_gt c.against.ensures ∙ turned x (get_or log c.args.k []) in
    c.if-is_gt.false ∙ ap (λ (b : Bool). b && is_below x (get_or log (c.args.k + 1) [])) over
