-- `grouping::has_room` meets its contract. Assumes nothing.
use mathlib.Core.Path.{◌∙◌, sym}
use native.Mathlib.Omega.{arith}
use borrow.Author.Tests.{le-leb}
use lib.ListN.{length}
use Rattle.pages.specs.Pages.{slots_of}
use Rattle.pages.proofs.RoundTrip.{page_slots}
use Rattle.pages.proofs.SlotBySlot.{length_slots}
use Rattle.groups.specs.Groups.{grouped}
use Rattle.groups.specs.Forms.{form_bytes}
use Rattle.groups.proofs.FormSizes.{slots_within}
use Rattle.grouping.proofs.has_room.Goals as goal

pub returns-then-page-room : goal.returns-then-page-room
returns-then-page-room c =
    let s = c.args.page.now in
    let w = slots_within (slots_of s) (page_slots s (λ i. omega (arith, c.type_inv.page i)) c.requires) in
    let n = length_slots s in
    le-leb _ _ c.if-page-room.true ∙ sym (le-leb (length (form_bytes (grouped (slots_of s)))) c.args.room (omega arith))
