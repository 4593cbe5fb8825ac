-- `pages::slot_ok` meets its contract. Assumes nothing.
use Rattle.std.proofs.Common.{◌≡◌, Bool, true, false, refl, sym, ap, ◌∙◌}
use mathlib.Core.Bool.{not}
use borrow.Author.Tests.{ne_eqb}
use Rattle.std.specs.List.{list_all}
use Rattle.slots.specs.declared.Seen.{Seen}
use Rattle.slots.specs.declared.Seen.TheVariants.{Broken}
use Rattle.slots.specs.Slots.{keeps_over, keeps_slot}
use Rattle.slots.specs.Looks.{seen}
use Rattle.slots.proofs.LookedAt.{tells_broken}
use Rattle.pages.specs.Pages.{parts_of, rises}
use Rattle.pages.proofs.SlotBySlot.{one_part}
use Rattle.pages.proofs.slot_ok.Goals as goal
use Rattle.pages.proofs.slot_ok.Goals.{in-Broken, in_default}

-- what is not broken keeps its layout
kept : (k r : Bool) {o : Seen} → o ≡ seen k r → ¬ (o ≡ Broken) → k ≡ true
kept true r e f = refl
kept false r e f = absurd (f e)

pub returns-after-matches : goal.returns-after-matches
returns-after-matches c =
    let s = c.args.slot.now in
    let all = sym (one_part s c.if-slot-eq-SLOT.true) in
    elim c.match-matches.branch [
      | in-Broken w ↦ ap not w.matches-is ∙ sym (all ∙ tells_broken (list_all keeps_slot (parts_of s)) (rises s) w.in-Broken.ensures)
      | in_default w ↦ ap not w.matches-is ∙ sym (all ∙ kept (list_all keeps_slot (parts_of s)) (rises s) c.look_along.ensures w.in_default.not-Broken)
    ]

pub returns-else-slot-eq-SLOT : goal.returns-else-slot-eq-SLOT
unfolding keeps_over
returns-else-slot-eq-SLOT c =
    let e = ne_eqb _ _ c.if-slot-eq-SLOT.false in
    simp e
