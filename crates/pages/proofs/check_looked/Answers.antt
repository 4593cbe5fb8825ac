-- `pages::check_looked` meets its contract. Assumes nothing.
use mathlib.Core.Path.{◌∙◌, sym, ap}
use Rattle.std.specs.declared.result.Result.TheVariants.{Ok}
use Rattle.slots.proofs.LookedAt.{tells_broken, tells_falling, tells_rising}
use Rattle.pages.specs.Pages.{layout_over, rises_over, check_over}
use Rattle.pages.proofs.SlotBySlot.{length_slots_over}
use Rattle.pages.proofs.check_looked.Goals as goal

pub returns-in-Broken : goal.returns-in-Broken
unfolding check_over
returns-in-Broken c =
    let s = c.args.page.now in
    simp (tells_broken (layout_over c.args.room s) (rises_over c.args.room s) (sym c.in-Broken.is ∙ c.requires.1))

pub returns-in-NotRising : goal.returns-in-NotRising
unfolding check_over
returns-in-NotRising c =
    let s = c.args.page.now in
    let told = tells_falling (layout_over c.args.room s) (rises_over c.args.room s) (sym c.in-NotRising.is ∙ c.requires.1) in
    simp (told.0, told.1)

pub returns-in-Rising : goal.returns-in-Rising
unfolding check_over
returns-in-Rising c =
    let s = c.args.page.now in
    let told = tells_rising (layout_over c.args.room s) (rises_over c.args.room s) (sym c.in-Rising.is ∙ c.requires.1) in
    simp (told.0, told.1) (ap Ok (length_slots_over c.args.room s))
