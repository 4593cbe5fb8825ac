use mathlib.Core.Path.{◌∙◌}
use Prim.Native.Nat.{◌≤◌}
use native.Mathlib.Omega.{arith}
use lib.ListN.{length}
use Rattle.pages.specs.Pages.{names_of}
use Rattle.name_renames.specs.Renaming.{take_back}
use Rattle.page_renames.proofs.AloneNames.{alone_at_lem}
use Rattle.page_renames.proofs.SlotBySlot.{standing_first, standing_last, standing_on, fit}
use Rattle.page_renames.proofs.write_back.Goals as goal

pub write_one_back-requires-clause-i_value : goal.write_one_back-requires-clause-i_value
write_one_back-requires-clause-i_value c =
    let page = c.args.page.now in
    let log = c.args.log.now in
    let author = c.args.author in
    let i = c.loop-i.i in
    let h = c.loop-i-test.true in
    (fit (take_back author (names_of log)) page i h c.requires.page_value_2, λ e. alone_at_lem page log author i h (c.requires.page_value_3 e))

pub loop-i-preserved : goal.loop-i-preserved
loop-i-preserved c =
    let s = c.args.page.now in
    let f = take_back c.args.author (names_of c.args.log.now) in
    let i = c.loop-i.i in
    let o = c.loop-i.out in
    let r : length s ≤ length o = omega (arith, c.loop-i.auto.out) in
    standing_on f s i c.loop-i-test.true c.requires.page_value_2 o c.write_one_back.new.out r c.write_one_back.ensures ∙ c.loop-i.invariant

pub returns : goal.returns
returns c =
    let s = c.args.page.now in
    let f = take_back c.args.author (names_of c.args.log.now) in
    standing_last f s c.loop-i.out c.loop-i.i (omega (arith, c.loop-i-test.false)) ∙ c.loop-i.invariant ∙ standing_first f s c.args.out.now
