use mathlib.Core.Path.{◌∙◌, sym, ap}
use mathlib.Core.List.{[]}
use Prim.Native.Nat.{◌/◌}
use native.Mathlib.Omega.{arith}
use lib.ListN.{length}
use Rattle.numbers.proofs.Every.{every_at, every_end}
use Rattle.slots.specs.Slots.{slot_size}
use Rattle.pages.specs.Pages.{names_of}
use Rattle.pages.proofs.SlotBySlot.{length_names}
use Rattle.name_renames.specs.Alone.{alone}
use Rattle.page_renames.proofs.PageWalk.{within_names}
use Rattle.page_renames.proofs.all_alone.Goals as goal

pub returns-then-not-is_alone : goal.returns-then-not-is_alone
returns-then-not-is_alone c =
    let page = c.args.page.now in
    let test = alone c.args.author (names_of c.args.log.now) in
    let i = c.loop-i.i in
    let found = sym c.if-not-is_alone.true ∙ c.is_alone.ensures ∙ ap test c.span_of.ensures.1 in
    every_at test (names_of page) i [] (within_names page i c.loop-i-test.true) found ∙ c.loop-i.invariant

pub returns : goal.returns
returns c =
    let page = c.args.page.now in
    let n = length_names page (length page / slot_size) in
    every_end (alone c.args.author (names_of c.args.log.now)) (names_of page) c.loop-i.i (omega (arith, c.loop-i-test.false, n)) ∙ c.loop-i.invariant
