use mathlib.Core.Path.{◌∙◌, ap}
use native.Mathlib.Omega.{arith}
use Rattle.names.specs.Names.{fits}
use Rattle.std.specs.List.{list_all}
use Rattle.numbers.specs.Bytes.{Bytes}
use Rattle.slots.specs.Slots.{name_of}
use Rattle.pages.specs.Pages.{names_of}
use Rattle.name_renames.specs.Renaming.{rename}
use Rattle.page_renames.proofs.PageWalk.{slot_keeps, results_by_slots}
use Rattle.page_renames.proofs.all_renamed_fit.Goals as goal

pub loop-slot-init : goal.loop-slot-init
loop-slot-init c =
    let f = rename c.args.author (names_of c.args.log.now) in
    ap (list_all (λ (s : Bytes). fits (f (name_of s)))) c.as_chunks.ensures.front ∙ results_by_slots f fits c.args.page.now

pub renamed_fits-requires : goal.renamed_fits-requires
renamed_fits-requires c =
    (c.requires.1, slot_keeps c.args.page.now c.loop-slot.slot-index c.as_chunks.ensures.front (omega (arith, c.loop-slot-test.true)) c.requires.0)
