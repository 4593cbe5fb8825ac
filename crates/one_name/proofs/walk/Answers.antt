-- `one_name::walk` meets its contract. Assumes nothing.
use mathlib.Core.Path.{◌∙◌, ap}
use Rattle.slots.specs.Tuples.{row_at}
use Rattle.pages.specs.Pages.{names_of}
use Rattle.one_name.proofs.CheckedLog.{logged, case_index}
use Rattle.one_name.proofs.PlaceInLog.{index, index_is}
use Rattle.one_name.proofs.walk.Goals as goal

pub place_from-place-requires : goal.place_from-place-requires
place_from-place-requires c = ((logged c.args.log.now c.requires.0).risen, c.requires.1, c.requires.2)

pub returns-in-Here : goal.returns-in-Here
returns-in-Here c =
    let x = row_at c.args.s.now c.args.x in
    let k = ap index c.in-Here.ensures ∙ index_is x (names_of c.args.log.now) in
    let case = c.case_at-case in
    (k, case.ensures, case_index c.args.log.now c.args.author x c.requires.0 case.result case.ensures)

-- in `Gap`
pub returns-in-Here-2 : goal.returns-in-Here-2
returns-in-Here-2 c =
    let x = row_at c.args.s.now c.args.x in
    let k = ap index c.in-Here.ensures ∙ index_is x (names_of c.args.log.now) in
    let case = c.case_at-case in
    (k, case.ensures, case_index c.args.log.now c.args.author x c.requires.0 case.result case.ensures)
