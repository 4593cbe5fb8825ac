-- `one_name::take_back_name` meets its contract. Assumes nothing.
use mathlib.Core.Path.{◌∙◌, sym, ap, subst}
use Rattle.slots.specs.Tuples.{row_at}
use Rattle.pages.specs.Pages.{names_of}
use Rattle.name_values.proofs.GivenRows.{gives}
use Rattle.name_renames.specs.Renaming.{take_back}
use Rattle.one_name.specs.Backs.{shaped, Stands}
use Rattle.one_name.proofs.CheckedLog.{logged}
use Rattle.one_name.proofs.Shapes.{shape_means}
use Rattle.one_name.proofs.take_back_name.Goals as goal

pub made-requires : goal.made-requires
made-requires c =
    let l = logged c.args.log.now c.requires in
    let log = names_of c.args.log.now in
    let x = row_at _ c.stand-at.result in
    (c.requires, c.stand-at.ensures.0, subst (Stands x log) (sym c.back_of-back.ensures) (shape_means c.args.author log x l.some l.rising).0)

pub returns : goal.returns
returns c =
    let l = logged c.args.log.now c.requires in
    let log = names_of c.args.log.now in
    let x = row_at _ c.stand-at.result in
    let means = (shape_means c.args.author log x l.some l.rising).1 in
    let back = ap (shaped x log) c.back_of-back.ensures ∙ means ∙ ap (take_back c.args.author log) c.stand-at.ensures.1 in
    gives c.made.result back c.made.ensures
