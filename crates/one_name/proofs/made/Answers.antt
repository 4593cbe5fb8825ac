-- `one_name::made` meets its contract. Assumes nothing.
use mathlib.Core.Path.{◌∙◌, ap, subst}
use Rattle.names.specs.Names.{is_name}
use Rattle.slots.specs.Tuples.{row_at}
use Rattle.pages.specs.Pages.{names_of}
use Rattle.one_name.specs.Backs.{Stands}
use Rattle.one_name.proofs.CheckedLog.{log_named}
use Rattle.one_name.proofs.made.Goals as goal

pub ahead-requires : goal.ahead-requires
ahead-requires c =
    let h = subst (Stands (row_at c.args.s.now c.args.c) (names_of c.args.log.now)) c.in-Ahead.is c.requires.2 in
    ap is_name c.name_of-in-Ahead.ensures ∙ log_named c.args.log.now c.in-Ahead.k c.requires.0 h.0
