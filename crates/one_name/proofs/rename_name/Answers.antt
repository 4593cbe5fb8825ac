-- `one_name::rename_name` meets its contract. Assumes nothing.
use mathlib.Core.Path.{sym}
use Rattle.names.specs.Names.{row_of}
use Rattle.pages.specs.Pages.{names_of}
use Rattle.name_values.proofs.GivenRows.{gives}
use Rattle.one_name.proofs.RenamedByChange.{renamed}
use Rattle.one_name.proofs.rename_name.Goals as goal

pub returns : goal.returns
returns c =
    let x = c.args in
    let same = c.stand-at.ensures.1 in
    gives c.changed.result (renamed x.author (names_of x.log.now) (row_of x.x) (sym same) c.walk-walked.ensures.1 c.change_of.ensures) c.changed.ensures
