-- `page_renames::check_names` meets its contract. Assumes nothing.
use mathlib.Core.Path.{◌∙◌, sym}
use Rattle.answers.proofs.Checked.{clears}
use Rattle.page_renames.specs.Renames.{take_back_tests}
use Rattle.page_renames.proofs.AloneNames.{alone_passes}
use Rattle.page_renames.proofs.Books.{all_asked}
use Rattle.page_renames.proofs.ClearBooks.{clear_passes}
use Rattle.page_renames.proofs.check_names.Goals.{then-alone-via-then-alone, then-alone-via-else-alone+then-is_clear}
use Rattle.page_renames.proofs.check_names.Goals as goal

pub returns-then-alone : goal.returns-then-alone
returns-then-alone c =
    let page = c.args.page.now in
    let log = c.args.log.now in
    let author = c.args.author in
    let v = all_asked page log author c.requires.author_value in
    clears (take_back_tests page log author) (elim c.then-alone.branch [
      | then-alone-via-then-alone w ↦ alone_passes page log author v (c.requires.page_value w.if-alone.true)
      | then-alone-via-else-alone+then-is_clear w ↦ clear_passes page log author v (sym w.is_clear.ensures ∙ w.if-is_clear.true)
    ])
