-- `page_renames::check` meets its contract. Assumes nothing.
use mathlib.Core.Path.{refl, ◌∙◌, sym}
use mathlib.Core.List.{[], ◌∷◌}
use borrow.Author.Tests.{le-leb, lt-leb}
use lib.Dec.{leb}
use Rattle.std.proofs.lemmas.Result.{err_from_is_err_and}
use Rattle.answers.specs.declared.Refusal.TheVariants.{BadLog, NoAuthor}
use Rattle.answers.specs.Answers.{◌else◌}
use Rattle.answers.specs.Laws.{here, later}
use Rattle.answers.proofs.Checked.{stops, clears}
use Rattle.pages.specs.Pages.{is_log}
use Rattle.page_renames.specs.Renames.{opening_tests}
use Rattle.names.specs.Names.{limit}
use Rattle.pages.proofs.Checked.{page_fails, page_counts, log_fails, log_passes}
use Rattle.page_renames.proofs.check.Goals as goal

pub returns-in_err-check_page : goal.returns-in_err-check_page
returns-in_err-check_page c =
    let a = c.args in
    let told = err_from_is_err_and c.from_residual.result c.from_residual.ensures.1 in
    let more = is_log a.log.now else BadLog ∷ leb 1 a.author.node else NoAuthor ∷ [] in
    let fails = page_fails limit a.page.now more (sym c.check_page.ensures ∙ c.in_err-check_page.was) in
    rw (told.1, told.2) (stops (opening_tests a.page.now a.log.now a.author) fails)

pub returns-in_err-check_log : goal.returns-in_err-check_log
returns-in_err-check_log c =
    let a = c.args in
    let told = err_from_is_err_and c.from_residual-in_err-check_log.result c.from_residual-in_err-check_log.ensures.1 in
    let page = page_counts limit a.page.now (sym c.check_page.ensures ∙ c.in_ok-check_page.was) in
    let fails = log_fails a.log.now (leb 1 a.author.node else NoAuthor ∷ []) (sym c.check_log.ensures ∙ c.in_err-check_log.was) in
    rw (told.1, told.2) (stops (opening_tests a.page.now a.log.now a.author) (later page.0 (later page.1 fails)))

pub returns-then-author-lt1 : goal.returns-then-author-lt1
returns-then-author-lt1 c =
    let a = c.args in
    let page = page_counts limit a.page.now (sym c.check_page.ensures ∙ c.in_ok-check_page.was) in
    let log = log_passes a.log.now (sym c.check_log.ensures ∙ c.in_ok-check_log.was) in
    stops (opening_tests a.page.now a.log.now a.author) (later page.0 (later page.1 (later log (here (lt-leb 1 a.author.node c.if-author-lt1.true) refl))))

pub returns : goal.returns
returns c =
    let a = c.args in
    let page = page_counts limit a.page.now (sym c.check_page.ensures ∙ c.in_ok-check_page.was) in
    let log = log_passes a.log.now (sym c.check_log.ensures ∙ c.in_ok-check_log.was) in
    clears (opening_tests a.page.now a.log.now a.author) (page.0, (page.1, (log, (le-leb 1 a.author.node c.if-author-lt1.false, tt))))
