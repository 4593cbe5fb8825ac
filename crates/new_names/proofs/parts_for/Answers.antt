-- `new_names::parts_for` meets its contract. Assumes nothing.
use native.Mathlib.Omega.{arith}
use mathlib.Core.Path.{◌≡◌, refl, ◌∙◌, sym, subst}
use mathlib.Core.Bool.{true, false}
use borrow.Author.Tests.{le-leb, lt-leb}
use lib.Dec.{leb}
use lib.ListN.{length}
use Rattle.std.proofs.lemmas.Result.{err_from_is_err_and}
use Rattle.pages.specs.Pages.{slots_of}
use Rattle.answers.specs.Laws.{here, later}
use Rattle.answers.proofs.Refusals.{passed, failed}
use Rattle.new_names.specs.FoundParts.{Means}
use Rattle.new_names.specs.NewNames.{Named, refuse_name, gap_tests, new_name_outcome, new_name}
use Rattle.new_names.proofs.GapTests.{turned_away}
use Rattle.names.specs.Names.{limit}
use Rattle.pages.proofs.Checked.{page_counts}
use Rattle.pages.proofs.SlotBySlot.{length_slots}
use Rattle.new_names.proofs.PartsOfNames.{given}
use Rattle.new_names.proofs.parts_for.Goals as goal

pub returns-in_err-n : goal.returns-in_err-n
returns-in_err-n c =
    let told = err_from_is_err_and c.from_residual.result c.from_residual.ensures.1 in
    rw (told.1, told.2) (turned_away c.args.page.now c.args.gap c.args.author (sym c.check_page.ensures ∙ c.in_err-n.was))

pub returns-then-author-lt1 : goal.returns-then-author-lt1
unfolding new_name_outcome
returns-then-author-lt1 c =
    let sound = page_counts limit c.args.page.now (sym c.check_page.ensures ∙ c.in_ok-n.was) in
    let node : leb 1 c.args.author.node ≡ false = lt-leb 1 c.args.author.node c.if-author-lt1.true in
    failed refuse_name _ (gap_tests c.args.page.now c.args.gap c.args.author) (later sound.0 (later sound.1 (here node refl)))

pub returns-then-n-gap : goal.returns-then-n-gap
unfolding new_name_outcome
returns-then-n-gap c =
    let page = c.args.page.now in
    let sound = page_counts limit page (sym c.check_page.ensures ∙ c.in_ok-n.was) in
    let node : leb 1 c.args.author.node ≡ true = le-leb 1 c.args.author.node c.if-author-lt1.false in
    let beyond : leb c.args.gap (length (slots_of page)) ≡ false = lt-leb c.args.gap (length (slots_of page)) (omega (arith, sound.2, length_slots page)) in
    failed refuse_name _ (gap_tests page c.args.gap c.args.author) (later sound.0 (later sound.1 (later node (here beyond refl))))

pub returns : goal.returns
unfolding new_name_outcome
returns c =
    let page = c.args.page.now in
    let author = c.args.author in
    let sound = page_counts limit page (sym c.check_page.ensures ∙ c.in_ok-n.was) in
    let node : leb 1 author.node ≡ true = le-leb 1 author.node c.if-author-lt1.false in
    let inside : leb c.args.gap (length (slots_of page)) ≡ true = le-leb c.args.gap (length (slots_of page)) (omega (arith, sound.2, length_slots page)) in
    let r = c.new_between.result in
    let w = given page r (λ i. new_name author (c.span_before-a.ensures.1 i) (c.span_of-b.ensures.1 i)) c.new_between.ensures in
    subst (λ (x : Named). Means page r x) (sym (passed refuse_name _ (gap_tests page c.args.gap author) (sound.0, (sound.1, (node, (inside, tt)))))) w
