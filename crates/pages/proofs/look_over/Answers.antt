-- `pages::look_over` meets its contract. Assumes nothing.
use borrow.Author.Tests.{eq-eqb, ne_eqb, le-leb, lt-leb}
use Rattle.pages.specs.Pages.{layout_over}
use Rattle.pages.proofs.look_over.Goals as goal
use Rattle.pages.proofs.look_over.Goals.{then-page-size-ne0-via-then-page-size-ne0, then-page-size-ne0-via-else-page-size-ne0+then-page-size-gt-SLOTS}

pub returns-then-page-size-ne0 : goal.returns-then-page-size-ne0
unfolding layout_over
returns-then-page-size-ne0 c = elim c.then-page-size-ne0.branch [
  | then-page-size-ne0-via-then-page-size-ne0 w ↦ simp (ne_eqb _ _ w.if-page-size-ne0.true)
  | then-page-size-ne0-via-else-page-size-ne0+then-page-size-gt-SLOTS w ↦ simp (eq-eqb _ _ w.if-page-size-ne0.false, lt-leb _ _ w.if-page-size-gt-SLOTS.true)
]

pub returns : goal.returns
unfolding layout_over
returns c = simp (eq-eqb _ _ c.if-page-size-ne0.false, le-leb _ _ c.if-page-size-gt-SLOTS.false) c.look_along.ensures
