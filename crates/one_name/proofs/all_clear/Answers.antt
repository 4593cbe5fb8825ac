use mathlib.Core.Path.{◌∙◌}
use Rattle.pages.specs.Pages.{names_of}
use Rattle.one_name.specs.Stems.{clear_from}
use Rattle.one_name.proofs.EachName.{named, none_left}
use Rattle.one_name.proofs.all_clear.Goals as goal

pub is_clear-requires : goal.is_clear-requires
is_clear-requires c =
    let x = named c.args.page.now c.loop-k.k c.requires.0 c.loop-k-test.true c.span_of.ensures.1 in
    (c.requires.1, c.span_of.ensures.0, x, c.requires.2)

pub returns : goal.returns
returns c =
    none_left c.args.page.now c.loop-k.k (clear_from c.args.author (names_of c.args.log.now) c.args.from) c.loop-k-test.false ∙ c.loop-k.invariant
