-- `one_name::deepest` meets its contract. Assumes nothing.
use mathlib.Core.Path.{◌≡◌, ◌∙◌, sym, ap}
use Prim.Native.Nat.{ℕ}
use native.Mathlib.Omega.{arith}
use Rattle.std.proofs.Common.{rules, tests}
use Rattle.std.proofs.lemmas.Iterator.{YieldsList-from_slice, YieldsList-from_map}
use Rattle.std.proofs.lemmas.Iterator.Adapters.{option_map_id}
use Rattle.std.proofs.lemmas.Iterator.Consumers.{max_from_yields_List}
use Rattle.std.specs.Option.{unwrap_or}
use Rattle.std.specs.declared.option.Option.{Option}
use Rattle.pages.specs.Pages.{parts_of, names_of}
use Rattle.one_name.specs.Backs.{deepest_of}
use Rattle.one_name.proofs.Depths.{depth_in, most, most_within}
use Rattle.one_name.proofs.deepest.Goals as goal

pub returns : goal.returns
returns c =
    let l = parts_of c.args.page.now in
    let found =
    sym (option_map_id c.max.result)
    ∙ max_from_yields_List c.map.result c.max.result c.max.ensures.ran (YieldsList-from_map _ depth_in (YieldsList-from_slice l cc) c.map.ensures.closure (λ x b q k. search (rules, tests)))
    in
    let is : c.unwrap_or.result ≡ deepest_of (names_of c.args.page.now) = c.unwrap_or.ensures ∙ ap (λ (o : Option ℕ). unwrap_or o 0) found ∙ most l in
    (is, omega (arith, is, most_within l))
