-- `grouping::is_next` meets its contract. Assumes nothing.
use mathlib.Core.Path.{◌≡◌, ◌∙◌, sym, ap}
use mathlib.Core.List.{[]}
use Prim.Native.Nat.{ℕ, ◌-◌}
use native.Mathlib.Omega.{arith}
use borrow.Author.Tests.{ne_eqb}
use lib.ListN.{get_or}
use Rattle.names.specs.Names.{is_name}
use Rattle.slots.specs.Tuples.{tuples_at}
use Rattle.pages.specs.Pages.{names_of}
use Rattle.runs.specs.Runs.{is_next}
use Rattle.grouping.proofs.PageNames.{named_there, depth_is, not_next}
use Rattle.grouping.proofs.is_next.Goals as goal

pub is_onward-requires-clause-n_value : goal.is_onward-requires-clause-n_value
is_onward-requires-clause-n_value c =
    let s = c.args.page.now in
    let k = c.args.k in
    let x = c.span_of-x.result in
    let y = c.span_of-y.result in
    let same : y.count ≡ x.count = omega arith in (
      named_there s c.requires.0 (k - 1) (omega arith) x c.span_of-x.ensures.1,
      ap (λ (n : ℕ). is_name (tuples_at s y.at n)) (sym same) ∙ named_there s c.requires.0 k c.requires.2 y c.span_of-y.ensures.1,
    )

pub returns-then-x-y : goal.returns-then-x-y
returns-then-x-y c =
    let s = c.args.page.now in
    let x = c.span_of-x.result in
    let y = c.span_of-y.result in
    let same : x.count ≡ y.count = omega arith in
    let there = ap (λ (n : ℕ). tuples_at s y.at n) same ∙ c.span_of-y.ensures.1 in
    c.is_onward.ensures ∙ (λ i. is_next (c.span_of-x.ensures.1 i) (there i))

pub returns-else-x-y : goal.returns-else-x-y
returns-else-x-y c =
    let s = c.args.page.now in
    let k = c.args.k in
    let a = get_or (names_of s) (k - 1) [] in
    let b = get_or (names_of s) k [] in
    let da = depth_is s c.span_of-x.result a c.span_of-x.ensures.1 in
    let db = depth_is s c.span_of-y.result b c.span_of-y.ensures.1 in
    ne_eqb c.span_of-x.result.count c.span_of-y.result.count c.if-x-y.false ∙ not_next a b (λ e. c.if-x-y.false (omega arith))
