-- `new_names::new_between` meets its contract. Assumes nothing.
use native.Mathlib.Omega.{arith}
use Prim.Native.Nat.{ℕ, ◌+◌, ◌/◌, ◌<◌, ◌≤◌}
use mathlib.Core.Path.{◌≡◌, ap, ◌∙◌}
use mathlib.Core.List.{[], ◌∷◌}
use mathlib.Core.Option.{some}
use Rattle.slots.specs.Tuples.{row_at}
use Rattle.new_names.specs.NewNames.{first_before, first_after, own}
use Rattle.new_names.proofs.Rules.{new_apart, new_close}
use Rattle.new_names.proofs.PartsOfNames.{given}
use Rattle.new_names.proofs.new_between.Goals as goal

pub returns-then-low-high : goal.returns-then-low-high
returns-then-low-high c =
    let s = c.args.page.now in
    let a = row_at s c.args.a in
    let b = row_at s c.args.b in
    let author = c.args.author in
    let h : first_before a + 2 ≤ first_after b = omega arith in
    let low = c.first_position-low in
    let high = c.first_position-high in
    let p : (low.result + high.result) / 2 ≡ (first_before a + first_after b) / 2 = λ i. (low.ensures.0 i + high.ensures.0 i) / 2 in
    let t = c.own.ensures ∙ ap (λ (n : ℕ). own author n) p in
    let g = (λ i. some (t i ∷ [])) ∙ new_apart author a b h in
    given s c.one_more.result g (c.one_more.ensures s (omega arith, omega arith))

pub returns : goal.returns
returns c =
    let s = c.args.page.now in
    let a = row_at s c.args.a in
    let b = row_at s c.args.b in
    let h : first_after b < first_before a + 2 = omega arith in
    given s c.close_by.result (new_close c.args.author a b h) c.close_by.ensures
