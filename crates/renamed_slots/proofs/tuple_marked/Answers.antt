-- `renamed_slots::tuple_marked` meets its contract. Assumes nothing.
use mathlib.Core.Path.{◌≡◌, refl, ◌∙◌, ap}
use mathlib.Core.List.{[], ◌∷◌}
use Prim.Native.Nat.{ℕ, ◌-◌}
use native.Mathlib.Omega.{arith}
use lib.ListN.{drop, get_or}
use Rattle.names.specs.Ordering.{Row}
use Rattle.names.specs.Names.{m}
use Rattle.slots.specs.Slots.{name_of}
use Rattle.renamed_slots.proofs.ReadTuples.{count_of, second_row}
use Rattle.renamed_slots.proofs.tuple_marked.Goals as goal

pub returns-then-i-lt1 : goal.returns-then-i-lt1
returns-then-i-lt1 c =
    let x = c.args in
    let none : 0 ≡ x.i = omega (arith, c.if-i-lt1.true) in
    ap (λ (n : ℕ). get_or (x.marker ∷ drop x.cut (name_of x.slot.now)) n m) none

pub tuple_of-requires : goal.tuple_of-requires
tuple_of-requires c =
    let n = count_of c.args.slot.now c.own.result c.own.ensures.1 in
    (c.own.ensures.0, omega (arith, c.if-i-lt1.false, c.requires.2))

pub returns : goal.returns
returns c =
    let x = c.args in
    let v = drop x.cut (name_of x.slot.now) in
    c.tuple_of.ensures
    ∙ ap (λ (a : Row). get_or a (x.i - 1) m) c.own.ensures.1
    ∙ second_row (x.marker ∷ []) v x.i 1 m refl c.if-i-lt1.false
