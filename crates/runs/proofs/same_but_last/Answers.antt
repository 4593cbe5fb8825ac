-- `runs::same_but_last` meets its contract. Assumes nothing.
use mathlib.Core.Path.{sym, ap, ◌∙◌}
use mathlib.Core.Bool.{Bool, ◌&&◌, and-true, and-false}
use Prim.Native.Nat.{◌-◌}
use native.Mathlib.Omega.{arith}
use borrow.Author.Tests.{eq-eqb, ne_eqb}
use lib.Dec.{eqb}
use Rattle.names.specs.Ordering.{compare_rows}
use Rattle.std.specs.Ordering.{is_eq}
use Rattle.slots.specs.Tuples.{tuples_at}
use Rattle.runs.proofs.SameButLast.{same_at}
use Rattle.runs.proofs.same_but_last.Goals as goal

pub returns-then-read_u64 : goal.returns-then-read_u64
returns-then-read_u64 c =
    let x = c.args in
    let a = x.a.now in
    let b = x.b.now in
    let before = is_eq (compare_rows (tuples_at a x.p (x.n - 1)) (tuples_at b x.q (x.n - 1))) in
    let equal = (λ i. eqb (sym c.read_u64.ensures i) (sym c.read_u64-2.ensures i)) ∙ eq-eqb c.read_u64.result c.read_u64-2.result c.if-read_u64.true in
    c.is_eq.ensures
    ∙ ap is_eq c.compare_rows.ensures
    ∙ sym
    (same_at a x.p b x.q x.n (λ i. omega (arith, c.type_inv.a i)) (λ i. omega (arith, c.type_inv.b i)) c.requires.0
    ∙ ap (λ (e : Bool). before && e) equal
    ∙ and-true before)

pub returns-else-read_u64 : goal.returns-else-read_u64
returns-else-read_u64 c =
    let x = c.args in
    let a = x.a.now in
    let b = x.b.now in
    let before = is_eq (compare_rows (tuples_at a x.p (x.n - 1)) (tuples_at b x.q (x.n - 1))) in
    let apart = (λ i. eqb (sym c.read_u64.ensures i) (sym c.read_u64-2.ensures i)) ∙ ne_eqb c.read_u64.result c.read_u64-2.result c.if-read_u64.false in
    ne_eqb _ _ c.if-read_u64.false
    ∙ sym
    (same_at a x.p b x.q x.n (λ i. omega (arith, c.type_inv.a i)) (λ i. omega (arith, c.type_inv.b i)) c.requires.0
    ∙ ap (λ (e : Bool). before && e) apart
    ∙ and-false before)
