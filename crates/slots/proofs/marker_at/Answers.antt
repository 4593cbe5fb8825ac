-- `slots::marker_at` meets its contract. Assumes nothing.
use Rattle.std.proofs.Common.{sym, ◌∙◌, arith, inl, inr, eq-eqb, ne_eqb}
use mathlib.Core.Bool.{and-false}
use Rattle.slots.proofs.TupleTests.{marker_by}
use Rattle.slots.proofs.marker_at.Goals as goal
use Rattle.slots.proofs.marker_at.Goals.{then-front-eq0, else-front-eq0}

pub returns-then-offset-eq0 : goal.returns-then-offset-eq0
returns-then-offset-eq0 c =
    let both = c.if-offset-eq0.true in
    let is = marker_by c.args.s.now c.args.p (λ i. omega (arith, c.type_inv.s i)) ∙ simp (sym c.read_u64-front.ensures, sym c.read_u32-offset.ensures, both.0, both.1) in
    elim c.if-front-eq0.branch [
      | then-front-eq0 w ↦ w.t-7-is ∙ eq-eqb _ _ both.1 ∙ sym is
      | else-front-eq0 w ↦ absurd (w.if-front-eq0.false both.0)
    ]

pub returns-then-front : goal.returns-then-front
returns-then-front c =
    sym (marker_by c.args.s.now c.args.p (λ i. omega (arith, c.type_inv.s i))
    ∙ simp (sym c.read_u64-front.ensures, sym c.read_u32-offset.ensures, c.if-front.true))

pub returns-else-front : goal.returns-else-front
returns-else-front c =
    let n = ne_eqb _ _ c.if-front.false in
    let is = marker_by c.args.s.now c.args.p (λ i. omega (arith, c.type_inv.s i)) in
    elim c.if-offset-eq0.either [
      | inl h ↦ n ∙ sym (is ∙ simp (sym c.read_u64-front.ensures, sym c.read_u32-offset.ensures, ne_eqb _ _ h.1, n, and-false))
      | inr h ↦ n ∙ sym (is ∙ simp (sym c.read_u64-front.ensures, sym c.read_u32-offset.ensures, ne_eqb _ _ h, n))
    ]
