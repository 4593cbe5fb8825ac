-- `form_edits::comes_before` meets its contract. Assumes nothing.
use mathlib.Core.Path.{◌≡◌, sym, ap, ◌∙◌}
use mathlib.Core.Bool.{Bool, false, cond}
use native.Mathlib.Omega.{arith}
use borrow.Author.Tests.{lt-leb, eq-eqb, ne_eqb}
use lib.Dec.{eqb}
use Rattle.slots.specs.Tuples.{row_at}
use Rattle.slots.proofs.TuplesInBytes.{length_tuples_at}
use Rattle.runs.specs.Runs.{is_next}
use Rattle.form_edits.proofs.NamesBeside.{other_length}
use mathlib.Core.Logic.{inl, inr}
use Rattle.form_edits.proofs.comes_before.Goals as goal
use Rattle.form_edits.proofs.comes_before.Goals.{then-next-ge1, else-next-ge1}

pub returns-else-name-next : goal.returns-else-name-next
returns-else-name-next c =
    let x = c.args in
    let a = row_at x.slot.now x.name in
    let b = row_at x.form.now x.next.name in
    elim c.if-next-ge1.branch [
      | then-next-ge1 w ↦ elim c.if-name-next.either [
        | inl p ↦
            let some : eqb x.next.count 0 ≡ false = ne_eqb x.next.count 0 (λ q. omega (arith, p.0)) in
            let apart : is_next a b ≡ false =
            other_length 1 a b (λ q. p.1 (sym (length_tuples_at x.slot.now x.name.at x.name.count) ∙ q ∙ length_tuples_at x.form.now x.next.name.at x.next.name.count)) in
            w.t-6-is ∙ ne_eqb x.name.count x.next.name.count p.1 ∙ sym (simp (some, apart))
        | inr q ↦ absurd (omega (arith, q, w.if-next-ge1.true))
      ]
      | else-next-ge1 w ↦ w.t-6-is ∙ lt-leb 1 x.next.count w.if-next-ge1.false ∙ sym (ap (λ (z : Bool). cond z false (is_next a b)) (eq-eqb x.next.count 0 (omega (arith, w.if-next-ge1.false))))
    ]
