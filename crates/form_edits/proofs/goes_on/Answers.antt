-- `form_edits::goes_on` meets its contract. Assumes nothing.
use mathlib.Core.Path.{◌≡◌, sym, ap, ◌∙◌}
use mathlib.Core.Bool.{Bool, false, cond}
use Prim.Native.Nat.{◌≤◌}
use native.Mathlib.Omega.{arith}
use borrow.Author.Tests.{eq-eqb, ne_eqb}
use lib.Dec.{eqb}
use Rattle.names.specs.Ordering.{compare_rows}
use Rattle.std.specs.Ordering.{is_eq}
use Rattle.slots.specs.Tuples.{row_at}
use Rattle.slots.proofs.TuplesInBytes.{length_tuples_at}
use Rattle.runs.specs.Runs.{onward}
use Rattle.form_edits.proofs.NamesBeside.{other_length}
use mathlib.Core.Logic.{inl, inr}
use borrow.Author.Tests.{lt-leb}
use Rattle.form_edits.proofs.goes_on.Goals as goal
use Rattle.form_edits.proofs.goes_on.Goals.{then-next-ge1, else-next-ge1, then-before-ge1, else-before-ge1}

pub returns-else-before-next : goal.returns-else-before-next
returns-else-before-next c =
    let x = c.args in
    let s = x.form.now in
    let a = row_at s x.before.name in
    let b = row_at s x.next.name in
    let y = is_eq (compare_rows (onward x.before.count a) b) in
    let some : 1 ≤ x.before.count → eqb x.before.count 0 ≡ false = λ h. ne_eqb x.before.count 0 (λ q. omega arith) in
    elim c.if-next-ge1.branch [
      | then-next-ge1 w ↦ elim c.if-before-next.either [
        | inl p ↦
            let more : eqb x.next.count 0 ≡ false = ne_eqb x.next.count 0 (λ q. omega (arith, p.1)) in
            let apart : is_eq (compare_rows (onward x.before.count a) b) ≡ false =
            other_length x.before.count a b (λ q. p.2 (sym (length_tuples_at s x.before.name.at x.before.name.count) ∙ q ∙ length_tuples_at s x.next.name.at x.next.name.count)) in
            w.t-5-is ∙ ne_eqb x.before.name.count x.next.name.count p.2 ∙ sym (simp (some p.0, more, apart))
        | inr q ↦ absurd (omega (arith, q, w.if-next-ge1.true))
      ]
      | else-next-ge1 w ↦ w.t-5-is ∙ (elim c.if-before-ge1.branch [
        | then-before-ge1 u ↦ elim w.if-next-ge1.either [
          | inl p ↦
              u.t-6-is
              ∙ lt-leb 1 x.next.count p.1
              ∙ sym (ap (λ (z : Bool). cond z false (cond (eqb x.next.count 0) false y)) (some p.0) ∙ ap (λ (z : Bool). cond z false y) (eq-eqb x.next.count 0 (omega (arith, p.1))))
          | inr q ↦ absurd (omega (arith, q, u.if-before-ge1.true))
        ]
        | else-before-ge1 u ↦ u.t-6-is ∙ lt-leb 1 x.before.count u.if-before-ge1.false ∙ sym (ap (λ (z : Bool). cond z false (cond (eqb x.next.count 0) false y)) (eq-eqb x.before.count 0 (omega (arith, u.if-before-ge1.false))))
      ])
    ]
