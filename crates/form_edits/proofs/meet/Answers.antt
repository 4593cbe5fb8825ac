-- `form_edits::meet` meets its contract. Assumes nothing.
use mathlib.Core.Path.{◌≡◌, sym, ap, ◌∙◌}
use mathlib.Core.Bool.{false, cond}
use Prim.Native.Nat.{◌-◌}
use native.Mathlib.Omega.{arith}
use borrow.Author.Tests.{ne_eqb}
use lib.Dec.{eqb}
use Rattle.slots.specs.Tuples.{row_at}
use Rattle.runs.specs.declared.Stand.{Stand}
use Rattle.runs.specs.declared.Stand.TheVariants.{At, Beyond, Above}
use Rattle.runs.specs.Beside.{beside_of}
use Rattle.form_edits.specs.Choices.{met_by}
use Rattle.form_edits.proofs.NamesBeside.{shorter, other, reaches}
use Rattle.form_edits.proofs.meet.Goals as goal

pub returns-then-name-n : goal.returns-then-name-n
returns-then-name-n c =
    let x = c.args in
    let n = x.block.name in
    let some : eqb n.count 0 ≡ false = ne_eqb n.count 0 (λ q. omega arith) in
    let r = c.requires.name_value (omega arith) in
    let far : beside_of (row_at x.form.now n) (row_at x.slot.now x.name) ≡ Above =
    shorter x.form.now n.at n.count x.slot.now x.name.at x.name.count r.0 r.1 c.if-name-n.true in
    simp (some, far)

pub returns-then-not-same_but_last : goal.returns-then-not-same_but_last
returns-then-not-same_but_last c =
    let x = c.args in
    let n = x.block.name in
    let some : eqb n.count 0 ≡ false = ne_eqb n.count 0 (λ q. omega arith) in
    let r = c.requires.name_value (omega arith) in
    let apart = sym c.same_but_last.ensures ∙ c.if-not-same_but_last.true in
    let far : beside_of (row_at x.form.now n) (row_at x.slot.now x.name) ≡ Above =
    other x.form.now n.at n.count x.slot.now x.name.at x.name.count r.0 r.1 c.if-name-n.false apart in
    simp (some, far)

pub overflow_sub-steps : goal.overflow_sub-steps
overflow_sub-steps c =
    let x = c.args in
    let n = x.block.name in
    let r = c.requires.name_value (omega arith) in
    let alike = sym c.same_but_last.ensures ∙ c.if-not-same_but_last.false in
    let far = reaches x.form.now n.at n.count x.slot.now x.name.at x.name.count r.0 r.1 c.if-name-n.false alike in
    omega (arith, far.0, c.read_u32.ensures, c.read_u32-2.ensures)

pub returns : goal.returns
returns c =
    let x = c.args in
    let n = x.block.name in
    let some : eqb n.count 0 ≡ false = ne_eqb n.count 0 (λ q. omega arith) in
    let r = c.requires.name_value (omega arith) in
    let alike = sym c.same_but_last.ensures ∙ c.if-not-same_but_last.false in
    let far = reaches x.form.now n.at n.count x.slot.now x.name.at x.name.count r.0 r.1 c.if-name-n.false alike in
    let v = c.read_u32.ensures in
    let w = c.read_u32-2.ensures in
    c.met_after.ensures
    ∙ (λ i. met_by (cond (eqb x.name.count n.count) (At (v i - w i)) (Beyond (v i - w i))) x.block.count)
    ∙ ap (λ (z : Stand). met_by z x.block.count) (sym far.1)
    ∙ sym (simp some)
