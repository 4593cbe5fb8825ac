-- `runs::is_onward` meets its contract. Assumes nothing.
use mathlib.Core.Path.{◌≡◌, sym, ap, ◌∙◌}
use mathlib.Core.Bool.{Bool, ◌&&◌, and-true, and-false}
use Prim.Native.Nat.{◌+◌, ◌-◌, ◌*◌, ◌≤◌}
use native.Mathlib.Omega.{arith}
use borrow.Author.Tests.{eq-eqb, ne_eqb}
use lib.Dec.{eqb}
use Rattle.numbers.specs.Bytes.{at32}
use Rattle.slots.specs.Tuples.{tuples_at, tuple_size}
use Rattle.runs.specs.Beside.{same_but_last}
use Rattle.runs.proofs.RunNames.{name_at, name_count}
use Rattle.runs.proofs.SameButLast.{is_onward_at}
use Rattle.runs.proofs.is_onward.Goals as goal

pub overflow_sub-last : goal.overflow_sub-last
overflow_sub-last c =
    let h = name_count c.args.a.now c.args.p c.args.n c.requires.n_value.0 in
    omega arith

pub read_u32-requires : goal.read_u32-requires
read_u32-requires c =
    let h = name_count c.args.a.now c.args.p c.args.n c.requires.n_value.0 in
    omega arith

pub read_u32-requires-2 : goal.read_u32-requires-2
read_u32-requires-2 c =
    let h = name_count c.args.a.now c.args.p c.args.n c.requires.n_value.0 in
    omega arith

pub overflow_add-read_u32 : goal.overflow_add-read_u32
overflow_add-read_u32 c =
    let s = c.args.a.now in
    let p = c.args.p in
    let n = c.args.n in
    let h = name_count s p n c.requires.n_value.0 in
    let e : p + tuple_size * n - 4 ≡ p + (tuple_size * n - 4) = omega arith in
    let v : at32 s (p + (tuple_size * n - 4)) ≤ 2147483646 = rw e at (name_at s p n c.requires.n_value.0).1 in
    omega (arith, c.read_u32-2.ensures, c.requires.n_in_bounds.2, v)

pub same_but_last-requires : goal.same_but_last-requires
same_but_last-requires c =
    let h = name_count c.args.a.now c.args.p c.args.n c.requires.n_value.0 in
    (h, c.requires.n_in_bounds.0, c.requires.n_in_bounds.1)

pub returns-then-read_u32-k : goal.returns-then-read_u32-k
returns-then-read_u32-k c =
    let x = c.args in
    let a = x.a.now in
    let b = x.b.now in
    let same = same_but_last (tuples_at a x.p x.n) (tuples_at b x.q x.n) in
    let m = c.read_u32-2.result in
    let n = c.read_u32.result in
    let equal = (λ i. eqb (sym c.read_u32-2.ensures i + x.k) (sym c.read_u32.ensures i)) ∙ eq-eqb (m + x.k) n (sym c.if-read_u32-k.true) in
    c.same_but_last.ensures
    ∙ sym
    (is_onward_at x.k a x.p b x.q x.n c.requires.n_value.0 c.requires.n_value.1
    ∙ ap (λ (e : Bool). same && e) equal
    ∙ and-true same)

pub returns-else-read_u32-k : goal.returns-else-read_u32-k
returns-else-read_u32-k c =
    let x = c.args in
    let a = x.a.now in
    let b = x.b.now in
    let same = same_but_last (tuples_at a x.p x.n) (tuples_at b x.q x.n) in
    let m = c.read_u32-2.result in
    let n = c.read_u32.result in
    let apart = (λ i. eqb (sym c.read_u32-2.ensures i + x.k) (sym c.read_u32.ensures i)) ∙ ne_eqb (m + x.k) n (λ e. c.if-read_u32-k.false (sym e)) in
    ne_eqb _ _ c.if-read_u32-k.false
    ∙ sym
    (is_onward_at x.k a x.p b x.q x.n c.requires.n_value.0 c.requires.n_value.1
    ∙ ap (λ (e : Bool). same && e) apart
    ∙ and-false same)
