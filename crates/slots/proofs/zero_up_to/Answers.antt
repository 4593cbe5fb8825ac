use Rattle.std.proofs.Common.{◌≡◌, ℕ, ◌+◌, ◌-◌, ◌*◌, drop, sym, ap, ◌∙◌, arith}
use Rattle.numbers.specs.Bytes.{all_zero}
use Rattle.slots.specs.Tuples.{tuple_size}
use Rattle.slots.specs.Slots.{head_size}
use Rattle.slots.proofs.ZeroTuples.{zeros_more, zeros_fail}
use Rattle.slots.proofs.zero_up_to.Goals as goal

pub loop-i-init : goal.loop-i-init
loop-i-init c = (c.requires.0, c.requires.2)

pub loop-i-preserved : goal.loop-i-preserved
loop-i-preserved c =
    let i = c.loop-i.i in
    (omega arith, zeros_more c.args.s.now (head_size + tuple_size * (i - 1)) tuple_size (head_size + tuple_size * i) (omega arith) (sym c.if-not-zero_at.false ∙ c.zero_at.ensures) c.loop-i.invariant.1)

pub returns-then-not-zero_at : goal.returns-then-not-zero_at
returns-then-not-zero_at c = zeros_fail c.args.s.now (head_size + tuple_size * (c.loop-i.i - 1)) tuple_size (head_size + tuple_size * c.args.d) (omega arith) (sym c.if-not-zero_at.true ∙ c.zero_at.ensures)

pub returns : goal.returns
returns c =
    let e : c.loop-i.i ≡ c.args.d = omega arith in
    sym c.loop-i.invariant.1 ∙ ap (λ (i : ℕ). all_zero (drop (head_size + tuple_size * i) c.args.s.now)) e
