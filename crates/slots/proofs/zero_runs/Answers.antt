use Rattle.std.proofs.Common.{◌≡◌, ℕ, ◌&&◌, take, drop, ap, ◌∙◌, arith}
use Rattle.numbers.specs.Bytes.{all_zero}
use Rattle.slots.proofs.ZeroTuples.{zeros_both}
use Rattle.slots.proofs.zero_runs.Goals as goal

pub loop-i-preserved : goal.loop-i-preserved
loop-i-preserved c =
    let x = c.args in
    zeros_both x.s.now x.p x.q c.loop-i.i c.loop-i.all (omega arith) (omega arith) c.loop-i.invariant

pub returns : goal.returns
returns c =
    let s = c.args.s.now in
    let e : c.loop-i.i ≡ c.args.n = omega arith in
    c.loop-i.invariant ∙ ap (λ (k : ℕ). all_zero (take k (drop c.args.p s)) && all_zero (take k (drop c.args.q s))) e
