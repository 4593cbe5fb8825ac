-- `slots::copy_ends` meets its contract. Assumes nothing.
use Rattle.std.proofs.Common.{◌≡◌, ℕ, ◌+◌, ◌-◌, ◌*◌, take, drop, ap, ◌∙◌, arith}
use Rattle.numbers.specs.Bytes.{put}
use Rattle.slots.specs.Tuples.{tuple_size}
use Rattle.slots.proofs.CopiedTuples.{copied_over}
use Rattle.slots.proofs.copy_ends.Goals as goal

pub returns : goal.returns
returns c =
    let o = c.args.out.now in
    let p = c.args.p in
    let s = c.args.s.now in
    let at = c.args.at in
    let n = c.args.n in
    let e : tuple_size * (n - 4) + 48 ≡ tuple_size * n = omega arith in
    copied_over o s p at 48 (tuple_size * (n - 4)) 48 (omega arith) (omega arith) (omega arith) (omega arith) c.copy_four.ensures c.copy_four-2.ensures
    ∙ ap (λ (m : ℕ). put o p (take m (drop at s))) e
