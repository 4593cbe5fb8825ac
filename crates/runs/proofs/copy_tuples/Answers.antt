use Rattle.std.proofs.Common.{◌≡◌, ℕ, ◌+◌, ◌*◌, take, drop, ap, ◌∙◌, arith}
use Rattle.numbers.specs.Bytes.{Octets, put}
use Rattle.numbers.proofs.Put.{put_none}
use Rattle.slots.specs.Tuples.{tuple_size}
use Rattle.slots.proofs.CopiedTuples.{copied_on, copied_row}
use Rattle.runs.proofs.copy_tuples.Goals as goal

pub loop-k-init : goal.loop-k-init
loop-k-init c = put_none c.args.out.now c.args.p

pub loop-k-preserved : goal.loop-k-preserved
loop-k-preserved c =
    let o = c.args.out.now in
    let p = c.args.p in
    let s = c.args.s.now in
    let at = c.args.at in
    let k = c.loop-k.k in
    let next : tuple_size * k + tuple_size ≡ tuple_size * (k + 1) = omega arith in
    copied_on o s p at (tuple_size * k) tuple_size (omega arith) (omega arith) c.loop-k.invariant c.copy_tuple.ensures
    ∙ ap (λ (n : ℕ). put o p (take n (drop at s))) next

pub returns : goal.returns
returns c =
    let s = c.args.s.now in
    let k = c.loop-k.k in
    let n = c.args.n in
    let octets : Octets s = λ j. omega (arith, c.type_inv.s j) in
    copied_row s octets c.args.out.now c.args.p c.args.at (tuple_size * k) n (omega arith) (omega arith) c.loop-k.invariant
