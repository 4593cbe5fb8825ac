use Rattle.std.proofs.Common.{◌≡◌, ℕ, ◌+◌, ◌≤◌, length, take, drop, ap, ◌∙◌, arith}
use Rattle.numbers.specs.Bytes.{Bytes, put}
use Rattle.numbers.proofs.Put.{put_none}
use Rattle.slots.proofs.CopiedTuples.{copied_on, copied_last}
use Rattle.slots.proofs.copy_long.Goals as goal
use Rattle.slots.proofs.copy_long.Goals.{else-loop-i-test, then-loop-i-test+else-last-i-gt48}

-- i bytes of s stand from p on, and then n more
more : (o s : Bytes) (p i n : ℕ) {d e : Bytes} → p ≤ length o → i ≤ length s → d ≡ put o p (take i s) → e ≡ put d (p + i) (take n (drop i s)) → e ≡ put o p (take (i + n) s)
more o s p i n {d} h k f g =
    let z : i ≡ 0 + i = omega arith in
    copied_on o s p 0 i n h (omega arith) f (g ∙ ap (λ (j : ℕ). put d (p + i) (take n (drop j s))) z)

pub loop-i-init : goal.loop-i-init
loop-i-init c = (omega arith, put_none c.args.out.now c.args.p)

pub loop-i-preserved : goal.loop-i-preserved
loop-i-preserved c =
    let inside = c.loop-i.invariant.0 in
    (omega (arith, c.loop-i-test.true), more c.args.out.now c.args.src.now c.args.p c.loop-i.i 48 (omega (arith, c.requires)) inside c.loop-i.invariant.1 c.copy_four.ensures)

pub returns : goal.returns
returns c =
    let o = c.args.out.now in
    let s = c.args.src.now in
    let p = c.args.p in
    let i = c.loop-i.i in
    let inside = c.loop-i.invariant.0 in
    elim c.loop-i-test.branch [
      | else-loop-i-test w ↦ copied_last o s p i 48 c.requires inside (omega arith) (omega arith) (w.out-is ∙ c.loop-i.invariant.1) c.copy_four-2.ensures
      | then-loop-i-test+else-last-i-gt48 w ↦
          copied_last o s p (i + 48) 48 c.requires (omega arith) (omega arith) (omega arith)
          (more o s p i 48 (omega (arith, c.requires)) inside c.loop-i.invariant.1 (w.out-is ∙ w.copy_four.ensures)) c.copy_four-2.ensures
    ]
