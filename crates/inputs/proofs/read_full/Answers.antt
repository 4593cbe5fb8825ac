use Rattle.std.proofs.Common.{rules, ◌≡◌, ℕ, ◌+◌, ◌-◌, ◌≤◌, List, ◌++◌, length, take, Option, Some, None, sym, ◌∙◌, ap, append_assoc}
use Rattle.std.proofs.lemmas.List.{take-append-le, length-take-le}
use Rattle.std.proofs.Math.Seq.{take-append-add}
use Rattle.std.specs.Io.KnownBytes.{Consumes}
use borrow.Rule.Slice.PartMut.{post_of}
use Rattle.inputs.proofs.read_full.Goals as goal

-- what is read next joins what was read
read_on : (d n : ℕ) (buf new rest : List ℕ) → d ≤ length buf → n ≤ length new → take (d + n) (take d buf ++ (new ++ rest)) ≡ take d buf ++ take n new
read_on d n buf new rest h k =
    ap (λ (i : ℕ). take (i + n) (take d buf ++ (new ++ rest))) (sym (length-take-le d buf h))
    ∙ take-append-add (take d buf) (new ++ rest) n
    ∙ ap (λ (s : List ℕ). take d buf ++ s) (take-append-le n new rest k)

consumes_on : (a b c : Option (List ℕ)) (xs ys : List ℕ) → Consumes a b xs → Consumes b c ys → Consumes a c (xs ++ ys)
consumes_on None b c xs ys p q = tt
consumes_on (Some x) None c xs ys p q = absurd p
consumes_on (Some x) (Some y) None xs ys p q = absurd q
consumes_on (Some x) (Some y) (Some z) xs ys p q = p ∙ ap (λ (s : List ℕ). xs ++ s) q ∙ sym (append_assoc xs ys z)

pub loop-done-preserved : goal.loop-done-preserved
loop-done-preserved g c =
    let d = c.loop-done.done in
    let buf = c.loop-done.buf in
    let new = c.read.new.buf in
    let known = g.R.Read.remaining in
    let rest = post_of d (length buf - d) buf in
    let e = read_on d c.in_ok-n.n buf new rest c.loop-done.invariant.0 c.in_ok-n.ensures.bound.0 in
    let all = consumes_on (known c.args.input.now) (known c.loop-done.input) (known c.read.new.self) (take d buf) (take c.in_ok-n.n new) c.loop-done.invariant.2 c.in_ok-n.ensures.bytes.0 in
    (search rules, search rules, rw e all)
