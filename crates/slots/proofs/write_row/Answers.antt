use Rattle.std.proofs.Common.{◌≡◌, ℕ, ◌+◌, ◌*◌, ◌<◌, length, take, get_or, sym, ap, ◌∙◌, arith, length-take, length-take-le, take_all}
use Rattle.names.specs.Ordering.{Row}
use Rattle.names.specs.Names.{m, row_of}
use Rattle.numbers.specs.Bytes.{put}
use Rattle.slots.specs.Tuples.{tuple_bytes, row_bytes, tuple_size}
use Rattle.numbers.proofs.Put.{put_more, put_none}
use Rattle.slots.proofs.WrittenSlots.{row_more, row_length}
use Rattle.std.proofs.lemmas.List.{get_or-take}
use Rattle.slots.proofs.write_row.Goals as goal

pub loop-k-init : goal.loop-k-init
loop-k-init c = put_none c.args.out.now c.args.p

pub loop-k-preserved : goal.loop-k-preserved
loop-k-preserved c =
    let o = c.args.out.now in
    let p = c.args.p in
    let ts = row_of c.args.a in
    let k = c.loop-k.k in
    let h : k < length ts = omega arith in
    let l = row_length (take k ts) ∙ ap (λ (n : ℕ). tuple_size * n) (length-take-le k ts (omega arith)) in
    let q : p + tuple_size * k ≡ p + length (row_bytes (take k ts)) = ap (λ (n : ℕ). p + n) (sym l) in
    let same : get_or c.args.a.tuples k m ≡ get_or ts k m = sym (get_or-take c.args.a.depth c.args.a.tuples k m (omega (arith, h, length-take c.args.a.depth c.args.a.tuples))) in
    put_more o p (omega arith) (row_bytes (take k ts)) (tuple_bytes (get_or ts k m)) c.loop-k.invariant q (c.write_tuple.ensures ∙ ap (λ t. put c.loop-k.out (p + tuple_size * k) (tuple_bytes t)) same)
    ∙ sym (ap (put o p) (row_more ts k h))

pub returns : goal.returns
returns c =
    let ts = row_of c.args.a in
    c.loop-k.invariant ∙ ap (λ (l : Row). put c.args.out.now c.args.p (row_bytes l)) (take_all c.loop-k.k ts (omega arith))
