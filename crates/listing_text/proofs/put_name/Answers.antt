use mathlib.Core.Path.{◌∙◌, ap}
use mathlib.Core.List.{◌++◌}
use native.Mathlib.Omega.{arith}
use lib.ListN.{length, take}
use lib.Seq.{take_all}
use Prim.Native.Nat.{◌≤◌}
use Rattle.names.specs.declared.Tuple.{Tuple}
use Rattle.slots.specs.Tuples.{tuples_at}
use Rattle.slots.proofs.TuplesInBytes.{length_tuples_at}
use Rattle.listing_text.specs.Ascii.{ascii}
use Rattle.listing_text.specs.Listing.{tuple_text, name_text}
use Rattle.listing_text.proofs.Texts.{name_first, name_more}
use Rattle.listing_text.proofs.Wrote.{wrote_more, wrote_as}
use Rattle.listing_text.proofs.put_name.Goals as goal

pub loop-k-init : goal.loop-k-init
loop-k-init c =
    let e = ap tuple_text c.read_tuple.ensures ∙ name_first c.args.s.now c.args.at c.args.n c.requires.0 in
    (omega arith, omega arith, wrote_as c.args.out.now c.args.p e c.put_tuple-end.ensures.value)

pub loop-k-preserved : goal.loop-k-preserved
loop-k-preserved c =
    let o = c.args.out.now in
    let p = c.args.p in
    let k = c.loop-k.k in
    let h : p ≤ length o = omega arith in
    let l = name_text (take k (tuples_at c.args.s.now c.args.at c.args.n)) in
    let w₁ = wrote_more o p h l (ascii "/") c.loop-k.invariant.2 c.put_byte-next.ensures in
    let w₂ = wrote_more o p h (l ++ ascii "/") (tuple_text c.read_tuple-in-loop-k.result) w₁ c.put_tuple-end-in-loop-k.ensures.value in
    let e = ap (λ (t : Tuple). l ++ ascii "/" ++ tuple_text t) c.read_tuple-in-loop-k.ensures in
    (omega arith, omega arith, wrote_as o p (e ∙ name_more c.args.s.now c.args.at c.args.n k c.loop-k.invariant.0 c.loop-k-test.true) w₂)

pub returns-clause-value : goal.returns-clause-value
returns-clause-value c =
    let l = tuples_at c.args.s.now c.args.at c.args.n in
    let e = take_all c.loop-k.k l (omega (arith, length_tuples_at c.args.s.now c.args.at c.args.n)) in
    wrote_as c.args.out.now c.args.p (ap name_text e) c.loop-k.invariant.2
