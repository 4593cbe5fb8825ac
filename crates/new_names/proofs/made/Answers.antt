use Prim.Native.Nat.{◌<◌}
use native.Mathlib.Omega.{arith}
use mathlib.Core.Path.{ap, ◌∙◌}
use mathlib.Core.List.{[], ◌∷◌, ◌++◌}
use lib.ListN.{length, take, length-take}
use Rattle.names.specs.declared.Tuple.{Tuple}
use Rattle.names.specs.Names.{limit, value_of}
use Rattle.name_values.proofs.JoinedRows.{value_more, take_more}
use Rattle.new_names.specs.FoundParts.{parts_of}
use Rattle.new_names.proofs.PartsOfNames.{parts_length}
use Rattle.new_names.proofs.made.Goals as goal

pub loop-k-preserved : goal.loop-k-preserved
loop-k-preserved c =
    let k = c.loop-k.k in
    let s = c.args.page.now in
    let l = parts_of s c.args.p in
    let h : k < length l = omega (arith, parts_length s c.args.p) in
    let f : length (take k l) < limit = omega (arith, length-take k l) in
    let e = ap (λ (t : Tuple). take k l ++ (t ∷ [])) c.part_at.ensures ∙ take_more [] l k h in
    value_more (take k l) c.part_at.result c.loop-k.invariant f ∙ ap value_of e
