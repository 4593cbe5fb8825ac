-- `one_name::strip_above` meets its contract. Assumes nothing.
use mathlib.Core.Path.{◌≡◌, ◌∙◌, sym}
use Prim.Native.Nat.{◌≤◌}
use native.Mathlib.Omega.{arith}
use Rattle.slots.specs.Tuples.{row_at}
use Rattle.slots.proofs.TuplesInBytes.{length_tuples_at}
use Rattle.name_renames.specs.Renaming.{strip_above}
use Rattle.name_renames.proofs.ByTest.{begins_long, begins_as, low_as, above_kept, above_high, above_cut}
use Rattle.one_name.proofs.strip_above.Goals as goal
use Rattle.one_name.proofs.strip_above.Goals.{else-begins-via-then-begins+else-is_below, else-begins-via-else-begins}

pub without-requires : goal.without-requires
without-requires c =
    let x = c.args in
    let h = begins_long (row_at x.s.now x.c) c.numbered-n.result (sym c.begins.ensures ∙ c.if-begins.true) in
    (c.requires.1, omega (arith, h, length_tuples_at x.s.now x.c.at x.c.count))

pub returns-then-is_below : goal.returns-then-is_below
returns-then-is_below c =
    let x = c.args in
    let a = row_at x.s.now x.c in
    let b = begins_as a c.numbered-n.ensures c.begins.ensures c.if-begins.true in
    let l = low_as c.without.ensures.1 c.numbered-n.ensures c.is_below.ensures c.if-is_below.true in
    let long = begins_long a c.numbered-n.result (sym c.begins.ensures ∙ c.if-begins.true) in
    let deep : 1 ≤ x.c.count = omega (arith, long, length_tuples_at x.s.now x.c.at x.c.count) in
    (deep, omega arith, above_cut x.p x.author x.k a b l)

pub returns-else-begins : goal.returns-else-begins
returns-else-begins c =
    let x = c.args in
    let a = row_at x.s.now x.c in
    let kept : a ≡ strip_above x.p x.author x.k a = elim c.else-begins.branch [
      | else-begins-via-then-begins+else-is_below w ↦
          let b = begins_as a c.numbered-n.ensures c.begins.ensures w.if-begins.true in
          above_high x.p x.author x.k a b (low_as w.without.ensures.1 c.numbered-n.ensures w.is_below.ensures w.if-is_below.false)
      | else-begins-via-else-begins w ↦ above_kept x.p x.author x.k a (begins_as a c.numbered-n.ensures c.begins.ensures w.if-begins.false)
    ] in
    (omega arith, omega arith, kept)
