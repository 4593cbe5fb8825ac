-- `one_name::strip_below` meets its contract. Assumes nothing.
use mathlib.Core.Path.{◌≡◌, ◌∙◌, sym}
use Prim.Native.Nat.{◌≤◌}
use native.Mathlib.Omega.{arith}
use Rattle.slots.specs.Tuples.{row_at}
use Rattle.slots.proofs.TuplesInBytes.{length_tuples_at}
use Rattle.name_renames.specs.Renaming.{strip_below}
use Rattle.name_renames.proofs.ByTest.{begins_long, begins_as, low_as, below_kept, below_low, below_cut}
use Rattle.one_name.proofs.strip_below.Goals as goal
use Rattle.one_name.proofs.strip_below.Goals.{else-begins-via-then-begins+else-not-is_below, else-begins-via-else-begins}

pub without-requires : goal.without-requires
without-requires c =
    let x = c.args in
    let h = begins_long (row_at x.s.now x.c) c.lead.result (sym c.begins.ensures ∙ c.if-begins.true) in
    (c.requires, omega (arith, h, length_tuples_at x.s.now x.c.at x.c.count))

pub returns-then-not-is_below : goal.returns-then-not-is_below
returns-then-not-is_below c =
    let x = c.args in
    let a = row_at x.s.now x.c in
    let b = begins_as a c.lead.ensures c.begins.ensures c.if-begins.true in
    let l = low_as c.without.ensures.1 c.lead-then-begins.ensures c.is_below.ensures c.if-not-is_below.true in
    let long = begins_long a c.lead.result (sym c.begins.ensures ∙ c.if-begins.true) in
    let deep : 1 ≤ x.c.count = omega (arith, long, length_tuples_at x.s.now x.c.at x.c.count) in
    (deep, omega arith, below_cut x.p x.author a b l)

pub returns-else-begins : goal.returns-else-begins
returns-else-begins c =
    let x = c.args in
    let a = row_at x.s.now x.c in
    let kept : a ≡ strip_below x.p x.author a = elim c.else-begins.branch [
      | else-begins-via-then-begins+else-not-is_below w ↦
          let b = begins_as a c.lead.ensures c.begins.ensures w.if-begins.true in
          below_low x.p x.author a b (low_as w.without.ensures.1 w.lead-then-begins.ensures w.is_below.ensures w.if-not-is_below.false)
      | else-begins-via-else-begins w ↦ below_kept x.p x.author a (begins_as a c.lead.ensures c.begins.ensures w.if-begins.false)
    ] in
    (omega arith, omega arith, kept)
