use Rattle.std.proofs.Common.{◌≡◌, ◌+◌, ◌*◌, ◌&&◌, ◌||◌, ltb, sym, ◌∙◌, arith, le-ltb, lt-ltb}
use Rattle.names.specs.Names.{ordinary, marker}
use Rattle.slots.specs.Tuples.{tuple_at, tuple_size}
use Rattle.slots.proofs.NameTests.{leads_fewer, leads_at, leads_not}
use Rattle.slots.proofs.leads_from.Goals as goal
use Rattle.slots.proofs.leads_from.Goals.{then-ordinary_at, else-ordinary_at+then-i-gt0, else-ordinary_at+else-i-gt0}

pub returns-then-not-marker_at : goal.returns-then-not-marker_at
returns-then-not-marker_at c =
    let s = c.args.s.now in
    let p = c.args.p in
    let i = c.loop-i.i in
    let t = tuple_at s (p + tuple_size * i) in
    let is = c.ordinary_at.ensures in
    let goes : c.if-ordinary_at.value ≡ ordinary t || (ltb 0 i && marker t) =
    elim c.if-ordinary_at.branch [
      | then-ordinary_at w ↦ w.value-is ∙ w.if-ordinary_at.true ∙ (λ j. (sym w.if-ordinary_at.true ∙ is) j || (ltb 0 i && marker t))
      | else-ordinary_at+then-i-gt0 w ↦ w.value-is ∙ (λ j. (sym w.if-ordinary_at.false ∙ is) j || (sym (lt-ltb 0 i w.if-i-gt0.true) j && w.marker_at.ensures j))
      | else-ordinary_at+else-i-gt0 w ↦ w.value-is ∙ le-ltb 0 i (omega arith) ∙ (λ j. (sym w.if-ordinary_at.false ∙ is) j || (sym (le-ltb 0 i (omega arith)) j && marker t))
    ] in
    leads_not s p (i + 1) c.args.n (omega arith) (leads_at s p i c.loop-i.invariant (sym c.if-not-marker_at.true ∙ goes))

pub loop-i-preserved : goal.loop-i-preserved
loop-i-preserved c =
    let s = c.args.s.now in
    let p = c.args.p in
    let i = c.loop-i.i in
    let t = tuple_at s (p + tuple_size * i) in
    let is = c.ordinary_at.ensures in
    let goes : c.if-ordinary_at.value ≡ ordinary t || (ltb 0 i && marker t) =
    elim c.if-ordinary_at.branch [
      | then-ordinary_at w ↦ w.value-is ∙ w.if-ordinary_at.true ∙ (λ j. (sym w.if-ordinary_at.true ∙ is) j || (ltb 0 i && marker t))
      | else-ordinary_at+then-i-gt0 w ↦ w.value-is ∙ (λ j. (sym w.if-ordinary_at.false ∙ is) j || (sym (lt-ltb 0 i w.if-i-gt0.true) j && w.marker_at.ensures j))
      | else-ordinary_at+else-i-gt0 w ↦ w.value-is ∙ le-ltb 0 i (omega arith) ∙ (λ j. (sym w.if-ordinary_at.false ∙ is) j || (sym (le-ltb 0 i (omega arith)) j && marker t))
    ] in
    sym (leads_at s p i c.loop-i.invariant (sym c.if-not-marker_at.false ∙ goes))

pub returns : goal.returns
returns c = sym (leads_fewer c.args.s.now c.args.p c.args.n c.loop-i.i (omega arith) c.loop-i.invariant)
