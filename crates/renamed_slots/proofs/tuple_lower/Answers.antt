-- `renamed_slots::tuple_lower` meets its contract. Assumes nothing.
use mathlib.Core.Path.{◌≡◌, ◌∙◌, sym, ap}
use mathlib.Core.List.{[]}
use Prim.Native.Nat.{◌-◌}
use native.Mathlib.Omega.{arith}
use lib.ListN.{length, get_or}
use lib.Signed.{non_neg}
use Rattle.names.specs.Ordering.{Row}
use Rattle.names.specs.Names.{lowered, m}
use Rattle.pages.specs.Pages.{names_of}
use Rattle.one_name.proofs.CheckedLog.{log_named}
use Rattle.renamed_slots.proofs.ReadTuples.{count_of, last_natural, lowered_before, lowered_at}
use Rattle.renamed_slots.proofs.tuple_lower.Goals as goal

pub returns-then-i-r : goal.returns-then-i-r
returns-then-i-r c =
    let x = c.args in
    let row = c.requires.3 in
    let n = count_of x.log.now x.r row in
    let a = get_or (names_of x.log.now) x.k [] in
    c.tuple_of-t.ensures ∙ ap (λ (b : Row). get_or b x.i m) row ∙ sym (lowered_before a x.i m (omega (arith, c.if-i-r.true)))

pub one_lower-requires : goal.one_lower-requires
one_lower-requires c =
    let x = c.args in
    let log = x.log.now in
    let row = c.requires.3 in
    let n = count_of log x.r row in
    let a = get_or (names_of log) x.k [] in
    let last : x.i ≡ length a - 1 = omega (arith, c.if-i-r.false, c.requires.4) in
    (λ i. non_neg ((c.tuple_of-t.ensures ∙ (λ j. get_or (row j) (last j) m)) i).offset) ∙ last_natural a (log_named log x.k c.requires.0 c.requires.1)

pub returns : goal.returns
returns c =
    let x = c.args in
    let row = c.requires.3 in
    let n = count_of x.log.now x.r row in
    let a = get_or (names_of x.log.now) x.k [] in
    c.one_lower.ensures
    ∙ ap lowered (c.tuple_of-t.ensures ∙ ap (λ (b : Row). get_or b x.i m) row)
    ∙ sym (lowered_at a x.i m (omega (arith, c.requires.4)) (omega (arith, c.if-i-r.false)))
