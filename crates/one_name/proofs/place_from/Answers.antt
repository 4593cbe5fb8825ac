use mathlib.Core.Path.{◌≡◌, ◌∙◌, sym, ap}
use mathlib.Core.List.{[]}
use Prim.Native.Nat.{◌/◌, ◌<◌}
use native.Mathlib.Omega.{arith}
use lib.ListN.{length, get_or}
use Rattle.std.specs.declared.cmp.Ordering.{Ordering}
use Rattle.names.specs.Ordering.{Row, compare_rows}
use Rattle.slots.specs.Tuples.{row_at}
use Rattle.names.proofs.Laws.{rising_Rising, less_row, same_row, more_row}
use Rattle.slots.specs.Slots.{slot_size}
use Rattle.pages.specs.Pages.{names_of}
use Rattle.pages.proofs.SlotBySlot.{length_names}
use Rattle.pages.proofs.FindByHalving.{found, missed, to_left, to_right}
use Rattle.one_name.proofs.PlaceInLog.{below_before, below_within}
use Rattle.one_name.proofs.place_from.Goals as goal

-- the name at k compares with x as o
compared : {a : Row} {o r : Ordering} (b x : Row) → a ≡ b → r ≡ compare_rows a x → r ≡ o → compare_rows b x ≡ o
compared b x e f g = ap (λ (c : Row). compare_rows c x) (sym e) ∙ sym f ∙ g

pub loop-k-init : goal.loop-k-init
loop-k-init c =
    let log = names_of c.args.log.now in
    let h = c.requires.2 in
    λ i k. below_before (row_at c.args.s.now c.args.x) log (rising_Rising log c.requires.0) i (omega arith)

pub loop-k-preserved : goal.loop-k-preserved
loop-k-preserved c =
    let s = c.args.log.now in
    let x = row_at c.args.s.now c.args.x in
    let k = c.loop-k.k in
    let h : k < length (names_of s) = omega (arith, c.loop-k-test.true, length_names s (length s / slot_size)) in
    let told = compared (get_or (names_of s) k []) x c.span_of-r.ensures.1 c.compare_rows.ensures c.in-Less.is in
    to_left (rising_Rising (names_of s) c.requires.0) k h (less_row (get_or (names_of s) k []) x told)

pub returns-in-Equal : goal.returns-in-Equal
returns-in-Equal c =
    let s = c.args.log.now in
    let x = row_at c.args.s.now c.args.x in
    let k = c.loop-k.k in
    let h : k < length (names_of s) = omega (arith, c.loop-k-test.true, length_names s (length s / slot_size)) in
    let told = compared (get_or (names_of s) k []) x c.span_of-r.ensures.1 c.compare_rows.ensures c.in-Equal.is in
    found x (names_of s) k (rising_Rising (names_of s) c.requires.0) h (same_row (get_or (names_of s) k []) x told)

pub returns-in-Greater : goal.returns-in-Greater
returns-in-Greater c =
    let s = c.args.log.now in
    let x = row_at c.args.s.now c.args.x in
    let k = c.loop-k.k in
    let h : k < length (names_of s) = omega (arith, c.loop-k-test.true, length_names s (length s / slot_size)) in
    let told = compared (get_or (names_of s) k []) x c.span_of-r.ensures.1 c.compare_rows.ensures c.in-Greater.is in
    missed x (names_of s) k (omega arith) c.loop-k.invariant (to_right (rising_Rising (names_of s) c.requires.0) k h (more_row (get_or (names_of s) k []) x told))

pub returns : goal.returns
returns c =
    let s = c.args.log.now in
    let x = row_at c.args.s.now c.args.x in
    let n = length s / slot_size in
    let l = length_names s n in
    let w = below_within x (names_of s) (rising_Rising (names_of s) c.requires.0) in
    let e : c.loop-k.k ≡ n = omega (arith, c.loop-k-test.false, c.loop-k.auto.k-end, c.requires.2) in
    missed x (names_of s) n (omega arith) (λ i p. c.loop-k.invariant i (omega (arith, e))) (λ i p q. absurd (omega arith))
