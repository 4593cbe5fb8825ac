-- `grouping::write_lines` meets its contract. Assumes nothing.
use mathlib.Core.Path.{◌≡◌, refl, sym, ap, ◌∙◌}
use Prim.Native.Nat.{ℕ, ◌+◌, ◌*◌, ◌≤◌}
use native.Mathlib.Omega.{arith}
use lib.ListN.{length, length-map}
use Rattle.numbers.specs.Bytes.{Bytes, bytes32}
use Rattle.pages.specs.Pages.{slots_of}
use Rattle.pages.proofs.SlotBySlot.{length_slots}
use Rattle.groups.specs.Groups.{line_size}
use Rattle.grouping.proofs.PiecesFrom.{writing_on, writing_end}
use Rattle.grouping.proofs.LinesWritten.{lines_from, length_lines, line_of, line_piece}
use Rattle.grouping.proofs.write_lines.Goals as goal
use Rattle.grouping.proofs.write_lines.Invariants.{line_pieces}

many : (page : Bytes) (k n : ℕ) → k + n ≤ length (slots_of page) → length (line_pieces page k n) ≡ n
many page k n h = length-map (lines_from (slots_of page) k n) bytes32 ∙ length_lines (slots_of page) k n h

pub overflow_add-k : goal.overflow_add-k
overflow_add-k c = omega (arith, length_slots c.args.page.now)

pub overflow_mul-k : goal.overflow_mul-k
overflow_mul-k c = omega (arith, length_slots c.args.page.now)

pub overflow_add-k-in-loop-i : goal.overflow_add-k-in-loop-i
overflow_add-k-in-loop-i c = omega (arith, length_slots c.args.page.now)

pub read_u32-line-requires : goal.read_u32-line-requires
read_u32-line-requires c = omega (arith, length_slots c.args.page.now)

pub loop-i-preserved : goal.loop-i-preserved
loop-i-preserved c =
    let s = c.args.page.now in
    let k = c.args.k in
    let n = c.args.n in
    let p = c.args.p in
    let i = c.loop-i.i in
    let line = c.read_u32-line.result in
    let v = c.loop-i.invariant in
    let room = v.room in
    let m = many s k n c.requires.0 in
    let is = line_piece (lines_from (slots_of s) k n) i ∙ ap bytes32 (sym (line_of s k n i c.requires.0 c.loop-i-test.true) ∙ sym c.read_u32-line.ensures) in
    writing_on v (omega arith) (bytes32 0) (bytes32 line) is refl c.write_u32.new.out (p + line_size * i) refl (omega arith) c.write_u32.ensures

pub returns : goal.returns
returns c =
    let m = many c.args.page.now c.args.k c.args.n c.requires.0 in
    writing_end c.loop-i.invariant (omega arith)
