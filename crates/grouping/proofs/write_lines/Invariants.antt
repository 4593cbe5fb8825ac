-- `grouping::write_lines` meets its contract. Assumes nothing.
use mathlib.Core.List.{List, map}
use Prim.Native.Nat.{ℕ}
use Rattle.numbers.specs.Bytes.{Bytes, bytes32}
use Rattle.pages.specs.Pages.{slots_of}
use Rattle.groups.specs.Groups.{line_size}
use Rattle.grouping.proofs.PiecesFrom.{Writing}
use Rattle.grouping.proofs.LinesWritten.{lines_from}
use Rattle.grouping.proofs.write_lines.Given as goal

-- the line numbers that are to be written
abbrev pub line_pieces : Bytes → ℕ → ℕ → List Bytes
line_pieces page k n = map bytes32 (lines_from (slots_of page) k n)

abbrev pub invariant-loop-i : goal.invariant-loop-i
invariant-loop-i l = Writing line_size l.p (line_pieces l.page l.k l.n) l.initial.out l.out l.i
