-- `listing_text::put_lines` meets its contract. The loop's invariant: the lines of the first slots are written. Assumes nothing.
use Prim.Native.Nat.{◌+◌, ◌*◌, ◌≤◌}
use lib.ListN.{take}
use Rattle.pages.specs.Pages.{slots_of}
use Rattle.listing_text.specs.Listing.{lines_text, line_room}
use Rattle.listing_text.proofs.Wrote.{Wrote}
use Rattle.listing_text.proofs.put_lines.Given as goal

abbrev pub invariant-loop-k : goal.invariant-loop-k
invariant-loop-k l =
    (l.q ≤ l.p + line_room * l.k) × Wrote l.initial.out l.p (lines_text (take l.k (slots_of l.page))) l.q l.out
