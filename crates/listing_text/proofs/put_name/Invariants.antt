-- `listing_text::put_name` meets its contract. The loop's invariant: the first k tuples are written. Assumes nothing.
use Prim.Native.Nat.{◌+◌, ◌*◌, ◌≤◌}
use lib.ListN.{take}
use Rattle.slots.specs.Tuples.{tuples_at}
use Rattle.listing_text.specs.Listing.{name_text, tuple_room}
use Rattle.listing_text.proofs.Wrote.{Wrote}
use Rattle.listing_text.proofs.put_name.Given as goal

abbrev pub invariant-loop-k : goal.invariant-loop-k
invariant-loop-k l =
    (1 ≤ l.k) × (l.end + 1 ≤ l.p + (tuple_room + 1) * l.k) × Wrote l.fn.out l.p (name_text (take l.k (tuples_at l.s l.at l.n))) l.end l.out
