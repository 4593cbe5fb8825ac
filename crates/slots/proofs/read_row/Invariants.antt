-- `slots::read_row` meets its contract. Assumes nothing.
use Rattle.std.proofs.Common.{◌≡◌, ℕ, ◌+◌, ◌*◌, ◌<◌, length, get_or}
use Rattle.names.specs.Names.{m, limit}
use Rattle.slots.specs.Tuples.{tuple_at, tuple_size}
use Rattle.slots.proofs.read_row.Given as goal

abbrev pub invariant-loop-k : goal.invariant-loop-k
invariant-loop-k l = (length l.tuples ≡ limit) × ((j : ℕ) → j < l.k → get_or l.tuples j m ≡ tuple_at l.s (l.p + tuple_size * j))
