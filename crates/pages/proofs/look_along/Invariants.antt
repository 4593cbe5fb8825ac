-- `pages::look_along` meets its contract. Assumes nothing.
use Rattle.std.proofs.Common.{◌≡◌, ◌+◌, ◌*◌, ◌≤◌, true, length}
use Rattle.std.specs.List.{list_all}
use Rattle.slots.specs.Tuples.{tuples_at, tuple_size}
use Rattle.slots.specs.Slots.{head_size, size_over, keeps_over}
use Rattle.slots.specs.Looks.{leads, seen}
use Rattle.pages.specs.Pages.{parts_over, rises_over}
use Rattle.pages.proofs.LookedAlong.{told}
use Rattle.pages.proofs.look_along.Given as goal

-- before the first slot, the page itself stands for the slot before, with no tuples
abbrev pub invariant-loop-slot : goal.invariant-loop-slot
invariant-loop-slot l =
    (l.slot-iterator.size ≡ size_over l.room)
    × (size_over l.room ≤ length l.slot-iterator.rest.now → head_size + tuple_size * l.n ≤ length l.before)
    × (leads (tuples_at l.before head_size l.n) ≡ true)
    × (told l.room l.rising (tuples_at l.before head_size l.n) (parts_over l.room l.slot-iterator.rest.now) ≡ seen (list_all (keeps_over l.room) (parts_over l.room l.page)) (rises_over l.room l.page))
