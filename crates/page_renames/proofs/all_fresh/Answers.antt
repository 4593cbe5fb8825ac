use mathlib.Core.Path.{◌∙◌, ap}
use native.Mathlib.Omega.{arith}
use Rattle.std.specs.List.{list_all}
use Rattle.numbers.specs.Bytes.{Bytes}
use Rattle.slots.specs.Slots.{name_of}
use Rattle.name_renames.specs.Renaming.{fresh}
use Rattle.page_renames.proofs.PageWalk.{slot_keeps, by_slots}
use Rattle.page_renames.proofs.all_fresh.Goals as goal

pub loop-slot-init : goal.loop-slot-init
loop-slot-init c =
    ap (list_all (λ (s : Bytes). fresh c.args.author (name_of s))) c.as_chunks.ensures.front ∙ by_slots (fresh c.args.author) c.args.page.now

pub is_fresh-requires : goal.is_fresh-requires
is_fresh-requires c = slot_keeps c.args.page.now c.loop-slot.slot-index c.as_chunks.ensures.front (omega (arith, c.loop-slot-test.true)) c.requires
