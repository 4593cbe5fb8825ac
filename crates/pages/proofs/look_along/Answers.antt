use Rattle.std.proofs.Common.{ℕ, ◌+◌, ◌≤◌, true, [], length, refl, sym, ap, ◌∙◌, arith}
use Rattle.std.specs.declared.slice.ChunksExact.{ChunksExact}
use Rattle.names.specs.Ordering.{Row}
use Rattle.names.specs.Names.{is_name}
use Rattle.numbers.specs.Bytes.{Bytes}
use Rattle.slots.specs.Tuples.{tuples_at}
use Rattle.slots.specs.Slots.{head_size, size_over}
use Rattle.slots.specs.Looks.{seen}
use Rattle.slots.proofs.NameTests.{leads_name, name_over_lem}
use Rattle.slots.proofs.LookedAt.{keeps_name}
use Rattle.pages.specs.Pages.{parts_over}
use Rattle.pages.proofs.LookedAlong.{told, told_first, told_turn, told_last, long, GoesOn, falls, climbs}
use Rattle.pages.proofs.look_along.Goals as goal
use Rattle.pages.proofs.look_along.Goals.{in-NotRising, in-Rising}

pub loop-slot-init : goal.loop-slot-init
loop-slot-init c =
    let room = c.args.room in
    let gives = c.into_iter-slot-iterator.ensures.into_iter_gives in
    let left = ap (λ (x : ChunksExact ℕ). x.rest.now) gives ∙ c.chunks_exact-slot-items.ensures.rest in
    let whole = ap length left in (
      ap (λ (x : ChunksExact ℕ). x.size) gives ∙ c.chunks_exact-slot-items.ensures.size,
      λ h. omega arith,
      refl,
      ap (λ (s : Bytes). told room true [] (parts_over room s)) left ∙ told_first room c.args.page.now,
    )

pub look_after-requires-clause-n_in_bounds : goal.look_after-requires-clause-n_in_bounds
look_after-requires-clause-n_in_bounds c =
    let room = c.args.room in
    let step = c.in-Some.ensures.steps in
    let size = step.1.1 ∙ c.loop-slot.invariant.0 in
    let some = long room true [] c.loop-slot.slot-iterator.rest.now c.in-Some.slot.now c.next.new.self.rest.now step.1.0 size in
    (c.loop-slot.invariant.1 some, c.loop-slot.invariant.2)

pub returns-in-Broken : goal.returns-in-Broken
returns-in-Broken c =
    let room = c.args.room in
    let step = c.in-Some.ensures.steps in
    let size = step.1.1 ∙ c.loop-slot.invariant.0 in
    let a = tuples_at c.loop-slot.before.now head_size c.loop-slot.n in
    told_turn room c.loop-slot.rising a c.loop-slot.slot-iterator.rest.now c.in-Some.slot.now c.next.new.self.rest.now step.1.0 size c.in-Broken.ensures
    ∙ c.loop-slot.invariant.3

pub loop-slot-preserved : goal.loop-slot-preserved
loop-slot-preserved c =
    let room = c.args.room in
    let slot = c.in-Some.slot.now in
    let after = c.next.new.self.rest.now in
    let s = c.loop-slot.slot-iterator.rest.now in
    let b = c.loop-slot.rising in
    let step = c.in-Some.ensures.steps in
    let size = step.1.1 ∙ c.loop-slot.invariant.0 in
    let a = tuples_at c.loop-slot.before.now head_size c.loop-slot.n in
    let r = c.match-look_after.rising in
    let on : GoesOn room b a s slot after step.1.0 size r =
    elim c.match-look_after.branch [
      | in-NotRising w ↦ falls room b a s slot after step.1.0 size r w.in-NotRising.ensures w.rising-is
      | in-Rising w ↦ climbs room b a s slot after step.1.0 size r w.in-Rising.ensures w.rising-is
    ] in
    let n = c.depth_over-n.result in
    let name = name_over_lem room slot n c.depth_over-n.ensures in
    let named = ap is_name name ∙ keeps_name room slot on.0 in
    (step.0 ∙ c.loop-slot.invariant.0, λ h. omega arith, leads_name slot head_size n named, ap (λ (x : Row). told room r x (parts_over room after)) name ∙ on.1 ∙ c.loop-slot.invariant.3)

pub returns-then-rising : goal.returns-then-rising
returns-then-rising c =
    let few : length c.loop-slot.slot-iterator.rest.now + 1 ≤ size_over c.args.room = omega (arith, c.in-None.ensures.steps.1.0, c.loop-slot.invariant.0) in
    ap (seen true) (sym c.if-rising.true)
    ∙ told_last c.args.room c.loop-slot.rising (tuples_at c.loop-slot.before.now head_size c.loop-slot.n) c.loop-slot.slot-iterator.rest.now (omega arith)
    ∙ c.loop-slot.invariant.3

pub returns-else-rising : goal.returns-else-rising
returns-else-rising c =
    let few : length c.loop-slot.slot-iterator.rest.now + 1 ≤ size_over c.args.room = omega (arith, c.in-None.ensures.steps.1.0, c.loop-slot.invariant.0) in
    ap (seen true) (sym c.if-rising.false)
    ∙ told_last c.args.room c.loop-slot.rising (tuples_at c.loop-slot.before.now head_size c.loop-slot.n) c.loop-slot.slot-iterator.rest.now (omega arith)
    ∙ c.loop-slot.invariant.3
