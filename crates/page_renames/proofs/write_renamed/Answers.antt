use mathlib.Core.Path.{◌∙◌, sym, ap, subst}
use mathlib.Core.List.{List, []}
use Prim.Native.Nat.{◌*◌, ◌/◌, ◌<◌, ◌≤◌}
use native.Mathlib.Omega.{arith}
use lib.ListN.{length, get_or}
use Rattle.names.specs.Ordering.{Row}
use Rattle.numbers.specs.Bytes.{Bytes, put}
use Rattle.names.specs.Names.{fits}
use Rattle.slots.specs.Slots.{slot_size, line_of, name_of, slot_of, slot_bytes}
use Rattle.pages.specs.Pages.{names_of}
use Rattle.pages.specs.Places.{below}
use Rattle.name_renames.specs.Renaming.{rename}
use Rattle.one_name.proofs.RenamedByChange.{renamed}
use Rattle.page_renames.specs.Renames.{carry}
use Rattle.page_renames.proofs.PageWalk.{slot_name, slot_keeps, walked}
use Rattle.page_renames.proofs.SlotBySlot.{standing_first, standing_last, standing_on, fit}
use Rattle.page_renames.proofs.write_renamed.Goals as goal

pub walk-walked-requires : goal.walk-walked-requires
walk-walked-requires c =
    let l = names_of c.args.log.now in
    let x = c.span_of.ensures in
    let h : c.loop-i.i < length c.args.page.now / slot_size = omega (arith, c.loop-i-test.true, c.as_chunks.ensures.front_len) in
    (c.requires.page_value.2, x.0, subst (λ (a : Row). c.loop-i.below ≤ below a l) (sym x.1) (c.loop-i.invariant.1 h))

pub write_changed-requires : goal.write_changed-requires
write_changed-requires c =
    let s = c.args.page.now in
    let l = names_of c.args.log.now in
    let author = c.args.author in
    let f = rename author l in
    let i = c.loop-i.i in
    let slots = c.as_chunks.result.0.now in
    let e = c.as_chunks.ensures.front in
    let h : i < length s / slot_size = omega (arith, c.loop-i-test.true, c.as_chunks.ensures.front_len) in
    let name = slot_name s i e in
    let is = renamed author l (name_of (get_or slots i [])) (name ∙ sym c.span_of.ensures.1) c.walk-walked.ensures.1 c.change_of-change.ensures in
    let fits-here = ap fits is ∙ ap (λ (a : Row). fits (f a)) name ∙ fit f s i h c.requires.page_value_2 in
    (omega (arith, c.loop-i.auto.out), slot_keeps s i e (omega (arith, c.loop-i-test.true)) c.requires.page_value.0, fits-here)

pub loop-i-preserved : goal.loop-i-preserved
loop-i-preserved c =
    let s = c.args.page.now in
    let l = names_of c.args.log.now in
    let author = c.args.author in
    let f = rename author l in
    let i = c.loop-i.i in
    let h : i < length s / slot_size = omega (arith, c.loop-i-test.true, c.as_chunks.ensures.front_len) in
    let o = c.loop-i.out in
    let d = get_or c.as_chunks.result.0.now i [] in
    let e = c.as_chunks.ensures.front in
    let w = c.walk-walked in
    let name = c.span_of.ensures.1 in
    let is = renamed author l (name_of d) (slot_name s i e ∙ sym name) w.ensures.1 c.change_of-change.ensures in
    let wrote =
    c.write_changed.ensures
    ∙ ap (λ (a : Row). put o (slot_size * i) (slot_bytes (record { line = line_of d; name = a }))) is
    ∙ ap (λ (x : List Bytes). put o (slot_size * i) (slot_bytes (carry f (slot_of (get_or x i []))))) e in
    let r : length s ≤ length o = omega (arith, c.loop-i.auto.out) in
    let stands = standing_on f s i h c.requires.page_value_2 o c.write_changed.new.out r wrote ∙ c.loop-i.invariant.0 in
    let b : w.result.below ≤ below (get_or (names_of s) i []) l = omega (arith, w.ensures.0, ap (λ (a : Row). below a l) name) in
    (stands, walked s i h l w.result.below c.requires.page_value.1 b)

pub returns : goal.returns
returns c =
    let s = c.args.page.now in
    let f = rename c.args.author (names_of c.args.log.now) in
    let i = c.loop-i.i in
    let last = standing_last f s c.loop-i.out i (omega (arith, c.loop-i-test.false, c.as_chunks.ensures.front_len)) in
    last ∙ c.loop-i.invariant.0 ∙ standing_first f s c.args.out.now
