-- `page_renames::pair_rises` meets its contract. Assumes nothing.
use mathlib.Core.Path.{◌∙◌, sym, ap}
use Prim.Native.Nat.{◌-◌, ◌/◌, ◌<◌}
use native.Mathlib.Omega.{arith}
use lib.ListN.{length}
use Rattle.names.specs.Ordering.{compare_rows}
use Rattle.std.specs.Ordering.{is_lt}
use Rattle.slots.specs.Slots.{slot_size}
use Rattle.pages.specs.Pages.{names_of}
use Rattle.pages.proofs.SlotBySlot.{length_names}
use Rattle.name_renames.specs.Renaming.{take_back}
use Rattle.page_renames.proofs.PageWalk.{slot_name, slot_keeps}
use Rattle.page_renames.proofs.BackPairs.{means}
use Rattle.page_renames.proofs.pair_rises.Goals as goal

pub backs_rise-requires-clause-first_value : goal.backs_rise-requires-clause-first_value
backs_rise-requires-clause-first_value c =
    let s = c.args.page.now in
    let i = c.args.i in
    let e = c.as_chunks.ensures.front in
    let h : i < length c.as_chunks.result.0.now = omega (arith, c.requires.3, c.as_chunks.ensures.front_len, length_names s (length s / slot_size)) in
    (slot_keeps s (i - 1) e (omega arith) c.requires.0, slot_keeps s i e h c.requires.0, c.requires.1)

pub backs_rise-requires-clause-stands : goal.backs_rise-requires-clause-stands
backs_rise-requires-clause-stands c =
    let s = c.args.page.now in
    let i = c.args.i in
    let g = c.args.log.now in
    let e = c.as_chunks.ensures.front in
    let first = means g c.args.author c.requires.1 _ c.back_of-last.ensures (c.span_of.ensures.1 ∙ sym (slot_name s (i - 1) e)) in
    let second = means g c.args.author c.requires.1 _ c.back_of-here.ensures (c.span_of-2.ensures.1 ∙ sym (slot_name s i e)) in
    (first.0, second.0)

pub returns : goal.returns
returns c =
    let s = c.args.page.now in
    let i = c.args.i in
    let g = c.args.log.now in
    let author = c.args.author in
    let f = take_back author (names_of g) in
    let e = c.as_chunks.ensures.front in
    let one = slot_name s (i - 1) e in
    let two = slot_name s i e in
    let first = (means g author c.requires.1 _ c.back_of-last.ensures (c.span_of.ensures.1 ∙ sym one)).1 ∙ ap f one in
    let second = (means g author c.requires.1 _ c.back_of-here.ensures (c.span_of-2.ensures.1 ∙ sym two)).1 ∙ ap f two in
    c.backs_rise.ensures ∙ (λ k. is_lt (compare_rows (first k) (second k)))
