use mathlib.Core.Path.{◌∙◌, ap}
use mathlib.Core.List.{List, [], ◌++◌}
use Prim.Native.Nat.{◌/◌, ◌<◌}
use native.Mathlib.Omega.{arith}
use lib.ListN.{length, take, get_or}
use lib.Seq.{take_all}
use Rattle.numbers.specs.Bytes.{Bytes}
use Rattle.slots.specs.Slots.{slot_size, slot_of}
use Rattle.pages.specs.Pages.{slots_of}
use Rattle.pages.proofs.SlotBySlot.{length_slots, length_parts}
use Rattle.pages.proofs.RoundTrip.{laid}
use Rattle.listing_text.specs.Listing.{lines_text, line_text}
use Rattle.listing_text.proofs.Lines.{lines_more, kept_at}
use Rattle.listing_text.proofs.Wrote.{wrote_more, wrote_as}
use Rattle.listing_text.proofs.put_lines.Goals as goal

pub put_line-q-requires : goal.put_line-q-requires
put_line-q-requires c =
    let s = c.args.page.now in
    let many = length_parts (length s / slot_size) s in
    let h : c.loop-k.k < length s / slot_size = omega arith in
    let v = kept_at s c.loop-k.k h (laid s c.requires.0).good in
    rw c.as_chunks.ensures.front (v.long, v.deep, omega arith)

pub loop-k-preserved : goal.loop-k-preserved
loop-k-preserved c =
    let s = c.args.page.now in
    let k = c.loop-k.k in
    let many = length_parts (length s / slot_size) s in
    let h : k < length s / slot_size = omega arith in
    let line = ap (λ (l : List Bytes). line_text (slot_of (get_or l k []))) c.as_chunks.ensures.front in
    let w = wrote_more c.args.out.now c.args.p (omega arith) (lines_text (take k (slots_of s))) _ c.loop-k.invariant.1 c.put_line-q.ensures.value in
    (omega arith, wrote_as c.args.out.now c.args.p (ap (λ (x : Bytes). lines_text (take k (slots_of s)) ++ x) line ∙ lines_more s k h) w)

pub returns : goal.returns
returns c =
    let s = c.args.page.now in
    let many = length_parts (length s / slot_size) s in
    let all = take_all c.loop-k.k (slots_of s) (omega (arith, length_slots s)) in
    record {
      value = wrote_as c.args.out.now c.args.p (ap lines_text all) c.loop-k.invariant.1;
      upper_bound = omega arith;
    }
