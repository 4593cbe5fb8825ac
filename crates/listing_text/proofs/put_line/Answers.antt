-- `listing_text::put_line` meets its contract. Assumes nothing.
use mathlib.Core.List.{◌++◌}
use Prim.Native.Nat.{◌≤◌}
use native.Mathlib.Omega.{arith}
use lib.ListN.{length}
use Rattle.slots.specs.Tuples.{tuples_at}
use Rattle.slots.specs.Slots.{head_size}
use Rattle.listing_text.specs.Ascii.{ascii}
use Rattle.listing_text.specs.Listing.{decimal, name_text}
use Rattle.listing_text.proofs.Texts.{line_is}
use Rattle.listing_text.proofs.Wrote.{wrote_more, wrote_two, wrote_as}
use Rattle.listing_text.proofs.put_line.Goals as goal

pub returns : goal.returns
returns c =
    let o = c.args.out.now in
    let p = c.args.p in
    let s = c.args.slot.now in
    let h : p ≤ length o = omega arith in
    let l = c.read_line.result in
    let d = c.depth-d.result in
    let w₁ = decimal l ++ ascii " " in
    let w₂ = w₁ ++ decimal d ++ ascii " " in
    let w₃ = w₂ ++ name_text (tuples_at s head_size d) in
    let e₂ = wrote_two o p h w₁ (decimal d) (ascii " ") c.put_number-depth.ensures.value c.put_number-name.ensures.value in
    let e₃ = wrote_more o p h w₂ (name_text (tuples_at s head_size d)) e₂ c.put_name-end.ensures.value in
    let e₄ = wrote_more o p h w₃ (ascii "\n") e₃ c.put_byte.ensures in
    record {
      value = wrote_as o p (line_is s l d c.read_line.ensures c.depth-d.ensures) e₄;
      upper_bound = omega arith;
    }
