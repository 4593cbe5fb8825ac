-- `listing_text::put_tuple` meets its contract. Assumes nothing.
use mathlib.Core.List.{◌++◌}
use Prim.Native.Nat.{◌≤◌}
use native.Mathlib.Omega.{arith}
use lib.ListN.{length}
use mir.Syntax.{w32}
use mir.ValLaws.{to_z-of_z}
use Rattle.listing_text.specs.Ascii.{ascii}
use Rattle.listing_text.specs.Listing.{decimal, decimal_ℤ, tuple_text}
use Rattle.listing_text.proofs.Wrote.{wrote_more, wrote_two, wrote_as}
use borrow.Author.Rules.{rules}
use Rattle.listing_text.proofs.put_tuple.Goals as goal

pub returns : goal.returns
unfolding tuple_text
returns c =
    let o = c.args.out.now in
    let p = c.args.p in
    let h : p ≤ length o = omega arith in
    let t = c.args.t in
    let w₁ = decimal c.from.result ++ ascii "." in
    let w₂ = w₁ ++ decimal c.from-2.result ++ ascii "." in
    let w₃ = w₂ ++ decimal t.sequence ++ ascii "." in
    let e₂ = wrote_two o p h w₁ (decimal c.from-2.result) (ascii ".") c.put_number-node.ensures.value c.put_number-sequence.ensures.value in
    let e₃ = wrote_two o p h w₂ (decimal t.sequence) (ascii ".") e₂ c.put_number-offset.ensures.value in
    let e₄ = wrote_more o p h w₃ _ e₃ c.put_offset.ensures.value in
    let z = to_z-of_z w32 t.offset (search rules) in
    record {
      value =
          wrote_as o p
          (λ i.
          decimal (c.from.ensures i) ++ ascii "." ++ decimal (c.from-2.ensures i) ++ ascii "." ++ decimal t.sequence ++ ascii "."
          ++ decimal_ℤ (z i))
          e₄;
      upper_bound = omega arith;
    }
