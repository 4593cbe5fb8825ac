-- `listing_text::put_offset` meets its contract. Assumes nothing.
use mathlib.Core.Path.{◌≡◌, ◌∙◌, sym, ap}
use mathlib.Core.List.{◌++◌}
use mathlib.Core.Bool.{true, false}
use Prim.Native.Nat.{ℕ, ◌≤◌}
use native.Mathlib.Omega.{arith}
use lib.IntN.{nat_abs}
use lib.ListN.{length}
use mir.Syntax.{w32}
use mir.ValLaws.{to_z-of_z}
use Rattle.std.specs.Int.{is_negative}
use Rattle.listing_text.specs.Ascii.{ascii}
use Rattle.listing_text.specs.Listing.{decimal}
use Rattle.listing_text.proofs.Texts.{offset_high, offset_low}
use Rattle.listing_text.proofs.Wrote.{wrote_more, wrote_as}
use Rattle.listing_text.proofs.put_offset.Goals as goal

pub returns-then-not-is_negative-clause-value : goal.returns-then-not-is_negative-clause-value
returns-then-not-is_negative-clause-value c =
    let z = c.args.z in
    let e = to_z-of_z w32 z c.ranges.z in
    let m : c.unsigned_abs.result ≡ nat_abs z = c.unsigned_abs.ensures.value ∙ ap nat_abs e in
    let high : is_negative z ≡ false = ap is_negative (sym e) ∙ sym c.is_negative.ensures ∙ c.if-not-is_negative.true in
    wrote_as c.args.out.now c.args.p (ap decimal m ∙ offset_high z high) c.put_decimal.ensures.value

pub returns-clause-value : goal.returns-clause-value
returns-clause-value c =
    let o = c.args.out.now in
    let p = c.args.p in
    let h : p ≤ length o = omega arith in
    let z = c.args.z in
    let e = to_z-of_z w32 z c.ranges.z in
    let m : c.unsigned_abs-2.result ≡ nat_abs z = c.unsigned_abs-2.ensures.value ∙ ap nat_abs e in
    let low : is_negative z ≡ true = ap is_negative (sym e) ∙ sym c.is_negative.ensures ∙ c.if-not-is_negative.false in
    let w = wrote_more o p h (ascii "-") (decimal c.unsigned_abs-2.result) c.put_byte-q.ensures c.put_decimal-2.ensures.value in
    wrote_as o p (ap (λ (k : ℕ). ascii "-" ++ decimal k) m ∙ offset_low z low) w
