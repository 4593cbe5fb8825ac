-- `listing_text::put_decimal` meets its contract. Assumes nothing.
use mathlib.Core.Path.{sym}
use mathlib.Core.List.{[], ◌∷◌}
use lib.ListN.{length}
use native.Mathlib.Omega.{arith}
use Prim.Native.Nat.{◌/◌, ◌≤◌}
use Rattle.listing_text.specs.Listing.{decimal}
use Rattle.listing_text.proofs.Digits.{last, decimal_one, decimal_more, nine_before}
use Rattle.listing_text.proofs.Wrote.{wrote_more, wrote_as}
use Rattle.listing_text.proofs.+put_decimal.Goals as goal

pub returns-then-n-lt10-clause-value : goal.returns-then-n-lt10-clause-value
returns-then-n-lt10-clause-value t c =
    let e = decimal_one c.args.n c.if-n-lt10.true in
    wrote_as c.args.out.now c.args.p (sym e) c.put_byte.ensures

pub put_byte-requires-2 : goal.put_byte-requires-2
put_byte-requires-2 t c = omega (arith, nine_before c.args.n (omega arith))

pub returns-clause-value : goal.returns-clause-value
returns-clause-value t c =
    let o = c.args.out.now in
    let p = c.args.p in
    let n = c.args.n in
    let h : p ≤ length o = omega arith in
    let e = decimal_more n c.if-n-lt10.false in
    let w = wrote_more o p h (decimal (n / 10)) (last n ∷ []) c.put_decimal-q.ensures.value c.put_byte-2.ensures in
    wrote_as o p (sym e) w

pub returns-clause-upper_bound : goal.returns-clause-upper_bound
returns-clause-upper_bound t c = omega (arith, nine_before c.args.n (omega arith))
