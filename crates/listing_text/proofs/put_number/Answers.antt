-- `listing_text::put_number` meets its contract. Assumes nothing.
use mathlib.Core.List.{[], ◌∷◌}
use Prim.Native.Nat.{◌≤◌}
use lib.ListN.{length}
use native.Mathlib.Omega.{arith}
use Rattle.listing_text.specs.Listing.{decimal}
use Rattle.listing_text.proofs.Wrote.{wrote_more}
use Rattle.listing_text.proofs.put_number.Goals as goal

pub returns : goal.returns
returns c =
    let h : c.args.p ≤ length c.args.out.now = omega arith in
    let digits = decimal c.args.n in
    record {
      value = wrote_more c.args.out.now c.args.p h digits (c.args.after ∷ []) c.put_decimal-q.ensures.value c.put_byte.ensures;
      upper_bound = omega arith;
    }
