-- `listing_text::put_refused` meets its contract. Assumes nothing.
use Prim.Native.Nat.{◌≤◌}
use lib.ListN.{length}
use native.Mathlib.Omega.{arith}
use Rattle.listing_text.specs.Ascii.{ascii}
use Rattle.listing_text.specs.Listing.{decimal, refused_text}
use Rattle.listing_text.proofs.Wrote.{wrote_two}
use Rattle.listing_text.proofs.put_refused.Goals as goal

pub returns : goal.returns
unfolding refused_text
returns c =
    let o = c.args.out.now in
    let h : c.args.p ≤ length o = omega arith in
    let digits = decimal c.args.n in
    record {
      value = wrote_two o c.args.p h (ascii "refused ") digits (ascii "\n") c.put_bytes-q.ensures c.put_number.ensures.value;
      upper_bound = omega arith;
    }
