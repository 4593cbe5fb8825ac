-- An input that is read in two parts, a whole page and the rest, is listed as the whole input is checked, as
-- specs/Laws.antt states it. Assumes nothing.
use mathlib.Core.Path.{◌≡◌}
use mathlib.Core.Bool.{false}
use Prim.Native.Nat.{◌<◌}
use native.Mathlib.Decide.{dec_le}
use native.Mathlib.Omega.{arith}
use borrow.Author.Tests.{ne_eqb}
use lib.ListN.{length, drop, length-drop, drop_of_length-le}
use lib.Seq.{take_all}
use lib.Dec.{eqb}
use Rattle.numbers.specs.Bytes.{Bytes}
use Rattle.numbers.proofs.Bools.{never}
use Rattle.std.specs.declared.result.Result.TheVariants.{Err}
use Rattle.answers.specs.declared.Refusal.TheVariants.{BadLayout}
use Rattle.pages.specs.Pages.{keeps_layout, check_over, check_page}
use Rattle.pages.proofs.RoundTrip.{laid}
use Rattle.listing_text.specs.Listing.{listing}
use Rattle.listing_text.specs.Laws.{page_size, WholeLaw}

too_long : (s : Bytes) → page_size < length s → check_page s ≡ Err BadLayout
unfolding check_over
too_long s h = rw (never (keeps_layout s) (λ e. let v = laid s e in omega (arith, v.whole, v.few)))

pub listing_whole : WholeLaw
unfolding listing
listing_whole s = elim (dec_le (length s) page_size) [
  | yes h ↦ rw (take_all page_size s h, drop_of_length-le s h)
  | no h ↦
      let g : page_size < length s = omega arith in
      let n : eqb (length (drop page_size s)) 0 ≡ false = ne_eqb (length (drop page_size s)) 0 (λ e. omega (arith, length-drop page_size s)) in
      rw (n, too_long s g)
]
