-- `listing_text::list` meets its contract. Assumes nothing.
use mathlib.Core.Path.{◌∙◌, ap}
use native.Mathlib.Nat.{zero-add}
use native.Mathlib.Omega.{arith}
use Rattle.pages.specs.Pages.{slots_of}
use Rattle.pages.proofs.RoundTrip.{laid}
use Rattle.listing_text.specs.Listing.{header, lines_text, refused_text, listing}
use Rattle.listing_text.proofs.Lines.{accepted_layout, accepted_text, refused_text_lem}
use Rattle.listing_text.proofs.Wrote.{wrote_more, wrote_as, wrote_within}
use Rattle.listing_text.proofs.list.Goals as goal

pub put_lines-requires : goal.put_lines-requires
put_lines-requires c =
    let page = c.args.page.now in
    let k = accepted_layout page c.args.rest.now c.check_input.ensures _ c.in-Ok.is in
    (k, omega (arith, (laid page k).few))

pub returns-in-Ok : goal.returns-in-Ok
returns-in-Ok c =
    let page = c.args.page.now in
    let rest = c.args.rest.now in
    let o = c.args.out.now in
    let k = accepted_layout page rest c.check_input.ensures _ c.in-Ok.is in
    let w = wrote_more o 0 (omega arith) header (lines_text (slots_of page)) c.put_header-p.ensures c.put_lines.ensures.value in
    let t = wrote_as o 0 (accepted_text page rest c.check_input.ensures _ c.in-Ok.is) w in
    record {
      value = (t.0 ∙ zero-add _, t.1);
      upper_bound = wrote_within o (listing page rest) t (omega (arith, (laid page k).few));
    }

pub returns-in-Err : goal.returns-in-Err
returns-in-Err c =
    let page = c.args.page.now in
    let rest = c.args.rest.now in
    let o = c.args.out.now in
    let e = ap refused_text c.from.ensures ∙ refused_text_lem page rest c.check_input.ensures _ c.in-Err.is in
    let t = wrote_as o 0 e c.put_refused.ensures.value in
    record {
      value = (t.0 ∙ zero-add _, t.1);
      upper_bound = wrote_within o (listing page rest) t (omega arith);
    }
