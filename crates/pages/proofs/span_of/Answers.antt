-- `pages::span_of` meets its contract. Assumes nothing.
use mathlib.Core.Path.{refl, sym}
use mathlib.Core.List.{[]}
use Prim.Native.Nat.{◌*◌, ◌/◌, ◌≤◌}
use native.Mathlib.Omega.{arith}
use lib.ListN.{length, get_or-eq_default}
use Rattle.slots.specs.Slots.{slot_size}
use Rattle.pages.specs.Pages.{names_of}
use Rattle.pages.proofs.SlotBySlot.{lent_tuples, length_names}
use Rattle.pages.proofs.span_of.Goals as goal

pub returns : goal.returns
returns c =
    let s = c.args.page.now in
    let k = c.args.k in
    let d = c.depth.ensures in
    ((omega (arith, d), omega (arith, d)), lent_tuples s (length s / slot_size) k (slot_size * k) refl c.if-page-k.false c.depth.result d)

pub returns-then-page-k : goal.returns-then-page-k
returns-then-page-k c =
    let s = c.args.page.now in
    let k = c.args.k in
    let h : length (names_of s) ≤ k = rw (length_names s (length s / slot_size)) c.if-page-k.true in
    ((omega arith, omega arith), sym (get_or-eq_default (names_of s) [] h))
