-- `edits::write_with` meets its contract. Assumes nothing.
use Rattle.numbers.specs.Bytes.{Bytes, put}
use lib.ListN.{length-drop, length, take, drop, length-append, length-take}
use lib.Seq.{take_all, length-take-le}
use mathlib.Core.Path.{◌≡◌, ◌∙◌, sym, ap}
use mathlib.Core.List.{◌++◌}
use Prim.Native.Nat.{◌+◌, ◌*◌, ◌-◌}
use native.Mathlib.Omega.{arith}
use Rattle.slots.specs.Slots.{slot_size}
use Rattle.numbers.proofs.Put.{put_more}
use Rattle.edits.proofs.write_with.Goals as goal

pub slice_bounds-copy-end : goal.slice_bounds-copy-end
slice_bounds-copy-end c = sym (length-take-le slot_size c.args.slot.now (omega (arith, c.requires.1)))

pub copy-requires : goal.copy-requires
copy-requires c = omega (arith, length-take slot_size c.args.slot.now)

pub returns : goal.returns
returns c =
    let o = c.args.out.now in
    let s = c.args.page.now in
    let x = c.args.slot.now in
    let p = slot_size * c.args.k in
    let l = length-take-le p s c.requires.0 in
    let q : p ≡ 0 + length (take p s) = omega (arith, l) in
    let a = length-append (take p s) x in
    let r : p + slot_size ≡ 0 + length (take p s ++ x) = omega (arith, l, a, c.requires.1) in
    let t : take (length s - p) (drop p s) ≡ drop p s = take_all (length s - p) (drop p s) (omega (arith, length-drop p s)) in
    let u : take slot_size x ≡ x = take_all slot_size x (omega (arith, c.requires.1)) in
    let d₁ = put_more o 0 (omega arith) (take p s) x c.copy_long.ensures q (c.copy.ensures ∙ ap (put c.copy_long.new.out p) u) in
    put_more o 0 (omega arith) (take p s ++ x) (drop p s) d₁ r (c.copy_long-2.ensures ∙ ap (λ (w : Bytes). put c.copy.new.out (p + slot_size) w) t)
