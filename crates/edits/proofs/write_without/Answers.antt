-- `edits::write_without` meets its contract. Assumes nothing.
use Rattle.numbers.specs.Bytes.{Bytes, put}
use lib.ListN.{length-drop, length, take, drop}
use lib.Seq.{take_all, length-take-le}
use mathlib.Core.Path.{◌≡◌, ◌∙◌, ap}
use Prim.Native.Nat.{◌+◌, ◌*◌, ◌-◌}
use native.Mathlib.Omega.{arith}
use Rattle.slots.specs.Slots.{slot_size}
use Rattle.numbers.proofs.Put.{put_more}
use Rattle.edits.proofs.write_without.Goals as goal

pub returns : goal.returns
returns c =
    let o = c.args.out.now in
    let s = c.args.page.now in
    let p = slot_size * c.args.k in
    let l = length-take-le p s (omega arith) in
    let q : p ≡ 0 + length (take p s) = omega (arith, l) in
    let d = drop (p + slot_size) s in
    let t : take (length s - (p + slot_size)) d ≡ d = take_all (length s - (p + slot_size)) d (omega (arith, length-drop (p + slot_size) s)) in
    let f = c.copy_long-2.ensures ∙ ap (λ (w : Bytes). put c.copy_long.new.out p w) t in
    put_more o 0 (omega arith) (take p s) d c.copy_long.ensures q f
