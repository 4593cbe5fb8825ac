use mathlib.Core.Path.{ap, ◌≡◌, ◌∙◌}
use mathlib.Core.List.{List, []}
use Prim.Native.Nat.{◌+◌, ◌*◌, ◌/◌, ◌<◌, ◌≤◌}
use native.Mathlib.Omega.{arith}
use lib.ListN.{length, get_or, take}
use Rattle.numbers.specs.Bytes.{Bytes, Octets, put}
use Rattle.numbers.proofs.Pieces.{standing_first, standing_last, standing_on}
use Rattle.numbers.proofs.Parts.{length_parts}
use Rattle.slots.specs.Slots.{bytes_over, slot_size, slot_of}
use Rattle.old_pages.specs.OldPages.{old_limit, old_size}
use Rattle.old_pages.proofs.ConvertedSlots.{slot_at, old_piece, old_long, length_old}
use Rattle.old_pages.proofs.write_old.Goals as goal
use Rattle.old_pages.proofs.write_old.Invariants.{cut_pieces}

pub loop-k-preserved : goal.loop-k-preserved
loop-k-preserved c =
    let s = c.args.page.now in
    let octets : Octets s = λ i. omega (arith, c.type_inv.page i) in
    let o = c.loop-k.out in
    let next = c.copy.new.out in
    let k = c.loop-k.k in
    let many = length_parts slot_size (length s / slot_size) s in
    let h : k < length s / slot_size = omega arith in
    let room : old_size * k + old_size ≤ length o = omega arith in
    let written : next ≡ put o (old_size * k) (take old_size (slot_at s k)) = c.copy.ensures ∙ ap (λ (l : List Bytes). put o (old_size * k) (take old_size (get_or l k []))) c.as_chunks.ensures.front in
    let few : k < length (cut_pieces s) = rw length_old h in
    standing_on old_size (cut_pieces s) k few (take old_size (slot_at s k)) (bytes_over old_limit (slot_of [])) (old_piece s octets c.requires.0 c.requires.1 k h) (old_long s octets c.requires.0 c.requires.1 k h) o next room written ∙ c.loop-k.invariant

pub returns : goal.returns
returns c =
    let s = c.args.page.now in
    let many = length_parts slot_size (length s / slot_size) s in
    let all = length_old s in
    standing_last old_size (cut_pieces s) c.loop-k.out c.loop-k.k (omega arith) ∙ c.loop-k.invariant ∙ standing_first old_size (cut_pieces s) c.args.out.now
