use mathlib.Core.Path.{◌≡◌, ◌∙◌, sym, ap}
use mathlib.Core.List.{List, [], ◌++◌}
use Prim.Native.Nat.{ℕ, ◌+◌, ◌*◌, ◌/◌, ◌<◌, ◌≤◌}
use native.Mathlib.Omega.{arith}
use lib.ListN.{length, get_or}
use Rattle.numbers.specs.Bytes.{Bytes, Octets, put}
use Rattle.numbers.proofs.Pieces.{standing_first, standing_last, standing_on}
use Rattle.numbers.proofs.Parts.{length_parts}
use Rattle.numbers.proofs.Put.{put_more}
use Rattle.slots.specs.Slots.{slot_over, slot_size, slot_bytes}
use Rattle.old_pages.specs.OldPages.{old_limit, old_size}
use Rattle.old_pages.proofs.ConvertedSlots.{more_zeros, old_slot, old_slot_long, new_piece, new_long, length_new}
use Rattle.old_pages.proofs.write_new.Goals as goal
use Rattle.old_pages.proofs.write_new.Invariants.{new_pieces}

pub loop-k-preserved : goal.loop-k-preserved
loop-k-preserved c =
    let s = c.args.old.now in
    let octets : Octets s = λ i. omega (arith, c.type_inv.old i) in
    let o = c.loop-k.out in
    let next = c.write_zeros.new.out in
    let k = c.loop-k.k in
    let many = length_parts old_size (length s / old_size) s in
    let h : k < length s / old_size = omega arith in
    let room : slot_size * k + slot_size ≤ length o = omega arith in
    let place : slot_size * k + old_size ≡ slot_size * k + length (old_slot s k) = ap (λ (n : ℕ). slot_size * k + n) (sym (old_slot_long s octets c.requires.0 k h)) in
    let piece = old_slot s k ++ more_zeros in
    let written : next ≡ put o (slot_size * k) piece =
    put_more o (slot_size * k) (omega arith) (old_slot s k) more_zeros (c.copy.ensures ∙ ap (λ (l : List Bytes). put o (slot_size * k) (get_or l k [])) c.as_chunks.ensures.front) place c.write_zeros.ensures in
    let few : k < length (new_pieces s) = rw length_new h in
    standing_on slot_size (new_pieces s) k few piece (slot_bytes (slot_over old_limit [])) (new_piece s octets c.requires.0 k h) (new_long s octets c.requires.0 k h) o next room written ∙ c.loop-k.invariant

pub returns : goal.returns
returns c =
    let s = c.args.old.now in
    let many = length_parts old_size (length s / old_size) s in
    let all = length_new s in
    standing_last slot_size (new_pieces s) c.loop-k.out c.loop-k.k (omega arith) ∙ c.loop-k.invariant ∙ standing_first slot_size (new_pieces s) c.args.out.now
