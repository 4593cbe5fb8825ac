-- `slots::copy_slot` meets its contract. Assumes nothing.
use Rattle.std.proofs.Common.{◌≡◌, ℕ, ◌+◌, ◌-◌, ◌*◌, ◌≤◌, ◌++◌, length, replicate, sym, refl, ap, ◌∙◌, add-zero, arith}
use Rattle.names.specs.Ordering.{Row}
use Rattle.names.specs.Names.{limit}
use Rattle.numbers.specs.Bytes.{Bytes, put}
use Rattle.numbers.proofs.Put.{put_put}
use Rattle.slots.specs.Tuples.{row_at, row_bytes, tuple_size}
use Rattle.slots.specs.Slots.{head_size}
use Rattle.slots.proofs.TuplesInBytes.{length_tuples_at}
use Rattle.slots.proofs.WrittenSlots.{row_length, slot_written}
use Rattle.slots.proofs.CopiedTuples.{zeros_first}
use Rattle.slots.proofs.copy_slot.Goals as goal

-- where zeros stand in a name's room and the tuples of a are written from its beginning on: the tuples, and zeros after them
module _ (x : Bytes) (q : ℕ) (a : Row) (d : ℕ) (e : d ≡ length a) (deep : d ≤ limit) (h : q + tuple_size * limit ≤ length x) where
  abbrev tuples : Bytes
  tuples = row_bytes a

  abbrev zeros : Bytes
  zeros = replicate (tuple_size * (limit - d)) 0

  long : length tuples ≡ tuple_size * d
  long = row_length a ∙ ap (λ (n : ℕ). tuple_size * n) (sym e)

  over_zeros : put (put x q (replicate (tuple_size * limit) 0)) q tuples ≡ put (put x q tuples) (q + tuple_size * d) zeros
  over_zeros =
      let l = long in
      let left : 0 + tuple_size * limit - length tuples ≡ tuple_size * (limit - d) = omega arith in
      ap (λ (k : ℕ). put (put x k (replicate (tuple_size * limit) 0)) q tuples) (sym (add-zero q))
      ∙ zeros_first x q (omega arith) 0 (tuple_size * limit) tuples (omega arith) (omega arith) (omega arith)
      ∙ ap (λ (k : ℕ). put x q (tuples ++ replicate k 0)) left
      ∙ sym (ap (λ (n : ℕ). put (put x q tuples) (q + n) zeros) (sym long) ∙ put_put x q (omega arith) tuples zeros)

pub returns : goal.returns
returns c =
    let o = c.args.out.now in
    let p = c.args.p in
    let q = p + head_size in
    let s = c.args.s.now in
    let x = c.args.name in
    let a = row_at s x in
    let head = c.write_head.new.out in
    let deep = sym (length_tuples_at s x.at x.count) in
    let room : q + tuple_size * limit ≤ length head = omega arith in
    slot_written o p (omega arith) c.args.line x.count a deep c.write_head.ensures refl
    (c.copy_row.ensures ∙ ap (λ (y : Bytes). put y q (row_bytes a)) c.write_zeros.ensures ∙ over_zeros head q a x.count deep c.requires.1.1 room)
