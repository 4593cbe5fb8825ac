-- A name of a run written: the tuples of the first, and then its last offset over them (`row_onward`), in a slot too (`slot_onward`). A slot
-- is its head, zeros in all its room and the tuples over them (`slot_copied`). Assumes nothing.
use mathlib.Core.Path.{◌≡◌, refl, sym, ap, ◌∙◌}
use mathlib.Core.List.{[], ◌∷◌, ◌++◌, append_assoc, append-nil}
use Prim.Native.Nat.{ℕ, ◌+◌, ◌-◌, ◌*◌, ◌<◌, ◌≤◌}
use native.Mathlib.Nat.{add-zero}
use native.Mathlib.Omega.{arith}
use lib.IntN.{pos}
use lib.ListN.{length, replicate, length-append}
use Rattle.names.specs.declared.Tuple.{Tuple}
use Rattle.names.specs.Ordering.{Row}
use Rattle.names.specs.Names.{limit}
use Rattle.numbers.specs.Bytes.{Bytes, at32, unsigned, bytes16, bytes32, put}
use Rattle.numbers.proofs.Put.{put_more, put_length}
use Rattle.numbers.proofs.ReadNumbers.{signed_pos}
use Rattle.slots.specs.Tuples.{tuple_at, tuples_at, tuple_size, tuple_bytes, row_bytes}
use Rattle.slots.specs.Slots.{head_size, slot_size, bytes_over, slot_bytes}
use Rattle.slots.proofs.TuplesInBytes.{length_tuples_at}
use Rattle.slots.proofs.WrittenSlots.{row_append, row_length}
use Rattle.slots.proofs.CopiedTuples.{put_over, zeros_first}
use Rattle.runs.specs.Runs.{onward}
use Rattle.runs.proofs.RunNames.{onward_length, onward_after, with_offset, onward_last, last_tuple, last_at, to_last}

-- the bytes of a tuple before its offset
abbrev front_bytes : Tuple → Bytes
front_bytes t = bytes16 t.position ++ bytes16 t.node ++ bytes32 t.sequence

-- the offset of the last tuple stands last
offset_last : (w : Row) (t : Tuple) → row_bytes (w ++ (t ∷ [])) ≡ (row_bytes w ++ front_bytes t) ++ bytes32 (unsigned t.offset)
unfolding tuple_bytes
offset_last w t =
    row_append w (t ∷ [])
    ∙ ap (λ (l : Bytes). row_bytes w ++ l) (append-nil (tuple_bytes t))
    ∙ sym (append_assoc (row_bytes w) (front_bytes t) (bytes32 (unsigned t.offset)))

-- n tuples from p on in s, and the name that comes k after them: the same bytes, but for the last offset
module _ (s : Bytes) (p n k : ℕ) (h : 1 ≤ n) (fits : at32 s (p + tuple_size * n - 4) + k < 2147483648) where
  abbrev start : Row
  start = tuples_at s p (n - 1)

  abbrev end : Tuple
  end = tuple_at s (p + tuple_size * (n - 1))

  abbrev bits : ℕ
  bits = at32 s (p + tuple_size * n - 4)

  -- all bytes but the last four
  abbrev ahead : Bytes
  ahead = row_bytes start ++ front_bytes end

  ahead_length : length ahead ≡ tuple_size * n - 4
  ahead_length =
      let l = length-append (row_bytes start) (front_bytes end) in
      let r = row_length start in
      omega (arith, length_tuples_at s p (n - 1))

  offset_is : end.offset ≡ pos bits
  offset_is = sym (last_tuple s p n h) ∙ last_at s p n h ∙ signed_pos bits (omega arith)

  now_bytes : row_bytes (tuples_at s p n) ≡ ahead ++ bytes32 bits
  now_bytes = ap row_bytes (to_last s p n h) ∙ offset_last start end ∙ ap (λ z. ahead ++ bytes32 (unsigned z)) offset_is

  then_bytes : row_bytes (onward k (tuples_at s p n)) ≡ ahead ++ bytes32 (bits + k)
  then_bytes =
      ap (λ (r : Row). row_bytes (onward k r)) (to_last s p n h)
      ∙ ap row_bytes (onward_after k start end [] ∙ ap (λ (r : Row). start ++ r) (onward_last k end offset_is))
      ∙ offset_last start (with_offset end (pos (bits + k)))

  pub row_onward : (o : Bytes) (q : ℕ) {d e : Bytes} {v : ℕ} → q + tuple_size * n ≤ length o →
      d ≡ put o q (row_bytes (tuples_at s p n)) → v ≡ bits → e ≡ put d (q + tuple_size * n - 4) (bytes32 (v + k)) → e ≡ put o q (row_bytes (onward k (tuples_at s p n)))
  row_onward o q {d} g a c f =
      let l = ahead_length in
      let place : q + tuple_size * n - 4 ≡ q + length ahead = omega arith in
      put_over o q (omega arith) ahead (bytes32 bits) (bytes32 (bits + k)) (omega arith)
      (a ∙ ap (put o q) now_bytes) place (f ∙ ap (λ (j : ℕ). put d (q + tuple_size * n - 4) (bytes32 (j + k))) c)
      ∙ ap (put o q) (sym then_bytes)

  -- what stands before the tuples of a slot, and after them
  abbrev head : ℕ → Bytes
  head line = (n ∷ 0 ∷ 0 ∷ 0 ∷ []) ++ bytes32 line

  abbrev zeros : Bytes
  zeros = replicate (tuple_size * (limit - n)) 0

  slot_bytes_lem : (line : ℕ) (a : Row) (w : Bytes) → length a ≡ n → row_bytes a ≡ ahead ++ w → slot_bytes (record { line = line; name = a }) ≡ (head line ++ ahead) ++ (w ++ zeros)
  unfolding bytes_over
  slot_bytes_lem line a w e f =
      (λ i. (e i ∷ 0 ∷ 0 ∷ 0 ∷ []) ++ bytes32 line ++ f i ++ replicate (tuple_size * (limit - e i)) 0)
      ∙ ap (λ (l : Bytes). l ++ zeros) (sym (append_assoc (head line) ahead w))
      ∙ append_assoc (head line ++ ahead) w zeros

  pub slot_onward : (o : Bytes) (q line : ℕ) {d e : Bytes} {v : ℕ} → n ≤ limit → q + slot_size ≤ length o →
      d ≡ put o q (slot_bytes (record { line = line; name = tuples_at s p n })) → v ≡ bits →
      e ≡ put d (q + head_size + tuple_size * n - 4) (bytes32 (v + k)) → e ≡ put o q (slot_bytes (record { line = line; name = onward k (tuples_at s p n) }))
  slot_onward o q line {d} deep g a c f =
      let l = length-append (head line) ahead ∙ ap (λ (j : ℕ). head_size + j) ahead_length in
      let long = length_tuples_at s p n in
      let place : q + head_size + tuple_size * n - 4 ≡ q + length (head line ++ ahead) = omega arith in
      put_over o q (omega arith) (head line ++ ahead) (bytes32 bits ++ zeros) (bytes32 (bits + k)) (omega arith)
      (a ∙ ap (put o q) (slot_bytes_lem line (tuples_at s p n) (bytes32 bits) long now_bytes)) place (f ∙ ap (λ (j : ℕ). put d (q + head_size + tuple_size * n - 4) (bytes32 (j + k))) c)
      ∙ ap (put o q) (sym (slot_bytes_lem line (onward k (tuples_at s p n)) (bytes32 (bits + k)) (onward_length k (tuples_at s p n) ∙ long) then_bytes))

-- what stands before the n tuples of a slot, zeros from there on, and the tuples over them
module _ (o : Bytes) (q line n : ℕ) (r : Row) (e : n ≡ length r) (deep : n ≤ limit) (g : q + slot_size ≤ length o) where
  pub slot_copied : {x y z : Bytes} → x ≡ put o q ((n ∷ 0 ∷ 0 ∷ 0 ∷ []) ++ bytes32 line) → y ≡ put x (q + head_size) (replicate (tuple_size * limit) 0) →
      z ≡ put y (q + head_size) (row_bytes r) → z ≡ put o q (slot_bytes (record { line = line; name = r }))
  unfolding bytes_over
  slot_copied {x} {y} {z} a b c =
      let front = (n ∷ 0 ∷ 0 ∷ 0 ∷ []) ++ bytes32 line in
      let tuples = row_bytes r in
      let rest : Bytes = replicate (tuple_size * (limit - length r)) 0 in
      let long = row_length r in
      let same : length x ≡ length o = ap length a ∙ put_length o q (omega arith) front (omega arith) in
      let left : 0 + tuple_size * limit - length tuples ≡ tuple_size * (limit - length r) = omega arith in
      let over : z ≡ put x (q + head_size) (tuples ++ rest) =
      c
      ∙ ap (λ (l : Bytes). put l (q + head_size) tuples) b
      ∙ ap (λ (j : ℕ). put (put x j (replicate (tuple_size * limit) 0)) (q + head_size) tuples) (sym (add-zero (q + head_size)))
      ∙ zeros_first x (q + head_size) (omega arith) 0 (tuple_size * limit) tuples (omega arith) (omega arith) (omega arith)
      ∙ ap (λ (j : ℕ). put x (q + head_size) (tuples ++ replicate j 0)) left in
      put_more o q (omega arith) front (tuples ++ rest) a refl over
      ∙ ap (put o q) (sym (append_assoc front tuples rest))
      ∙ ap (λ (j : ℕ). put o q ((j ∷ 0 ∷ 0 ∷ 0 ∷ []) ++ bytes32 line ++ tuples ++ rest)) e
