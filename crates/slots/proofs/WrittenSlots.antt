-- Numbers, rows and slots as bytes. Assumes nothing.
use Rattle.std.proofs.Common.{◌≡◌, ℕ, ◌+◌, ◌-◌, ◌*◌, ◌/◌, ◌%◌, ◌<◌, ◌≤◌, [], ◌∷◌, ◌++◌, length, get_or, take, replicate, sym, refl, ap, ◌∙◌, append_assoc, append-nil, add-one, arith, length-append, take-suc}
use Rattle.names.specs.declared.Tuple.{Tuple}
use Rattle.names.specs.Ordering.{Row}
use Rattle.names.specs.Names.{m, limit}
use Rattle.numbers.specs.Bytes.{Bytes, bytes16, bytes32, put}
use Rattle.slots.specs.Tuples.{tuple_bytes, row_bytes, tuple_size}
use Rattle.slots.specs.Slots.{bytes_over, slot_bytes, head_size}
use Rattle.numbers.proofs.Put.{put_more}

-- the depth and three zeros as one number
depth_high : (d : ℕ) → d * 16777216 / 65536 / 256 ≡ d
depth_high d = omega arith

depth_mid : (d : ℕ) → d * 16777216 / 65536 % 256 ≡ 0
depth_mid d = omega arith

depth_low : (d : ℕ) → d * 16777216 % 65536 ≡ 0
depth_low d = omega arith

pub depth_bytes : (d : ℕ) → bytes32 (d * 16777216) ≡ d ∷ 0 ∷ 0 ∷ 0 ∷ []
depth_bytes d = λ i. depth_high d i ∷ depth_mid d i ∷ bytes16 (depth_low d i)

-- ── rows ──

pub tuple_length : (t : Tuple) → length (tuple_bytes t) ≡ tuple_size
unfolding tuple_bytes
tuple_length t = refl

pub row_append : (a b : Row) → row_bytes (a ++ b) ≡ row_bytes a ++ row_bytes b
row_append [] b = refl
row_append (t ∷ a) b = ap (λ (l : Bytes). tuple_bytes t ++ l) (row_append a b) ∙ sym (append_assoc (tuple_bytes t) (row_bytes a) (row_bytes b))

pub row_length : (a : Row) → length (row_bytes a) ≡ tuple_size * length a
row_length [] = refl
row_length (t ∷ a) =
    let e = row_length a in
    let f = tuple_length t in
    length-append (tuple_bytes t) (row_bytes a) ∙ omega arith

-- one tuple more
pub row_more : (a : Row) (k : ℕ) → k < length a → row_bytes (take (k + 1) a) ≡ row_bytes (take k a) ++ tuple_bytes (get_or a k m)
row_more a k h =
    rw (add-one, take-suc a k m h)
    (row_append (take k a) (get_or a k m ∷ []) ∙ ap (λ (l : Bytes). row_bytes (take k a) ++ l) (append-nil (tuple_bytes (get_or a k m))))

-- ── slots ──

-- what stands before the tuples, the tuples and the zeros after them, written one after the other: a slot
module _ (o : Bytes) (p : ℕ) (h : p ≤ length o) (line d : ℕ) (a : Row) (e : d ≡ length a) where
  pub slot_written : {x y z : Bytes} → x ≡ put o p ((d ∷ 0 ∷ 0 ∷ 0 ∷ []) ++ bytes32 line) → y ≡ put x (p + head_size) (row_bytes a)
      → z ≡ put y (p + head_size + tuple_size * d) (replicate (tuple_size * (limit - d)) 0) → z ≡ put o p (slot_bytes (record { line = line; name = a }))
  unfolding bytes_over
  slot_written f g k =
      let head = (d ∷ 0 ∷ 0 ∷ 0 ∷ []) ++ bytes32 line in
      let l : length (head ++ row_bytes a) ≡ head_size + tuple_size * length a = length-append head (row_bytes a) ∙ ap (λ (n : ℕ). head_size + n) (row_length a) in
      let q : p + head_size + tuple_size * d ≡ p + length (head ++ row_bytes a) = omega (arith, l) in
      put_more o p h (head ++ row_bytes a) (replicate (tuple_size * (limit - d)) 0) (put_more o p h head (row_bytes a) f refl g) q k
      ∙ ap (λ (n : ℕ). put o p ((n ∷ 0 ∷ 0 ∷ 0 ∷ []) ++ bytes32 line ++ row_bytes a ++ replicate (tuple_size * (limit - n)) 0)) e
