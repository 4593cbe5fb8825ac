-- The tuples of a slot copied with the zeros after them (`run`), of a slot of the log too (`logged_run`); pieces written one after the other (`put_two`),
-- after a slot's head a slot (`slot_of`). Assumes nothing.
use mathlib.Core.Path.{◌≡◌, refl, ◌∙◌, sym, ap}
use mathlib.Core.Bool.{true}
use mathlib.Core.List.{[], ◌∷◌, ◌++◌, append_assoc}
use Prim.Native.Nat.{ℕ, zero, suc, ◌+◌, ◌-◌, ◌*◌, ◌/◌, ◌≤◌, ◌<◌}
use native.Mathlib.Omega.{arith}
use lib.ListN.{length, take, drop, get_or, replicate, length-append, length-take, length-drop, replicate-append-replicate}
use lib.Seq.{take-add, take-take, drop_at, drop-drop}
use Rattle.names.specs.Ordering.{Row}
use Rattle.names.specs.Names.{limit}
use Rattle.numbers.specs.Bytes.{Bytes, Octets, all_zero, bytes32, put}
use Rattle.numbers.proofs.Lists.{next_to}
use Rattle.numbers.proofs.Octets.{octets_take, octets_drop}
use Rattle.numbers.proofs.Put.{put_more}
use Rattle.numbers.proofs.Zeros.{all_zeros}
use Rattle.slots.specs.Tuples.{tuple_size, tuples_at, row_bytes}
use Rattle.slots.specs.Slots.{head_size, slot_size, depth_of, name_of, bytes_over, slot_bytes}
use Rattle.slots.proofs.TuplesInBytes.{take_tuples_at, drop_tuples_at, length_tuples_at}
use Rattle.slots.proofs.RoundTrip.{Kept, kept, here_row}
use Rattle.pages.specs.Pages.{names_of, is_log}
use Rattle.pages.proofs.SlotBySlot.{lent, lent_keeps, lent_name}
use Rattle.pages.proofs.RoundTrip.{laid}
use Rattle.one_name.proofs.CheckedLog.{logged}

-- ── of a slot that keeps the layout ──

module _ (s : Bytes) (o : Octets s) (v : Kept s) where
  name_is : name_of s ≡ tuples_at s head_size (depth_of s)
  name_is = take_tuples_at s head_size limit (depth_of s) v.fit

  pub name_length : length (name_of s) ≡ depth_of s
  name_length = ap length name_is ∙ length_tuples_at s head_size (depth_of s)

  -- after the last tuple there are zeros
  zeros_after_lem : (q r : ℕ) → q ≡ head_size + tuple_size * depth_of s → q + r ≤ slot_size → take r (drop q s) ≡ replicate r 0
  zeros_after_lem q r e h =
      let l : length (drop q s) ≡ slot_size - q = simp length-drop (omega (arith, v.long)) in
      let z : drop q s ≡ replicate (slot_size - q) 0 = all_zeros (drop q s) (ap (λ (n : ℕ). all_zero (drop n s)) e ∙ v.rest) ∙ ap (λ (n : ℕ). replicate n 0) l in
      let f : slot_size - q ≡ r + (slot_size - q - r) = omega arith in
      ap (take r) (z ∙ ap (λ (n : ℕ). replicate n 0) f ∙ sym (replicate-append-replicate r (slot_size - q - r) 0)) ∙ first r (replicate (slot_size - q - r) 0)
    where
      first : (r : ℕ) (l : Bytes) → take r (replicate r 0 ++ l) ≡ replicate r 0
      first zero l = refl
      first (suc r) l = ap (λ (t : Bytes). 0 ∷ t) (first r l)

  -- n bytes from the j-th tuple on, which are all that follow it or fewer, and no fewer than the tuples have
  pub run : (j n : ℕ) → j ≤ depth_of s → tuple_size * (depth_of s - j) ≤ n → head_size + tuple_size * j + n ≤ slot_size →
      take n (drop (head_size + tuple_size * j) s) ≡ row_bytes (drop j (name_of s)) ++ replicate (n - tuple_size * (depth_of s - j)) 0
  run j n h k l =
      let d = depth_of s in
      let q = head_size + tuple_size * j in
      let m = tuple_size * (d - j) in
      let r = n - m in
      let e : n ≡ m + r = omega arith in
      let w : q + tuple_size * (d - j) ≤ length s = omega (arith, v.long) in
      let tuples = ap row_bytes (drop_tuples_at s head_size d j h ∙ ap (drop j) (sym name_is)) in
      ap (λ (i : ℕ). take i (drop q s)) e
      ∙ sym (next_to s q m r)
      ∙ (λ i. (sym (here_row s o q (d - j) w) ∙ tuples) i ++ zeros_after_lem (q + m) r (omega arith) (omega arith) i)

-- ── of slot k of the log ──

module _ (log : Bytes) (o : Octets log) (k : ℕ) (e : is_log log ≡ true) (h : k < length (names_of log)) where
  abbrev slot : Bytes
  slot = lent log (slot_size * k)

  within : k < length log / slot_size
  within = omega (arith, h, (logged log e).count)

  slot_kept : Kept slot
  slot_kept = kept slot (lent_keeps limit log (length log / slot_size) k within (laid log (logged log e).layout).good)

  slot_name : name_of slot ≡ get_or (names_of log) k []
  slot_name = lent_name log (length log / slot_size) k (slot_size * k) refl within

  slot_octets : Octets slot
  slot_octets = octets_take (slot_size * k + slot_size - slot_size * k) (drop (slot_size * k) log) (octets_drop (slot_size * k) log o)

  slot_depth : depth_of slot ≡ length (get_or (names_of log) k [])
  slot_depth = sym (name_length slot slot_octets slot_kept) ∙ ap length slot_name

  -- all its n bytes from the tuples on
  pub logged_run : (n : ℕ) → n ≡ slot_size - head_size →
      take n (drop (slot_size * k + head_size) log) ≡ row_bytes (get_or (names_of log) k []) ++ replicate (tuple_size * (limit - length (get_or (names_of log) k []))) 0
  logged_run n b =
      let at = drop (slot_size * k) log in
      let l : length (take head_size at) ≡ head_size = simp (length-take, length-drop) (omega (arith, within)) in
      let w : slot_size * k + slot_size - slot_size * k ≡ head_size + n = omega arith in
      let fit = slot_kept.fit in
      let d = slot_depth in
      let zeros : n - tuple_size * (depth_of slot - 0) ≡ tuple_size * (limit - length (get_or (names_of log) k [])) = omega arith in
      let inside : drop head_size slot ≡ take n (drop head_size at) =
      ap (λ (j : ℕ). drop head_size (take j at)) w
      ∙ ap (drop head_size) (take-add head_size n at)
      ∙ drop_at (take head_size at) (take n (drop head_size at)) head_size l in
      ap (take n) (sym (drop-drop head_size (slot_size * k) log))
      ∙ sym (take-take n n (drop head_size at) (omega arith))
      ∙ ap (take n) (sym inside)
      ∙ run slot slot_octets slot_kept 0 n (omega arith) (omega arith) (omega arith)
      ∙ (λ i. row_bytes (slot_name i) ++ replicate (zeros i) 0)

-- ── what is written ──

module _ (o : Bytes) (p : ℕ) (h : p ≤ length o) where
  -- two pieces after a first one
  pub put_two : (a b c : Bytes) {x y z : Bytes} {q r : ℕ} → x ≡ put o p a → q ≡ p + length a → y ≡ put x q b → r ≡ q + length b → z ≡ put y r c → z ≡ put o p (a ++ (b ++ c))
  put_two a b c {q = q} {r = r} e f g k l =
      let n = length-append a b in
      let i : r ≡ p + length (a ++ b) = omega arith in
      put_more o p h (a ++ b) c (put_more o p h a b e f g) i l ∙ ap (put o p) (append_assoc a b c)

  -- the head, and then the tuples and the zeros up to the end of the slot
  pub slot_of : (line : ℕ) (a : Row) {d : ℕ} {w z : Bytes} → d ≡ length a → w ≡ row_bytes a ++ replicate (tuple_size * (limit - length a)) 0 →
      z ≡ put o p (((d ∷ 0 ∷ 0 ∷ 0 ∷ []) ++ bytes32 line) ++ w) → z ≡ put o p (slot_bytes (record { line = line; name = a }))
  unfolding bytes_over
  slot_of line a e f g =
      let zeros : Bytes = replicate (tuple_size * (limit - length a)) 0 in
      g
      ∙ (λ i. put o p (((e i ∷ 0 ∷ 0 ∷ 0 ∷ []) ++ bytes32 line) ++ f i))
      ∙ ap (put o p) (sym (append_assoc ((length a ∷ 0 ∷ 0 ∷ 0 ∷ []) ++ bytes32 line) (row_bytes a) zeros))
