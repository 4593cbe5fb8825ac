-- Rows that are joined of two: a row is its tuples but the last and then the last (`to_last`), and so is one below it (`to_lowered`); a row
-- written with the zeros after it and others over its last tuple and over zeros (`ended_over`). A logged name has a tuple (`logged_long`). What is told of both
-- ways to join r(k), a marker and v is one law (`joint_stands`, `joint_length`, `joint_row`). Assumes nothing.
use mathlib.Core.Path.{◌≡◌, refl, ◌∙◌, sym, ap}
use mathlib.Core.List.{List, [], ◌∷◌, ◌++◌, append_assoc}
use mathlib.Core.Bool.{Bool, true, false}
use Prim.Native.Nat.{ℕ, suc, ◌+◌, ◌-◌, ◌*◌, ◌<◌, ◌≤◌}
use native.Mathlib.Nat.{not-suc-le-zero}
use native.Mathlib.Omega.{arith}
use lib.ListN.{length, take, drop, get_or, replicate, length-append, length-replicate, replicate-append-replicate}
use lib.Seq.{take_all, drop_at, drop-append-add, length-take-le}
use Rattle.names.specs.declared.Tuple.{Tuple}
use Rattle.names.specs.Ordering.{Row}
use Rattle.names.specs.Names.{limit, m, M, one_below}
use Rattle.names.proofs.Laws.{below_length}
use Rattle.numbers.specs.Bytes.{Bytes, put}
use Rattle.slots.specs.Tuples.{tuple_size, tuple_bytes, row_bytes}
use Rattle.slots.proofs.RoundTrip.{name_long}
use Rattle.slots.proofs.CopiedTuples.{put_over}
use Rattle.slots.proofs.WrittenSlots.{tuple_length, row_append, row_length, row_more}
use Rattle.pages.specs.Pages.{names_of, is_log}
use Rattle.one_name.specs.declared.Back.{Back}
use Rattle.one_name.specs.Backs.{shaped, Stands}
use Rattle.one_name.proofs.CheckedLog.{log_named}
use Rattle.renamed_slots.specs.Joints.{below_if, marker_if, joint}

-- all tuples of r but the last, then t, and then those of v
abbrev pub ended : Row → Tuple → Row → Row
ended r t v = take (length r - 1) r ++ (t ∷ v)

next : (t u : Tuple) (a : Row) → length (t ∷ u ∷ a) - 1 ≡ suc (length (u ∷ a) - 1)
next t u a = omega arith

pub to_last : (r v : Row) → 1 ≤ length r → ended r (get_or r (length r - 1) m) v ≡ r ++ v
to_last [] v h = absurd (not-suc-le-zero h)
to_last (t ∷ []) v h = refl
to_last (t ∷ u ∷ a) v h =
    (λ i. take (next t u a i) (t ∷ u ∷ a) ++ (get_or (t ∷ u ∷ a) (next t u a i) m ∷ v))
    ∙ ap (λ (l : Row). t ∷ l) (to_last (u ∷ a) v (omega arith))

pub to_lowered : (r v : Row) → 1 ≤ length r → ended r (get_or (one_below r) (length r - 1) m) v ≡ one_below r ++ v
unfolding one_below
to_lowered [] v h = absurd (not-suc-le-zero h)
to_lowered (t ∷ []) v h = refl
to_lowered (t ∷ u ∷ a) v h =
    (λ i. take (next t u a i) (t ∷ u ∷ a) ++ (get_or (one_below (t ∷ u ∷ a)) (next t u a i) m ∷ v))
    ∙ ap (λ (l : Row). t ∷ l) (to_lowered (u ∷ a) v (omega arith))

pub logged_long : (log : Bytes) (k : ℕ) → is_log log ≡ true → k < length (names_of log) → 1 ≤ length (get_or (names_of log) k [])
logged_long log k e h = name_long (get_or (names_of log) k []) (log_named log k e h)

-- ── written ──

abbrev zeros_after : Row → Bytes
zeros_after a = replicate (tuple_size * (limit - length a)) 0

-- the tuples of r and the zeros after them, and then t and v over the last of r and over zeros
pub ended_over : (x : Bytes) (q : ℕ) (r : Row) (t : Tuple) (v : Row) {y z : Bytes} {e : ℕ} → q + tuple_size * limit ≤ length x → 1 ≤ length r → length r + length v ≤ limit →
    y ≡ put x q (row_bytes r ++ zeros_after r) → e ≡ q + tuple_size * (length r - 1) → z ≡ put y e (row_bytes (t ∷ v)) →
    z ≡ put x q (row_bytes (ended r t v) ++ zeros_after (ended r t v))
ended_over x q r t v {e = e} h some fit f g k =
    let n = length r - 1 in
    let a = take n r in
    let u = get_or r n m in
    let left = tuple_size * (limit - length r) in
    let j = tuple_size * length v in
    let over = row_bytes (t ∷ v) in
    let under = tuple_bytes u ++ zeros_after r in
    let la : length a ≡ n = length-take-le n r (omega arith) in
    let lb = row_length a in
    let lu = tuple_length u in
    let lv = row_length (t ∷ v) in
    let le = length-append a (t ∷ v) in
    let row : row_bytes r ≡ row_bytes a ++ tuple_bytes u = ap row_bytes (sym (take_all (n + 1) r (omega arith))) ∙ row_more r n (omega arith) in
    let apart : row_bytes r ++ zeros_after r ≡ row_bytes a ++ under = ap (λ (w : Bytes). w ++ zeros_after r) row ∙ append_assoc (row_bytes a) (tuple_bytes u) (zeros_after r) in
    let size : length over ≡ length (tuple_bytes u) + j = omega arith in
    let split : left ≡ j + (left - j) = omega arith in
    let last : left - j ≡ tuple_size * (limit - length (ended r t v)) = omega arith in
    let rest : drop (length over) under ≡ zeros_after (ended r t v) =
    ap (λ (i : ℕ). drop i under) size
    ∙ drop-append-add (tuple_bytes u) (zeros_after r) j
    ∙ ap (λ (i : ℕ). drop j (replicate i 0)) split
    ∙ ap (drop j) (sym (replicate-append-replicate j (left - j) 0))
    ∙ drop_at (replicate j 0) (replicate (left - j) 0) j (length-replicate j 0)
    ∙ ap (λ (i : ℕ). replicate i 0) last in
    let place : e ≡ q + length (row_bytes a) = omega arith in
    put_over x q (omega arith) (row_bytes a) under over (omega arith) (f ∙ ap (put x q) apart) place k
    ∙ ap (λ (w : Bytes). put x q (row_bytes a ++ (over ++ w))) rest
    ∙ ap (put x q) (sym (append_assoc (row_bytes a) over (zeros_after (ended r t v))))
    ∙ ap (λ (w : Bytes). put x q (w ++ zeros_after (ended r t v))) (sym (row_append a (t ∷ v)))

-- ── joined, with r(k) lowered or not ──

module _ (c : Row) (log : List Row) (k cut : ℕ) where
  abbrev with : Bool → Back
  with b = joint (record { k = k; cut = cut; lowered = b })

  pub joint_stands : (b : Bool) → Stands c log (with b) → (k < length log) × (cut ≤ length c)
  joint_stands true h = (h.0, h.1.0)
  joint_stands false h = (h.0, h.1.0)

  pub joint_length : (b : Bool) → length (get_or log k []) + 1 + length (drop cut c) ≡ length (shaped c log (with b))
  joint_length true = omega (arith, length-append (one_below (get_or log k [])) (M ∷ drop cut c), below_length (get_or log k []))
  joint_length false = omega (arith, length-append (get_or log k []) (m ∷ drop cut c))

  pub joint_row : (b : Bool) → 1 ≤ length (get_or log k []) →
      ended (get_or log k []) (get_or (below_if b (get_or log k [])) (length (get_or log k []) - 1) m) (marker_if b ∷ drop cut c) ≡ shaped c log (with b)
  joint_row true = to_lowered (get_or log k []) (M ∷ drop cut c)
  joint_row false = to_last (get_or log k []) (m ∷ drop cut c)
