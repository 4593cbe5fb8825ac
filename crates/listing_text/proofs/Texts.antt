-- The texts of offsets, names and lines, by the parts that the code writes. Assumes nothing.
use mathlib.Core.Path.{◌≡◌, refl, ◌∙◌, sym, ap}
use mathlib.Core.List.{[], ◌∷◌, ◌++◌, append_assoc}
use mathlib.Core.Bool.{true, false}
use Prim.Native.Nat.{ℕ, zero, suc, ◌+◌, ◌*◌, ◌<◌, ◌≤◌, min}
use native.Mathlib.Nat.{not-suc-le-zero}
use native.Mathlib.Numerals.{add-one}
use native.Mathlib.Omega.{arith}
use borrow.Author.Tests.{lt-leb}
use lib.ListN.{length, take, get_or, length-take}
use lib.Seq.{take-suc}
use lib.IntN.{ℤ, pos, negsuc, nat_abs}
use Rattle.std.specs.Int.{is_negative}
use Rattle.names.specs.declared.Tuple.{Tuple}
use Rattle.names.specs.Ordering.{Row}
use Rattle.names.specs.Names.{limit, m}
use Rattle.numbers.specs.Bytes.{Bytes}
use Rattle.slots.specs.Tuples.{tuple_at, tuples_at, tuple_size}
use Rattle.slots.specs.Slots.{head_size, depth_of, name_of, line_of, slot_of}
use Rattle.slots.proofs.NameTests.{name_is}
use Rattle.slots.proofs.TuplesInBytes.{length_tuples_at, get_or_tuples_at}
use Rattle.numbers.proofs.Bools.{yes_no}
use Rattle.listing_text.specs.Ascii.{ascii}
use Rattle.listing_text.specs.Listing.{decimal, decimal_ℤ, tuple_text, name_text, line_text}

pub offset_high : (z : ℤ) → is_negative z ≡ false → decimal (nat_abs z) ≡ decimal_ℤ z
unfolding decimal_ℤ
offset_high (pos n) e = refl
offset_high (negsuc n) e = yes_no refl e

pub offset_low : (z : ℤ) → is_negative z ≡ true → ascii "-" ++ decimal (nat_abs z) ≡ decimal_ℤ z
unfolding decimal_ℤ
offset_low (pos n) e = yes_no e (lt-leb (suc n) 0 (omega arith))
offset_low (negsuc n) e = refl

-- ── names ──

-- one tuple more, of a name that has some
name_on : (a : Row) (t : Tuple) → 1 ≤ length a → name_text (a ++ (t ∷ [])) ≡ name_text a ++ ascii "/" ++ tuple_text t
unfolding name_text
name_on [] t h = absurd (omega arith)
name_on (s ∷ []) t h = refl
name_on (s ∷ u ∷ a) t h =
    let w = tuple_text s ++ ascii "/" in
    let l = name_text (u ∷ a) in
    ap (λ (x : Bytes). w ++ x) (name_on (u ∷ a) t (omega arith))
    ∙ sym (append_assoc w (l ++ ascii "/") (tuple_text t))
    ∙ ap (λ (x : Bytes). x ++ tuple_text t) (sym (append_assoc w l (ascii "/")))

-- the tuples from p on, the first k of n
module _ (s : Bytes) (p n : ℕ) where
  pub name_first : 1 ≤ n → tuple_text (tuple_at s p) ≡ name_text (take 1 (tuples_at s p n))
  unfolding name_text
  name_first h = go n h
    where
      go : (n : ℕ) → 1 ≤ n → tuple_text (tuple_at s p) ≡ name_text (take 1 (tuples_at s p n))
      go zero h = absurd (not-suc-le-zero h)
      go (suc n) h = refl

  pub name_more : (k : ℕ) → 1 ≤ k → k < n → name_text (take k (tuples_at s p n)) ++ ascii "/" ++ tuple_text (tuple_at s (p + tuple_size * k)) ≡ name_text (take (k + 1) (tuples_at s p n))
  name_more k h g =
      let l = tuples_at s p n in
      let long = length_tuples_at s p n in
      let f : k < length l = omega arith in
      let some : 1 ≤ length (take k l) = omega (arith, length-take k l) in
      ap (λ (t : Tuple). name_text (take k l) ++ ascii "/" ++ tuple_text t) (sym (get_or_tuples_at s p n k g))
      ∙ sym (name_on (take k l) (get_or l k m) some)
      ∙ ap name_text (sym (ap (λ (j : ℕ). take j l) (add-one k) ∙ take-suc l k m f))

-- ── lines ──

-- a line by what is read of its slot: the line number l and the depth d
pub line_is :
    (s : Bytes) (l d : ℕ) → l ≡ line_of s → d ≡ min (depth_of s) limit →
    decimal l ++ ascii " " ++ decimal d ++ ascii " " ++ name_text (tuples_at s head_size d) ++ ascii "\n" ≡ line_text (slot_of s)
unfolding line_text
line_is s l d e g =
    let n = name_is s d g in
    let k : d ≡ length (name_of s) = sym (length_tuples_at s head_size d) ∙ ap length n in
    λ i. decimal (e i) ++ ascii " " ++ decimal (k i) ++ ascii " " ++ name_text (n i) ++ ascii "\n"
