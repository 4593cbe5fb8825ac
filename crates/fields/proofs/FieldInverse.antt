-- A field at the beginning of some bytes: what is written is read back (`size_back`, `after_back`, `stands_back`), and where
-- one stands the bytes begin with its writing (`field_there`). What is written is bytes (`field_all`), each of which can be a piece by
-- itself (`flat_single`); where nothing follows there are none (`is_nothing`). Assumes nothing.
use mathlib.Core.Path.{◌≡◌, refl, sym, ap, ◌∙◌}
use mathlib.Core.List.{[], ◌∷◌, ◌++◌, map, flatten}
use mathlib.Core.Bool.{true, ◌&&◌}
use Prim.Native.Nat.{ℕ, ◌+◌, ◌<◌, ◌≤◌}
use native.Mathlib.Omega.{arith}
use borrow.Author.Tests.{le-leb, eq-eqb, leb-true, eqb-true}
use lib.Dec.{leb, eqb}
use lib.ListN.{length, take, drop, length-append, length-take, length-drop, take-append-drop, drop_of_length-le}
use lib.Seq.{drop-cons, drop_at}
use Rattle.numbers.proofs.Bools.{and_0, and_1}
use Rattle.numbers.specs.Bytes.{Bytes, Octets, bytes16}
use Rattle.numbers.proofs.Lists.{next_to, flat, flat_none}
use Rattle.numbers.proofs.NumberBytes.{here16}
use Rattle.numbers.proofs.Octets.{AllBytes, byte, join, two}
use Rattle.fields.specs.Fields.{field_head, longest_content, tag_in, size_in, after_field, stands, field_bytes, nothing, single}

-- ── from a field and back ──

pub field_length : (tag : ℕ) (content : Bytes) → length (field_bytes tag content) ≡ field_head + length content
field_length tag content = omega arith

pub field_all : (tag : ℕ) (content : Bytes) → tag < 256 → length content ≤ longest_content → AllBytes content → AllBytes (field_bytes tag content)
field_all tag content h l k = byte tag h (join (two (length content) (omega arith)) k)

-- bytes one by one
pub flat_single : (s : Bytes) → flatten (map single s) ≡ s
flat_single [] = flat_none
flat_single (x ∷ s) = flat (single x) (map single s) ∙ ap (λ (l : Bytes). x ∷ l) (flat_single s)

module _ (tag : ℕ) (content r : Bytes) where
  pub size_back : size_in (field_bytes tag content ++ r) ≡ length content
  size_back = omega arith

  pub after_back : after_field (field_bytes tag content ++ r) ≡ r
  after_back =
      ap (λ (n : ℕ). drop (field_head + n) (field_bytes tag content ++ r)) size_back
      ∙ drop_at (field_bytes tag content) r (field_head + length content) (field_length tag content)

  pub stands_back : (size : ℕ) → length content ≡ size → stands tag size (field_bytes tag content ++ r) ≡ true
  stands_back size e =
      let s = field_bytes tag content ++ r in
      let l : field_head + size ≤ length s = let q = length-append content r in omega arith in
      λ i. le-leb (field_head + size) (length s) l i && eq-eqb tag tag refl i && eq-eqb (size_in s) size (size_back ∙ e) i

-- ── from bytes and back ──

pub is_nothing : (s : Bytes) → nothing s ≡ true → s ≡ []
is_nothing s e = drop_of_length-le s {i = 0} (let z = eqb-true (length s) 0 e in omega arith)

-- what the test of a field has found
pub record Standing (tag size : ℕ) (s : Bytes) : Type 0 where
  pub long : field_head + size ≤ length s
  pub tagged : tag_in s ≡ tag
  pub sized : size_in s ≡ size

pub standing : (tag size : ℕ) (s : Bytes) → stands tag size s ≡ true → Standing tag size s
standing tag size s e =
    let a = leb (field_head + size) (length s) in
    let b = eqb (tag_in s) tag in
    let c = eqb (size_in s) size in
    let e₀ = and_0 (a && b) c e in
    record {
      long = leb-true (field_head + size) (length s) (and_0 a b e₀);
      tagged = eqb-true (tag_in s) tag (and_1 a b e₀);
      sized = eqb-true (size_in s) size (and_1 (a && b) c e);
    }

module _ (tag size : ℕ) (s : Bytes) (k : Octets s) (v : Standing tag size s) where
  pub content_length : length (take size (drop field_head s)) ≡ size
  content_length = let l = v.long in simp (length-take, length-drop) (omega arith)

  first : tag ∷ [] ≡ take 1 (drop 0 s)
  first = let l : 0 < length s = omega (arith, v.long) in rw (drop-cons s 0 0 l) (ap (λ (x : ℕ). x ∷ []) (sym v.tagged))

  pub field_there : field_bytes tag (take size (drop field_head s)) ++ drop (field_head + size) s ≡ s
  field_there =
      let l = v.long in
      (λ i. (tag ∷ bytes16 ((content_length ∙ sym v.sized) i)) ++ take size (drop field_head s) ++ drop (field_head + size) s)
      ∙ (λ i. first i ++ here16 s k 1 (omega arith) i ++ take size (drop field_head s) ++ drop (field_head + size) s)
      ∙ (λ i. next_to s 0 1 2 i ++ take size (drop field_head s) ++ drop (field_head + size) s)
      ∙ (λ i. next_to s 0 field_head size i ++ drop (field_head + size) s)
      ∙ take-append-drop (field_head + size) s
