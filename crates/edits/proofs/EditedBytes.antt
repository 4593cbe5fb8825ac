-- The bytes of a page with a slot more, or one fewer, are those of its parts. Assumes nothing.
use mathlib.Core.Path.{◌≡◌, refl, ◌∙◌, sym, ap}
use mathlib.Core.List.{List, [], ◌∷◌, ◌++◌, map, flatten, append_assoc, map-append}
use mathlib.Core.Bool.{true}
use Prim.Native.Nat.{ℕ, zero, suc, ◌+◌, ◌*◌, ◌/◌, ◌≤◌}
use native.Mathlib.Nat.{not-suc-le-zero, le_of_suc-le-suc}
use native.Mathlib.Omega.{arith}
use lib.ListN.{length, take, drop, length-drop}
use lib.Seq.{drop-drop, take-add}
use Rattle.numbers.specs.Bytes.{Bytes, Octets}
use Rattle.slots.specs.Slots.{slot_size, slot_of, keeps_slot, slot_bytes}
use Rattle.slots.proofs.RoundTrip.{kept, bytes_back}
use Rattle.pages.specs.Pages.{parts, slots_of, pieces, keeps_layout}
use Rattle.numbers.proofs.Lists.{flat_append, flat, flat_none}
use Rattle.numbers.proofs.Parts.{flat_all}
use Rattle.pages.proofs.RoundTrip.{pieces_are, laid}

-- ── rows of rows ──

map_take : {A B : Type 0} (f : A → B) (k : ℕ) (l : List A) → map f (take k l) ≡ take k (map f l)
map_take f zero l = refl
map_take f (suc k) [] = refl
map_take f (suc k) (x ∷ l) = ap (λ (r : List _). f x ∷ r) (map_take f k l)

map_drop : {A B : Type 0} (f : A → B) (k : ℕ) (l : List A) → map f (drop k l) ≡ drop k (map f l)
map_drop f zero l = refl
map_drop f (suc k) [] = refl
map_drop f (suc k) (x ∷ l) = map_drop f k l

-- ── the parts of a page ──

flat_take : (n k : ℕ) (s : Bytes) → k ≤ n → flatten (take k (parts n s)) ≡ take (slot_size * k) s
flat_take n zero s h = flat_none
flat_take zero (suc k) s h = absurd (not-suc-le-zero h)
flat_take (suc n) (suc k) s h =
    let e : slot_size + slot_size * k ≡ slot_size * suc k = omega arith in
    flat (take slot_size s) (take k (parts n (drop slot_size s)))
    ∙ ap (λ (l : Bytes). take slot_size s ++ l) (flat_take n k (drop slot_size s) (le_of_suc-le-suc h))
    ∙ sym (take-add slot_size (slot_size * k) s)
    ∙ ap (λ (j : ℕ). take j s) e

flat_drop : (n k : ℕ) (s : Bytes) → k ≤ n → length s ≡ slot_size * n → flatten (drop k (parts n s)) ≡ drop (slot_size * k) s
flat_drop n zero s h e = flat_all slot_size n s e
flat_drop zero (suc k) s h e = absurd (not-suc-le-zero h)
flat_drop (suc n) (suc k) s h e =
    let q : slot_size + slot_size * k ≡ slot_size * suc k = omega arith in
    flat_drop n k (drop slot_size s) (le_of_suc-le-suc h) (simp length-drop (omega arith))
    ∙ drop-drop (slot_size * k) slot_size s
    ∙ ap (λ (j : ℕ). drop j s) q

module _ (s : Bytes) (o : Octets s) (e : keeps_layout s ≡ true) where
  pub front : (k : ℕ) → k ≤ length s / slot_size → flatten (pieces (take k (slots_of s))) ≡ take (slot_size * k) s
  front k h = ap flatten (map_take slot_bytes k (slots_of s) ∙ ap (take k) (pieces_are s o e)) ∙ flat_take (length s / slot_size) k s h

  pub back : (k : ℕ) → k ≤ length s / slot_size → flatten (pieces (drop k (slots_of s))) ≡ drop (slot_size * k) s
  back k h = ap flatten (map_drop slot_bytes k (slots_of s) ∙ ap (drop k) (pieces_are s o e)) ∙ flat_drop (length s / slot_size) k s h (laid s e).whole

  pub with_bytes :
      (x : Bytes) → Octets x → keeps_slot x ≡ true → (k : ℕ) → k ≤ length s / slot_size →
      flatten (pieces (take k (slots_of s) ++ (slot_of x ∷ drop k (slots_of s)))) ≡ take (slot_size * k) s ++ x ++ drop (slot_size * k) s
  with_bytes x p v k h =
      ap flatten (map-append slot_bytes (take k (slots_of s)) (slot_of x ∷ drop k (slots_of s)))
      ∙ flat_append (pieces (take k (slots_of s))) (slot_bytes (slot_of x) ∷ pieces (drop k (slots_of s)))
      ∙ (λ i. front k h i ++ flat (slot_bytes (slot_of x)) (pieces (drop k (slots_of s))) i)
      ∙ (λ i. take (slot_size * k) s ++ (bytes_back x p (kept x v) i ++ back k h i))
      ∙ sym (append_assoc (take (slot_size * k) s) x (drop (slot_size * k) s))

  pub without_bytes :
      (k : ℕ) → suc k ≤ length s / slot_size →
      flatten (pieces (take k (slots_of s) ++ drop (suc k) (slots_of s))) ≡ take (slot_size * k) s ++ drop (slot_size * k + slot_size) s
  without_bytes k h =
      let q : slot_size * suc k ≡ slot_size * k + slot_size = omega arith in
      ap flatten (map-append slot_bytes (take k (slots_of s)) (drop (suc k) (slots_of s)))
      ∙ flat_append (pieces (take k (slots_of s))) (pieces (drop (suc k) (slots_of s)))
      ∙ (λ i. front k (omega arith) i ++ (back (suc k) h ∙ ap (λ (j : ℕ). drop j s) q) i)
