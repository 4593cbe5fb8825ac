-- The names of slots written as fields one after the other (`Filling`, a loop's invariant), the sizes of these fields (`size_next`,
-- `size_end`), and the field of the line number, where there is one (`line_there`, `line_absent`). Assumes nothing.
use mathlib.Core.Path.{◌≡◌, refl, sym, ap, ◌∙◌}
use mathlib.Core.List.{List, [], ◌∷◌, ◌++◌, map, flatten}
use mathlib.Core.Bool.{Bool, cond}
use Prim.Native.Nat.{ℕ, ◌+◌, ◌/◌, ◌<◌, ◌≤◌}
use native.Mathlib.Numerals.{add-one}
use native.Mathlib.Omega.{arith}
use borrow.Author.Tests.{eq-eqb, ne_eqb}
use lib.ListN.{length, drop, get_or, length-append, drop_of_length-le}
use lib.Seq.{drop-cons}
use Rattle.names.specs.Ordering.{Row}
use Rattle.numbers.specs.Bytes.{Bytes, bytes32, put}
use Rattle.slots.specs.Slots.{slot_size}
use Rattle.numbers.proofs.Put.{put_put, put_length, put_none}
use Rattle.pages.specs.Pages.{names_of}
use Rattle.pages.proofs.SlotBySlot.{length_names}
use Rattle.numbers.proofs.Lists.{flat, flat_none}
use Rattle.fields.specs.Fields.{field_bytes}
use Rattle.messages.specs.Messages.{insert, line_tag, name_field, line_fields}
use Rattle.messages.proofs.WriteBack.{flat_one}

-- the names' fields, one after the other
abbrev pub fields_with : List Row → Bytes
fields_with l = flatten (map name_field l)

-- ── along the slots ──

-- a turn at slot k, whose name is a
module _ (s : Bytes) (k : ℕ) (h : k < length s / slot_size) (a : Row) (e : a ≡ get_or (names_of s) k []) where
  fields_next : fields_with (drop k (names_of s)) ≡ name_field a ++ fields_with (drop (k + 1) (names_of s))
  fields_next =
      let l : k < length (names_of s) = rw (length_names s (length s / slot_size)) h in
      ap fields_with (drop-cons (names_of s) k [] l ∙ (λ i. sym e i ∷ drop (sym (add-one k) i) (names_of s)))
      ∙ flat (name_field a) (map name_field (drop (k + 1) (names_of s)))

  pub size_next : length (fields_with (drop k (names_of s))) ≡ length (name_field a) + length (fields_with (drop (k + 1) (names_of s)))
  size_next = ap length fields_next ∙ length-append (name_field a) (fields_with (drop (k + 1) (names_of s)))

pub size_end : (s : Bytes) (k : ℕ) → length s / slot_size ≤ k → fields_with (drop k (names_of s)) ≡ []
size_end s k h =
    let all : length (names_of s) ≤ k = rw (length_names s (length s / slot_size)) h in
    ap fields_with (drop_of_length-le (names_of s) {i = k} all) ∙ flat_none

-- the names of k slots of s were written from q on to o, which was o₀; the next goes to p
pub record Filling (s : Bytes) (q : ℕ) (o₀ o : Bytes) (p k : ℕ) : Type 0 where
  pub few : k ≤ length s / slot_size
  pub count : p + length (fields_with (drop k (names_of s))) ≡ q + length (fields_with (names_of s))
  pub room : length o ≡ length o₀
  pub stand : put o p (fields_with (drop k (names_of s))) ≡ put o₀ q (fields_with (names_of s))

pub filling_first : (s : Bytes) (q : ℕ) (o : Bytes) → Filling s q o o q 0
filling_first s q o = record { few = omega arith; count = refl; room = refl; stand = refl }

module _ {s : Bytes} {q : ℕ} {o₀ o : Bytes} {p k : ℕ} (v : Filling s q o₀ o p k) where
  pub filling_end : length s / slot_size ≤ k → (p ≡ q + length (fields_with (names_of s))) × (o ≡ put o₀ q (fields_with (names_of s)))
  filling_end h =
      let e = size_end s k h in
      (let z = ap length e in let c = v.count in omega arith, put_none o p ∙ ap (put o p) (sym e) ∙ v.stand)

  module _ (h : k < length s / slot_size) (a : Row) (e : a ≡ get_or (names_of s) k []) (r : q + length (fields_with (names_of s)) ≤ length o₀) where
    pub filling_fits : p + length (name_field a) ≤ length o
    filling_fits = let c = v.count in let m = v.room in let l = size_next s k h a e in omega arith

    pub filling_on : (o' : Bytes) (p' : ℕ) → o' ≡ put o p (name_field a) → p' ≡ p + length (name_field a)
        → Filling s q o₀ o' p' (k + 1)
    filling_on o' p' f g =
        let w = fields_with (drop (k + 1) (names_of s)) in
        let l = filling_fits in
        record {
          few = omega arith;
          count = let c = v.count in let m = size_next s k h a e in omega arith;
          room = ap length f ∙ put_length o p (omega arith) (name_field a) l ∙ v.room;
          stand =
              (λ i. put (f i) (g i) w)
              ∙ put_put o p (omega arith) (name_field a) w
              ∙ ap (put o p) (sym (fields_next s k h a e))
              ∙ v.stand;
        }

-- ── the line number ──

module _ (kind line : ℕ) where
  pub line_there : kind ≡ insert → flatten (line_fields kind line) ≡ field_bytes line_tag (bytes32 line)
  line_there e =
      let f = field_bytes line_tag (bytes32 line) in
      ap (λ (b : Bool). flatten (cond b (f ∷ []) [])) (eq-eqb kind insert e)
      ∙ flat_one f

  pub line_absent : ¬ (kind ≡ insert) → flatten (line_fields kind line) ≡ []
  line_absent e = ap (λ (b : Bool). flatten (cond b (field_bytes line_tag (bytes32 line) ∷ []) [])) (ne_eqb kind insert e) ∙ flat_none
