-- A name's field at the beginning of some bytes, under any tag: what is written is read back (`name_stands_lem`, `tuples_back`), and where one
-- stands the bytes begin with its writing (`name_there`) and have a whole number of tuples (`name_whole`). How long it is (`name_length`), and
-- that it is bytes (`name_field_all`). Assumes nothing.
use mathlib.Core.Path.{◌≡◌, sym, ap, ◌∙◌}
use mathlib.Core.List.{◌∷◌, ◌++◌}
use mathlib.Core.Bool.{true, ◌&&◌}
use Prim.Native.Nat.{ℕ, ◌+◌, ◌*◌, ◌/◌, ◌%◌, ◌<◌, ◌≤◌}
use native.Mathlib.Omega.{arith}
use borrow.Author.Tests.{eq-eqb, eqb-true, leb-true}
use lib.Dec.{eqb}
use lib.ListN.{length, take, drop}
use Rattle.names.specs.Ordering.{Row}
use Rattle.names.specs.Names.{limit, fits, is_name}
use Rattle.numbers.proofs.Bools.{and_0, and_1}
use Rattle.numbers.specs.Bytes.{Bytes, Octets, bytes16}
use Rattle.numbers.proofs.Octets.{AllBytes}
use Rattle.slots.specs.Tuples.{tuple_size, tuples_at, row_bytes}
use Rattle.slots.proofs.WrittenSlots.{row_length}
use Rattle.slots.proofs.RoundTrip.{row_back, name_words, here_row}
use Rattle.slots.proofs.NameOctets.{name_all}
use Rattle.fields.specs.Fields.{field_head, longest_content, size_in, after_field, stands, field_bytes}
use Rattle.fields.proofs.FieldInverse.{field_length, field_all, size_back, stands_back, standing, field_there}
use Rattle.name_fields.specs.NameFields.{name_fits, field_of_name, name_stands_as, tuples_in}

module _ (tag : ℕ) where
  -- ── from a name and back ──

  pub name_length : (a : Row) → length (field_of_name tag a) ≡ field_head + tuple_size * length a
  name_length a = field_length tag (row_bytes a) ∙ ap (λ (n : ℕ). field_head + n) (row_length a)

  pub name_field_all : (a : Row) → tag < 256 → name_fits a ≡ true → AllBytes (field_of_name tag a)
  name_field_all a h e =
      let f = leb-true (length a) limit (and_1 (is_name a) (fits a) e) in
      let s : length (row_bytes a) ≤ longest_content = let r = row_length a in omega arith in
      field_all tag (row_bytes a) h s (name_all a (and_0 (is_name a) (fits a) e))

  module _ (a : Row) (r : Bytes) where
    pub name_stands_lem : name_stands_as tag (field_of_name tag a ++ r) ≡ true
    name_stands_lem =
        let e = size_back tag (row_bytes a) r in
        let z : size_in (field_of_name tag a ++ r) % tuple_size ≡ 0 = let q = row_length a in omega arith in
        let s = field_of_name tag a ++ r in
        λ i. stands_back tag (row_bytes a) r (size_in s) (sym e) i && eq-eqb (size_in s % tuple_size) 0 z i

    pub tuples_back : is_name a ≡ true → tuples_in (field_of_name tag a ++ r) ≡ a
    tuples_back h =
        let e = size_back tag (row_bytes a) r in
        let n : size_in (field_of_name tag a ++ r) / tuple_size ≡ length a = let q = row_length a in omega arith in
        ap (tuples_at (field_of_name tag a ++ r) field_head) n ∙ row_back (tag ∷ bytes16 (length (row_bytes a))) a r (name_words a h)

  -- ── from bytes and back ──

  -- the content is a whole number of tuples
  pub name_whole : (s : Bytes) → name_stands_as tag s ≡ true → tuple_size * (size_in s / tuple_size) ≡ size_in s
  name_whole s e = omega (arith, eqb-true (size_in s % tuple_size) 0 (and_1 (stands tag (size_in s) s) (eqb (size_in s % tuple_size) 0) e))

  pub name_there : (s : Bytes) → Octets s → name_stands_as tag s ≡ true → field_of_name tag (tuples_in s) ++ after_field s ≡ s
  name_there s k e =
      let size = size_in s in
      let v = standing tag size s (and_0 (stands tag size s) (eqb (size % tuple_size) 0) e) in
      let l = v.long in
      let n = name_whole s e in
      let row = here_row s k field_head (size / tuple_size) (omega arith) in
      let c : row_bytes (tuples_in s) ≡ take size (drop field_head s) = row ∙ ap (λ (j : ℕ). take j (drop field_head s)) n in
      ap (λ (x : Bytes). field_bytes tag x ++ after_field s) c ∙ field_there tag size s k v
