-- A name's field at the place p of some bytes s, under any tag: where in s its tuples stand (`tuples_at_lem`), and how far it reaches
-- (`name_long`); what the code has found there (`some_told`, `none_told`, `field_tuples`, `field_nothing`), and where the tuples then stand (`Found`). The
-- length of the field of a name that stands in s (`field_size`). Assumes nothing.
use mathlib.Core.Path.{◌≡◌, refl, sym, ap, ◌∙◌}
use mathlib.Core.Bool.{Bool, true, false}
use Prim.Native.Nat.{ℕ, ◌+◌, ◌*◌, ◌/◌, ◌%◌, ◌≤◌}
use native.Mathlib.Omega.{arith}
use lib.Dec.{eqb}
use lib.ListN.{length, drop}
use Rattle.std.specs.Prelude.{Some, None}
use Rattle.std.specs.Bool.{then_some}
use Rattle.numbers.proofs.Bools.{and_0}
use Rattle.numbers.specs.Bytes.{Bytes}
use Rattle.slots.specs.declared.Span.{Span}
use Rattle.slots.specs.Tuples.{tuple_size, tuples_at, row_at, Within}
use Rattle.slots.proofs.TuplesInBytes.{tuples_on, length_tuples_at}
use Rattle.fields.specs.Fields.{field_head, size_in, stands}
use Rattle.fields.proofs.FieldAt.{stands_long}
use Rattle.name_fields.specs.NameFields.{field_of_name, name_stands_as, tuples_in, field_in}
use Rattle.name_fields.proofs.NameInverse.{name_length, name_whole}

module _ (s : Bytes) (p : ℕ) where
  pub tuples_at_lem : (n : ℕ) → n ≡ size_in (drop p s) → tuples_at s (p + field_head) (n / tuple_size) ≡ tuples_in (drop p s)
  tuples_at_lem n e =
      sym (tuples_on p s field_head (p + field_head) (n / tuple_size) refl)
      ∙ ap (λ (k : ℕ). tuples_at (drop p s) field_head (k / tuple_size)) e

module _ (tag : ℕ) (s : Bytes) (p : ℕ) where
  -- what stands ends within s
  pub name_long : name_stands_as tag (drop p s) ≡ true → p + (field_head + size_in (drop p s)) ≤ length s
  name_long e =
      let size = size_in (drop p s) in
      (stands_long s p tag size (and_0 (stands tag size (drop p s)) (eqb (size % tuple_size) 0) e)).0

-- the field of a name that stands in s
pub field_size : (tag : ℕ) (s : Bytes) (x : Span) → length (field_of_name tag (row_at s x)) ≡ field_head + tuple_size * x.count
field_size tag s x = name_length tag (row_at s x) ∙ ap (λ (n : ℕ). field_head + tuple_size * n) (length_tuples_at s x.at x.count)

-- ── what the code has found ──

pub some_told : {A : Type 0} (b : Bool) (x y : A) → then_some b x ≡ Some y → (b ≡ true) × (x ≡ y)
some_told true x y e = (refl, cc)
some_told false x y e = absurd (cc)

pub none_told : {A : Type 0} (b : Bool) (x : A) → then_some b x ≡ None → b ≡ false
none_told true x e = absurd (cc)
none_told false x e = refl

module _ (tag : ℕ) (t : Bytes) where
  pub field_tuples : (n : ℕ) → field_in tag t ≡ Some n → (name_stands_as tag t ≡ true) × (size_in t / tuple_size ≡ n)
  field_tuples n e = some_told (name_stands_as tag t) (size_in t / tuple_size) n e

  pub field_nothing : field_in tag t ≡ None → name_stands_as tag t ≡ false
  field_nothing e = none_told (name_stands_as tag t) (size_in t / tuple_size) e

-- a name's field of n tuples was found at p: where the tuples stand, and where the field ends
pub record Found (tag : ℕ) (s : Bytes) (p n : ℕ) : Type 0 where
  pub stood : name_stands_as tag (drop p s) ≡ true
  pub within : Within s (record { at = p + field_head; count = n })
  pub is : row_at s (record { at = p + field_head; count = n }) ≡ tuples_in (drop p s)
  pub end : p + field_head + tuple_size * n ≡ p + (field_head + size_in (drop p s))

pub found : (tag : ℕ) (s : Bytes) (p n : ℕ) → field_in tag (drop p s) ≡ Some n → Found tag s p n
found tag s p n e =
    let t = drop p s in
    let f = field_tuples tag t n e in
    let w = name_whole tag t f.0 in
    let l = name_long tag s p f.0 in
    let q : tuple_size * n ≡ size_in t = ap (λ (k : ℕ). tuple_size * k) (sym f.1) ∙ w in
    record {
      stood = f.0;
      within = omega arith;
      is = ap (tuples_at s (p + field_head)) (sym f.1) ∙ tuples_at_lem s p (size_in t) refl;
      end = omega arith;
    }
