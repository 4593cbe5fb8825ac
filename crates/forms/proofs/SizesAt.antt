-- The eight bytes between a group's name and its line numbers, as one number: they are those of as many slots as the length in them says
-- exactly where the two fields stand (`fields_eight`, `eight_fields`). Assumes nothing.
use mathlib.Core.Path.{◌≡◌, refl, sym, ap, ◌∙◌}
use Prim.Native.Nat.{ℕ, ◌+◌, ◌*◌, ◌≤◌}
use native.Mathlib.Omega.{arith}
use lib.ListN.{drop, get_or}
use Rattle.numbers.specs.Bytes.{Bytes, Octets, at16, at64}
use Rattle.numbers.proofs.ReadNumbers.{fits16, byte_on, two_on, four_on}
use Rattle.fields.specs.Fields.{field_head, tag_in, size_in, after_field}
use Rattle.fields.proofs.FieldInverse.{Standing}
use Rattle.groups.specs.Groups.{line_size}
use Rattle.groups.specs.Forms.{length_tag, lines_tag, length_size, length_in}

-- so many line numbers have room in a field
abbrev pub most : ℕ
most = 16383

-- the number of so many slots
abbrev pub sizes : ℕ → ℕ
sizes n = 504405357289275392 + 16777220 * n

-- the eight bytes at p
pub eight_at : (s : Bytes) (p : ℕ) → at64 s p ≡ at64 (drop p s) 0
eight_at s p = sym (λ i. four_on p s 0 p (omega arith) i * 4294967296 + four_on p s 4 (p + 4) refl i)

module _ (t : Bytes) (k : Octets t) where
  parts : at64 t 0 ≡ get_or t 0 0 * 72057594037927936 + at16 t 1 * 1099511627776 + at16 t 3 * 16777216 + get_or t 5 0 * 65536 + at16 t 6
  parts = omega arith

  -- the third field stands right after the second
  after_tag : size_in t ≡ length_size → tag_in (after_field t) ≡ get_or t 5 0
  after_tag e = ap (λ (n : ℕ). tag_in (drop (field_head + n) t)) e ∙ byte_on 5 t 0 5 refl

  after_size : size_in t ≡ length_size → size_in (after_field t) ≡ at16 t 6
  after_size e = ap (λ (n : ℕ). size_in (drop (field_head + n) t)) e ∙ two_on 5 t 1 6 refl

  pub fields_eight : Standing length_tag length_size t → Standing lines_tag (line_size * length_in t) (after_field t)
      → (at64 t 0 ≡ sizes (length_in t)) × (length_in t ≤ most)
  fields_eight u v =
      let a : get_or t 0 0 ≡ length_tag = u.tagged in
      let b : at16 t 1 ≡ length_size = u.sized in
      let c : get_or t 5 0 ≡ lines_tag = sym (after_tag b) ∙ v.tagged in
      let d : at16 t 6 ≡ line_size * at16 t 3 = sym (after_size b) ∙ v.sized in
      let f = fits16 t 6 k in
      (parts ∙ omega arith, omega arith)

  -- what the two fields then say
  pub record Sized : Type 0 where
    pub length_tag_lem : tag_in t ≡ length_tag
    pub length_size_lem : size_in t ≡ length_size
    pub lines_tag_lem : tag_in (after_field t) ≡ lines_tag
    pub lines_size : size_in (after_field t) ≡ line_size * length_in t

  pub eight_fields : at64 t 0 ≡ sizes (length_in t) → length_in t ≤ most → Sized
  eight_fields e h =
      let p = sym parts ∙ e in
      let f = fits16 t 1 k in
      let g = fits16 t 6 k in
      let x = k 0 in
      let y = k 5 in
      let a : get_or t 0 0 ≡ 7 = omega arith in
      let b : at16 t 1 ≡ 2 = omega arith in
      let c : get_or t 5 0 ≡ 8 = omega arith in
      let d : at16 t 6 ≡ line_size * length_in t = omega arith in
      record { length_tag_lem = a; length_size_lem = b; lines_tag_lem = after_tag b ∙ c; lines_size = after_size b ∙ d }
