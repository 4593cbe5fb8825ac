-- A group at the place p of some bytes s, told by the bytes of s: what it says (`group_at`), where it ends (`end_at`, `end_within`), and that
-- what follows it stands there (`after_at`). Assumes nothing.
use mathlib.Core.Path.{◌≡◌, refl, sym, ap, ◌∙◌}
use mathlib.Core.List.{List}
use mathlib.Core.Bool.{true}
use Prim.Native.Nat.{ℕ, ◌+◌, ◌*◌, ◌/◌, ◌≤◌}
use native.Mathlib.Omega.{arith}
use lib.ListN.{length, drop, length-drop}
use lib.Seq.{drop-drop}
use Rattle.numbers.specs.Bytes.{Bytes}
use Rattle.slots.specs.Tuples.{tuple_size, tuples_at}
use Rattle.slots.proofs.TuplesInBytes.{length_tuples_at}
use Rattle.fields.specs.Fields.{field_head, size_in, after_field}
use Rattle.name_fields.proofs.NameInverse.{name_whole}
use Rattle.name_fields.proofs.NameAt.{tuples_at_lem}
use Rattle.groups.specs.Groups.{line_size}
use Rattle.groups.specs.Forms.{first_tag, length_size, group_bytes, length_in, lines_at, group_stands, group_in, after_group}
use Rattle.groups.proofs.LineBytes.{length_lines_at, lines_on}
use Rattle.groups.proofs.GroupFields.{Stands, group_stands_lem}
use Rattle.groups.proofs.GroupBytes.{group_length}

-- where the line numbers of a group at p stand, and where it ends
abbrev pub lines_place : Bytes → ℕ → ℕ
lines_place s p = p + field_head + size_in (drop p s) + (field_head + length_size + field_head)

abbrev pub group_end : Bytes → ℕ → ℕ
group_end s p = lines_place s p + line_size * length_in (after_field (drop p s))

module _ (s : Bytes) (p : ℕ) (e : group_stands (drop p s) ≡ true) where
  abbrev here : Bytes
  here = drop p s

  v : Stands here
  v = group_stands_lem here e

  -- the places of the second field and of the third
  second : after_field here ≡ drop (p + (field_head + size_in here)) s
  second = drop-drop (field_head + size_in here) p s

  third : after_field (after_field here) ≡ drop (p + (field_head + size_in here) + (field_head + length_size)) s
  third =
      ap (λ (n : ℕ). drop (field_head + n) (after_field here)) v.length.sized
      ∙ ap (drop (field_head + length_size)) second
      ∙ drop-drop (field_head + length_size) (p + (field_head + size_in here)) s

  pub after_at : after_group (drop p s) ≡ drop (group_end s p) s
  after_at =
      let n = line_size * length_in (after_field here) in
      let q = p + (field_head + size_in here) + (field_head + length_size) in
      let f : q + (field_head + n) ≡ group_end s p = omega arith in
      ap (λ (k : ℕ). drop (field_head + k) (after_field (after_field here))) v.lines.sized
      ∙ ap (drop (field_head + n)) third
      ∙ drop-drop (field_head + n) q s
      ∙ ap (λ (k : ℕ). drop k s) f

  pub end_within : group_end s p ≤ length s
  end_within =
      let a = v.first.long in
      let b = v.length.long in
      let c = v.lines.long in
      let d = length-drop p s in
      let f = ap length second ∙ length-drop (p + (field_head + size_in here)) s in
      let g = ap length third ∙ length-drop (p + (field_head + size_in here) + (field_head + length_size)) s in
      omega arith

  pub group_at : group_in (drop p s)
      ≡ record { first = tuples_at s (p + field_head) (size_in (drop p s) / tuple_size); lines = lines_at s (lines_place s p) (length_in (after_field (drop p s))) }
  group_at =
      let n = length_in (after_field here) in
      let q = p + (field_head + size_in here) + (field_head + length_size) in
      let f : lines_place s p ≡ q + field_head = omega arith in
      (λ i. record { first = sym (tuples_at_lem s p (size_in here) refl) i; lines = lines_at (third i) field_head n })
      ∙ ap (λ (l : List ℕ). record { first = tuples_at s (p + field_head) (size_in here / tuple_size); lines = l }) (lines_on q s field_head (lines_place s p) n f)

  pub end_at : p + length (group_bytes (group_in (drop p s))) ≡ group_end s p
  end_at =
      let a = group_length (group_in here) in
      let b = length_tuples_at here field_head (size_in here / tuple_size) in
      let c = name_whole first_tag here v.name in
      let d = length_lines_at (after_field (after_field here)) field_head (length_in (after_field here)) in
      omega arith
