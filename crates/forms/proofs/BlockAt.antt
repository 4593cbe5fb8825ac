-- The group at the place p of a form s, as the code has it: when there is one (`block_none`, `block_some`; `none_told`, `some_told`), by what the code asks (`Asked`:
-- `stood_asked`, `asked_stands`); that it lies within s (`stood`); what it says (`block_group`), where it ends (`block_end`), and that what follows it
-- stands there (`block_after`). Assumes nothing.
use mathlib.Core.Path.{◌≡◌, refl, sym, ap, ◌∙◌}
use mathlib.Core.Bool.{Bool, true, false, cond, ◌&&◌}
use Prim.Native.Nat.{ℕ, ◌+◌, ◌-◌, ◌*◌, ◌/◌, ◌%◌, ◌≤◌}
use native.Mathlib.Omega.{arith}
use borrow.Author.Tests.{le-leb, eq-eqb}
use lib.ListN.{length, drop, get_or, length-drop}
use lib.Seq.{drop-drop}
use Rattle.numbers.specs.Bytes.{Bytes, Octets, at16, at64}
use Rattle.numbers.proofs.Bools.{never}
use Rattle.numbers.proofs.Octets.{octets_drop}
use Rattle.numbers.proofs.ReadNumbers.{byte_on, two_on}
use Rattle.slots.specs.Tuples.{tuple_size}
use Rattle.fields.specs.Fields.{field_head, tag_in, size_in, after_field, stands}
use Rattle.fields.proofs.FieldInverse.{Standing}
use Rattle.name_fields.proofs.NameInverse.{name_whole}
use Rattle.groups.specs.Groups.{line_size}
use Rattle.groups.specs.Forms.{first_tag, length_tag, lines_tag, length_size, group_bytes, length_in, group_stands, group_in, after_group}
use Rattle.groups.proofs.GroupFields.{group_stands_lem}
use Rattle.groups.proofs.GroupAt.{group_at, end_at, end_within, after_at}
use Rattle.std.specs.declared.option.Option.TheVariants.{Some, None}
use Rattle.forms.specs.declared.Block.{Block}
use Rattle.forms.specs.Blocks.{after_name, block_here, block_at, end_of, group_of, Stood}
use Rattle.forms.proofs.SizesAt.{most, sizes, eight_at, fields_eight, eight_fields}

-- what the test of a field asks
is_standing : {tag size : ℕ} {s : Bytes} → Standing tag size s → stands tag size s ≡ true
is_standing {tag} {size} {s} v =
    λ i. le-leb (field_head + size) (length s) v.long i && eq-eqb (tag_in s) tag v.tagged i && eq-eqb (size_in s) size v.sized i

module _ (s : Bytes) (p : ℕ) where
  -- where the name's field ends
  abbrev pub name_end : ℕ
  name_end = p + field_head + size_in (drop p s)

  -- ── whether one stands ──

  second : after_field (drop p s) ≡ drop name_end s
  second =
      let e : p + (field_head + size_in (drop p s)) ≡ name_end = omega arith in
      drop-drop (field_head + size_in (drop p s)) p s ∙ ap (λ (n : ℕ). drop n s) e

  -- the length stands in it
  pub length_at : at16 s (name_end + field_head) ≡ length_in (after_field (drop p s))
  length_at = sym (ap length_in second ∙ two_on name_end s field_head (name_end + field_head) refl)

  -- what the code asks: a group stands exactly where all of it holds
  pub record Asked : Type 0 where
    pub tagged : get_or s p 0 ≡ first_tag
    pub whole : tuple_size * (size_in (drop p s) / tuple_size) ≡ size_in (drop p s)
    pub few : length_in (after_field (drop p s)) ≤ most
    pub sized : at64 s name_end ≡ sizes (length_in (after_field (drop p s)))
    pub long : name_end + after_name + line_size * length_in (after_field (drop p s)) ≤ length s

  module _ (k : Octets s) where
    abbrev t : Bytes
    t = after_field (drop p s)

    o : Octets t
    o = octets_drop (field_head + size_in (drop p s)) (drop p s) (octets_drop p s k)

    eight : at64 s name_end ≡ at64 t 0
    eight = eight_at s name_end ∙ ap (λ (x : Bytes). at64 x 0) (sym second)

    pub stood_asked : group_stands (drop p s) ≡ true → Asked
    stood_asked e =
        let v = group_stands_lem (drop p s) e in
        let f = fields_eight t o v.length v.lines in
        record {
          tagged = sym (byte_on p s 0 p (omega arith)) ∙ v.first.tagged;
          whole = name_whole first_tag (drop p s) v.name;
          few = f.1;
          sized = eight ∙ f.0;
          long = end_within s p e;
        }

    pub asked_stands : Asked → group_stands (drop p s) ≡ true
    asked_stands q =
        let v = eight_fields t o (sym eight ∙ q.sized) q.few in
        let l = q.long in
        let w = q.whole in
        let z = v.length_size_lem in
        let d : length (drop p s) ≡ length s - p = length-drop p s in
        let g : length t ≡ length s - name_end = ap length second ∙ length-drop name_end s in
        let f : length (after_field t) ≡ length t - (field_head + size_in t) = length-drop (field_head + size_in t) t in
        let m : size_in (drop p s) % tuple_size ≡ 0 = omega arith in
        let n : Standing first_tag (size_in (drop p s)) (drop p s) =
        record { long = omega arith; tagged = byte_on p s 0 p (omega arith) ∙ q.tagged; sized = refl } in
        let a : Standing length_tag length_size t = record { long = omega arith; tagged = v.length_tag_lem; sized = z } in
        let b : Standing lines_tag (line_size * length_in t) (after_field t) =
        record { long = omega arith; tagged = v.lines_tag_lem; sized = v.lines_size } in
        λ i. is_standing n i && eq-eqb (size_in (drop p s) % tuple_size) 0 m i && is_standing a i && is_standing b i

    -- so none stands where the code gives up
    pub none_asked : (Asked → ⊥) → group_stands (drop p s) ≡ false
    none_asked f = never (group_stands (drop p s)) (λ e. f (stood_asked e))

  -- ── the block ──

  pub block_none : group_stands (drop p s) ≡ false → None ≡ block_at s p
  block_none e = sym (ap (λ (b : Bool). cond b (Some (block_here s p)) None) e)

  pub block_some : group_stands (drop p s) ≡ true → Some (block_here s p) ≡ block_at s p
  block_some e = sym (ap (λ (b : Bool). cond b (Some (block_here s p)) None) e)

  -- what the code is told of it
  pub none_told : None ≡ block_at s p → group_stands (drop p s) ≡ false
  none_told q = never (group_stands (drop p s)) (λ e. let z : Some (block_here s p) ≡ None = block_some e ∙ sym q in absurd (let w : ◌≡◌ {A = ℕ} 0 1 = cc in omega arith))

  pub some_told : {x : Block} → Some x ≡ block_at s p → (group_stands (drop p s) ≡ true) × (x ≡ block_here s p)
  some_told {x} q = by (group_stands (drop p s)) refl
    where
      by : (b : Bool) → group_stands (drop p s) ≡ b → (group_stands (drop p s) ≡ true) × (x ≡ block_here s p)
      by true e = let z : Some x ≡ Some (block_here s p) = q ∙ sym (block_some e) in (e, cc)
      by false e = let z : Some x ≡ None = q ∙ sym (block_none e) in absurd (let w : ◌≡◌ {A = ℕ} 0 1 = cc in omega arith)

  module _ (e : group_stands (drop p s) ≡ true) where
    pub block_group : group_of s (block_here s p) ≡ group_in (drop p s)
    block_group = sym (group_at s p e)

    pub block_end : end_of (block_here s p) ≡ p + length (group_bytes (group_in (drop p s)))
    block_end = sym (end_at s p e)

    pub block_after : drop (end_of (block_here s p)) s ≡ after_group (drop p s)
    block_after = sym (after_at s p e)

    -- it lies within s
    pub stood : Octets s → Stood s (block_here s p)
    stood k =
        let v = stood_asked k e in
        let w = v.whole in
        let f = v.long in
        let l = v.few in
        (omega arith, f, omega arith)
