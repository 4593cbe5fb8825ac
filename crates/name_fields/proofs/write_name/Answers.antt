-- `name_fields::write_name` meets its contract. Assumes nothing.
use mathlib.Core.Path.{◌≡◌, refl, sym, ◌∙◌, ap}
use mathlib.Core.List.{◌∷◌, ◌++◌}
use Prim.Native.Nat.{ℕ, ◌*◌}
use native.Mathlib.Omega.{arith}
use lib.ListN.{length}
use Rattle.numbers.specs.Bytes.{bytes16, put}
use Rattle.slots.specs.Tuples.{tuple_size, row_at, row_bytes}
use Rattle.numbers.proofs.Put.{put_more}
use Rattle.slots.proofs.TuplesInBytes.{length_tuples_at}
use Rattle.slots.proofs.WrittenSlots.{row_length}
use Rattle.name_fields.proofs.NameAt.{field_size}
use Rattle.name_fields.proofs.write_name.Goals as goal

pub copy_row-requires : goal.copy_row-requires
copy_row-requires c =
    let l = field_size c.args.tag c.args.s.now c.args.name in
    let k = c.write_field_head.auto.out in
    (c.requires.0.1, omega arith, c.requires.0.0)

pub returns : goal.returns
returns c =
    let o = c.args.out.now in
    let p = c.args.p in
    let s = c.args.s.now in
    let x = c.args.name in
    let a = row_at s x in
    let tag = c.args.tag in
    let l = field_size tag s x in
    let size = tuple_size * x.count in
    let e : size ≡ length (row_bytes a) = sym (row_length a ∙ ap (λ (n : ℕ). tuple_size * n) (length_tuples_at s x.at x.count)) in
    let head = c.write_field_head.ensures in
    let written = put_more o p (omega arith) (tag ∷ bytes16 size) (row_bytes a) head refl c.copy_row.ensures in
    record {
      value = omega arith;
      out_after = written ∙ ap (λ (n : ℕ). put o p ((tag ∷ bytes16 n) ++ row_bytes a)) e;
    }
