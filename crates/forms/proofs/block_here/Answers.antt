-- `forms::block_here` meets its contract. Assumes nothing.
use mathlib.Core.Path.{◌≡◌, sym, ap, ◌∙◌, subst}
use Prim.Native.Nat.{ℕ, ◌+◌, ◌/◌}
use native.Mathlib.Omega.{arith}
use Rattle.numbers.specs.Bytes.{at16}
use Rattle.slots.specs.Tuples.{tuple_size}
use Rattle.fields.specs.Fields.{field_head}
use Rattle.forms.specs.Blocks.{after_name, block_here, Stood}
use Rattle.forms.proofs.BlockAt.{length_at, stood}
use Rattle.forms.proofs.block_here.Goals as goal

pub returns : goal.returns
returns c =
    let s = c.args.form.now in
    let p = c.args.cursor.at in
    let z = c.size_at-size.ensures.0 in
    let n = c.from.ensures ∙ c.read_u16.ensures ∙ ap (λ (k : ℕ). at16 s (p + field_head + k + field_head)) z ∙ length_at s p in
    let e : record {
      name = record { at = p + field_head; count = c.size_at-size.result / tuple_size };
      lines = p + field_head + c.size_at-size.result + after_name;
      count = c.from.result;
    } ≡ block_here s p =
    λ i. record {
      name = record { at = p + field_head; count = z i / tuple_size };
      lines = p + field_head + z i + after_name;
      count = n i;
    } in
    record { value = e; stood = subst (Stood s) (sym e) (stood s p c.requires.1 (λ i. omega (arith, c.type_inv.form i))) }
