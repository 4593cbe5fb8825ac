-- `forms::block_at` meets its contract. Assumes nothing.
use mathlib.Core.Path.{◌≡◌, sym, ap, ◌∙◌, subst}
use Prim.Native.Nat.{ℕ, ◌+◌, ◌/◌}
use native.Mathlib.Omega.{arith}
use Rattle.numbers.specs.Bytes.{Octets, at16, at64}
use Rattle.fields.specs.Fields.{field_head}
use Rattle.std.specs.declared.option.Option.TheVariants.{Some}
use Rattle.forms.specs.declared.Block.{Block}
use Rattle.slots.specs.Tuples.{tuple_size}
use Rattle.forms.specs.Blocks.{after_name, block_here, Stood}
use Rattle.forms.proofs.BlockAt.{length_at, asked_stands, none_asked, block_none, block_some, stood}
use Rattle.forms.proofs.SizesAt.{sizes}
use Rattle.forms.proofs.block_at.Goals as goal

pub returns-then-count-gt-MOST-clause-value : goal.returns-then-count-gt-MOST-clause-value
returns-then-count-gt-MOST-clause-value c =
    let s = c.args.form.now in
    let p = c.args.cursor.at in
    let o : Octets s = λ i. omega (arith, c.type_inv.form i) in
    let z = c.size_at-size.ensures.0 in
    let n = c.from-count.ensures ∙ c.read_u16-slots.ensures ∙ ap (λ (k : ℕ). at16 s (p + field_head + k + field_head)) z ∙ length_at s p in
    block_none s p (none_asked s p o (λ v. let f = v.few in omega (arith, c.if-count-gt-MOST.true)))

pub returns-then-read_u64-from-clause-value : goal.returns-then-read_u64-from-clause-value
returns-then-read_u64-from-clause-value c =
    let s = c.args.form.now in
    let p = c.args.cursor.at in
    let o : Octets s = λ i. omega (arith, c.type_inv.form i) in
    let z = c.size_at-size.ensures.0 in
    let m = c.read_u64.ensures ∙ ap (λ (k : ℕ). at64 s (p + field_head + k)) z in
    let w = c.from.ensures ∙ c.read_u16-slots.ensures ∙ ap (λ (k : ℕ). at16 s (p + field_head + k + field_head)) z ∙ length_at s p in
    block_none s p (none_asked s p o (λ v. c.if-read_u64-from.true (m ∙ v.sized ∙ ap sizes (sym w))))

pub returns-then-form-end-clause-value : goal.returns-then-form-end-clause-value
returns-then-form-end-clause-value c =
    let s = c.args.form.now in
    let p = c.args.cursor.at in
    let o : Octets s = λ i. omega (arith, c.type_inv.form i) in
    let z = c.size_at-size.ensures.0 in
    let n = c.from-count.ensures ∙ c.read_u16-slots.ensures ∙ ap (λ (k : ℕ). at16 s (p + field_head + k + field_head)) z ∙ length_at s p in
    block_none s p (none_asked s p o (λ v. let l = v.long in omega (arith, c.if-form-end.true)))

pub returns : goal.returns
returns c =
    let s = c.args.form.now in
    let p = c.args.cursor.at in
    let o : Octets s = λ i. omega (arith, c.type_inv.form i) in
    let z = c.size_at-size.ensures.0 in
    let r = c.read_u16-slots.ensures ∙ ap (λ (k : ℕ). at16 s (p + field_head + k + field_head)) z ∙ length_at s p in
    let n = c.from-count.ensures ∙ r in
    let w = c.from.ensures ∙ r in
    let m = c.read_u64.ensures ∙ ap (λ (k : ℕ). at64 s (p + field_head + k)) z in
    let e = asked_stands s p o
    (record {
      tagged = c.if-form-at-ne-FIRST_TAG.false;
      whole = omega (arith, c.if-depth-size.false);
      few = omega (arith, c.if-count-gt-MOST.false);
      sized = sym m ∙ c.if-read_u64-from.false ∙ ap sizes w;
      long = omega (arith, c.if-form-end.false);
    }) in
    let q : record {
      name = record { at = p + field_head; count = c.size_at-size.result / tuple_size };
      lines = p + field_head + c.size_at-size.result + after_name;
      count = c.from-count.result;
    } ≡ block_here s p =
    λ i. record {
      name = record { at = p + field_head; count = z i / tuple_size };
      lines = p + field_head + z i + after_name;
      count = n i;
    } in
    record { value = ap (λ (x : Block). Some x) q ∙ block_some s p e; stood = subst (Stood s) (sym q) (stood s p e o) }
