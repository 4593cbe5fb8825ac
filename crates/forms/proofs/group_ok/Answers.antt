-- `forms::group_ok` meets its contract. Assumes nothing.
use mathlib.Core.Path.{sym, ap, ◌∙◌}
use Prim.Native.Nat.{ℕ, ◌+◌}
use native.Mathlib.Omega.{arith}
use borrow.Author.Rules.{rules}
use lib.Dec.{leb}
use Rattle.numbers.proofs.Bools.{never, yes_no}
use Rattle.groups.specs.Groups.{is_group}
use Rattle.forms.specs.Blocks.{group_of}
use Rattle.forms.proofs.GroupsInBlocks.{Named, group_named, group_exactly}
use Rattle.forms.proofs.group_ok.Goals as goal
use Rattle.forms.proofs.group_ok.Goals.{then-name-le-LIMIT, else-name-le-LIMIT}

pub returns-then-is_name_at : goal.returns-then-is_name_at
returns-then-is_name_at c =
    let s = c.args.form.now in
    let x = c.args.block in
    let v : Named s x = record { long = search rules; named = search rules; deep = search rules; short = search rules } in
    ap (λ (n : ℕ). leb (n + x.count) 2147483647) c.last_offset.ensures
    ∙ sym (group_exactly s x (λ i. omega (arith, c.type_inv.form i)) c.requires.2 v)

pub returns-else-is_name_at : goal.returns-else-is_name_at
returns-else-is_name_at c =
    let s = c.args.form.now in
    let x = c.args.block in
    let f = c.if-is_name_at.false in
    elim c.if-name-le-LIMIT.branch [
      | then-name-le-LIMIT w ↦ f ∙ sym (never (is_group (group_of s x)) (λ e. yes_no (w.value-is ∙ w.is_name_at.ensures ∙ (group_named s x e).named) f))
      | else-name-le-LIMIT w ↦
          f ∙ sym (never (is_group (group_of s x)) (λ e. let v = group_named s x e in omega (arith, v.long, v.deep, v.short, w.if-name-le-LIMIT.either)))
    ]
