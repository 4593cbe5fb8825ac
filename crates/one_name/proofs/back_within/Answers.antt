-- `one_name::back_within` meets its contract. Assumes nothing.
use mathlib.Core.Path.{◌∙◌, sym, ap}
use mathlib.Core.Bool.{Bool, cond}
use Prim.Native.Nat.{◌≤◌}
use native.Mathlib.Omega.{arith}
use borrow.Author.Tests.{lt-ltb, le-ltb}
use lib.IntN.{nat_abs}
use lib.ListN.{length}
use Rattle.slots.specs.Tuples.{row_at}
use Rattle.slots.proofs.TuplesInBytes.{length_tuples_at}
use Rattle.pages.specs.Pages.{names_of}
use Rattle.name_renames.specs.Alone.{index_in}
use Rattle.one_name.specs.declared.Back.TheVariants.{Restored}
use Rattle.one_name.specs.Backs.{between_shape, within_shape}
use Rattle.one_name.proofs.TestedSides.{index_read, next_logged}
use Rattle.one_name.proofs.back_within.Goals as goal

pub index_of-k-requires : goal.index_of-k-requires
index_of-k-requires c =
    let a = c.args in
    let i = index_read a.log.now a.author (row_at a.s.now a.c) c.requires.log_value.0 c.requires.n.0 c.requires.n.1 in
    (c.requires.log_value.1, omega (arith, i.0, length_tuples_at a.s.now a.c.at a.c.count), i.1)

pub returns-then-c-lt2 : goal.returns-then-c-lt2
unfolding within_shape
returns-then-c-lt2 c =
    let a = c.args in
    let x = row_at a.s.now a.c in
    let log = names_of a.log.now in
    let short = lt-ltb (length x) 2 (omega (arith, length_tuples_at a.s.now a.c.at a.c.count)) in
    ap Restored (ap nat_abs c.index_of-k.ensures) ∙ sym (ap (λ (b : Bool). cond b (Restored (index_in x)) (between_shape x log (index_in x))) short)

pub between-requires : goal.between-requires
between-requires c =
    let a = c.args in
    let x = row_at a.s.now a.c in
    let two : 2 ≤ length x = omega (arith, length_tuples_at a.s.now a.c.at a.c.count, c.if-c-lt2.false) in
    let known = c.index_of-k in
    let next = next_logged a.log.now a.author x c.requires.log_value.0 c.requires.n.0 c.requires.n.1 known.result known.ensures two in
    (next, c.requires.log_value.1, omega (arith, c.if-c-lt2.false))

pub returns-else-c-lt2 : goal.returns-else-c-lt2
unfolding within_shape
returns-else-c-lt2 c =
    let a = c.args in
    let x = row_at a.s.now a.c in
    let log = names_of a.log.now in
    let long = le-ltb (length x) 2 (omega (arith, length_tuples_at a.s.now a.c.at a.c.count, c.if-c-lt2.false)) in
    c.between.ensures ∙ ap (between_shape x log) (ap nat_abs c.index_of-k.ensures)
    ∙ sym (ap (λ (b : Bool). cond b (Restored (index_in x)) (between_shape x log (index_in x))) long)
