-- `one_name::alone_within` meets its contract. Assumes nothing.
use mathlib.Core.Path.{◌≡◌, ◌∙◌, ap}
use Prim.Native.Nat.{ℕ, ◌≤◌}
use native.Mathlib.Omega.{arith}
use borrow.Author.Tests.{lt-ltb}
use lib.IntN.{nat_abs}
use lib.ListN.{length, drop}
use Rattle.slots.specs.Tuples.{row_at}
use Rattle.slots.proofs.TuplesInBytes.{length_tuples_at}
use Rattle.pages.specs.Pages.{names_of}
use Rattle.name_renames.specs.Alone.{index_in, in_gap}
use Rattle.name_renames.proofs.Alone.{alone_short, alone_long}
use Rattle.one_name.proofs.TestedSides.{index_read, next_logged}
use Rattle.one_name.proofs.alone_within.Goals as goal

pub returns-then-c-lt2 : goal.returns-then-c-lt2
returns-then-c-lt2 c =
    let a = c.args in
    let deep = length_tuples_at a.s.now a.c.at a.c.count in
    lt-ltb a.c.count 2 c.if-c-lt2.true ∙ alone_short a.author (names_of a.log.now) (row_at a.s.now a.c) (omega arith)

pub index_of-requires : goal.index_of-requires
index_of-requires c =
    let a = c.args in
    let i = index_read a.log.now a.author (row_at a.s.now a.c) c.requires.log_value.0 c.requires.n.0 c.requires.n.1 in
    (c.requires.log_value.1, omega arith, i.1)

pub is_within-requires : goal.is_within-requires
is_within-requires c =
    let a = c.args in
    let x = row_at a.s.now a.c in
    let k = c.index_of.result in
    let two : 2 ≤ length x = omega (arith, length_tuples_at a.s.now a.c.at a.c.count, c.if-c-lt2.false) in
    (next_logged a.log.now a.author x c.requires.log_value.0 c.requires.n.0 c.requires.n.1 k c.index_of.ensures two, c.without.ensures.0)

pub returns-else-c-lt2 : goal.returns-else-c-lt2
returns-else-c-lt2 c =
    let a = c.args in
    let l = names_of a.log.now in
    let x = row_at a.s.now a.c in
    let two : 2 ≤ length x = omega (arith, length_tuples_at a.s.now a.c.at a.c.count, c.if-c-lt2.false) in
    let k = c.index_of.result in
    let e : k ≡ index_in x = ap nat_abs c.index_of.ensures in
    c.is_within.ensures ∙ ap (in_gap l k) c.without.ensures.1 ∙ ap (λ (j : ℕ). in_gap l j (drop 1 x)) e ∙ alone_long a.author l x two
