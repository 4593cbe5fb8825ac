-- `one_name::stem_of` meets its contract. Assumes nothing.
use mathlib.Core.Path.{◌∙◌, refl, sym, ap, subst}
use mathlib.Core.List.{[]}
use lib.ListN.{length, get_or}
use Rattle.slots.specs.Tuples.{row_at}
use Rattle.slots.proofs.TuplesInBytes.{length_tuples_at}
use Rattle.pages.specs.Pages.{names_of}
use Rattle.one_name.specs.Backs.{Stands}
use Rattle.one_name.proofs.StemsInBytes.{behind_depth, ahead_depth}
use Rattle.one_name.proofs.stem_of.Goals as goal

pub returns-in-Own-clause-behind_value : goal.returns-in-Own-clause-behind_value
returns-in-Own-clause-behind_value c =
    let row = c.without-row.result in
    let deep = sym (length_tuples_at c.args.s.now row.at row.count) ∙ ap length c.without-row.ensures.1 in
    rw c.in-Own.is (refl, refl, deep)

pub returns-in-Behind-clause-behind_value : goal.returns-in-Behind-clause-behind_value
returns-in-Behind-clause-behind_value c =
    let a = c.args in
    let x = row_at a.s.now a.c in
    let log = names_of a.log.now in
    let h = subst (Stands x log) c.in-Behind.is c.requires.1 in
    let known = c.logged_stem-in-Behind.ensures in
    let deep = known.5 ∙ behind_depth (get_or log c.in-Behind.k []) x a.c.count c.in-Behind.cut (length_tuples_at a.s.now a.c.at a.c.count) h.1.0 in
    rw c.in-Behind.is (refl, known.1, deep)

pub returns-in-Ahead-clause-behind_value : goal.returns-in-Ahead-clause-behind_value
returns-in-Ahead-clause-behind_value c =
    let a = c.args in
    let x = row_at a.s.now a.c in
    let log = names_of a.log.now in
    let h = subst (Stands x log) c.in-Ahead.is c.requires.1 in
    let known = c.logged_stem-in-Ahead.ensures in
    let deep = known.5 ∙ ahead_depth (get_or log c.in-Ahead.k []) x a.c.count c.in-Ahead.cut (length_tuples_at a.s.now a.c.at a.c.count) h.1.0 in
    rw c.in-Ahead.is (known.0, refl, deep)
