-- `renamed_slots::count_back` meets its contract. Assumes nothing.
use mathlib.Core.Path.{◌∙◌, sym, ap, subst}
use mathlib.Core.Logic.{inl, inr}
use mathlib.Core.Bool.{true, false}
use lib.ListN.{length}
use Rattle.slots.specs.Slots.{name_of}
use Rattle.pages.specs.Pages.{names_of}
use Rattle.one_name.specs.declared.Back.{Back}
use Rattle.one_name.specs.Backs.{shaped, Stands}
use Rattle.renamed_slots.proofs.JoinedRows.{joint_length}
use Rattle.renamed_slots.proofs.ReadTuples.{count_of}
use Rattle.renamed_slots.proofs.count_back.Goals as goal

pub own-requires : goal.own-requires
own-requires c =
    let x = c.args in
    let h = subst (Stands (name_of x.slot.now) (names_of x.log.now)) c.in-Own.is c.requires.1 in
    (c.requires.0, h.0)

pub count_joined-requires : goal.count_joined-requires
count_joined-requires c =
    let x = c.args in
    let stands = Stands (name_of x.slot.now) (names_of x.log.now) in
    elim c.in-Behind.is [
      | inl e ↦ (c.requires.0, (subst stands e c.requires.1).1.0)
      | inr e ↦ (c.requires.0, (subst stands e c.requires.1).1.0)
    ]

pub returns-in-Restored : goal.returns-in-Restored
returns-in-Restored c =
    let x = c.args in
    count_of x.log.now c.span_of.result c.span_of.ensures.1
    ∙ ap (λ (q : Back). length (shaped (name_of x.slot.now) (names_of x.log.now) q)) (sym c.in-Restored.is)

pub returns-in-Own : goal.returns-in-Own
returns-in-Own c =
    let x = c.args in
    count_of x.slot.now c.own.result c.own.ensures.1
    ∙ ap (λ (q : Back). length (shaped (name_of x.slot.now) (names_of x.log.now) q)) (sym c.in-Own.is)

pub returns-in-Behind : goal.returns-in-Behind
returns-in-Behind c =
    let a = name_of c.args.slot.now in
    let l = names_of c.args.log.now in
    elim c.in-Behind.is [
      | inl e ↦ c.count_joined.ensures ∙ joint_length a l c.in-Behind.k c.in-Behind.cut false ∙ ap (λ (q : Back). length (shaped a l q)) (sym e)
      | inr e ↦ c.count_joined.ensures ∙ joint_length a l c.in-Behind.k c.in-Behind.cut true ∙ ap (λ (q : Back). length (shaped a l q)) (sym e)
    ]
