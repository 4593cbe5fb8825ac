-- `renamed_slots::tuple_back` meets its contract. Assumes nothing.
use mathlib.Core.Path.{◌∙◌, sym, ap, subst}
use Prim.Native.Nat.{◌<◌}
use native.Mathlib.Omega.{arith}
use lib.ListN.{length, get_or}
use Rattle.names.specs.Ordering.{Row}
use Rattle.names.specs.Names.{m}
use Rattle.slots.specs.Slots.{name_of}
use Rattle.pages.specs.Pages.{names_of}
use Rattle.one_name.specs.declared.Back.{Back}
use Rattle.one_name.specs.Backs.{shaped, Stands}
use Rattle.renamed_slots.proofs.ReadTuples.{count_of}
use Rattle.renamed_slots.proofs.tuple_back.Goals as goal

pub tuple_of-requires : goal.tuple_of-requires
tuple_of-requires c =
    let x = c.args in
    let n = count_of x.log.now c.span_of.result c.span_of.ensures.1 in
    let i = subst (λ (q : Back). x.i < length (shaped (name_of x.slot.now) (names_of x.log.now) q)) c.in-Restored.is c.requires.3 in
    (c.span_of.ensures.0, omega (arith, i))

pub own-requires : goal.own-requires
own-requires c =
    let x = c.args in
    let h = subst (Stands (name_of x.slot.now) (names_of x.log.now)) c.in-Own.is c.requires.2 in
    (c.requires.0, h.0)

pub tuple_of-requires-in-Own : goal.tuple_of-requires-in-Own
tuple_of-requires-in-Own c =
    let x = c.args in
    let n = count_of x.slot.now c.own.result c.own.ensures.1 in
    let i = subst (λ (q : Back). x.i < length (shaped (name_of x.slot.now) (names_of x.log.now) q)) c.in-Own.is c.requires.3 in
    (c.own.ensures.0, omega (arith, i))

pub tuple_behind-requires : goal.tuple_behind-requires
tuple_behind-requires c =
    let x = c.args in
    let a = name_of x.slot.now in
    let l = names_of x.log.now in
    let h = subst (Stands a l) c.in-Behind.is c.requires.2 in
    let i = subst (λ (q : Back). x.i < length (shaped a l q)) c.in-Behind.is c.requires.3 in
    (c.requires.0, h.1.0, i)

pub tuple_ahead-requires : goal.tuple_ahead-requires
tuple_ahead-requires c =
    let x = c.args in
    let a = name_of x.slot.now in
    let l = names_of x.log.now in
    let h = subst (Stands a l) c.in-Ahead.is c.requires.2 in
    let i = subst (λ (q : Back). x.i < length (shaped a l q)) c.in-Ahead.is c.requires.3 in
    (c.requires.0, h.1.0, c.requires.1, h.0, i)

pub returns-in-Restored : goal.returns-in-Restored
returns-in-Restored c =
    let x = c.args in
    c.tuple_of.ensures
    ∙ ap (λ (a : Row). get_or a x.i m) c.span_of.ensures.1
    ∙ ap (λ (q : Back). get_or (shaped (name_of x.slot.now) (names_of x.log.now) q) x.i m) (sym c.in-Restored.is)

pub returns-in-Own : goal.returns-in-Own
returns-in-Own c =
    let x = c.args in
    c.tuple_of-in-Own.ensures
    ∙ ap (λ (a : Row). get_or a x.i m) c.own.ensures.1
    ∙ ap (λ (q : Back). get_or (shaped (name_of x.slot.now) (names_of x.log.now) q) x.i m) (sym c.in-Own.is)

pub returns-in-Behind : goal.returns-in-Behind
returns-in-Behind c =
    let x = c.args in
    c.tuple_behind.ensures ∙ ap (λ (q : Back). get_or (shaped (name_of x.slot.now) (names_of x.log.now) q) x.i m) (sym c.in-Behind.is)

pub returns-in-Ahead : goal.returns-in-Ahead
returns-in-Ahead c =
    let x = c.args in
    c.tuple_ahead.ensures ∙ ap (λ (q : Back). get_or (shaped (name_of x.slot.now) (names_of x.log.now) q) x.i m) (sym c.in-Ahead.is)
