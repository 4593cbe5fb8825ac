-- `write_messages::may_write` meets its contract. Assumes nothing.
use mathlib.Core.Path.{◌∙◌, sym}
use mathlib.Core.Bool.{◌&&◌}
use lib.Dec.{leb}
use lib.ListN.{length}
use Rattle.pages.specs.Pages.{slots_of, is_log}
use Rattle.pages.proofs.SlotBySlot.{length_slots}
use Rattle.messages.specs.Messages.{most_names}
use Rattle.messages.proofs.SlotsAreALog.{may_by}
use Rattle.write_messages.proofs.may_write.Goals as goal
use Rattle.write_messages.proofs.may_write.Goals.{then-numbers_ok, else-numbers_ok}

pub returns-then-log_ok : goal.returns-then-log_ok
returns-then-log_ok c =
    let x = c.args.x in
    let s = c.args.names.now in
    elim c.if-numbers_ok.branch [
      | then-numbers_ok w ↦
          let a = sym c.numbers_ok.ensures ∙ w.if-numbers_ok.true in
          let b = sym w.log_ok.ensures ∙ sym w.value-is ∙ c.if-log_ok.true in
          sym (may_by x s ∙ (λ i. a i && (b i && leb (length_slots s i) (sym c.most_names.ensures i))))
      | else-numbers_ok w ↦ absurd (cc)
    ]

pub returns-else-log_ok : goal.returns-else-log_ok
returns-else-log_ok c =
    let x = c.args.x in
    let s = c.args.names.now in
    let few = leb (length (slots_of s)) (most_names x.kind) in
    elim c.if-numbers_ok.branch [
      | then-numbers_ok w ↦
          let a = sym c.numbers_ok.ensures ∙ w.if-numbers_ok.true in
          let b = sym w.log_ok.ensures ∙ sym w.value-is ∙ c.if-log_ok.false in
          c.if-log_ok.false ∙ sym (may_by x s ∙ (λ i. a i && (b i && few)))
      | else-numbers_ok w ↦
          let a = sym c.numbers_ok.ensures ∙ w.if-numbers_ok.false in
          c.if-log_ok.false ∙ sym (may_by x s ∙ (λ i. a i && (is_log s && few)))
    ]
