-- `pages::check_log` meets its contract. Assumes nothing.
use mathlib.Core.Path.{◌∙◌, sym, ap}
use Rattle.std.specs.declared.result.Result.TheVariants.{Ok}
use Rattle.pages.specs.Pages.{check_log}
use Rattle.pages.proofs.SlotBySlot.{length_slots}
use Rattle.pages.proofs.check_log.Goals as goal

pub returns-else-log_ok : goal.returns-else-log_ok
unfolding check_log
returns-else-log_ok c = simp (sym c.log_ok.ensures ∙ c.if-log_ok.false)

pub returns-then-log_ok : goal.returns-then-log_ok
unfolding check_log
returns-then-log_ok c =
    simp (sym c.log_ok.ensures ∙ c.if-log_ok.true)
    (ap Ok (sym (length_slots c.args.log.now)))
