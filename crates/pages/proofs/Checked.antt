-- What the checks of a page and of a log answer, against 01's list: a refusal is the first test that fails, whatever a call asks after them (`page_fails`,
-- `log_fails`); a count, that all pass, and of what it is the count (`page_counts`, `log_passes`). Assumes nothing.
use mathlib.Core.Path.{◌≡◌, sym, ◌∙◌}
use mathlib.Core.List.{List, [], ◌∷◌, ◌++◌}
use mathlib.Core.Bool.{true}
use Prim.Native.Nat.{ℕ, ◌/◌}
use lib.ListN.{length}
use Rattle.numbers.specs.Bytes.{Bytes}
use Rattle.slots.specs.Slots.{size_over}
use Rattle.std.specs.declared.result.Result.TheVariants.{Ok, Err}
use Rattle.answers.specs.declared.Refusal.{Refusal}
use Rattle.answers.specs.declared.Refusal.TheVariants.{BadLayout, NotRising, BadLog}
use Rattle.answers.specs.Answers.{Test, ◌else◌}
use Rattle.answers.specs.Laws.{FirstFails}
use Rattle.answers.proofs.Checked.{check_fails, check_passes, fails_on}
use Rattle.pages.specs.Pages.{layout_over, rises_over, slots_over, is_log, check_over, check_log}
use Rattle.pages.proofs.SlotBySlot.{length_slots_over}

module _ (room : ℕ) (s : Bytes) where
  abbrev pub page_tests : List Test
  page_tests = layout_over room s else BadLayout ∷ rises_over room s else NotRising ∷ []

  pub page_fails : {r : Refusal} (more : List Test) → check_over room s ≡ Err r → FirstFails r (page_tests ++ more)
  unfolding check_over
  page_fails more e = fails_on more (check_fails _ page_tests e)

  pub page_counts : {n : ℕ} → check_over room s ≡ Ok n → (layout_over room s ≡ true) × (rises_over room s ≡ true) × (n ≡ length s / size_over room)
  unfolding check_over
  page_counts e = let g = check_passes (length (slots_over room s)) page_tests e in (g.0.0, g.0.1.0, sym g.1 ∙ sym (length_slots_over room s))

module _ (log : Bytes) where
  pub log_fails : {r : Refusal} (more : List Test) → check_log log ≡ Err r → FirstFails r (is_log log else BadLog ∷ more)
  unfolding check_log
  log_fails more e = fails_on more (check_fails _ (is_log log else BadLog ∷ []) e)

  pub log_passes : {n : ℕ} → check_log log ≡ Ok n → is_log log ≡ true
  unfolding check_log
  log_passes e = (check_passes _ (is_log log else BadLog ∷ []) e).0.0
