-- What the check of the page tells of a new name, where it refuses. Assumes nothing.
use mathlib.Core.Path.{◌≡◌}
use mathlib.Core.List.{[], ◌∷◌}
use Prim.Native.Nat.{ℕ}
use lib.ListN.{length}
use Rattle.names.specs.declared.Author.{Author}
use Rattle.numbers.specs.Bytes.{Bytes}
use Rattle.std.specs.declared.result.Result.TheVariants.{Err}
use Rattle.answers.specs.declared.Refusal.{Refusal}
use Rattle.answers.specs.declared.Refusal.TheVariants.{NoAuthor, NoGap}
use Rattle.answers.specs.Answers.{◌else◌}
use Rattle.answers.proofs.Refusals.{failed}
use lib.Dec.{leb}
use Rattle.names.specs.Names.{limit}
use Rattle.pages.specs.Pages.{slots_of, check_page}
use Rattle.pages.proofs.Checked.{page_fails}
use Rattle.new_names.specs.NewNames.{refuse_name, gap_tests, new_name_outcome}

pub turned_away : (page : Bytes) (gap : ℕ) (author : Author) {r : Refusal} → check_page page ≡ Err r → new_name_outcome page gap author ≡ refuse_name r
unfolding new_name_outcome
turned_away page gap author e =
    failed refuse_name _ (gap_tests page gap author) (page_fails limit page (leb 1 author.node else NoAuthor ∷ leb gap (length (slots_of page)) else NoGap ∷ []) e)
