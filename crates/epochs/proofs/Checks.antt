-- What the check of a table answers says of it: that it keeps its layout, and the count of its entries (`checked`), or 13, and that it does
-- not (`unchecked`). Assumes nothing.
use Rattle.std.proofs.Common.{◌≡◌, true, false, Bool, ℕ, length, refl, sym, ◌∙◌, ◌/◌}
use Rattle.numbers.specs.Bytes.{Bytes}
use Rattle.answers.specs.declared.Refusal.{Refusal}
use Rattle.answers.specs.declared.Refusal.TheVariants.{BadTable}
use Rattle.answers.specs.Answers.{ask}
use Rattle.std.specs.declared.result.Result.TheVariants.{Ok, Err}
use Rattle.epoch_tree.specs.Tables.{entry_size, entries_of, keeps_table}
use Rattle.epoch_tree.proofs.TableBytes.{length_entries}
use Rattle.epochs.specs.Calls.{check_table}

pub checked : (s : Bytes) (n : ℕ) → check_table s ≡ Ok n → (keeps_table s ≡ true) × (length (entries_of s) ≡ n) × (length s / entry_size ≡ n)
unfolding check_table
checked s n h = let k = go (keeps_table s) (length (entries_of s)) h in (k.0, k.1, sym (length_entries s) ∙ k.1)
  where
    go : (b : Bool) (l : ℕ) → ask b (Err BadTable) (Ok l) ≡ Ok n → (b ≡ true) × (l ≡ n)
    go true l e = (refl, cc)
    go false l e = absurd (cc)

pub unchecked : (s : Bytes) (r : Refusal) → check_table s ≡ Err r → (keeps_table s ≡ false) × (r ≡ BadTable)
unfolding check_table
unchecked s r = go (keeps_table s) (length (entries_of s))
  where
    go : (b : Bool) (l : ℕ) → ask b (Err BadTable) (Ok l) ≡ Err r → (b ≡ false) × (r ≡ BadTable)
    go true l e = absurd (cc)
    go false l e = (refl, cc)
