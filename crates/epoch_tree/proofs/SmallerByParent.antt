-- Whether an epoch is smaller than another by recursion, the epoch index falling at each call, where `tie` is what two equal epochs come
-- to (`smaller_or`): an epoch and itself (`tied`); epoch 0 is the smallest (`root_smaller`, `root_greater`); with the same parent the keys
-- decide (`by_keys`); else the one with the greater parent index is compared by its parent, and where that is the other, its path goes on
-- and is the greater (`by_first_parent`, `by_second_parent`). With `false` for a tie it is the order (`smaller_or_lem`). Assumes nothing.
use mathlib.Core.Path.{◌≡◌, refl, sym, ap, ◌∙◌}
use mathlib.Core.List.{List}
use mathlib.Core.Bool.{Bool, true, false, cond}
use Prim.Native.Nat.{ℕ, ◌<◌, ◌≤◌}
use lib.ListN.{length}
use Rattle.std.specs.declared.cmp.Ordering.{Ordering}
use Rattle.std.specs.declared.cmp.Ordering.TheVariants.{Less, Equal, Greater}
use Rattle.std.specs.Ordering.{ordering_then, is_lt}
use Rattle.epoch_tree.specs.Tables.{Entry, entry_at}
use Rattle.epoch_tree.specs.Tree.{parent_of, compare_keys, compare_epochs}
use Rattle.epoch_tree.proofs.TableFacts.{Table}
use Rattle.epoch_tree.proofs.CompareByParent.{same_epoch, root_first, root_second, siblings, up_first, up_second, key_index}

-- a comparison, and what is told where it does not decide
abbrev told : Bool → Ordering → Bool
told tie o = is_lt (ordering_then o (cond tie Less Greater))

abbrev pub smaller_or : Bool → List Entry → ℕ → ℕ → Bool
smaller_or tie t i j = told tie (compare_epochs t i j)

told_tie : (tie : Bool) → told tie Equal ≡ tie
told_tie true = refl
told_tie false = refl

told_more : (tie : Bool) (o : Ordering) → told tie (ordering_then o Greater) ≡ told false o
told_more tie Less = refl
told_more tie Equal = refl
told_more tie Greater = refl

told_less : (tie : Bool) (o : Ordering) → told tie (ordering_then o Less) ≡ told true o
told_less tie Less = refl
told_less tie Equal = refl
told_less tie Greater = refl

-- where it decides, the tie is not asked for
told_decided : (tie : Bool) (o : Ordering) → (o ≡ Equal → ⊥) → told tie o ≡ is_lt o
told_decided tie Less f = refl
told_decided tie Equal f = absurd (f refl)
told_decided tie Greater f = refl

told_no : (o : Ordering) → told false o ≡ is_lt o
told_no Less = refl
told_no Equal = refl
told_no Greater = refl

-- with `false` for a tie an epoch is not smaller than itself
pub smaller_or_lem : (t : List Entry) (i j : ℕ) → smaller_or false t i j ≡ is_lt (compare_epochs t i j)
smaller_or_lem t i j = told_no (compare_epochs t i j)

pub tied : (tie : Bool) (t : List Entry) (i j : ℕ) → i ≡ j → smaller_or tie t i j ≡ tie
tied tie t i j e = ap (λ (k : ℕ). smaller_or tie t i k) (sym e) ∙ ap (told tie) (same_epoch t i) ∙ told_tie tie

module _ (tie : Bool) (t : List Entry) (h : Table t) (i j : ℕ) where
  pub root_smaller : i < 1 → (i ≡ j → ⊥) → smaller_or tie t i j ≡ true
  root_smaller l f = ap (told tie) (root_first t h i j l f)

  pub root_greater : 1 ≤ i → j < 1 → smaller_or tie t i j ≡ false
  root_greater k l = ap (told tie) (root_second t h i j k l)

  module _ (a : i < length t) (b : j < length t) where
    pub by_keys :
        1 ≤ i → 1 ≤ j → (i ≡ j → ⊥) → parent_of t i ≡ parent_of t j →
        smaller_or tie t i j ≡ is_lt (compare_keys (entry_at t i) (entry_at t j))
    by_keys k l f e =
        ap (told tie) (siblings t h i j k l e)
        ∙ told_decided tie (compare_keys (entry_at t i) (entry_at t j)) (λ s. f (key_index t h i j a b s))

    pub by_first_parent : 1 ≤ i → parent_of t j < parent_of t i → smaller_or tie t i j ≡ smaller_or false t (parent_of t i) j
    by_first_parent k l = ap (told tie) (up_first t h i j a b k l) ∙ told_more tie (compare_epochs t (parent_of t i) j)

    pub by_second_parent : 1 ≤ j → parent_of t i < parent_of t j → smaller_or tie t i j ≡ smaller_or true t i (parent_of t j)
    by_second_parent k l = ap (told tie) (up_second t h i j a b k l) ∙ told_less tie (compare_epochs t i (parent_of t j))
