-- The names of a page that are tested one by one: name k is a name (`named`), and after the last there is none to test (`none_left`). Assumes nothing.
use mathlib.Core.Path.{◌≡◌, ◌∙◌, ap}
use mathlib.Core.Bool.{Bool, true}
use mathlib.Core.List.{[]}
use Prim.Native.Nat.{ℕ, ◌/◌, ◌<◌, ◌≤◌}
use native.Mathlib.Omega.{arith}
use lib.ListN.{length, drop, get_or}
use Rattle.std.specs.List.{list_all}
use Rattle.names.specs.Ordering.{Row}
use Rattle.names.specs.Names.{is_name}
use Rattle.names.proofs.Validity.{valid_name}
use Rattle.numbers.specs.Bytes.{Bytes}
use Rattle.numbers.proofs.Every.{every_end}
use Rattle.slots.specs.Slots.{slot_size}
use Rattle.pages.specs.Pages.{names_of, keeps_layout}
use Rattle.pages.proofs.RoundTrip.{page_names}
use Rattle.pages.proofs.SlotBySlot.{length_names}

module _ (page : Bytes) (k : ℕ) where
  pub named : {x : Row} → keeps_layout page ≡ true → k < length page / slot_size → x ≡ get_or (names_of page) k [] → is_name x ≡ true
  named e h q =
      let l : k < length (names_of page) = omega (arith, length_names page (length page / slot_size)) in
      ap is_name q ∙ valid_name (page_names page e k l)

  pub none_left : (f : Row → Bool) → length page / slot_size ≤ k → true ≡ list_all f (drop k (names_of page))
  none_left f h = every_end f (names_of page) k (omega (arith, length_names page (length page / slot_size)))
