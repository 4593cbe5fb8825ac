-- A page written slot by slot, each with what a function f makes of its name: what stands once the slots from i on are written
-- (`standing`) does not change in a turn of the loop. Assumes nothing.
use mathlib.Core.Path.{◌≡◌, refl, ◌∙◌, sym, ap}
use mathlib.Core.List.{List, [], map, flatten}
use mathlib.Core.Bool.{true}
use Prim.Native.Nat.{ℕ, ◌+◌, ◌*◌, ◌/◌, ◌<◌, ◌≤◌}
use native.Mathlib.Omega.{arith}
use borrow.Author.Tests.{leb-true}
use lib.ListN.{length, get_or, length-map, get_or-map}
use Rattle.names.specs.Ordering.{Row}
use Rattle.names.specs.Names.{limit, fits}
use Rattle.numbers.specs.Bytes.{Bytes, put}
use Rattle.slots.specs.Slots.{Slot, slot_size, name_of, slot_of, slot_bytes}
use Rattle.numbers.proofs.Every.{every_each}
use Rattle.numbers.proofs.Pieces.{standing as slots_standing, standing_first as slots_first, standing_last as slots_last, standing_on as slots_on}
use Rattle.slots.proofs.RoundTrip.{slot_length}
use Rattle.pages.specs.Pages.{parts_of, slots_of, names_of, pieces}
use Rattle.pages.proofs.SlotBySlot.{length_parts}
use Rattle.page_renames.specs.Renames.{carry, carried, all_fit}
use Rattle.page_renames.proofs.PageWalk.{slot_name, within_names}

module _ (f : Row → Row) (page : Bytes) where
  abbrev all : List Bytes
  all = pieces (carried f (slots_of page))

  -- what stands once the slots from i on are written to o
  abbrev pub standing : Bytes → ℕ → Bytes
  standing o i = slots_standing slot_size all o i

  length_all : length all ≡ length page / slot_size
  length_all =
      length-map (carried f (slots_of page)) slot_bytes ∙ length-map (slots_of page) (carry f) ∙ length-map (parts_of page) slot_of
      ∙ length_parts (length page / slot_size) page

  pub standing_first : (o : Bytes) → standing o 0 ≡ put o 0 (flatten all)
  standing_first o = slots_first slot_size all o

  pub standing_last : (o : Bytes) (i : ℕ) → length page / slot_size ≤ i → o ≡ standing o i
  standing_last o i h = slots_last slot_size all o i (omega (arith, length_all))

  module _ (i : ℕ) (h : i < length page / slot_size) (t : all_fit f page ≡ true) where
    -- slot i, with what f makes of its name
    abbrev piece : Bytes
    piece = slot_bytes (carry f (slot_of (get_or (parts_of page) i [])))

    pub fit : fits (f (get_or (names_of page) i [])) ≡ true
    fit =
        let n = within_names page i h in
        let l : i < length (map f (names_of page)) = omega (arith, length-map (names_of page) f) in
        ap fits (sym (get_or-map f (names_of page) i [])) ∙ every_each fits (map f (names_of page)) i (f []) l t

    piece_is : get_or all i (slot_bytes (carry f (slot_of []))) ≡ piece
    piece_is =
        get_or-map slot_bytes (carried f (slots_of page)) i (carry f (slot_of []))
        ∙ ap slot_bytes (get_or-map (carry f) (slots_of page) i (slot_of []))
        ∙ ap (λ (x : Slot). slot_bytes (carry f x)) (get_or-map slot_of (parts_of page) i [])

    long : length piece ≡ slot_size
    long =
        let slot = get_or (parts_of page) i [] in
        let same : fits (f (name_of slot)) ≡ true = ap (λ (a : Row). fits (f a)) (slot_name page i refl) ∙ fit in
        slot_length (carry f (slot_of slot)) (leb-true (length (f (name_of slot))) limit same)

    module _ (o o' : Bytes) (r : length page ≤ length o) (e : o' ≡ put o (slot_size * i) piece) where
      within : i < length all
      within = omega (arith, length_all)

      pub standing_on : standing o' (i + 1) ≡ standing o i
      standing_on = slots_on slot_size all i within piece (slot_bytes (carry f (slot_of []))) piece_is long o o' (omega arith) e
