-- A page's bytes and the list of its slots are inverse. proofs/PageLaws.antt has that all of it holds.
use Rattle.std.specs.Prelude.{◌*◌, ◌≤◌, ◌≡◌, true, length}
use mathlib.Core.List.{List, map, flatten}
use Rattle.names.specs.Ordering.{Rising}
use Rattle.std.specs.List.{list_all}
use Rattle.numbers.specs.Bytes.{Bytes, Octets}
use Rattle.slots.specs.Slots.{Slot, slot_size, is_slot}
use Rattle.pages.specs.Pages.{max_slots, slots_of, name_in, pieces, keeps_layout, rises}

-- "A page is 0..256 slots with strictly rising names"
abbrev pub IsPage : Bytes → Type 0
IsPage s = (keeps_layout s ≡ true) × (rises s ≡ true)

pub record Laws : Type 0 where
  -- bytes that keep a page's layout are the bytes of their slots, which are slots
  pub bytes_back : (s : Bytes) → Octets s → keeps_layout s ≡ true → flatten (pieces (slots_of s)) ≡ s
  pub decoded : (s : Bytes) → Octets s → keeps_layout s ≡ true → list_all is_slot (slots_of s) ≡ true
  -- slots written one after the other are read back, they are as long as so many slots, and with rising names they are a page
  pub slots_back : (l : List Slot) → list_all is_slot l ≡ true → slots_of (flatten (pieces l)) ≡ l
  pub long : (l : List Slot) → list_all is_slot l ≡ true → length (flatten (pieces l)) ≡ slot_size * length l
  pub written : (l : List Slot) → list_all is_slot l ≡ true → length l ≤ max_slots → Rising (map name_in l) → IsPage (flatten (pieces l))
