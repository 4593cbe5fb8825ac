-- What holds of the conversions beyond the calls themselves: document 02, P8. Pages are bytes (`Octets`: each is below 256), room is the length
-- of an output. proofs/Conversions.antt has that all of it holds (`laws`, `sizes`).
use Rattle.std.specs.Prelude.{ℕ, ◌*◌, ◌<◌, ◌≤◌, ◌≡◌, ◌↔◌, true, length}
use mathlib.Core.List.{Memᴰ as In}
use Rattle.numbers.specs.Bytes.{Bytes, Octets}
use Rattle.slots.specs.Slots.{slot_size, depth_of}
use Rattle.pages.specs.Pages.{max_slots, parts_of, slots_of, keeps_layout}
use Rattle.pages.specs.Laws.{IsPage}
use Rattle.std.specs.declared.result.Result.TheVariants.{Ok, Err}
use Rattle.answers.specs.declared.Refusal.TheVariants.{TooDeep}
use Rattle.old_pages.specs.OldPages.{old_limit, old_size, keeps_old, old_rises, old_slots_of, from_old_outcome, to_old_outcome}

-- 01's sizes, and P8's: "A slot becomes 200 bytes [..]; a page is at most 51,200 bytes."
pub record Sizes : Type 0 where
  pub slot_was : old_size ≡ 104
  pub slot_is : slot_size ≡ 200
  pub page_was : old_size * max_slots ≡ 26624
  pub page_is : slot_size * max_slots ≡ 51200

-- "A page is 0..256 slots with strictly rising names", of old slots
abbrev pub IsOldPage : Bytes → Type 0
IsOldPage s = (keeps_old s ≡ true) × (old_rises s ≡ true)

-- a slot of the page has a depth that "doesn't fit the old page"
abbrev pub SomeDeeper : Bytes → Type 0
SomeDeeper page = (slot : Bytes) × In slot (parts_of page) × (old_limit < depth_of slot)

pub record Laws : Type 0 where
  -- "An old page converts to a new one": each does, where the output has room for its slots
  pub from_accepted : (old : Bytes) → Octets old → IsOldPage old → (room : ℕ) → slot_size * length (old_slots_of old) ≤ room →
      (from_old_outcome old room).answer ≡ Ok (length (old_slots_of old))
  pub from_page : (old : Bytes) → Octets old → (room n : ℕ) → (from_old_outcome old room).answer ≡ Ok n →
      IsPage (from_old_outcome old room).bytes
  -- ".. and a new page back exactly when every depth is at most eight": a page is refused with 6 exactly when some depth is above eight,
  pub too_deep_lem : (page : Bytes) → IsPage page → (room : ℕ) → ((to_old_outcome page room).answer ≡ Err TooDeep) ↔ SomeDeeper page
  -- and else converts, where the output has room
  pub to_accepted : (page : Bytes) → Octets page → IsPage page → (SomeDeeper page → ⊥) → (room : ℕ) → old_size * length (slots_of page) ≤ room →
      (to_old_outcome page room).answer ≡ Ok (length (slots_of page))
  pub to_page : (page : Bytes) → Octets page → (room n : ℕ) → (to_old_outcome page room).answer ≡ Ok n →
      IsOldPage (to_old_outcome page room).bytes
  -- "The names and line numbers are equal both ways."
  pub from_slots : (old : Bytes) → Octets old → (room n : ℕ) → (from_old_outcome old room).answer ≡ Ok n →
      slots_of (from_old_outcome old room).bytes ≡ old_slots_of old
  pub to_slots : (page : Bytes) → Octets page → (room n : ℕ) → (to_old_outcome page room).answer ≡ Ok n →
      old_slots_of (to_old_outcome page room).bytes ≡ slots_of page
  -- An old page made new and old again is the same bytes, and so is a page that was made old, made new again.
  pub old_again : (old : Bytes) → Octets old → (room n : ℕ) → (from_old_outcome old room).answer ≡ Ok n → (room' : ℕ) → length old ≤ room' →
      to_old_outcome (from_old_outcome old room).bytes room' ≡ record { answer = Ok (length (old_slots_of old)); bytes = old }
  pub new_again : (page : Bytes) → Octets page → (room n : ℕ) → (to_old_outcome page room).answer ≡ Ok n → (room' : ℕ) → length page ≤ room' →
      from_old_outcome (to_old_outcome page room).bytes room' ≡ record { answer = Ok (length (slots_of page)); bytes = page }
  -- No bytes but the empty page are both an old page and a page, so that what is given to the wrong call is refused with 1.
  pub apart : (s : Bytes) → Octets s → keeps_old s ≡ true → keeps_layout s ≡ true → length s ≡ 0
