-- What insert and remove do to a page, beyond 01's own sentences. A page and a slot are bytes (`Octets`: each is below 256), room is the
-- length of an output. Proved in proofs/Books.antt: `insert_law`, `remove_law`.
use Rattle.std.specs.Prelude.{◌≡◌, ℕ, ◌≤◌, length}
use mathlib.Core.List.{Memᴰ as In}
use Rattle.numbers.specs.Bytes.{Bytes, Octets}
use Rattle.slots.specs.Slots.{name_of, slot_of}
use Rattle.answers.specs.Answers.{Outcome}
use Rattle.pages.specs.Pages.{slots_of}
use Rattle.pages.specs.Laws.{IsPage}
use Rattle.std.specs.declared.result.Result.TheVariants.{Ok}
use Rattle.edits.specs.Edits.{placed, without, insert_outcome, remove_outcome}

-- the outcome that gives a page back: its bytes, and as many slots as it has
abbrev pub gives_back : Bytes → Outcome
gives_back page = record { answer = Ok (length (slots_of page)); bytes = page }

-- What an accepted insert has written is a page, and its slots are "the page with the given slot at its rising place".
pub record Inserted (page slot written : Bytes) : Type 0 where
  pub is_page : IsPage written
  pub slots : slots_of written ≡ placed (slot_of slot) (slots_of page)
  -- Removing that name from it gives the page back, byte for byte, where the output has room for it.
  pub undone : (room : ℕ) → length page ≤ room → remove_outcome written slot room ≡ gives_back page

abbrev pub InsertLaw : Type 0
InsertLaw =
    (page slot : Bytes) → Octets page → Octets slot → (room n : ℕ) → (insert_outcome page slot room).answer ≡ Ok n →
    Inserted page slot (insert_outcome page slot room).bytes

-- What an accepted remove has written is a page, and its slots are the page's "without the slot of that name".
pub record Removed (page slot written : Bytes) : Type 0 where
  pub is_page : IsPage written
  pub slots : slots_of written ≡ without (name_of slot) (slots_of page)
  -- Where the slot, its line number too, was one of the page's, inserting it gives the page back, byte for byte.
  pub undone : In (slot_of slot) (slots_of page) → (room : ℕ) → length page ≤ room → insert_outcome written slot room ≡ gives_back page

abbrev pub RemoveLaw : Type 0
RemoveLaw =
    (page slot : Bytes) → Octets page → Octets slot → (room n : ℕ) → (remove_outcome page slot room).answer ≡ Ok n →
    Removed page slot (remove_outcome page slot room).bytes
