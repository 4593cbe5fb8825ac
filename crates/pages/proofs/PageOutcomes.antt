-- A page that is written: of as many slots as the count says (`counted`), and as it was (`page_again`). Assumes nothing.
use mathlib.Core.Path.{◌≡◌, ◌∙◌, ap}
use mathlib.Core.List.{List, flatten}
use mathlib.Core.Bool.{true}
use Prim.Native.Nat.{ℕ, ◌*◌, ◌≤◌}
use native.Mathlib.Omega.{arith}
use borrow.Author.Tests.{le-leb}
use lib.ListN.{length, length-map}
use Rattle.numbers.specs.Bytes.{Bytes, Octets}
use Rattle.std.specs.List.{list_all}
use Rattle.slots.specs.Slots.{Slot, slot_size, slot_bytes, is_slot}
use Rattle.std.specs.declared.result.Result.TheVariants.{Ok}
use Rattle.answers.specs.Answers.{count_of, accept, write}
use Rattle.pages.specs.Pages.{slots_of, pieces, keeps_layout}
use Rattle.pages.proofs.RoundTrip.{page_back, written_length}

-- a page of so many slots
pub counted : (l : List Slot) → list_all is_slot l ≡ true → length (accept (pieces l)).bytes ≡ slot_size * count_of (accept (pieces l)).answer
counted l e = written_length l e ∙ ap (λ (n : ℕ). slot_size * n) (count l)
  where
    count : (l : List Slot) → length l ≡ length (pieces l)
    count l = let q = length-map l slot_bytes in omega arith

-- a page written again, where it fits
pub page_again : (s : Bytes) → Octets s → keeps_layout s ≡ true → (room : ℕ) → length s ≤ room → write (pieces (slots_of s)) room ≡ record { answer = Ok (length (slots_of s)); bytes = s }
page_again s k e room h =
    let b = page_back s k e in
    let f : length (flatten (pieces (slots_of s))) ≤ room = rw b h in
    let c = length-map (slots_of s) slot_bytes in
    rw (le-leb (length (flatten (pieces (slots_of s)))) room f) (λ i. record { answer = Ok (c i); bytes = b i })
