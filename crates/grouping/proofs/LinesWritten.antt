-- The line numbers of slots as they stand in a page (`line_there`), and one after the other in a form (`line_piece`). Assumes nothing.
use mathlib.Core.Path.{◌≡◌, refl, sym, ap, ◌∙◌}
use mathlib.Core.List.{List, [], map}
use Prim.Native.Nat.{ℕ, ◌+◌, ◌*◌, ◌/◌, ◌<◌, ◌≤◌}
use native.Mathlib.Omega.{arith}
use lib.ListN.{length, take, drop, get_or, length-map, length-drop, get_or-map}
use lib.Seq.{get_or-take, get_or-drop, length-take-le}
use Rattle.numbers.specs.Bytes.{Bytes, at32, bytes32}
use Rattle.numbers.proofs.Parts.{get_or_parts}
use Rattle.numbers.proofs.ReadNumbers.{four_on, four_within}
use Rattle.slots.specs.Slots.{Slot, slot_size, slot_of}
use Rattle.pages.specs.Pages.{parts_of, slots_of}
use Rattle.pages.proofs.SlotBySlot.{length_slots}
use Rattle.groups.specs.Groups.{line_in}

-- the line numbers of n slots from slot k on
abbrev pub lines_from : List Slot → ℕ → ℕ → List ℕ
lines_from l k n = map line_in (take n (drop k l))

pub length_lines : (l : List Slot) (k n : ℕ) → k + n ≤ length l → length (lines_from l k n) ≡ n
length_lines l k n h =
    let d = length-drop k l in
    length-map (take n (drop k l)) line_in ∙ length-take-le n (drop k l) (omega arith)

-- the line number of slot k
pub line_there : (s : Bytes) (k : ℕ) → k < length (slots_of s) → at32 s (slot_size * k + 4) ≡ line_in (get_or (slots_of s) k (slot_of []))
line_there s k h =
    let m = length_slots s in
    let part = get_or_parts slot_size (length s / slot_size) s k (omega arith) in
    let here = drop (slot_size * k) s in
    sym (four_on (slot_size * k) s 4 (slot_size * k + 4) refl)
    ∙ sym (four_within slot_size here 4 (omega arith))
    ∙ ap (λ (b : Bytes). at32 b 4) (sym part)
    ∙ ap line_in (sym (get_or-map slot_of (parts_of s) k []))

-- .. and of slot k + i, among those of n slots from slot k on
pub line_of : (s : Bytes) (k n i : ℕ) → k + n ≤ length (slots_of s) → i < n → at32 s (slot_size * (k + i) + 4) ≡ get_or (lines_from (slots_of s) k n) i 0
line_of s k n i h j =
    let l = slots_of s in
    let d = slot_of [] in
    line_there s (k + i) (omega arith)
    ∙ ap line_in (sym (get_or-take n (drop k l) i d j ∙ get_or-drop k l i d))
    ∙ sym (get_or-map line_in (take n (drop k l)) i d)

-- as bytes
pub line_piece : (l : List ℕ) (i : ℕ) → get_or (map bytes32 l) i (bytes32 0) ≡ bytes32 (get_or l i 0)
line_piece l i = get_or-map bytes32 l i 0
