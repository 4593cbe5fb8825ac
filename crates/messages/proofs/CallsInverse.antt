-- Reading and writing a message, as calls: what is written is read back, the numbers and the given slots byte for byte (`read_written`,
-- `numbers_written`), and what is read, written again, is the message byte for byte (`write_read`). So what may be written is what reading
-- can give (`may_exactly`). Assumes nothing.
use mathlib.Core.Path.{◌≡◌, sym, ap, ◌∙◌}
use mathlib.Core.List.{List, [], ◌∷◌, map, flatten}
use mathlib.Core.Bool.{Bool, true, false, cond, ◌&&◌}
use mathlib.Core.Logic.{◌↔◌}
use Prim.Native.Nat.{ℕ, ◌≤◌}
use native.Mathlib.Omega.{arith}
use lib.Dec.{eqb}
use lib.ListN.{length, length-map}
use Rattle.numbers.proofs.Bools.{and_0, and_1}
use Rattle.numbers.specs.Bytes.{Bytes, Octets}
use Rattle.std.specs.List.{list_all}
use Rattle.slots.specs.Slots.{Slot, is_slot}
use Rattle.answers.specs.declared.Refusal.TheVariants.{Malformed}
use Rattle.std.specs.declared.result.Result.TheVariants.{Ok}
use Rattle.answers.specs.Answers.{Outcome, ◌else◌, outcome}
use Rattle.pages.specs.Pages.{max_slots, slots_of, name_in, names_of, pieces, keeps_layout, line_is_zero}
use Rattle.pages.proofs.RoundTrip.{slots_back, encoded_layout}
use Rattle.pages.proofs.PageOutcomes.{page_again}
use Rattle.messages.specs.declared.Numbers.{Numbers}
use Rattle.messages.specs.Messages.{rename, Parts, most_names, is_message, message_bytes, kind_in, names_in, numbers_in, parts_in, keeps_message}
use Rattle.messages.specs.Calls.{bare, read_outcome, given_by, numbers_read, parts_given, may_write, write_outcome}
use Rattle.messages.specs.Laws.{Readable}
use Rattle.messages.proofs.TestsPassed.{good, parts_message}
use Rattle.messages.proofs.ReadBack.{parts_back, written_message}
use Rattle.messages.proofs.WriteBack.{bytes_back}
use Rattle.messages.proofs.WrittenOctets.{written_octets}
use Rattle.messages.proofs.BareSlots.{bare_names, names_bare, bare_zero, bare_slots}
use Rattle.messages.proofs.CallAnswers.{when_read, read_done, when_written, write_done}

-- ── reading what was written ──

module _ (x : Numbers) (slots : Bytes) (may : may_write x slots ≡ true) where
  abbrev given : Parts
  given = parts_given x slots

  abbrev zero_lines : Bool
  zero_lines = list_all line_is_zero (slots_of slots)

  asked : keeps_layout slots && is_message given ≡ true
  asked = and_0 (keeps_layout slots && is_message given) zero_lines may

  pub may_layout : keeps_layout slots ≡ true
  may_layout = and_0 (keeps_layout slots) (is_message given) asked

  pub may_message : is_message (parts_given x slots) ≡ true
  may_message = and_1 (keeps_layout slots) (is_message given) asked

  bared : map bare (names_of slots) ≡ slots_of slots
  bared = bare_names (slots_of slots) (and_1 (keeps_layout slots && is_message given) zero_lines may)

  module _ (k : Octets slots) (room : ℕ) (l : length slots ≤ room) where
    pub read_slots : read_outcome (message_bytes (parts_given x slots)) room ≡ record { answer = Ok (length (slots_of slots)); bytes = slots }
    unfolding read_outcome
    read_slots =
        let p = parts_back given may_message in
        (λ i. outcome (written_message given may_message i else Malformed ∷ []) (pieces (map bare (p i).names)) room)
        ∙ ap (λ (l : List Slot). outcome (true else Malformed ∷ []) (pieces l) room) bared
        ∙ page_again slots k may_layout room l

    pub read_numbers : numbers_read (message_bytes (parts_given x slots)) room ≡ x
    read_numbers =
        ap (λ (o : Outcome). given_by o.answer (numbers_in (message_bytes given))) read_slots
        ∙ ap (λ (p : Parts). p.numbers) (parts_back given may_message)

module _ (x : Numbers) (slots : Bytes) (room n : ℕ) (h : (write_outcome x slots room).answer ≡ Ok n) where
  abbrev w : Bytes
  w = message_bytes (parts_given x slots)

  found_may : may_write x slots ≡ true
  found_may = ((when_written x slots room n).0 h).0

  written_is : (write_outcome x slots room).bytes ≡ w
  written_is = ap (λ (o : Outcome). o.bytes) (write_done x slots room found_may ((when_written x slots room n).0 h).1)

  module _ (k : Octets slots) (room' : ℕ) (l : length slots ≤ room') where
    pub read_written : read_outcome (write_outcome x slots room).bytes room' ≡ record { answer = Ok (length (slots_of slots)); bytes = slots }
    read_written = ap (λ (s : Bytes). read_outcome s room') written_is ∙ read_slots x slots found_may k room' l

    pub numbers_written : numbers_read (write_outcome x slots room).bytes room' ≡ x
    numbers_written = ap (λ (s : Bytes). numbers_read s room') written_is ∙ read_numbers x slots found_may k room' l

-- ── writing what was read ──

most_few : (kind : ℕ) → most_names kind ≤ max_slots
most_few kind = go (eqb kind rename)
  where
    go : (b : Bool) → cond b max_slots 1 ≤ max_slots
    go true = omega arith
    go false = omega arith

module _ (s : Bytes) (room n : ℕ) (h : (read_outcome s room).answer ≡ Ok n) where
  kept : keeps_message s ≡ true
  kept = ((when_read s room n).0 h).0

  abbrev slots : Bytes
  slots = flatten (pieces (map bare (names_in s)))

  -- what reading gives
  pub read_is : read_outcome s room ≡ record { answer = Ok (length (names_in s)); bytes = flatten (pieces (map bare (names_in s))) }
  read_is = read_done s room kept ((when_read s room n).0 h).1

  good_slots : list_all is_slot (map bare (names_in s)) ≡ true
  good_slots = bare_slots (names_in s) (good (parts_in s) (parts_message s kept)).named

  few_slots : length (map bare (names_in s)) ≤ max_slots
  few_slots =
      let f = (good (parts_in s) (parts_message s kept)).few in
      let m = most_few (kind_in s) in
      let l = length-map (names_in s) bare in
      omega arith

  again : slots_of slots ≡ map bare (names_in s)
  again = slots_back (map bare (names_in s)) good_slots

  -- its slots
  pub slots_read : slots_of (read_outcome s room).bytes ≡ map bare (names_in s)
  slots_read = ap (λ (o : Outcome). slots_of o.bytes) read_is ∙ again

  parts_again : parts_given (numbers_in s) slots ≡ parts_in s
  parts_again = λ i. record { numbers = numbers_in s; names = (ap (map name_in) again ∙ names_bare (names_in s)) i }

  may : may_write (numbers_in s) slots ≡ true
  may =
      λ i.
      encoded_layout (map bare (names_in s)) good_slots few_slots i
      && (ap is_message parts_again ∙ parts_message s kept) i
      && (ap (list_all line_is_zero) again ∙ bare_zero (names_in s)) i

  -- the numbers and slots that reading gives may be written
  pub may_again : may_write (numbers_read s room) (read_outcome s room).bytes ≡ true
  may_again = ap (λ (o : Outcome). may_write (given_by o.answer (numbers_in s)) o.bytes) read_is ∙ may

  pub write_read : Octets s → (room' : ℕ) → length s ≤ room'
      → write_outcome (numbers_read s room) (read_outcome s room).bytes room' ≡ record { answer = Ok (length s); bytes = s }
  write_read k room' l =
      let b : message_bytes (parts_given (numbers_in s) slots) ≡ s = ap message_bytes parts_again ∙ bytes_back s k kept in
      ap (λ (o : Outcome). write_outcome (given_by o.answer (numbers_in s)) o.bytes room') read_is
      ∙ write_done (numbers_in s) slots room' may (rw b l)
      ∙ (λ i. record { answer = Ok (length (b i)); bytes = b i })

-- ── what may be written ──

pub may_exactly : (x : Numbers) (slots : Bytes) → Octets slots → (may_write x slots ≡ true) ↔ Readable x slots
may_exactly x slots k = (there, back)
  where
    there : may_write x slots ≡ true → Readable x slots
    there h =
        let w = message_bytes (parts_given x slots) in
        let l : length slots ≤ length slots = omega arith in
        let r = read_slots x slots h k (length slots) l in (
          w,
          length slots,
          length (slots_of slots),
          written_octets (parts_given x slots) (may_message x slots h),
          ap (λ (o : Outcome). o.answer) r,
          read_numbers x slots h k (length slots) l,
          ap (λ (o : Outcome). o.bytes) r,
        )

    back : Readable x slots → may_write x slots ≡ true
    back (s, room, n, o, e, f, g) = (λ i. may_write (sym f i) (sym g i)) ∙ may_again s room n e
