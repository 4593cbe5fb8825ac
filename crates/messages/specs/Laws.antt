-- What holds of every message and of every call that reads or writes one. All of it is proved: proofs/Laws.antt. `Octets s` says that
-- each element of s is a byte, `room` is how many bytes the output has.
use Rattle.std.specs.Prelude.{ℕ, ◌*◌, ◌<◌, ◌≤◌, ◌≡◌, map, true, false, ◌↔◌, length}
use Rattle.numbers.specs.Bytes.{Bytes, Octets}
use Rattle.slots.specs.Slots.{slot_size}
use Rattle.std.specs.declared.result.Result.TheVariants.{Ok, Err}
use Rattle.answers.specs.declared.Refusal.{Refusal}
use Rattle.answers.specs.declared.Refusal.TheVariants.{Malformed, Short}
use Rattle.pages.specs.Pages.{slots_of, is_log}
use Rattle.messages.specs.declared.Numbers.{Numbers}
use Rattle.messages.specs.Messages.{Parts, is_message, message_bytes, names_in, numbers_in, parts_in, keeps_message, longest}
use Rattle.messages.specs.Calls.{bare, read_outcome, zeros, numbers_read, parts_given, may_write, write_outcome}

-- ── messages ──

-- "Reading a message and writing it again gives the same bytes, and the reverse."
pub record InverseLaws : Type 0 where
  -- what is written is bytes
  pub written_octets : (p : Parts) → is_message p ≡ true → Octets (message_bytes p)
  -- and a message
  pub written_message : (p : Parts) → is_message p ≡ true → keeps_message (message_bytes p) ≡ true
  -- which says what was to be written
  pub parts_back : (p : Parts) → is_message p ≡ true → parts_in (message_bytes p) ≡ p
  -- what a message says may be written
  pub parts_message : (s : Bytes) → keeps_message s ≡ true → is_message (parts_in s) ≡ true
  -- and its writing is the message
  pub bytes_back : (s : Bytes) → Octets s → keeps_message s ≡ true → message_bytes (parts_in s) ≡ s
  -- so some bytes are a message exactly when they are the writing of parts that may be written
  pub message_exactly : (s : Bytes) → Octets s
      → (keeps_message s ≡ true) ↔ ((p : Parts) × (is_message p ≡ true) × (message_bytes p ≡ s))
  -- "A message has one writing."
  pub one_writing : (s t : Bytes) → Octets s → Octets t → keeps_message s ≡ true → keeps_message t ≡ true
      → parts_in s ≡ parts_in t → s ≡ t

-- 02, P8: "the size cases of 01 move with it: the longest message is 49,942 bytes"
pub record LongestLaws : Type 0 where
  pub longest_is : longest ≡ 49942
  -- no message is longer
  pub no_longer : (s : Bytes) → Octets s → keeps_message s ≡ true → length s ≤ longest
  -- and one is as long
  pub one_as_long : (s : Bytes) × Octets s × (keeps_message s ≡ true) × (length s ≡ longest)

-- ── calls ──

-- "read message 15, 8": the call read, given the bytes s and an output of so many bytes
pub record ReadLaws (s : Bytes) (room : ℕ) : Type 0 where
  -- 15 exactly where the bytes are no message
  pub malformed : ((read_outcome s room).answer ≡ Err Malformed) ↔ (keeps_message s ≡ false)
  -- 8 exactly where they are one, and the output is shorter than its names in slots
  pub short : ((read_outcome s room).answer ≡ Err Short) ↔ ((keeps_message s ≡ true) × (room < slot_size * length (names_in s)))
  -- 0 exactly where they are one that fits, with the count of its names
  pub accepted : (n : ℕ) → ((read_outcome s room).answer ≡ Ok n)
      ↔ ((keeps_message s ≡ true) × (slot_size * length (names_in s) ≤ room) × (n ≡ length (names_in s)))
  -- "a refused read gives kind, epoch, author and line number as zeros"
  pub zeros_refused : (r : Refusal) → (read_outcome s room).answer ≡ Err r → numbers_read s room ≡ zeros
  -- and an accepted one those of the message
  pub numbers_accepted : (n : ℕ) → (read_outcome s room).answer ≡ Ok n → numbers_read s room ≡ numbers_in s
  -- "the names, in slots with line number 0"
  pub slots : (n : ℕ) → (read_outcome s room).answer ≡ Ok n → slots_of (read_outcome s room).bytes ≡ map bare (names_in s)
  -- they are a log
  pub log : (n : ℕ) → (read_outcome s room).answer ≡ Ok n → is_log (read_outcome s room).bytes ≡ true
  -- and with the numbers that it gives they may be written
  pub may_again : (n : ℕ) → (read_outcome s room).answer ≡ Ok n → may_write (numbers_read s room) (read_outcome s room).bytes ≡ true
  -- which gives the message byte for byte, wherever it fits
  pub write_read : (n : ℕ) → (read_outcome s room).answer ≡ Ok n → Octets s → (room' : ℕ) → length s ≤ room'
      → write_outcome (numbers_read s room) (read_outcome s room).bytes room' ≡ record { answer = Ok (length s); bytes = s }

-- "write message 15, 8": the call write, given the numbers x, the slots and an output of so many bytes
pub record WriteLaws (x : Numbers) (slots : Bytes) (room : ℕ) : Type 0 where
  -- 15 exactly where the parts given may not be written
  pub malformed : ((write_outcome x slots room).answer ≡ Err Malformed) ↔ (may_write x slots ≡ false)
  -- 8 exactly where they may, and the output is shorter than the message
  pub short : ((write_outcome x slots room).answer ≡ Err Short)
      ↔ ((may_write x slots ≡ true) × (room < length (message_bytes (parts_given x slots))))
  -- 0 exactly where they may and the message fits, with the count of its bytes
  pub accepted : (n : ℕ) → ((write_outcome x slots room).answer ≡ Ok n)
      ↔ ((may_write x slots ≡ true) × (length (message_bytes (parts_given x slots)) ≤ room) × (n ≡ length (message_bytes (parts_given x slots))))
  -- what was written is read back, the slots byte for byte, wherever they fit
  pub read_written : (n : ℕ) → (write_outcome x slots room).answer ≡ Ok n → Octets slots → (room' : ℕ) → length slots ≤ room'
      → read_outcome (write_outcome x slots room).bytes room' ≡ record { answer = Ok (length (slots_of slots)); bytes = slots }
  -- and the numbers
  pub numbers_written : (n : ℕ) → (write_outcome x slots room).answer ≡ Ok n → Octets slots → (room' : ℕ) → length slots ≤ room'
      → numbers_read (write_outcome x slots room).bytes room' ≡ x

-- the numbers x and the slots are what reading gives, of some bytes
abbrev pub Readable : Numbers → Bytes → Type 0
Readable x slots =
    (s : Bytes) × (room : ℕ) × (n : ℕ) × Octets s × ((read_outcome s room).answer ≡ Ok n) × (numbers_read s room ≡ x)
    × ((read_outcome s room).bytes ≡ slots)

pub record Laws : Type 0 where
  pub inverse : InverseLaws
  pub size : LongestLaws
  pub read : (s : Bytes) (room : ℕ) → ReadLaws s room
  pub write : (x : Numbers) (slots : Bytes) (room : ℕ) → WriteLaws x slots room
  -- "15 for any parts that reading can't give": what may be written is what reading gives
  pub may_exactly : (x : Numbers) (slots : Bytes) → Octets slots → (may_write x slots ≡ true) ↔ Readable x slots
