-- Reading and writing a message: document 01, "What comes back". "read message 15, 8; write message 15, 8".
use Rattle.std.specs.Prelude.{ℕ, [], ◌∷◌, map, Bool, ◌&&◌}
use Rattle.names.specs.Ordering.{Row}
use Rattle.numbers.specs.Bytes.{Bytes}
use Rattle.std.specs.List.{list_all}
use Rattle.slots.specs.Slots.{Slot}
use Rattle.answers.specs.Answers.{Answer}
use Rattle.std.specs.declared.result.Result.TheVariants.{Ok, Err}
use Rattle.answers.specs.declared.Refusal.TheVariants.{Malformed}
use Rattle.answers.specs.Answers.{Outcome, ◌else◌, outcome}
use Rattle.pages.specs.Pages.{slots_of, names_of, pieces, keeps_layout, line_is_zero}
use Rattle.fields.specs.Fields.{single}
use Rattle.messages.specs.declared.Numbers.{Numbers}
use Rattle.messages.specs.Messages.{Parts, is_message, message_bytes, names_in, numbers_in, keeps_message}

-- ── reading ──

-- "the names, in slots with line number 0"
abbrev pub bare : Row → Slot
bare a = record { line = 0; name = a }

-- "read message 15, 8": the message s into an output of so many bytes; the count is that of the slots written
unfoldable pub read_outcome : Bytes → ℕ → Outcome
read_outcome s room = outcome (keeps_message s else Malformed ∷ []) (pieces (map bare (names_in s))) room

-- "a refused read gives kind, epoch, author and line number as zeros"
abbrev pub zeros : Numbers
zeros = record { kind = 0; epoch = record { node = 0; sequence = 0 }; author = record { node = 0; sequence = 0 }; line = 0 }

abbrev pub given_by : Answer → Numbers → Numbers
given_by (Ok n) x = x
given_by (Err r) x = zeros

-- "Reading gives kind, epoch, author, line number (0 unless insert) and the names"
abbrev pub numbers_read : Bytes → ℕ → Numbers
numbers_read s room = given_by (read_outcome s room).answer (numbers_in s)

-- ── writing ──

-- what is given to be written: the numbers, and the names in slots
abbrev pub parts_given : Numbers → Bytes → Parts
parts_given x slots = record { numbers = x; names = names_of slots }

-- "15 for any parts that reading can't give: .. a slot's line number other than 0": reading gives slots, whose line numbers are 0
abbrev pub may_write : Numbers → Bytes → Bool
may_write x slots = keeps_layout slots && is_message (parts_given x slots) && list_all line_is_zero (slots_of slots)

-- "write message 15, 8": the numbers and the slots into an output of so many bytes; the count is that of the bytes written
unfoldable pub write_outcome : Numbers → Bytes → ℕ → Outcome
write_outcome x slots room = outcome (may_write x slots else Malformed ∷ []) (map single (message_bytes (parts_given x slots))) room
