-- What the calls of the library answer: document 01, "What comes back".
use Rattle.std.specs.Prelude.{ℕ, ◌+◌, ◌*◌, leb}
use Rattle.names.specs.declared.Author.{Author}
use Rattle.names.specs.Ordering.{Row}
use Rattle.numbers.specs.Bytes.{Bytes}
use Rattle.slots.specs.Slots.{slot_size, slot_bytes}
use Rattle.answers.specs.Answers.{Answer}
use Rattle.std.specs.declared.result.Result.{Result}
use Rattle.std.specs.declared.result.Result.TheVariants.{Ok, Err}
use Rattle.names.specs.declared.Name.{Name}
use Rattle.names.specs.Names.{row_of}
use Rattle.answers.specs.declared.Refusal.{Refusal}
use Rattle.answers.specs.declared.Refusal.TheVariants.{Short}
use Rattle.answers.specs.Answers.{Outcome, number_of, count_of, ask, refuse}
use Rattle.new_names.specs.NewNames.{new_name_outcome}
use Rattle.messages.specs.declared.Numbers.{Numbers}
use Rattle.messages.specs.Calls.{zeros}
use Rattle.read_messages.specs.declared.Reading.{Reading}

-- "No." and the count in one number: answer × 2³² + count
abbrev pub packed : Answer → ℕ
packed a = number_of a * 4294967296 + count_of a

-- A new name is written as one slot with line number 0, where the output has room for one.
abbrev pub named : Answer → Row → ℕ → Outcome
named (Err r) name room = refuse r
named (Ok n) name room = ask (leb slot_size room) (refuse Short) (record { answer = Ok n; bytes = slot_bytes (record { line = 0; name = name }) })

-- the same of what making a name has given, the name by value or a refusal
abbrev pub written : Result Name Refusal → ℕ → Outcome
written (Err r) room = refuse r
written (Ok name) room = named (Ok 0) (row_of name) room

-- "new name 1, 2, 4, 16, 12, 6", and 8 after them
abbrev pub new_slot_outcome : Bytes → ℕ → Author → ℕ → Outcome
new_slot_outcome page gap author room = named (new_name_outcome page gap author).answer (new_name_outcome page gap author).name room

-- what reading a message has given: its answer, and the numbers, of a refusal zeros
abbrev pub answer_in : Result Reading Refusal → Answer
answer_in (Ok r) = Ok r.names
answer_in (Err r) = Err r

abbrev pub numbers_in : Result Reading Refusal → Numbers
numbers_in (Ok r) = r.numbers
numbers_in (Err r) = zeros

-- kind, epoch, author and line number of a message, each number by itself
abbrev pub numbers : ℕ → ℕ → ℕ → ℕ → ℕ → ℕ → Numbers
numbers kind epochNode epochSequence authorNode authorSequence line = record {
  kind = kind;
  epoch = record { node = epochNode; sequence = epochSequence };
  author = record { node = authorNode; sequence = authorSequence };
  line = line;
}
