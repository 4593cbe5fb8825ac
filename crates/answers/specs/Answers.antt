-- What comes back from a call, and what it leaves in its output: document 01, "What comes back" and "Taking it back".
use Rattle.std.specs.Prelude.{ℕ, Bool, true, false, length, leb}
use mathlib.Core.List.{List, [], ◌∷◌, flatten}
use Rattle.numbers.specs.Bytes.{Bytes, put}
use Rattle.answers.specs.declared.Refusal.{Refusal}
use Rattle.answers.specs.declared.Refusal.TheVariants.{BadLayout, NotRising, BadLog, NoAuthor, NotFresh, TooDeep, NotRisingBack, Short, Present, Absent, Full, NoNewName, BadTable, NoEpoch, Malformed, NoGap, Listed, TableFull}
use Rattle.std.specs.declared.result.Result.{Result}
use Rattle.std.specs.declared.result.Result.TheVariants.{Ok, Err}

-- "No." of 01's table
abbrev pub refusal_number : Refusal → ℕ
refusal_number BadLayout = 1
refusal_number NotRising = 2
refusal_number BadLog = 3
refusal_number NoAuthor = 4
refusal_number NotFresh = 5
refusal_number TooDeep = 6
refusal_number NotRisingBack = 7
refusal_number Short = 8
refusal_number Present = 9
refusal_number Absent = 10
refusal_number Full = 11
refusal_number NoNewName = 12
refusal_number BadTable = 13
refusal_number NoEpoch = 14
refusal_number Malformed = 15
refusal_number NoGap = 16
refusal_number Listed = 17
refusal_number TableFull = 18

-- what comes back: a count, or a refusal
abbrev pub Answer : Type 0
Answer = Result ℕ Refusal

-- "No." of an answer: 0 where it is accepted
abbrev pub number_of : Answer → ℕ
number_of (Ok n) = 0
number_of (Err r) = refusal_number r

-- "accepted; with the count of slots, entries or bytes written"; "Each refusal reports count 0"
abbrev pub count_of : Answer → ℕ
count_of (Ok n) = n
count_of (Err r) = 0

-- ── "Order" ──

-- next where the test passes, else the refusal
abbrev pub ask : {A : Type 0} → Bool → A → A → A
ask true refusal next = next
ask false refusal next = refusal

-- one of a call's refusals: what must hold, and what is answered where it does not
pub record Test : Type 0 where
  pub passes : Bool
  pub refusal : Refusal

infix 70 ◌else◌
abbrev pub ◌else◌ : Bool → Refusal → Test
b else r = record { passes = b; refusal = r }

-- 01 gives each call its refusals in their order: the first test that fails gives the answer, and where all pass the call goes on
abbrev pub in_order : {A : Type 0} → List Test → (Refusal → A) → A → A
in_order [] refusing next = next
in_order (t ∷ tests) refusing next = ask t.passes (refusing t.refusal) (in_order tests refusing next)

-- what a check answers that writes nothing: the first refusal, or so many
abbrev pub check : List Test → ℕ → Answer
check tests n = in_order tests Err (Ok n)

-- what a call that writes answers, and the bytes that it writes
pub record Outcome : Type 0 where
  pub answer : Answer
  pub bytes : Bytes

-- "Each refusal .. writes nothing"
abbrev pub refuse : Refusal → Outcome
refuse r = record { answer = Err r; bytes = [] }

-- The pieces are slots, entries or single bytes: the count is how many of them are written.
abbrev pub accept : List Bytes → Outcome
accept pieces = record { answer = Ok (length pieces); bytes = flatten pieces }

-- "8: output shorter than the result", which is the last refusal of every call that writes
abbrev pub write : List Bytes → ℕ → Outcome
write pieces room = ask (leb (length (flatten pieces)) room) (refuse Short) (accept pieces)

-- A call that writes: its other refusals in their order, then 8
abbrev pub outcome : List Test → List Bytes → ℕ → Outcome
outcome tests pieces room = in_order tests refuse (write pieces room)

-- "Every accepted call writes what its count says, from the start of its output, and nothing after that." The output held o.
abbrev pub leaves : Outcome → Bytes → Bytes
leaves x o = put o 0 x.bytes
