-- What holds of every call's answer and output: document 01, "What comes back". proofs/AnswerLaws.antt has that all of it holds.
use Rattle.std.specs.Prelude.{ℕ, ◌≤◌, ◌≡◌, List, [], ◌∷◌, true, false, length, take, drop}
use Rattle.numbers.specs.Bytes.{Bytes}
use Rattle.answers.specs.declared.Refusal.{Refusal}
use Rattle.std.specs.declared.result.Result.TheVariants.{Ok, Err}
use Rattle.answers.specs.Answers.{Test, Outcome, in_order, refuse, leaves}

-- every test passes: a fact for each, in their order
abbrev pub Passed : List Test → Type 0
Passed [] = Unit
Passed (t ∷ tests) = (t.passes ≡ true) × Passed tests

-- the first test that fails is one of r
pub data FirstFails (r : Refusal) : List Test → Type 0 where
  here : {t : Test} {tests : List Test} → t.passes ≡ false → t.refusal ≡ r → FirstFails r (t ∷ tests)
  later : {t : Test} {tests : List Test} → t.passes ≡ true → FirstFails r tests → FirstFails r (t ∷ tests)

-- r's test is the first that fails, or all pass and what comes after them answers r
pub data RefusedBy (r : Refusal) (tests : List Test) (x : Outcome) : Type 0 where
  test : FirstFails r tests → RefusedBy r tests x
  after : Passed tests → x.answer ≡ Err r → RefusedBy r tests x

pub record Laws : Type 0 where
  -- "Each refusal is given when its row says and at no other time": an accepted call has passed every test, and is what comes
  -- after them; a refused one has failed the test of its refusal, and passed those before it
  pub accepted : (x : Outcome) (n : ℕ) (tests : List Test) → (in_order tests refuse x).answer ≡ Ok n → Passed tests × (in_order tests refuse x ≡ x)
  pub refused : {r : Refusal} (x : Outcome) (tests : List Test) → (in_order tests refuse x).answer ≡ Err r → RefusedBy r tests x
  pub refuses : {r : Refusal} (x : Outcome) (tests : List Test) → FirstFails r tests → in_order tests refuse x ≡ refuse r
  -- "After any refusal the output buffer holds what it held before"
  pub left_alone : (r : Refusal) (o : Bytes) → leaves (refuse r) o ≡ o
  -- "Every accepted call writes what its count says, from the start of its output, and nothing after that."
  pub from_the_start : (x : Outcome) (o : Bytes) → take (length x.bytes) (leaves x o) ≡ x.bytes
  pub nothing_after : (x : Outcome) (o : Bytes) → drop (length x.bytes) (leaves x o) ≡ drop (length x.bytes) o
  pub same_length : (x : Outcome) (o : Bytes) → length x.bytes ≤ length o → length (leaves x o) ≡ length o
