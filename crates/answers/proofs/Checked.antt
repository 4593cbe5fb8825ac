-- What a check has answered, against 01's list of tests. Of one that gives no number, Ok or a refusal: it refuses with the first that fails (`stops`) and
-- passes where all pass (`clears`); and the way back (`all_pass`, `first_fails`). Of one that gives a count: `check_fails`, `check_passes`. Assumes nothing.
use mathlib.Core.Path.{◌≡◌, ◌∙◌, sym}
use mathlib.Core.List.{List, ◌++◌}
use Prim.Native.Nat.{ℕ}
use native.Mathlib.Omega.{arith}
use Rattle.std.specs.declared.result.Result.{Result}
use Rattle.std.specs.declared.result.Result.TheVariants.{Ok, Err}
use Rattle.answers.specs.Answers.{Answer, Outcome, Test, in_order, check, refuse}
use Rattle.answers.specs.declared.Refusal.{Refusal}
use Rattle.answers.specs.Laws.{Passed, FirstFails, here, later}
use Rattle.answers.proofs.Refusals.{passed, failed, reached, goes_on_lem, refuses}

-- what such a check answers
abbrev pub Told : Type 0
Told = Result (Unit {0}) Refusal

abbrev pub refuse_with : Refusal → Told
refuse_with r = Err r

abbrev pub goes_on : Told
goes_on = Ok tt

apart : (r : Refusal) → refuse_with r ≡ goes_on → ⊥
apart r e = absurd (let z : ◌≡◌ {A = ℕ} 0 1 = cc in omega arith)

same : (q r : Refusal) → refuse_with q ≡ refuse_with r → q ≡ r
same q r e = cc

pub stops : {r : Refusal} (tests : List Test) → FirstFails r tests → refuse_with r ≡ in_order tests refuse_with goes_on
stops tests f = sym (failed refuse_with goes_on tests f)

pub clears : (tests : List Test) → Passed tests → goes_on ≡ in_order tests refuse_with goes_on
clears tests p = sym (passed refuse_with goes_on tests p)

-- x is what the check has answered
module _ {x : Told} (tests : List Test) (e : x ≡ in_order tests refuse_with goes_on) where
  pub all_pass : x ≡ goes_on → Passed tests
  all_pass f = goes_on_lem refuse_with goes_on apart tests (sym e ∙ f)

  pub first_fails : {r : Refusal} → x ≡ refuse_with r → FirstFails r tests
  first_fails f = refuses refuse_with goes_on apart same tests (sym e ∙ f)

  -- a call that begins with these tests refuses as the check does, whatever comes after
  pub turns_away : {r : Refusal} (next : Outcome) → x ≡ refuse_with r → in_order tests refuse next ≡ refuse r
  turns_away next f = failed refuse next tests (first_fails f)

-- ── of a check that answers a count ──

count_apart : {n : ℕ} (r : Refusal) → ◌≡◌ {A = Answer} (Err r) (Ok n) → ⊥
count_apart r e = absurd (let z : ◌≡◌ {A = ℕ} 0 1 = cc in omega arith)

count_same : (q r : Refusal) → ◌≡◌ {A = Answer} (Err q) (Err r) → q ≡ r
count_same q r e = cc

module _ (n : ℕ) (tests : List Test) where
  pub check_fails : {r : Refusal} → check tests n ≡ Err r → FirstFails r tests
  check_fails e = refuses (λ q. Err q) (Ok n) count_apart count_same tests e

  -- all pass, and the count is n
  pub check_passes : {m : ℕ} → check tests n ≡ Ok m → Passed tests × (n ≡ m)
  check_passes {m} e = let g = reached (λ x. x ≡ Ok m) (λ q. Err q) (Ok n) count_apart tests e in (g.0, let f = g.1 in cc)

-- the first test that fails, whatever follows it
pub fails_on : {r : Refusal} {tests : List Test} (more : List Test) → FirstFails r tests → FirstFails r (tests ++ more)
fails_on more (here e q) = here e q
fails_on more (later e f) = later e (fails_on more f)
