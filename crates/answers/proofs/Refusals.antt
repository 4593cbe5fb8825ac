-- A call's refusals in their order, whatever their number: accepted means that every test passes (`reached`, `goes_on_lem`, `accepted_passes`), and
-- refused with r that r's test is the first that fails (`refuses`, `refused_first`); and the other way round (`passed`, `failed`, `whichever`).
-- Assumes nothing.
use mathlib.Core.Path.{◌≡◌, refl, ◌∙◌, sym, ap}
use mathlib.Core.List.{List, [], ◌∷◌}
use mathlib.Core.Bool.{Bool, true, false}
use Prim.Native.Nat.{ℕ}
use native.Mathlib.Omega.{arith}
use Rattle.answers.specs.declared.Refusal.{Refusal}
use Rattle.std.specs.declared.result.Result.TheVariants.{Ok, Err}
use Rattle.answers.specs.Laws.{Passed, FirstFails, here, later, RefusedBy, test, after}
use Rattle.answers.specs.Answers.{Outcome, Test, ask, in_order, refuse}

module _ {A : Type 0} (refusing : Refusal → A) (next : A) where
  pub passed : (tests : List Test) → Passed tests → in_order tests refusing next ≡ next
  passed [] p = refl
  passed (t ∷ tests) (e, p) = ap (λ (b : Bool). ask b (refusing t.refusal) (in_order tests refusing next)) e ∙ passed tests p

  pub failed : {r : Refusal} (tests : List Test) → FirstFails r tests → in_order tests refusing next ≡ refusing r
  failed {r = r} [] x' = elim x' [ ]
  failed (t ∷ tests) (here e q) = ap (λ (b : Bool). ask b (refusing t.refusal) (in_order tests refusing next)) e ∙ ap refusing q
  failed (t ∷ tests) (later e f) = ap (λ (b : Bool). ask b (refusing t.refusal) (in_order tests refusing next)) e ∙ failed tests f

-- what holds of every refusal, and of what comes after the tests where all pass, holds
pub whichever : {A : Type 0} (P : A → Type 0) (refusing : Refusal → A) (next : A) → ((r : Refusal) → P (refusing r)) → (tests : List Test) → (Passed tests → P next) → P (in_order tests refusing next)
whichever P refusing next refused [] f = f tt
whichever P refusing next refused (t ∷ tests) f = by t.passes refl (λ g. whichever P refusing next refused tests g)
  where
    by : (b : Bool) → t.passes ≡ b → ((Passed tests → P next) → P (in_order tests refusing next)) → P (ask b (refusing t.refusal) (in_order tests refusing next))
    by true p g = g (λ q. f (p, q))
    by false p g = refused t.refusal

-- what holds of no refusal: every test passes, and it holds of what comes after them
module _ {A : Type 0} (P : A → Type 0) (refusing : Refusal → A) (next : A) (apart : (r : Refusal) → P (refusing r) → ⊥) where
  pub reached : (tests : List Test) → P (in_order tests refusing next) → Passed tests × P next
  reached [] e = (tt, e)
  reached (t ∷ tests) e = by t.passes refl (λ f. reached tests f) e
    where
      by : (b : Bool) → t.passes ≡ b → (P (in_order tests refusing next) → Passed tests × P next) → P (ask b (refusing t.refusal) (in_order tests refusing next)) → Passed (t ∷ tests) × P next
      by true p f e = let g = f e in ((p, g.0), g.1)
      by false p f e = absurd (apart t.refusal e)

-- where no refusal is what comes after the tests
module _ {A : Type 0} (refusing : Refusal → A) (next : A) (apart : (r : Refusal) → refusing r ≡ next → ⊥) where
  pub goes_on_lem : (tests : List Test) → in_order tests refusing next ≡ next → Passed tests
  goes_on_lem tests e = (reached (λ x. x ≡ next) refusing next apart tests e).0

  -- and two refusals are told apart
  pub refuses : ((q r : Refusal) → refusing q ≡ refusing r → q ≡ r) → {r : Refusal} (tests : List Test) → in_order tests refusing next ≡ refusing r → FirstFails r tests
  refuses same {r} [] e = absurd (apart r (sym e))
  refuses same {r} (t ∷ tests) e = by t.passes refl (λ f. refuses same tests f) e
    where
      by : (b : Bool) → t.passes ≡ b → (in_order tests refusing next ≡ refusing r → FirstFails r tests) → ask b (refusing t.refusal) (in_order tests refusing next) ≡ refusing r → FirstFails r (t ∷ tests)
      by true p f e = later p (f e)
      by false p f e = here p (same t.refusal r e)

-- ── of an outcome ──

not_accepted : {A : Type 0} {r : Refusal} {n : ℕ} → Err r ≡ Ok n → A
not_accepted e = absurd (let z : ◌≡◌ {A = ℕ} 0 1 = cc in omega arith)

-- accepted: every test passes, and the outcome is what comes after them
pub accepted_passes : (x : Outcome) (n : ℕ) (tests : List Test) → (in_order tests refuse x).answer ≡ Ok n → Passed tests × (in_order tests refuse x ≡ x)
accepted_passes x n tests e =
    let g = reached (λ y. y.answer ≡ Ok n) refuse x (λ r f. not_accepted f) tests e in
    (g.0, passed refuse x tests g.0)

pub refused_first : {r : Refusal} (x : Outcome) (tests : List Test) → (in_order tests refuse x).answer ≡ Err r → RefusedBy r tests x
refused_first x [] e = after tt e
refused_first {r} x (t ∷ tests) e = by t.passes refl (λ f. refused_first x tests f) e
  where
    rest : Outcome
    rest = in_order tests refuse x

    more : t.passes ≡ true → RefusedBy r tests x → RefusedBy r (t ∷ tests) x
    more p (test f) = test (later p f)
    more p (after q f) = after (p, q) f

    by : (b : Bool) → t.passes ≡ b → (rest.answer ≡ Err r → RefusedBy r tests x) → (ask b (refuse t.refusal) rest).answer ≡ Err r → RefusedBy r (t ∷ tests) x
    by true p f e = more p (f e)
    by false p f e = let same : t.refusal ≡ r = cc in test (here p same)
