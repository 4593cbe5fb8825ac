-- The promise of read settles its outcome: any two outcomes that the contract allows, result and output at exit, are equal.
-- `Learnt` is what a caller learns from the contract, of any arguments a, result r and parameters at exit s. Assumes nothing.
use mathlib.Core.Path.{◌≡◌, sym, ap, ◌∙◌}
use Rattle.std.specs.Prelude.{IfOk, IfErr}
use Rattle.std.specs.declared.result.Result.{Result}
use Rattle.std.specs.declared.result.Result.TheVariants.{Ok, Err}
use Rattle.numbers.proofs.Settled.{one}
use Rattle.answers.specs.declared.Refusal.{Refusal}
use Rattle.answers.specs.Answers.{Answer}
use Rattle.messages.specs.declared.Numbers.{Numbers}
use Rattle.read_messages.specs.declared.Reading.{Reading}
use Rattle.read_messages.proofs.read.Reads as read

-- the answer and the numbers settle what reading gives
same : (answer : Answer) (numbers : Numbers) (r r' : Result Reading Refusal)
    → IfOk r (λ x. answer ≡ Ok x.names) → IfOk r (λ x. x.numbers ≡ numbers) → IfErr r (λ e. answer ≡ Err e)
    → IfOk r' (λ x. answer ≡ Ok x.names) → IfOk r' (λ x. x.numbers ≡ numbers) → IfErr r' (λ e. answer ≡ Err e)
    → r ≡ r'
same a m (Ok x) (Ok y) c n f c' n' f' =
    let names : x.names ≡ y.names = cc in
    λ i. Ok (record { names = names i; numbers = (n ∙ sym n') i })
same a m (Ok x) (Err e) c n f c' n' f' = absurd (cc)
same a m (Err e) (Ok y) c n f c' n' f' = absurd (cc)
same a m (Err e) (Err e') c n f c' n' f' = let is : e ≡ e' = cc in ap Err is

pub read_settled : (κs : _) (a : _) (r : _) (s : _) (r' : _) (s' : _) → read.Learnt κs a r s → read.Learnt κs a r' s'
    → (r ≡ r') × (s.1.0.now ≡ s'.1.0.now)
read_settled κs a r s r' s' p q = (same _ _ r r' p.0 p.1.0 p.1.1.0 q.0 q.1.0 q.1.1.0, one p.1.1.1 q.1.1.1)
