-- The public function's promise settles its outcome: any two outcomes that the contract allows are equal. `Learnt` is what a
-- caller learns from the contract, of any arguments a, result r and parameters at exit s. Assumes nothing.
use mathlib.Core.Path.{◌≡◌, ◌∙◌, sym, ap}
use Rattle.std.specs.declared.result.Result.{Result}
use Rattle.std.specs.declared.result.Result.TheVariants.{Ok, Err}
use Rattle.names.specs.declared.Name.{Name}
use Rattle.answers.specs.declared.Refusal.{Refusal}
use Rattle.answers.specs.Answers.{Answer}
use Rattle.answers.proofs.Outcomes.{no_answer}
use Rattle.new_names.specs.NewNames.{Named, Says}
use Rattle.new_names.proofs.new_name.Reads as new_name_lem

same : (x : Named) (r r' : Result Name Refusal) → Says r x → Says r' x → r ≡ r'
same x (Ok n) (Ok n') p q = ap Ok (p.1 ∙ sym q.1)
same x (Ok n) (Err e) p q = no_answer e 0 (sym (ap (λ (y : Named). y.answer) q) ∙ p.0)
same x (Err e) (Ok n) p q = no_answer e 0 (sym (ap (λ (y : Named). y.answer) p) ∙ q.0)
same x (Err e) (Err e') p q = ap Err (alike (ap (λ (y : Named). y.answer) (sym p ∙ q)))
  where
    alike : ◌≡◌ {A = Answer} (Err e) (Err e') → e ≡ e'
    alike f = cc

pub new_name_settled : (κs : _) (a : _) (r : _) (s : _) (r' : _) (s' : _) → new_name_lem.Learnt κs a r s → new_name_lem.Learnt κs a r' s' → r ≡ r'
new_name_settled κs a r s r' s' p q = same _ r r' p q
