-- The promises of put_in and cut_out settle their outcomes: any two that a contract allows, answer and output at exit, are equal. `Learnt` is what a caller
-- learns from the contract, of any arguments a, result r and parameters at exit s. Assumes nothing.
use mathlib.Core.Path.{◌≡◌}
use Rattle.numbers.proofs.Settled.{one}
use Rattle.form_changes.proofs.put_in.Reads as put_in
use Rattle.form_changes.proofs.cut_out.Reads as cut_out

pub put_in_settled : (κs : _) (a : _) (r : _) (s : _) (r' : _) (s' : _) → put_in.Learnt κs a r s → put_in.Learnt κs a r' s'
    → (r ≡ r') × (s.1.1.1.1.0.now ≡ s'.1.1.1.1.0.now)
put_in_settled κs a r s r' s' p q = (one p.0 q.0, one p.1 q.1)

pub cut_out_settled : (κs : _) (a : _) (r : _) (s : _) (r' : _) (s' : _) → cut_out.Learnt κs a r s → cut_out.Learnt κs a r' s'
    → (r ≡ r') × (s.1.1.0.now ≡ s'.1.1.0.now)
cut_out_settled κs a r s r' s' p q = (one p.0 q.0, one p.1 q.1)
