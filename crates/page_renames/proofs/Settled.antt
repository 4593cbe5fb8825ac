-- The promises settle their outcomes: any two outcomes that a contract allows are equal, answer and output at exit. `Learnt` is what a caller
-- learns from the contract, of any arguments a, result r and parameters at exit s. Assumes nothing.
use mathlib.Core.Path.{◌≡◌}
use Rattle.numbers.proofs.Settled.{one}
use Rattle.page_renames.proofs.rename.Reads as rename
use Rattle.page_renames.proofs.take_back.Reads as take_back

pub rename_settled : (κs : _) (a : _) (r : _) (s : _) (r' : _) (s' : _) → rename.Learnt κs a r s → rename.Learnt κs a r' s' →
    (r ≡ r') × (s.1.1.1.0.now ≡ s'.1.1.1.0.now)
rename_settled κs a r s r' s' p q = (one p.0 q.0, one p.1 q.1)

pub take_back_settled : (κs : _) (a : _) (r : _) (s : _) (r' : _) (s' : _) → take_back.Learnt κs a r s → take_back.Learnt κs a r' s' →
    (r ≡ r') × (s.1.1.1.0.now ≡ s'.1.1.1.0.now)
take_back_settled κs a r s r' s' p q = (one p.0 q.0, one p.1 q.1)
