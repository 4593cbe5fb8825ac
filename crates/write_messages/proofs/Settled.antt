-- The promise of write settles its outcome: any two outcomes that the contract allows, answer and output at exit, are equal. `Learnt` is
-- what a caller learns from the contract, of any arguments a, result r and parameters at exit s. Assumes nothing.
use mathlib.Core.Path.{◌≡◌}
use Rattle.numbers.proofs.Settled.{one}
use Rattle.write_messages.proofs.write.Reads as write

pub write_settled : (κs : _) (a : _) (r : _) (s : _) (r' : _) (s' : _) → write.Learnt κs a r s → write.Learnt κs a r' s'
    → (r ≡ r') × (s.1.1.0.now ≡ s'.1.1.0.now)
write_settled κs a r s r' s' p q = (one p.0 q.0, one p.1 q.1)
