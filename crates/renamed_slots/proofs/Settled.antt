-- The promises settle their outcomes: any two outcomes that a contract allows are equal. `Learnt` is what a caller learns from the contract,
-- of any arguments a, result r and parameters at exit s. Assumes nothing.
use mathlib.Core.Path.{◌≡◌}
use Rattle.numbers.proofs.Settled.{one}
use Rattle.renamed_slots.proofs.write_changed.Reads as write-changed
use Rattle.renamed_slots.proofs.write_back.Reads as write-back
use Rattle.renamed_slots.proofs.write_single.Reads as write-single
use Rattle.renamed_slots.proofs.backs_rise.Reads as backs-rise

pub write_changed_settled : (κs : _) (a : _) (r : _) (s : _) (r' : _) (s' : _) → write-changed.Learnt κs a r s → write-changed.Learnt κs a r' s' → s.0.now ≡ s'.0.now
write_changed_settled κs a r s r' s' p q = one p q

pub write_back_settled : (κs : _) (a : _) (r : _) (s : _) (r' : _) (s' : _) → write-back.Learnt κs a r s → write-back.Learnt κs a r' s' → s.0.now ≡ s'.0.now
write_back_settled κs a r s r' s' p q = one p q

pub write_single_settled : (κs : _) (a : _) (r : _) (s : _) (r' : _) (s' : _) → write-single.Learnt κs a r s → write-single.Learnt κs a r' s' → s.0.now ≡ s'.0.now
write_single_settled κs a r s r' s' p q = one p q

pub backs_rise_settled : (κs : _) (a : _) (r : _) (s : _) (r' : _) (s' : _) → backs-rise.Learnt κs a r s → backs-rise.Learnt κs a r' s' → r ≡ r'
backs_rise_settled κs a r s r' s' p q = one p q
