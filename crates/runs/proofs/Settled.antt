-- Each public function's promise settles its outcome: any two outcomes that the contract allows are equal. `Learnt` is what a
-- caller learns from the contract, of any arguments a, result r and parameters at exit s. Assumes nothing.
use mathlib.Core.Path.{◌≡◌}
use Rattle.numbers.proofs.Settled.{one}
use Rattle.runs.proofs.beside.Reads as beside
use Rattle.runs.proofs.same_but_last.Reads as same-but-last
use Rattle.runs.proofs.is_onward.Reads as is-onward
use Rattle.runs.proofs.copy_onward.Reads as copy-onward
use Rattle.runs.proofs.copy_slot_onward.Reads as copy-slot-onward

pub beside_settled : (κs : _) (a : _) (r : _) (s : _) (r' : _) (s' : _) → beside.Learnt κs a r s → beside.Learnt κs a r' s' → r ≡ r'
beside_settled κs a r s r' s' p q = one p q

pub same_but_last_settled : (κs : _) (a : _) (r : _) (s : _) (r' : _) (s' : _) → same-but-last.Learnt κs a r s → same-but-last.Learnt κs a r' s' → r ≡ r'
same_but_last_settled κs a r s r' s' p q = one p q

pub is_onward_settled : (κs : _) (a : _) (r : _) (s : _) (r' : _) (s' : _) → is-onward.Learnt κs a r s → is-onward.Learnt κs a r' s' → r ≡ r'
is_onward_settled κs a r s r' s' p q = one p q

pub copy_onward_settled : (κs : _) (a : _) (r : _) (s : _) (r' : _) (s' : _) → copy-onward.Learnt κs a r s → copy-onward.Learnt κs a r' s' → s.0.now ≡ s'.0.now
copy_onward_settled κs a r s r' s' p q = one p q

pub copy_slot_onward_settled : (κs : _) (a : _) (r : _) (s : _) (r' : _) (s' : _) → copy-slot-onward.Learnt κs a r s → copy-slot-onward.Learnt κs a r' s' → s.0.now ≡ s'.0.now
copy_slot_onward_settled κs a r s r' s' p q = one p q
