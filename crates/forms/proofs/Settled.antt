-- Each public function's promise settles its outcome: any two outcomes that the contract allows are equal. `Learnt` is what a
-- caller learns from the contract, of any arguments a, result r and parameters at exit s. Assumes nothing.
use mathlib.Core.Path.{◌≡◌}
use Rattle.numbers.proofs.Settled.{one}
use Rattle.forms.proofs.no_block.Reads as no_block
use Rattle.forms.proofs.block_at.Reads as block_at
use Rattle.forms.proofs.block_here.Reads as block_here
use Rattle.forms.proofs.start_of.Reads as start_of_lem
use Rattle.forms.proofs.end_of.Reads as end_of_lem
use Rattle.forms.proofs.look.Reads as look
use Rattle.forms.proofs.write_sizes.Reads as write-sizes
use Rattle.forms.proofs.write_head.Reads as write-head

pub no_block_settled : (κs : _) (a : _) (r : _) (s : _) (r' : _) (s' : _) → no_block.Learnt κs a r s → no_block.Learnt κs a r' s' → r ≡ r'
no_block_settled κs a r s r' s' p q = one p q

pub block_at_settled : (κs : _) (a : _) (r : _) (s : _) (r' : _) (s' : _) → block_at.Learnt κs a r s → block_at.Learnt κs a r' s' → r ≡ r'
block_at_settled κs a r s r' s' p q = one p.0 q.0

pub block_here_settled : (κs : _) (a : _) (r : _) (s : _) (r' : _) (s' : _) → block_here.Learnt κs a r s → block_here.Learnt κs a r' s' → r ≡ r'
block_here_settled κs a r s r' s' p q = one p.0 q.0

pub start_of_settled : (κs : _) (a : _) (r : _) (s : _) (r' : _) (s' : _) → start_of_lem.Learnt κs a r s → start_of_lem.Learnt κs a r' s' → r ≡ r'
start_of_settled κs a r s r' s' p q = one p q

pub end_of_settled : (κs : _) (a : _) (r : _) (s : _) (r' : _) (s' : _) → end_of_lem.Learnt κs a r s → end_of_lem.Learnt κs a r' s' → r ≡ r'
end_of_settled κs a r s r' s' p q = one p q

pub look_settled : (κs : _) (a : _) (r : _) (s : _) (r' : _) (s' : _) → look.Learnt κs a r s → look.Learnt κs a r' s' → r ≡ r'
look_settled κs a r s r' s' p q = one p q

pub write_sizes_settled : (κs : _) (a : _) (r : _) (s : _) (r' : _) (s' : _) → write-sizes.Learnt κs a r s → write-sizes.Learnt κs a r' s' → s.0.now ≡ s'.0.now
write_sizes_settled κs a r s r' s' p q = one p q

pub write_head_settled : (κs : _) (a : _) (r : _) (s : _) (r' : _) (s' : _) → write-head.Learnt κs a r s → write-head.Learnt κs a r' s'
    → (r ≡ r') × (s.0.now ≡ s'.0.now)
write_head_settled κs a r s r' s' p q = (one p.0 q.0, one p.1 q.1)
