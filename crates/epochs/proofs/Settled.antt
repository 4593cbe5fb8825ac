-- Each public function's promise settles its outcome: any two outcomes that the contract allows are equal. `Learnt` is what a
-- caller learns from the contract, of any arguments a, result r and parameters at exit s. Assumes nothing.
use mathlib.Core.Path.{◌≡◌}
use Rattle.numbers.proofs.Settled.{one}
use Rattle.epochs.proofs.table_ok.Reads as table-ok
use Rattle.epochs.proofs.check_table.Reads as check-table
use Rattle.epochs.proofs.step_number.Reads as step-number
use Rattle.epochs.proofs.step_index.Reads as step_index_lem
use Rattle.epochs.proofs.answer.Reads as answer
use Rattle.epochs.proofs.next_step.Reads as next-step
use Rattle.epochs.proofs.add.Reads as add

pub table_ok_settled : (κs : _) (a : _) (r : _) (s : _) (r' : _) (s' : _) → table-ok.Learnt κs a r s → table-ok.Learnt κs a r' s' → r ≡ r'
table_ok_settled κs a r s r' s' p q = one p q

pub check_table_settled : (κs : _) (a : _) (r : _) (s : _) (r' : _) (s' : _) → check-table.Learnt κs a r s → check-table.Learnt κs a r' s' → r ≡ r'
check_table_settled κs a r s r' s' p q = one p q

pub step_number_settled : (κs : _) (a : _) (r : _) (s : _) (r' : _) (s' : _) → step-number.Learnt κs a r s → step-number.Learnt κs a r' s' → r ≡ r'
step_number_settled κs a r s r' s' p q = one p q

pub step_index_settled : (κs : _) (a : _) (r : _) (s : _) (r' : _) (s' : _) → step_index_lem.Learnt κs a r s → step_index_lem.Learnt κs a r' s' → r ≡ r'
step_index_settled κs a r s r' s' p q = one p q

pub answer_settled : (κs : _) (a : _) (r : _) (s : _) (r' : _) (s' : _) → answer.Learnt κs a r s → answer.Learnt κs a r' s' → r ≡ r'
answer_settled κs a r s r' s' p q = one p q

pub next_step_settled : (κs : _) (a : _) (r : _) (s : _) (r' : _) (s' : _) → next-step.Learnt κs a r s → next-step.Learnt κs a r' s' → r ≡ r'
next_step_settled κs a r s r' s' p q = one p q

pub add_settled :
    (κs : _) (a : _) (r : _) (s : _) (r' : _) (s' : _) → add.Learnt κs a r s → add.Learnt κs a r' s' →
    (r ≡ r') × (s.1.1.1.1.0.now ≡ s'.1.1.1.1.0.now)
add_settled κs a r s r' s' p q = (one p.0 q.0, one p.1 q.1)
