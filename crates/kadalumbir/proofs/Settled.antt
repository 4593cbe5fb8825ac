-- Each function's promise settles its outcome: any two outcomes that the contract allows, the number and the output at exit, are
-- equal. `Learnt` is what a caller learns from the contract, of any arguments a, result r and parameters at exit s. Assumes nothing.
use mathlib.Core.Path.{◌≡◌}
use Rattle.numbers.proofs.Settled.{one}
use Rattle.kadalumbir.specs.Library.{numbers}
use Rattle.kadalumbir.proofs.kadalumbir_check_page.Reads as check-page
use Rattle.kadalumbir.proofs.kadalumbir_check_log.Reads as check-log
use Rattle.kadalumbir.proofs.kadalumbir_check_epochs.Reads as check-epochs
use Rattle.kadalumbir.proofs.kadalumbir_insert.Reads as insert
use Rattle.kadalumbir.proofs.kadalumbir_remove.Reads as remove
use Rattle.kadalumbir.proofs.kadalumbir_from_old.Reads as from_old
use Rattle.kadalumbir.proofs.kadalumbir_to_old.Reads as to-old
use Rattle.kadalumbir.proofs.kadalumbir_new_name.Reads as new_name_lem
use Rattle.kadalumbir.proofs.kadalumbir_rename.Reads as rename
use Rattle.kadalumbir.proofs.kadalumbir_take_back.Reads as take_back
use Rattle.kadalumbir.proofs.kadalumbir_next_step.Reads as next-step
use Rattle.kadalumbir.proofs.kadalumbir_add_epoch.Reads as add-epoch
use Rattle.kadalumbir.proofs.kadalumbir_write_message.Reads as write-message
use Rattle.kadalumbir.proofs.kadalumbir_read_message.Reads as read-message
use Rattle.kadalumbir.proofs.kadalumbir_group.Reads as group
use Rattle.kadalumbir.proofs.kadalumbir_ungroup.Reads as ungroup
use Rattle.kadalumbir.proofs.kadalumbir_group_insert.Reads as group-insert
use Rattle.kadalumbir.proofs.kadalumbir_group_remove.Reads as group-remove

pub check_page_settled : (κs : _) (a : _) (r : _) (s : _) (r' : _) (s' : _) → check-page.Learnt κs a r s → check-page.Learnt κs a r' s' → r ≡ r'
check_page_settled κs a r s r' s' p q = one p q

pub check_log_settled : (κs : _) (a : _) (r : _) (s : _) (r' : _) (s' : _) → check-log.Learnt κs a r s → check-log.Learnt κs a r' s' → r ≡ r'
check_log_settled κs a r s r' s' p q = one p q

pub check_epochs_settled : (κs : _) (a : _) (r : _) (s : _) (r' : _) (s' : _) → check-epochs.Learnt κs a r s → check-epochs.Learnt κs a r' s' → r ≡ r'
check_epochs_settled κs a r s r' s' p q = one p q

pub insert_settled : (κs : _) (a : _) (r : _) (s : _) (r' : _) (s' : _) → insert.Learnt κs a r s → insert.Learnt κs a r' s' → (r ≡ r') × (s.1.1.0.now ≡ s'.1.1.0.now)
insert_settled κs a r s r' s' p q = (one p.0 q.0, one p.1 q.1)

pub remove_settled : (κs : _) (a : _) (r : _) (s : _) (r' : _) (s' : _) → remove.Learnt κs a r s → remove.Learnt κs a r' s' → (r ≡ r') × (s.1.1.0.now ≡ s'.1.1.0.now)
remove_settled κs a r s r' s' p q = (one p.0 q.0, one p.1 q.1)

pub from_old_settled : (κs : _) (a : _) (r : _) (s : _) (r' : _) (s' : _) → from_old.Learnt κs a r s → from_old.Learnt κs a r' s' → (r ≡ r') × (s.1.0.now ≡ s'.1.0.now)
from_old_settled κs a r s r' s' p q = (one p.0 q.0, one p.1 q.1)

pub to_old_settled : (κs : _) (a : _) (r : _) (s : _) (r' : _) (s' : _) → to-old.Learnt κs a r s → to-old.Learnt κs a r' s' → (r ≡ r') × (s.1.0.now ≡ s'.1.0.now)
to_old_settled κs a r s r' s' p q = (one p.0 q.0, one p.1 q.1)

pub new_name_settled : (κs : _) (a : _) (r : _) (s : _) (r' : _) (s' : _) → new_name_lem.Learnt κs a r s → new_name_lem.Learnt κs a r' s' → (r ≡ r') × (s.1.1.1.1.0.now ≡ s'.1.1.1.1.0.now)
new_name_settled κs a r s r' s' p q = (one p.0 q.0, one p.1 q.1)

pub rename_settled : (κs : _) (a : _) (r : _) (s : _) (r' : _) (s' : _) → rename.Learnt κs a r s → rename.Learnt κs a r' s' → (r ≡ r') × (s.1.1.1.1.0.now ≡ s'.1.1.1.1.0.now)
rename_settled κs a r s r' s' p q = (one p.0 q.0, one p.1 q.1)

pub take_back_settled : (κs : _) (a : _) (r : _) (s : _) (r' : _) (s' : _) → take_back.Learnt κs a r s → take_back.Learnt κs a r' s' → (r ≡ r') × (s.1.1.1.1.0.now ≡ s'.1.1.1.1.0.now)
take_back_settled κs a r s r' s' p q = (one p.0 q.0, one p.1 q.1)

pub next_step_settled : (κs : _) (a : _) (r : _) (s : _) (r' : _) (s' : _) → next-step.Learnt κs a r s → next-step.Learnt κs a r' s' → (r ≡ r') × (s.1.1.0.now ≡ s'.1.1.0.now) × (s.1.1.1.0.now ≡ s'.1.1.1.0.now)
next_step_settled κs a r s r' s' p q = (one p.0 q.0, one p.1.0 q.1.0, one p.1.1 q.1.1)

pub add_epoch_settled : (κs : _) (a : _) (r : _) (s : _) (r' : _) (s' : _) → add-epoch.Learnt κs a r s → add-epoch.Learnt κs a r' s' → (r ≡ r') × (s.1.1.1.1.1.0.now ≡ s'.1.1.1.1.1.0.now)
add_epoch_settled κs a r s r' s' p q = (one p.0 q.0, one p.1 q.1)

pub write_message_settled : (κs : _) (a : _) (r : _) (s : _) (r' : _) (s' : _) → write-message.Learnt κs a r s → write-message.Learnt κs a r' s' → (r ≡ r') × (s.1.1.1.1.1.1.1.0.now ≡ s'.1.1.1.1.1.1.1.0.now)
write_message_settled κs a r s r' s' p q = (one p.0 q.0, one p.1 q.1)

pub read_message_settled : (κs : _) (a : _) (r : _) (s : _) (r' : _) (s' : _) → read-message.Learnt κs a r s → read-message.Learnt κs a r' s' → (r ≡ r') × (numbers s.1.0.now s.1.1.0.now s.1.1.1.0.now s.1.1.1.1.0.now s.1.1.1.1.1.0.now s.1.1.1.1.1.1.0.now ≡ numbers s'.1.0.now s'.1.1.0.now s'.1.1.1.0.now s'.1.1.1.1.0.now s'.1.1.1.1.1.0.now s'.1.1.1.1.1.1.0.now) × (s.1.1.1.1.1.1.1.0.now ≡ s'.1.1.1.1.1.1.1.0.now)
read_message_settled κs a r s r' s' p q = (one p.0 q.0, one p.1.0 q.1.0, one p.1.1 q.1.1)

pub group_settled : (κs : _) (a : _) (r : _) (s : _) (r' : _) (s' : _) → group.Learnt κs a r s → group.Learnt κs a r' s' → (r ≡ r') × (s.1.0.now ≡ s'.1.0.now)
group_settled κs a r s r' s' p q = (one p.0 q.0, one p.1 q.1)

pub ungroup_settled : (κs : _) (a : _) (r : _) (s : _) (r' : _) (s' : _) → ungroup.Learnt κs a r s → ungroup.Learnt κs a r' s' → (r ≡ r') × (s.1.0.now ≡ s'.1.0.now)
ungroup_settled κs a r s r' s' p q = (one p.0 q.0, one p.1 q.1)

pub group_insert_settled : (κs : _) (a : _) (r : _) (s : _) (r' : _) (s' : _) → group-insert.Learnt κs a r s → group-insert.Learnt κs a r' s' → (r ≡ r') × (s.1.1.0.now ≡ s'.1.1.0.now)
group_insert_settled κs a r s r' s' p q = (one p.0 q.0, one p.1 q.1)

pub group_remove_settled : (κs : _) (a : _) (r : _) (s : _) (r' : _) (s' : _) → group-remove.Learnt κs a r s → group-remove.Learnt κs a r' s' → (r ≡ r') × (s.1.1.0.now ≡ s'.1.1.0.now)
group_remove_settled κs a r s r' s' p q = (one p.0 q.0, one p.1 q.1)
