-- Each public function's promise settles its outcome: any two outcomes that the contract allows are equal. `Learnt` is what a
-- caller learns from the contract, of any arguments a, result r and parameters at exit s. Assumes nothing.
use mathlib.Core.Path.{◌≡◌}
use Rattle.names.specs.Names.{row_of}
use Rattle.numbers.proofs.Settled.{one}
use Rattle.slots.specs.Tuples.{tuples_at}
use Rattle.pages.proofs.slot_ok.Reads as Slot-ok
use Rattle.pages.proofs.look_over.Reads as look-over
use Rattle.pages.proofs.look.Reads as look
use Rattle.pages.proofs.log_ok.Reads as log-ok
use Rattle.pages.proofs.check_over.Reads as check-over
use Rattle.pages.proofs.check_page.Reads as check-page
use Rattle.pages.proofs.check_log.Reads as check-log
use Rattle.pages.proofs.find.Reads as find
use Rattle.pages.proofs.name_of.Reads as name_of
use Rattle.pages.proofs.span_of.Reads as Span-of

pub slot_ok_settled : (κs : _) (a : _) (r : _) (s : _) (r' : _) (s' : _) → Slot-ok.Learnt κs a r s → Slot-ok.Learnt κs a r' s' → r ≡ r'
slot_ok_settled κs a r s r' s' p q = one p q

pub look_over_settled : (κs : _) (a : _) (r : _) (s : _) (r' : _) (s' : _) → look-over.Learnt κs a r s → look-over.Learnt κs a r' s' → r ≡ r'
look_over_settled κs a r s r' s' p q = one p q

pub look_settled : (κs : _) (a : _) (r : _) (s : _) (r' : _) (s' : _) → look.Learnt κs a r s → look.Learnt κs a r' s' → r ≡ r'
look_settled κs a r s r' s' p q = one p q

pub log_ok_settled : (κs : _) (a : _) (r : _) (s : _) (r' : _) (s' : _) → log-ok.Learnt κs a r s → log-ok.Learnt κs a r' s' → r ≡ r'
log_ok_settled κs a r s r' s' p q = one p q

pub check_page_settled : (κs : _) (a : _) (r : _) (s : _) (r' : _) (s' : _) → check-page.Learnt κs a r s → check-page.Learnt κs a r' s' → r ≡ r'
check_page_settled κs a r s r' s' p q = one p q

pub check_over_settled : (κs : _) (a : _) (r : _) (s : _) (r' : _) (s' : _) → check-over.Learnt κs a r s → check-over.Learnt κs a r' s' → r ≡ r'
check_over_settled κs a r s r' s' p q = one p q

pub check_log_settled : (κs : _) (a : _) (r : _) (s : _) (r' : _) (s' : _) → check-log.Learnt κs a r s → check-log.Learnt κs a r' s' → r ≡ r'
check_log_settled κs a r s r' s' p q = one p q

pub find_settled : (κs : _) (a : _) (r : _) (s : _) (r' : _) (s' : _) → find.Learnt κs a r s → find.Learnt κs a r' s' → r ≡ r'
find_settled κs a r s r' s' p q = one p q

pub name_of_settled : (κs : _) (a : _) (r : _) (s : _) (r' : _) (s' : _) → name_of.Learnt κs a r s → name_of.Learnt κs a r' s' → row_of r ≡ row_of r'
name_of_settled κs a r s r' s' p q = one p q

-- where a name stands, up to the name
pub span_of_settled : (κs : _) (a : _) (r : _) (s : _) (r' : _) (s' : _) → Span-of.Learnt κs a r s → Span-of.Learnt κs a r' s' → tuples_at a.0.now r.at r.count ≡ tuples_at a.0.now r'.at r'.count
span_of_settled κs a r s r' s' p q = one p.1 q.1
