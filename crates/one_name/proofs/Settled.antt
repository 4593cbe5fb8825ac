-- The promises settle their outcomes: any two outcomes that a contract allows are equal, of a name that is given whether it fits and its
-- row. `Learnt` is what a caller learns from the contract, of any arguments a, result r and parameters at exit s. Assumes nothing.
use mathlib.Core.Path.{◌≡◌, ◌∙◌, ap}
use mathlib.Core.Bool.{Bool}
use Rattle.std.specs.Prelude.{cond}
use Rattle.std.specs.Option.{option_map}
use Rattle.std.specs.declared.option.Option.{Option}
use Rattle.std.specs.declared.option.Option.TheVariants.{Some, None}
use Rattle.names.specs.declared.Name.{Name}
use Rattle.names.specs.Ordering.{Row}
use Rattle.names.specs.Names.{row_of, fits, Gives}
use Rattle.numbers.proofs.Settled.{one}
use Rattle.slots.specs.Tuples.{row_at}
use Rattle.pages.specs.Pages.{names_of}
use Rattle.one_name.specs.Backs.{shaped, single}
use Rattle.one_name.specs.Stems.{row_of_stem}
use Rattle.one_name.proofs.all_unmarked.Reads as all-unmarked
use Rattle.one_name.proofs.deepest.Reads as deepest
use Rattle.one_name.proofs.shallowest.Reads as shallowest
use Rattle.one_name.proofs.case_at.Reads as case_at
use Rattle.one_name.proofs.walk.Reads as walk
use Rattle.one_name.proofs.gains.Reads as gains
use Rattle.one_name.proofs.change_of.Reads as change-of
use Rattle.one_name.proofs.without.Reads as without
use Rattle.one_name.proofs.back_of.Reads as back-of
use Rattle.one_name.proofs.stem_of.Reads as stem-of
use Rattle.one_name.proofs.may_meet.Reads as may-meet
use Rattle.one_name.proofs.all_clear.Reads as all-clear
use Rattle.one_name.proofs.is_alone.Reads as is-alone
use Rattle.one_name.proofs.alone_of.Reads as Alone-of
use Rattle.one_name.proofs.rename_name.Reads as rename-name
use Rattle.one_name.proofs.take_back_name.Reads as take-back-name

-- what is given of a row a: whether there is a name, and its row
given : (r : Option Name) (a : Row) → Gives r a → option_map row_of r ≡ cond (fits a) (Some a) None
given (Some x) a p = ap Some p.1 ∙ ap (λ (b : Bool). cond b (Some a) None) p.0
given None a p = ap (λ (b : Bool). cond b (Some a) None) p.0

pub all_unmarked_settled : (κs : _) (a : _) (r : _) (s : _) (r' : _) (s' : _) → all-unmarked.Learnt κs a r s → all-unmarked.Learnt κs a r' s' → r ≡ r'
all_unmarked_settled κs a r s r' s' p q = one p q

pub deepest_settled : (κs : _) (a : _) (r : _) (s : _) (r' : _) (s' : _) → deepest.Learnt κs a r s → deepest.Learnt κs a r' s' → r ≡ r'
deepest_settled κs a r s r' s' p q = one p.0 q.0

pub shallowest_settled : (κs : _) (a : _) (r : _) (s : _) (r' : _) (s' : _) → shallowest.Learnt κs a r s → shallowest.Learnt κs a r' s' → r ≡ r'
shallowest_settled κs a r s r' s' p q = one p.0 q.0

pub case_at_settled : (κs : _) (a : _) (r : _) (s : _) (r' : _) (s' : _) → case_at.Learnt κs a r s → case_at.Learnt κs a r' s' → r ≡ r'
case_at_settled κs a r s r' s' p q = one p q

pub walk_settled : (κs : _) (a : _) (r : _) (s : _) (r' : _) (s' : _) → walk.Learnt κs a r s → walk.Learnt κs a r' s' → (r.below ≡ r'.below) × (r.case ≡ r'.case)
walk_settled κs a r s r' s' p q = (one p.0 q.0, one p.1 q.1)

pub gains_settled : (κs : _) (a : _) (r : _) (s : _) (r' : _) (s' : _) → gains.Learnt κs a r s → gains.Learnt κs a r' s' → r ≡ r'
gains_settled κs a r s r' s' p q = one p q

pub change_of_settled : (κs : _) (a : _) (r : _) (s : _) (r' : _) (s' : _) → change-of.Learnt κs a r s → change-of.Learnt κs a r' s' → r ≡ r'
change_of_settled κs a r s r' s' p q = one p q

-- where the tuples stand, up to what stands there
pub without_settled : (κs : _) (a : _) (r : _) (s : _) (r' : _) (s' : _) → without.Learnt κs a r s → without.Learnt κs a r' s' → row_at a.0.now r ≡ row_at a.0.now r'
without_settled κs a r s r' s' p q = one p.1 q.1

pub back_of_settled : (κs : _) (a : _) (r : _) (s : _) (r' : _) (s' : _) → back-of.Learnt κs a r s → back-of.Learnt κs a r' s' → r ≡ r'
back_of_settled κs a r s r' s' p q = one p q

-- a stem, up to where its row stands
pub stem_of_settled : (κs : _) (a : _) (r : _) (s : _) (r' : _) (s' : _) → stem-of.Learnt κs a r s → stem-of.Learnt κs a r' s' →
    (r.behind ≡ r'.behind) × (r.ahead ≡ r'.ahead) × (r.depth ≡ r'.depth) × (row_of_stem a.1.0.now a.0.now r ≡ row_of_stem a.1.0.now a.0.now r')
stem_of_settled κs a r s r' s' p q = (one p.0.0 q.0.0, one p.0.1 q.0.1, one p.0.2 q.0.2, one p.1.1 q.1.1)

pub may_meet_settled : (κs : _) (a : _) (r : _) (s : _) (r' : _) (s' : _) → may-meet.Learnt κs a r s → may-meet.Learnt κs a r' s' → r ≡ r'
may_meet_settled κs a r s r' s' p q = one p q

pub all_clear_settled : (κs : _) (a : _) (r : _) (s : _) (r' : _) (s' : _) → all-clear.Learnt κs a r s → all-clear.Learnt κs a r' s' → r ≡ r'
all_clear_settled κs a r s r' s' p q = one p q

pub is_alone_settled : (κs : _) (a : _) (r : _) (s : _) (r' : _) (s' : _) → is-alone.Learnt κs a r s → is-alone.Learnt κs a r' s' → r ≡ r'
is_alone_settled κs a r s r' s' p q = one p q

pub alone_of_settled : (κs : _) (a : _) (r : _) (s : _) (r' : _) (s' : _) → Alone-of.Learnt κs a r s → Alone-of.Learnt κs a r' s' →
    shaped (row_at a.1.1.0.now a.1.1.1.0) (names_of a.0.now) (single r) ≡ shaped (row_at a.1.1.0.now a.1.1.1.0) (names_of a.0.now) (single r')
alone_of_settled κs a r s r' s' p q = one p.1 q.1

pub rename_name_settled : (κs : _) (a : _) (r : _) (s : _) (r' : _) (s' : _) → rename-name.Learnt κs a r s → rename-name.Learnt κs a r' s' → option_map row_of r ≡ option_map row_of r'
rename_name_settled κs a r s r' s' p q = one (given r _ p) (given r' _ q)

pub take_back_name_settled : (κs : _) (a : _) (r : _) (s : _) (r' : _) (s' : _) → take-back-name.Learnt κs a r s → take-back-name.Learnt κs a r' s' → option_map row_of r ≡ option_map row_of r'
take_back_name_settled κs a r s r' s' p q = one (given r _ p) (given r' _ q)
