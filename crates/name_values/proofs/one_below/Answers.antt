-- `name_values::one_below` meets its contract. Assumes nothing.
use native.Mathlib.Omega.{arith}
use mathlib.Core.Path.{◌∙◌, ap}
use Prim.Native.Nat.{ℕ, ◌-◌}
use lib.ListN.{take, set, get_or}
use lib.Signed.{non_neg}
use Rattle.names.specs.declared.Tuple.{Tuple}
use Rattle.names.specs.Names.{lowered, m}
use Rattle.name_values.proofs.OneBelowByValue.{name_long, last_from_zero, below_stored}
use Rattle.name_values.proofs.one_below.Goals as goal

pub overflow_sub-n : goal.overflow_sub-n
overflow_sub-n c = let a = c.args.a in omega (arith, name_long a.tuples a.depth m c.requires)

pub one_lower-requires : goal.one_lower-requires
one_lower-requires c =
    let a = c.args.a in
    ap (λ (k : ℕ). non_neg (get_or a.tuples (k - 1) m).offset) c.tuples_in-n.ensures.0 ∙ last_from_zero a.tuples a.depth m c.requires

pub overflow_sub-tuples : goal.overflow_sub-tuples
overflow_sub-tuples c = let a = c.args.a in omega (arith, name_long a.tuples a.depth m c.requires)

pub returns : goal.returns
returns c =
    let a = c.args.a in
    let n = c.tuples_in-n.result in
    ap (λ (t : Tuple). take n (set a.tuples (n - 1) t)) c.one_lower.ensures
    ∙ ap (λ (k : ℕ). take k (set a.tuples (k - 1) (lowered (get_or a.tuples (k - 1) m)))) c.tuples_in-n.ensures.0
    ∙ below_stored a.tuples a.depth m c.requires
