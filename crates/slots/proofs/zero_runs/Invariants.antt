-- `slots::zero_runs` meets its contract. Assumes nothing.
use Rattle.std.proofs.Common.{◌≡◌, ◌&&◌, eqb, take, drop}
use Rattle.numbers.specs.Bytes.{all_zero}
use Rattle.slots.proofs.zero_runs.Given as goal

abbrev pub invariant-loop-i : goal.invariant-loop-i
invariant-loop-i l = eqb l.all 0 ≡ all_zero (take l.i (drop l.p l.s)) && all_zero (take l.i (drop l.q l.s))
