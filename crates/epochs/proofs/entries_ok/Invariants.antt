use Rattle.std.proofs.Common.{◌≡◌, ◌&&◌, drop}
use Rattle.epoch_tree.specs.Tables.{entry_at, entries_in, is_first, keeps_from}
use Rattle.epochs.specs.Pairs.{Under}
use Rattle.epochs.proofs.entries_ok.Given as goal

abbrev pub invariant-loop-i : goal.invariant-loop-i
invariant-loop-i l =
    let t = entries_in l.entries in
    (keeps_from t l.i (drop l.i t) ≡ (is_first (entry_at t 0) && keeps_from t 1 (drop 1 t))) × Under t l.i l.tops
