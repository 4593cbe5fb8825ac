-- What specs/Laws.antt states holds: `laws`. Assumes nothing.
use mathlib.Core.List.{List}
use Prim.Native.Nat.{ℕ, zero, suc, ◌<◌}
use native.Mathlib.Nat.{not-suc-le-zero, le_of_suc-le-suc}
use lib.ListN.{length}
use Rattle.names.specs.declared.Author.{Author}
use Rattle.names.specs.Ordering.{Row}
use Rattle.names.proofs.Validity.{Valid, name_valid}
use Rattle.name_renames.specs.Laws.{Log}
use Rattle.name_renames.proofs.Lists.{All, nil, cons, at}
use Rattle.name_renames.proofs.Laws.{all_valid}
use Rattle.one_name.specs.Backs.{shallowest_of}
use Rattle.one_name.specs.Laws.{Laws}
use Rattle.one_name.proofs.Depths.{each_over}
use Rattle.one_name.proofs.Shapes.{shape_means}
use Rattle.one_name.proofs.Neighbours.{apart_kept, clear_kept}

nth : {l : List Row} (k : ℕ) → All Valid l → k < length l → Valid (at l k)
nth k nil h = absurd (not-suc-le-zero h)
nth zero (cons v vs) h = v
nth (suc k) (cons v vs) h = nth k vs (le_of_suc-le-suc h)

module _ (log : List Row) (g : Log log) where
  valid_at : (k : ℕ) → k < length log → Valid (at log k)
  valid_at k h = nth k (all_valid log g.names) h

pub laws : (author : Author) (log : List Row) → Laws author log
laws author log =
    record {
      shape_is = λ c g. (shape_means author log c g.some g.rises).1;
      apart_kept = λ c d w e. apart_kept log (valid_at log w.logged) c d (name_valid c w.first) (name_valid d w.second) author w.logged.some w.logged.rises w.rises e;
      clear_kept = λ c d w us u v. clear_kept log (valid_at log w.logged) c d (name_valid c w.first) (name_valid d w.second) author w.logged.some w.logged.rises w.rises (shallowest_of log) (each_over log) us u v;
    }
