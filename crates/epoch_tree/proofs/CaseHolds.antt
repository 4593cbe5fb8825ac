-- 01's case of epochs, for every count that its renames may have (`figure_holds`), and the story of 02's P1 (`drawer_holds`), by
-- computation. Assumes nothing.
use mathlib.Core.Path.{refl}
use borrow.Author.Tests.{le-leb, le-ltb}
use native.Mathlib.Nat.{le_refl}
use Rattle.epoch_tree.specs.Tables.{is_table}
use Rattle.epoch_tree.specs.Case.{FigureHolds, Drawer}

pub figure_holds : FigureHolds
unfolding is_table
figure_holds n a b =
    let same = le-ltb n n (le_refl n) in
    record {
      kept = simp (le-leb 1 n a, le-leb n 256 b);
      A1 = refl;
      C6 = simp same;
      B2 = simp same;
      B7 = simp same;
      greatest = simp same;
      far = refl;
      from_C6 = simp same;
      from_A1 = simp same;
      from_0 = simp same;
      from_B2 = simp same;
      from_B7 = simp same;
    }

pub drawer_holds : Drawer
unfolding is_table
drawer_holds = record {
  kept = refl;
  loses = refl;
  greatest = refl;
  crew_stays = refl;
  far = refl;
  from_spare = refl;
  from_0 = refl;
  from_1 = refl;
  from_2 = refl;
  above_0 = refl;
  above_1 = refl;
  above_2 = refl;
  above_3 = refl;
}
