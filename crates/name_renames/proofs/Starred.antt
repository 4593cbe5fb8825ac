-- The starred table of document 01 holds of the definitions: `starred`. Assumes nothing.
use mathlib.Core.Path.{refl}
use Rattle.names.specs.Ordering.{compare_tuples, compare_rows}
use Rattle.names.specs.Names.{one_below}
use Rattle.name_renames.specs.Renaming.{rename, take_back, case_above, case_of, become, under, over, strip_below, strip_above, back_from, back_of}
use Rattle.name_renames.specs.Starred.{Starred}

pub starred : Starred
unfolding compare_tuples compare_rows one_below rename take_back case_above case_of become under over strip_below strip_above back_from back_of
starred =
    record {
      rename_between = refl;
      rename_logged = refl;
      rename_keep_below = refl;
      rename_put_below = refl;
      rename_keep_above = refl;
      rename_put_above = refl;
      back_between_lem = refl;
      back_not_above = refl;
      back_not_below = refl;
      back_low_tail = refl;
      back_high_tail = refl;
      back_after_last = refl;
    }
