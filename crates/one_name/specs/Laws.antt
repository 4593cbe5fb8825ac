-- When two names keep their order as they are taken back: what stands for 7's test where it is not made. Document 01, "Taking it back"; the words are those
-- of crates/name_renames and of specs/Stems.antt. proofs/Laws.antt has that all of it holds (`laws`).
use Rattle.std.specs.Prelude.{◌≡◌, List, Bool, true, false}
use Rattle.names.specs.declared.Author.{Author}
use Rattle.names.specs.Ordering.{Row}
use Rattle.names.specs.Names.{is_name}
use Rattle.std.specs.List.{list_all}
use Rattle.name_renames.specs.Renaming.{take_back}
use Rattle.name_renames.specs.Rules.{◌below◌}
use Rattle.name_renames.specs.Laws.{Log}
use Rattle.one_name.specs.Backs.{shaped, shape_of, shallowest_of}
use Rattle.one_name.specs.Markers.{unmarked_from}
use Rattle.one_name.specs.Stems.{stem, is_behind, is_ahead, clear_from, may_meet}

module _ (author : Author) (log : List Row) where
  -- c and d may meet
  abbrev pub meet : Row → Row → Bool
  meet c d =
      let a = shape_of author log c in
      let b = shape_of author log d in
      may_meet (is_behind a) (is_ahead b) (stem c log a) (stem d log b)

  -- two names, over a log
  pub record Neighbours (c d : Row) : Type 0 where
    pub logged : Log log
    pub first : is_name c ≡ true
    pub second : is_name d ≡ true
    pub rises : c below d

  pub record Laws : Type 0 where
    -- The shape that is found of a name is what 01's bullets make of it.
    pub shape_is : (c : Row) → Log log → shaped c log (shape_of author log c) ≡ take_back author log c
    -- Two names that could not meet keep their order strictly, markers or not.
    pub apart_kept : (c d : Row) → Neighbours c d → meet c d ≡ false → take_back author log c below take_back author log d
    -- So do any two, where no name of the log, and neither of them that is taken back to tuples of its own, has an end marker behind as many tuples as
    -- every name of the log has.
    pub clear_kept : (c d : Row) → Neighbours c d → list_all (unmarked_from (shallowest_of log)) log ≡ true →
        clear_from author log (shallowest_of log) c ≡ true → clear_from author log (shallowest_of log) d ≡ true → take_back author log c below take_back author log d
