-- The book of specs/Example.antt, by computation (`example`). Assumes nothing.
use mathlib.Core.Path.{refl}
use mathlib.Core.List.{[], ◌∷◌, flatten}
use native.Mathlib.Omega.{arith}
use Rattle.names.specs.Ordering.{compare_tuples, compare_rows, rising}
use Rattle.names.specs.Names.{ordinary_from, marker, ends_well, is_name}
use Rattle.name_renames.specs.Starred.{r0, r1, r2}
use Rattle.name_renames.specs.Renaming.{rename, fresh, case_above, case_of, become}
use Rattle.numbers.specs.Bytes.{Octets}
use Rattle.slots.specs.Tuples.{tuple_at, tuple_bytes}
use Rattle.slots.specs.Slots.{bytes_over, keeps_over}
use Rattle.pages.specs.Pages.{layout_over, is_log}
use Rattle.pages.proofs.WrittenOctets.{written_octets}
use Rattle.page_renames.specs.Renames.{rename_outcome}
use Rattle.runs.specs.Runs.{next}
use Rattle.groups.specs.Forms.{form_bytes}
use Rattle.groups.specs.Calls.{group_outcome}
use Rattle.grouped_renames.specs.Example.{line, page, Example}

page_octets : Octets page
unfolding flatten bytes_over tuple_bytes ordinary_from marker ends_well is_name
page_octets = written_octets (line 7 r0 ∷ line 12 r1 ∷ line 13 r2 ∷ []) refl

pub example : Example
unfolding compare_tuples compare_rows rising ordinary_from marker ends_well is_name rename fresh case_above case_of become tuple_at tuple_bytes keeps_over bytes_over layout_over is_log rename_outcome group_outcome form_bytes next flatten
example = record {
  renames_all = record {
    given = record { octets = page_octets; node_max = omega arith; sequence_max = omega arith };
    all_names = refl;
    accepted = refl;
  };
  group_is = refl;
}
