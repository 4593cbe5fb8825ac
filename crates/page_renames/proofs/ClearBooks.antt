-- A page and a log with no end marker where names could meet and no name so deep that it could come to have too many tuples: neither 6 nor 7 is met
-- (`clear_passes`). Assumes nothing.
use Rattle.std.proofs.lemmas.List.Folds.{list_all-map}
use mathlib.Core.Path.{◌≡◌, refl, ◌∙◌}
use mathlib.Core.List.{List, [], ◌∷◌, map}
use mathlib.Core.Bool.{Bool, true, ◌&&◌}
use Prim.Native.Nat.{ℕ, ◌+◌, ◌≤◌}
use native.Mathlib.Omega.{arith}
use borrow.Author.Tests.{leb-true}
use lib.Dec.{leb}
use Rattle.names.specs.declared.Author.{Author}
use Rattle.names.specs.Ordering.{Row, ◌<ⁿ◌, rising}
use Rattle.names.specs.Names.{limit, fits}
use Rattle.names.proofs.Laws.{rising_Rising, Rising_rising}
use Rattle.names.proofs.Validity.{Valid}
use Rattle.numbers.specs.Bytes.{Bytes}
use Rattle.std.specs.List.{list_all}
use Rattle.numbers.proofs.Bools.{and_0, and_1}
use Rattle.pages.specs.Pages.{names_of}
use Rattle.pages.proofs.RoundTrip.{page_names}
use Rattle.answers.specs.Laws.{Passed}
use Rattle.name_renames.specs.Renaming.{take_back}
use Rattle.name_renames.proofs.Lists.{All, nil, cons, rising_map}
use Rattle.one_name.specs.Backs.{deepest_of, shallowest_of}
use Rattle.one_name.specs.Markers.{unmarked_from}
use Rattle.one_name.specs.Stems.{clear_from}
use Rattle.one_name.proofs.CheckedLog.{logged}
use Rattle.one_name.proofs.Depths.{each_over, back_fits_by}
use Rattle.one_name.proofs.Neighbours.{clear_kept}
use Rattle.page_renames.specs.Renames.{all_fit, take_back_tests}
use Rattle.page_renames.proofs.Books.{Asked}
use Rattle.page_renames.proofs.Carried.{page_valid}

-- a name that is one, of which the test f holds
abbrev Passes : (Row → Bool) → Row → Type 0
Passes f c = Valid c × (f c ≡ true)

all_pass : (f : Row → Bool) (l : List Row) → All Valid l → list_all f l ≡ true → All (Passes f) l
all_pass f [] vs e = nil
all_pass f (c ∷ l) (cons v vs) e = cons (v, and_0 (f c) (list_all f l) e) (all_pass f l vs (and_1 (f c) (list_all f l) e))

module _ (page log : Bytes) (author : Author) (v : Asked page log author) where
  abbrev back : Row → Row
  back = take_back author (names_of log)

  abbrev short : Bool
  short = leb (deepest_of (names_of log) + 1 + deepest_of (names_of page)) limit

  each_fits : (l : List Row) → deepest_of (names_of log) + 1 + deepest_of l ≤ limit → list_all (λ (c : Row). fits (back c)) l ≡ true
  each_fits [] h = refl
  each_fits (c ∷ l) h =
      let f = back_fits_by author (names_of log) c (omega arith) in
      let r = each_fits l (omega arith) in
      λ i. f i && r i

  abbrev from : ℕ
  from = shallowest_of (names_of log)

  abbrev clear : Row → Bool
  clear = clear_from author (names_of log) from

  abbrev log_free : Bool
  log_free = list_all (unmarked_from from) (names_of log)

  abbrev page_clear : Bool
  page_clear = list_all clear (names_of page)

  module _ (e : log_free && page_clear && short ≡ true) where
    free : log_free && page_clear ≡ true
    free = and_0 (log_free && page_clear) short e

    fit : all_fit back page ≡ true
    fit = list_all-map fits back (names_of page) ∙ each_fits (names_of page) (leb-true _ limit (and_1 (log_free && page_clear) short e))

    kept : (c d : Row) → Passes clear c → Passes clear d → c <ⁿ d → back c <ⁿ back d
    kept c d i j l =
        let w = logged log v.logged in
        clear_kept (names_of log) (page_names log w.layout) c d i.0 j.0 author w.some w.rising l from (each_over (names_of log)) (and_0 log_free page_clear free) i.1 j.1

    rise : rising (map back (names_of page)) ≡ true
    rise =
        let pass = all_pass clear (names_of page) (page_valid page v.layout) (and_1 log_free page_clear free) in
        Rising_rising (rising_map back {P = Passes clear} kept pass (rising_Rising (names_of page) v.rising))

    pub clear_passes : Passed (take_back_tests page log author)
    clear_passes = (fit, (rise, tt))
