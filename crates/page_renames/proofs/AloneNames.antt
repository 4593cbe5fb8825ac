-- A page of which every name is taken back alone (name_renames/specs/Alone.antt: `alone`): neither 6 nor 7 is met (`alone_passes`), and each name of
-- it is alone (`alone_at_lem`). Assumes nothing.
use Rattle.std.proofs.lemmas.List.Folds.{list_all-map}
use mathlib.Core.Path.{◌≡◌, refl, ◌∙◌}
use mathlib.Core.List.{List, [], ◌∷◌, map}
use mathlib.Core.Bool.{true, ◌&&◌}
use Prim.Native.Nat.{ℕ, ◌/◌, ◌<◌}
use native.Mathlib.Omega.{arith}
use borrow.Author.Tests.{le-leb}
use lib.ListN.{length, get_or, length-take}
use Rattle.names.specs.declared.Author.{Author}
use Rattle.names.specs.Ordering.{Row, rising}
use Rattle.names.specs.Names.{limit, fits}
use Rattle.names.proofs.Laws.{rising_Rising, Rising_rising}
use Rattle.numbers.specs.Bytes.{Bytes}
use Rattle.std.specs.List.{list_all}
use Rattle.numbers.proofs.Bools.{and_0, and_1}
use Rattle.numbers.proofs.Every.{every_each}
use Rattle.slots.specs.Tuples.{tuples_at}
use Rattle.slots.specs.Slots.{head_size, slot_size, depth_of, name_of, slot_of}
use Rattle.slots.proofs.TuplesInBytes.{length_tuples_at}
use Rattle.pages.specs.Pages.{parts_of, name_in, names_of}
use Rattle.pages.proofs.SlotBySlot.{length_names}
use Rattle.answers.specs.Laws.{Passed}
use Rattle.name_renames.specs.Renaming.{take_back}
use Rattle.name_renames.specs.Alone.{alone}
use Rattle.name_renames.proofs.Lists.{rising_map}
use Rattle.name_renames.proofs.Alone.{alone_mono, alone_fits}
use Rattle.one_name.proofs.CheckedLog.{logged}
use Rattle.page_renames.specs.Renames.{all_fit, take_back_tests}
use Rattle.page_renames.proofs.Books.{Asked}
use Rattle.page_renames.proofs.Carried.{all_every}

-- a name that is read from a slot's bytes has at most `limit` tuples, whatever the bytes
slots_fit : (l : List Bytes) → list_all fits (map name_in (map slot_of l)) ≡ true
slots_fit [] = refl
slots_fit (s ∷ l) =
    let t = length-take (depth_of s) (tuples_at s head_size limit) in
    let d = length_tuples_at s head_size limit in
    λ i. le-leb (length (name_of s)) limit (omega arith) i && slots_fit l i

names_fit : (page : Bytes) → list_all fits (names_of page) ≡ true
names_fit page = slots_fit (parts_of page)

module _ (page log : Bytes) (author : Author) where
  abbrev back : Row → Row
  back = take_back author (names_of log)

  abbrev test : Row → Type 0
  test c = alone author (names_of log) c ≡ true

  module _ (v : Asked page log author) (a : list_all (alone author (names_of log)) (names_of page) ≡ true) where
    each_fits : (l : List Row) → list_all (alone author (names_of log)) l ≡ true → list_all fits l ≡ true → list_all (λ (c : Row). fits (back c)) l ≡ true
    each_fits [] e f = refl
    each_fits (c ∷ l) e f =
        let x = alone author (names_of log) in
        let n = (logged log v.logged).some in
        let h = alone_fits author (names_of log) c n (and_0 (x c) (list_all x l) e) (names_fit log) (and_0 (fits c) (list_all fits l) f) in
        let t = each_fits l (and_1 (x c) (list_all x l) e) (and_1 (fits c) (list_all fits l) f) in
        λ i. h i && t i

    fit : all_fit back page ≡ true
    fit = list_all-map fits back (names_of page) ∙ each_fits (names_of page) a (names_fit page)

    rise : rising (map back (names_of page)) ≡ true
    rise =
        let w = logged log v.logged in
        Rising_rising (rising_map back {P = test} (λ c d i j l. alone_mono author (names_of log) w.rising c d w.some i j l) (all_every (alone author (names_of log)) (λ c e. e) (names_of page) a) (rising_Rising (names_of page) v.rising))

    pub alone_passes : Passed (take_back_tests page log author)
    alone_passes = (fit, (rise, tt))

  pub alone_at_lem : (k : ℕ) → k < length page / slot_size → list_all (alone author (names_of log)) (names_of page) ≡ true → alone author (names_of log) (get_or (names_of page) k []) ≡ true
  alone_at_lem k h a = every_each (alone author (names_of log)) (names_of page) k [] (omega (arith, length_names page (length page / slot_size))) a
