-- What was found of a name is what it is taken back to (`means`), its stem tells of it (`tells`) and how deep that is (`deep`). Two neighbours whose stems
-- could not meet rise (`apart`). Assumes nothing.
use mathlib.Core.Path.{◌≡◌, ◌∙◌, sym, ap, subst}
use mathlib.Core.List.{[]}
use mathlib.Core.Bool.{true, false}
use Prim.Native.Nat.{ℕ, ◌-◌, ◌/◌, ◌<◌, ◌≤◌}
use native.Mathlib.Omega.{arith}
use lib.ListN.{length, get_or}
use Rattle.names.specs.declared.Author.{Author}
use Rattle.names.specs.Ordering.{Row, compare_rows}
use Rattle.std.specs.Ordering.{is_lt}
use Rattle.names.proofs.Laws.{rising_Rising, row_less}
use Rattle.numbers.specs.Bytes.{Bytes}
use Rattle.slots.specs.Slots.{slot_size}
use Rattle.pages.specs.Pages.{names_of, is_log}
use Rattle.pages.proofs.RoundTrip.{page_names}
use Rattle.pages.proofs.FindByHalving.{index_below}
use Rattle.name_renames.specs.Renaming.{take_back}
use Rattle.one_name.specs.declared.Back.{Back}
use Rattle.one_name.specs.declared.Stem.{Stem}
use Rattle.one_name.specs.Backs.{Means, shape_of}
use Rattle.one_name.specs.Stems.{may_meet, row_of_stem}
use Rattle.one_name.proofs.CheckedLog.{logged}
use Rattle.one_name.proofs.Shapes.{shape_means}
use Rattle.one_name.proofs.StemsInBytes.{Tells}
use Rattle.one_name.proofs.Neighbours.{apart_kept}
use Rattle.page_renames.proofs.PageWalk.{within_names}
use Rattle.page_renames.proofs.Books.{Asked}

-- b was found of a row x, which is a
pub means : (log : Bytes) (author : Author) → is_log log ≡ true → {x a : Row} (b : Back) → b ≡ shape_of author (names_of log) x → x ≡ a → Means a (names_of log) b (take_back author (names_of log) a)
means log author g {x} b e q =
    let l = names_of log in
    let w = logged log g in
    let of-shape = subst (λ (c : Back). Means x l c (take_back author l x)) (sym e) (shape_means author l x w.some w.rising) in
    subst (λ (c : Row). Means c l b (take_back author l c)) q of-shape

module _ (page log : Bytes) (author : Author) (v : Asked page log author) where
  abbrev name : ℕ → Row
  name k = get_or (names_of page) k []

  abbrev shape : ℕ → Back
  shape k = shape_of author (names_of log) (name k)

  abbrev back : ℕ → Row
  back k = take_back author (names_of log) (name k)

  -- y is the stem that was found of a row x by its shape b, and x is name k
  pub tells : (k : ℕ) {x : Row} (b : Back) (y : Stem) → b ≡ shape_of author (names_of log) x → x ≡ name k → Tells page log x y b → Tells page log (name k) y (shape k)
  tells k {x} b y e q t = subst (λ (c : Row). Tells page log c y (shape_of author (names_of log) c)) q (subst (Tells page log x y) e t)

  pub deep : (k : ℕ) (y : Stem) → Tells page log (name k) y (shape k) → y.depth ≡ length (back k)
  deep k y t =
      let w = logged log v.logged in
      t.0.2 ∙ ap length (shape_means author (names_of log) (name k) w.some w.rising).1

  -- names i - 1 and i, with the stems x and y
  pub apart : (i : ℕ) → 1 ≤ i → i < length page / slot_size → (x y : Stem) → Tells page log (name (i - 1)) x (shape (i - 1)) → Tells page log (name i) y (shape i) →
      may_meet x.behind y.ahead (row_of_stem page log x) (row_of_stem page log y) ≡ false → is_lt (compare_rows (back (i - 1)) (back i)) ≡ true
  apart i one h x y s t e =
      let l = names_of log in
      let w = logged log v.logged in
      let j : i - 1 < length page / slot_size = omega arith in
      let c = name (i - 1) in
      let d = name i in
      let vc = page_names page v.layout (i - 1) (within_names page (i - 1) j) in
      let vd = page_names page v.layout i (within_names page i h) in
      let below = index_below (rising_Rising (names_of page) v.rising) (i - 1) i (omega arith) (within_names page i h) in
      let free = sym (λ k. may_meet (s.0.0 k) (t.0.1 k) (s.1.1 k) (t.1.1 k)) ∙ e in
      ap is_lt (row_less (apart_kept l (page_names log w.layout) c d vc vd author w.some w.rising below free))
