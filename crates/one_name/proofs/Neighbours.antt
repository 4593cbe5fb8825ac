-- Two names keep their order when they are taken back where no marker stands so that they could meet (`may_meet`): `apart_kept`. So it is of all names, where
-- none has a marker behind as many tuples as every name of the log has: `clear_kept`. These stand for 7's test. Assumes nothing.
use mathlib.Core.Path.{◌≡◌, refl, ◌∙◌, sym, ap, subst}
use mathlib.Core.List.{List, []}
use mathlib.Core.Bool.{Bool, true, false, not, ◌&&◌, ◌||◌}
use Prim.Native.Nat.{ℕ, ◌+◌, ◌<◌, ◌≤◌}
use native.Mathlib.Omega.{arith}
use native.Mathlib.Decide.{dec_lt}
use borrow.Author.Tests.{not-true, lt-ltb, le-ltb}
use lib.ListN.{length, get_or, drop, length-drop}
use lib.Seq.{get_or-drop}
use Rattle.names.specs.declared.Author.{Author}
use Rattle.names.specs.Ordering.{Row, ◌<ⁿ◌, Rising}
use Rattle.names.specs.Names.{m, marker}
use Rattle.names.proofs.Validity.{Ordinary, Valid, valid_ends}
use Rattle.std.specs.List.{list_all}
use Rattle.numbers.proofs.Bools.{or_0, or_1, yes_no}
use Rattle.numbers.proofs.Every.{every_each}
use Rattle.name_renames.specs.Renaming.{take_back}
use Rattle.name_renames.proofs.Lists.{at}
use Rattle.name_renames.proofs.Validity.{valid_nonempty}
use Rattle.name_renames.proofs.Apart.{Free, FreeBehind, FreeAhead, Some, rise}
use Rattle.name_renames.proofs.Stems.{seats_before, seat_back}
use Rattle.one_name.specs.declared.Back.{Back}
use Rattle.one_name.specs.declared.Back.TheVariants.{Restored, Own, Behind, Ahead}
use Rattle.one_name.specs.Backs.{Stands, shape_of}
use Rattle.one_name.specs.Markers.{unmarked_from}
use Rattle.one_name.specs.Stems.{stem, is_behind, is_ahead, is_own, clear_from, marked_at, may_meet}
use Rattle.one_name.proofs.Unmarked.{no_marker, none_from}
use Rattle.one_name.proofs.Shapes.{side, rest, found}

-- ── a place with no marker ──

-- the test passed where there is a tuple
unmarked : (x : Row) (n : ℕ) → n < length x → marked_at x n ≡ false → marker (get_or x n m) ≡ false
unmarked x n h e = sym (ap (λ (b : Bool). b && marker (get_or x n m)) (lt-ltb n (length x) h)) ∙ e

clear_at : (x : Row) (n : ℕ) → (n < length x → marker (get_or x n m) ≡ false) → marked_at x n ≡ false
clear_at x n f = elim (dec_lt n (length x)) [
  | yes h ↦ λ i. lt-ltb n (length x) h i && f h i
  | no h ↦ ap (λ (b : Bool). b && marker (get_or x n m)) (le-ltb n (length x) (omega arith))
]

own_clear : (a b : Bool) → a || not b ≡ true → b ≡ true → a ≡ true
own_clear true b e f = refl
own_clear false b e f = yes_no f (not-true b e)

module _ (log : List Row) (vs : (k : ℕ) → k < length log → Valid (at log k)) where
  -- the stem of a name: the log's names and the name are valid
  stem_free : (c : Row) → Valid c → (b : Back) → Stands c log b → (n : ℕ) → marked_at (stem c log b) n ≡ false → Free (stem c log b) n
  stem_free c v (Restored k) s n e h = no_marker n (valid_ends (vs k s)) h (unmarked (at log k) n h e)
  stem_free c v (Own cut) s n e h =
      let q = get_or-drop cut c n m in
      subst Ordinary (sym q) (no_marker (cut + n) (valid_ends v) (omega (arith, length-drop cut c)) (ap marker (sym q) ∙ unmarked (drop cut c) n h e))
  stem_free c v (Behind k cut) s n e h = no_marker n (valid_ends (vs k s.0)) h (unmarked (at log k) n h e)
  stem_free c v (Ahead k cut) s n e h = no_marker n (valid_ends (vs k s.0)) h (unmarked (at log k) n h e)

  -- ── stems with no marker from some tuple on, which no name of the log lacks ──

  module _ (from : ℕ) (deep : (k : ℕ) → k < length log → from ≤ length (at log k)) (us : list_all (unmarked_from from) log ≡ true) where
    logged_clear : (k : ℕ) → k < length log → (n : ℕ) → from ≤ n → marked_at (at log k) n ≡ false
    logged_clear k s n h = clear_at (at log k) n (λ l. none_from from (at log k) (every_each (unmarked_from from) log k [] s us) n h l)

    -- what is known of a name: where its stem is its own, it has none there
    abbrev Clear : Row → Back → Type 0
    Clear c b = is_own b ≡ true → unmarked_from from c ≡ true

    stem_clear : (c : Row) (b : Back) → Clear c b → Stands c log b → (n : ℕ) → from ≤ n → marked_at (stem c log b) n ≡ false
    stem_clear c (Restored k) u s n h = logged_clear k s n h
    stem_clear c (Own cut) u s n h =
        clear_at (drop cut c) n (λ l. ap marker (get_or-drop cut c n m) ∙ none_from from c (u refl) (cut + n) (omega arith) (omega (arith, length-drop cut c)))
    stem_clear c (Behind k cut) u s n h = logged_clear k s.0 n h
    stem_clear c (Ahead k cut) u s n h = logged_clear k s.0 n h

    module _ (c d : Row) where
      never_up : (a b : Back) → Clear d b → Stands c log a → Stands d log b → is_behind a && marked_at (stem d log b) (length (stem c log a)) ≡ false
      never_up (Restored k) b u s t = refl
      never_up (Own cut) b u s t = refl
      never_up (Behind k cut) b u s t = stem_clear d b u t (length (at log k)) (deep k s.0)
      never_up (Ahead k cut) b u s t = refl

      never_down : (a b : Back) → Clear c a → Stands c log a → Stands d log b → is_ahead b && marked_at (stem c log a) (length (stem d log b)) ≡ false
      never_down a (Restored k) u s t = refl
      never_down a (Own cut) u s t = refl
      never_down a (Behind k cut) u s t = refl
      never_down a (Ahead k cut) u s t = stem_clear c a u s (length (at log k)) (deep k t.0)

      never_meet : (a b : Back) → Clear c a → Clear d b → Stands c log a → Stands d log b → may_meet (is_behind a) (is_ahead b) (stem c log a) (stem d log b) ≡ false
      never_meet a b u w s t = λ i. never_up a b w s t i || never_down a b u s t i

  -- ── two names ──

  module _ (c d : Row) (v : Valid c) (w : Valid d) where
    some : (a : Back) → Stands c log a → Some (side a) (stem c log a)
    some (Restored k) s = tt
    some (Own cut) s = tt
    some (Behind k cut) s = tt
    some (Ahead k cut) s = valid_nonempty (vs k s.0)

    module _ (a b : Back) where
      abbrev up : Bool
      up = is_behind a && marked_at (stem d log b) (length (stem c log a))

      abbrev down : Bool
      down = is_ahead b && marked_at (stem c log a) (length (stem d log b))

    free_behind : (a b : Back) → Stands d log b → up a b ≡ false → FreeBehind (side a) (stem c log a) (stem d log b)
    free_behind (Restored k) b s e = tt
    free_behind (Own cut) b s e = tt
    free_behind (Behind k cut) b s e = stem_free d w b s (length (at log k)) e
    free_behind (Ahead k cut) b s e = tt

    free_ahead : (a b : Back) → Stands c log a → down a b ≡ false → FreeAhead (side b) (stem c log a) (stem d log b)
    free_ahead a (Restored k) s e = tt
    free_ahead a (Own cut) s e = tt
    free_ahead a (Behind k cut) s e = tt
    free_ahead a (Ahead k cut) s e = stem_free c v a s (length (at log k)) e

    module _ (author : Author) (n : 1 ≤ length log) (o : Rising log) (l : c <ⁿ d) where
      abbrev first : Back
      first = shape_of author log c

      abbrev second : Back
      second = shape_of author log d

      -- where no marker stands so that they could meet
      pub apart_kept : may_meet (is_behind first) (is_ahead second) (stem c log first) (stem d log second) ≡ false → take_back author log c <ⁿ take_back author log d
      apart_kept e =
          let f = found author log c n in
          let g = found author log d n in
          let before = seats_before author log o n f.seat g.seat l in
          let free = free_behind first second g.stands (or_0 (up first second) (down first second) e) in
          let clear = free_ahead first second f.stands (or_1 (up first second) (down first second) e) in
          rw (← (seat_back author log n o f.seat), ← (seat_back author log n o g.seat)) (rise (stem c log first) (rest c first) (rest d second) (some first f.stands) before free clear)

      -- where none stands behind as many tuples as every name of the log has
      pub clear_kept : (from : ℕ) → ((k : ℕ) → k < length log → from ≤ length (at log k)) → list_all (unmarked_from from) log ≡ true → clear_from author log from c ≡ true → clear_from author log from d ≡ true →
          take_back author log c <ⁿ take_back author log d
      clear_kept from deep us uc ud =
          let f = found author log c n in
          let g = found author log d n in
          apart_kept (never_meet from deep us c d first second (own_clear (unmarked_from from c) (is_own first) uc) (own_clear (unmarked_from from d) (is_own second) ud) f.stands g.stands)
