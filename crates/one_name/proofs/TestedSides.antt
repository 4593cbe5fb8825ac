-- What "above" tests is "below" the other way round (`turned`). On which side of N(0) and of N(n−1) a name x is, by the tests of `back_of`, `is_alone` and
-- `alone_of` (`under_first`, `from_first`, `over_last`, `to_last`), with what is stripped of it there (`low_is`, `high_is`); and of an x between the two, which
-- is N(k)·t, what its k is good for (`index_read`, `restored`, `next_logged`). Assumes nothing.
use mathlib.Core.Path.{◌≡◌, refl, ◌∙◌, sym, ap}
use mathlib.Core.List.{[], ◌∷◌}
use mathlib.Core.Bool.{Bool, true, false}
use Prim.Native.Nat.{ℕ, ◌+◌, ◌-◌, ◌/◌, ◌<◌, ◌≤◌}
use native.Mathlib.Omega.{arith}
use lib.IntN.{pos}
use lib.ListN.{length, get_or}
use lib.Signed.{non_neg}
use Rattle.names.specs.declared.Author.{Author}
use Rattle.names.specs.declared.Tuple.{Tuple}
use Rattle.names.specs.Ordering.{Row, compare_rows, ◌<ⁿ◌, ◌≤ⁿ◌}
use Rattle.std.specs.Ordering.{is_lt, is_gt}
use Rattle.std.specs.declared.cmp.Ordering.{Ordering}
use Rattle.std.specs.declared.cmp.Ordering.TheVariants.{Less, Equal, Greater}
use Rattle.names.specs.Names.{m}
use Rattle.names.proofs.TestedOrder.{is_under_lem, not_under, turned_less, turned_same, turned_more}
use Rattle.numbers.specs.Bytes.{Bytes}
use Rattle.slots.specs.Slots.{slot_size}
use Rattle.pages.specs.Pages.{names_of, is_log}
use Rattle.name_renames.specs.Renaming.{first_position, lead, N, strip_below, strip_above, take_back}
use Rattle.name_renames.proofs.ByTest.{low_as}
use Rattle.name_renames.proofs.BackByIndex.{Within, lies_within, within_long, within_natural, within_at, back_logged}
use Rattle.one_name.proofs.CheckedLog.{logged}

-- compared the other way round
pub turned : (x y : Row) → is_gt (compare_rows x y) ≡ is_lt (compare_rows y x)
turned x y = go (compare_rows x y) refl
  where
    go : (o : Ordering) → compare_rows x y ≡ o → is_gt o ≡ is_lt (compare_rows y x)
    go Less e = ap is_lt (turned_less x y e)
    go Equal e = ap is_lt (turned_same x y e)
    go Greater e = ap is_lt (turned_more x y e)

above_as : (x : Row) {u v : Tuple} {b r : Bool} → u ≡ v → r ≡ is_lt (compare_rows (u ∷ []) x) → r ≡ b → is_lt (compare_rows (v ∷ []) x) ≡ b
above_as x d f g = sym (ap (λ (t : Tuple). is_lt (compare_rows (t ∷ []) x)) d) ∙ sym f ∙ g

module _ (log : Bytes) (author : Author) (x : Row) (e : is_log log ≡ true) where
  abbrev first : ℕ
  first = first_position (names_of log)

  abbrev last : ℕ
  last = length (names_of log) - 1

  -- n − 1, as the code has it
  pub last_is : length log / slot_size - 1 ≡ length (names_of log) - 1
  last_is = omega (arith, (logged log e).count)

  -- ── the tests, of a tuple t that the code has made with the position p ──

  module _ {p : ℕ} (q : p ≡ first_position (names_of log)) {t : Tuple} {r : Bool} where
    module _ (d : t ≡ lead p author (pos 0)) (f : r ≡ is_lt (compare_rows x (t ∷ []))) where
      first_as : {b : Bool} → r ≡ b → is_lt (compare_rows x (N first author 0)) ≡ b
      first_as g = low_as refl (d ∙ ap (λ (n : ℕ). lead n author (pos 0)) q) f g

      pub under_first : r ≡ true → x <ⁿ N (first_position (names_of log)) author 0
      under_first g = is_under_lem x (N first author 0) (first_as g)

      pub from_first : r ≡ false → N (first_position (names_of log)) author 0 ≤ⁿ x
      from_first g = not_under x (N first author 0) (first_as g)

    module _ (d : t ≡ lead p author (pos (length log / slot_size - 1))) (f : r ≡ is_lt (compare_rows (t ∷ []) x)) where
      last_as : {b : Bool} → r ≡ b → is_lt (compare_rows (N first author last) x) ≡ b
      last_as g = above_as x (d ∙ (λ i. lead (q i) author (pos (last_is i)))) f g

      pub over_last : r ≡ true → N (first_position (names_of log)) author (length (names_of log) - 1) <ⁿ x
      over_last g = is_under_lem (N first author last) x (last_as g)

      pub to_last : r ≡ false → x ≤ⁿ N (first_position (names_of log)) author (length (names_of log) - 1)
      to_last g = not_under (N first author last) x (last_as g)

  -- ── what is stripped ──

  module _ {p : ℕ} (q : p ≡ first_position (names_of log)) {v : Row} where
    pub low_is : v ≡ strip_below p author x → v ≡ strip_below (first_position (names_of log)) author x
    low_is d = d ∙ ap (λ (n : ℕ). strip_below n author x) q

    pub high_is : v ≡ strip_above p author (length log / slot_size - 1) x → v ≡ strip_above (first_position (names_of log)) author (length (names_of log) - 1) x
    high_is d = d ∙ (λ i. strip_above (q i) author (last_is i) x)

  -- ── between the two ──

  module _ (f : N (first_position (names_of log)) author 0 ≤ⁿ x) (g : x ≤ⁿ N (first_position (names_of log)) author (length (names_of log) - 1)) where
    within : Within first author last x
    within = lies_within first author last x f g

    -- its first tuple has an offset that counts
    pub index_read : (1 ≤ length x) × (non_neg (get_or x 0 m).offset ≡ true)
    index_read = (within_long first author within, within_natural first author within)

    module _ (k : ℕ) (o : pos k ≡ (get_or x 0 m).offset) where
      -- "c = N(k), 0 ≤ k < n: r(k)."
      pub restored : length x < 2 → (k < length (names_of log)) × (get_or (names_of log) k [] ≡ take_back author (names_of log) x)
      restored h =
          let v = within_at first author within k o in
          let i : k < length (names_of log) = omega (arith, v.1, (logged log e).some) in
          (i, back_logged author x (names_of log) k i v.0 h)

      pub next_logged : 2 ≤ length x → k + 1 < length (names_of log)
      next_logged h = omega (arith, (within_at first author within k o).2 h)
