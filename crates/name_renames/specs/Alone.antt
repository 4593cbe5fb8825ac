-- Names that are taken back to a name that stands already: one of the log, or what is left of the name itself, so that no logged name and
-- marker is put before it. Document 01, "Taking it back": of each bullet the case in which the result is r(k), v or t.
use Rattle.std.specs.Prelude.{ℕ, ◌+◌, ◌-◌, ◌<◌, ◌≤◌, ◌≡◌, ◌⊎◌, List, [], Bool, ◌&&◌, ◌||◌, ltb, nat_abs, length, get_or, drop}
use Rattle.names.specs.declared.Author.{Author}
use Rattle.names.specs.Ordering.{Row, compare_rows}
use Rattle.std.specs.Ordering.{is_lt}
use Rattle.names.specs.Names.{m}
use Rattle.name_renames.specs.Renaming.{if_below, if_above, first_position, N, strip_below, strip_above}

-- whether x is below y, and whether it is above
abbrev pub is_below : Row → Row → Bool
is_below x y = is_lt (compare_rows x y)

abbrev pub is_above : Row → Row → Bool
is_above x y = is_below y x

-- the k of c = N(k)·t: its first tuple's offset
abbrev pub index_in : Row → ℕ
index_in c = nat_abs (get_or c 0 m).offset

-- t is above r(k) and below r(k+1)
abbrev pub in_gap : List Row → ℕ → Row → Bool
in_gap log k t = is_above t (get_or log k []) && is_below t (get_or log (k + 1) [])

-- "c = N(k), 0 ≤ k < n", or "c between N(k) and N(k+1), so c = N(k)·t", with t above r(k) and below r(k+1)
unfoldable pub alone_within : List Row → Row → Bool
alone_within log c = ltb (length c) 2 || in_gap log (index_in c) (drop 1 c)

-- "c below N(0)", with v below r0; "c above N(n−1)", with v above r(n−1); or between these
unfoldable pub alone : Author → List Row → Row → Bool
alone author log c =
    let p = first_position log in
    let last = length log - 1 in
    if_below c (N p author 0) (is_below (strip_below p author c) (get_or log 0 []))
    (if_above c (N p author last) (is_above (strip_above p author last c) (get_or log last [])) (alone_within log c))

-- a is r(k), or c without its first tuples, none or one
abbrev pub Stays : List Row → Row → Row → Type 0
Stays log c a = ((k : ℕ) × (k < length log) × (a ≡ get_or log k [])) ⊎ ((cut : ℕ) × (cut ≤ 1) × (cut ≤ length c) × (a ≡ drop cut c))
