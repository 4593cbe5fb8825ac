-- What the code finds of a name before it is taken back: in which of four shapes 01's bullets end. Document 01, "Taking it back". c is the
-- name, and v, which 01 makes of it, is c without its first tuples: none of them, or one.
use Rattle.std.specs.Prelude.{ℕ, ◌+◌, ◌-◌, ◌<◌, ◌≤◌, max, min, ◌≡◌, List, [], ◌∷◌, ◌++◌, cond, ltb, length, get_or, drop}
use Rattle.names.specs.declared.Author.{Author}
use Rattle.names.specs.Ordering.{Row}
use Rattle.names.specs.Names.{limit, m, M, one_below}
use Rattle.name_renames.specs.Renaming.{if_below, if_above, if_not_above, first_position, N, strip_below, strip_above}
use Rattle.name_renames.specs.Alone.{index_in}
use Rattle.one_name.specs.declared.Back.{Back}
use Rattle.one_name.specs.declared.Back.TheVariants.{Restored, Own, Behind, Ahead}
use Rattle.one_name.specs.declared.Single.{Single}
use Rattle.one_name.specs.declared.Single.TheVariants.{Logged, Own as Kept}

module _ (c : Row) (log : List Row) where
  -- "r(k)", "v", "r(k)·m·v", "one below r(k), then M, then v"
  abbrev pub shaped : Back → Row
  shaped (Restored k) = get_or log k []
  shaped (Own cut) = drop cut c
  shaped (Behind k cut) = get_or log k [] ++ (m ∷ drop cut c)
  shaped (Ahead k cut) = one_below (get_or log k []) ++ (M ∷ drop cut c)

  -- c has so many tuples, of which v is without none or one
  abbrev pub Cuts : ℕ → Type 0
  Cuts cut = (cut ≤ length c) × (cut ≤ 1)

  -- r(k) is in the log, and v is of c
  abbrev pub Stands : Back → Type 0
  Stands (Restored k) = k < length log
  Stands (Own cut) = Cuts cut
  Stands (Behind k cut) = (k < length log) × Cuts cut
  Stands (Ahead k cut) = (k < length log) × Cuts cut

  -- it stands there, and its name is a
  abbrev pub Means : Back → Row → Type 0
  Means b a = Stands b × (shaped b ≡ a)

  -- ── which of them, by 01's bullets ──

  -- "If v is below r0 the result is v, else one below r0, then M, then v", with r(k) for r0
  abbrev pub under_shape : ℕ → ℕ → Back
  under_shape k cut = if_below (drop cut c) (get_or log k []) (Own cut) (Ahead k cut)

  -- "If v is above r(n−1) the result is v, else r(n−1)·m·v", with r(k) for r(n−1)
  abbrev pub over_shape : ℕ → ℕ → Back
  over_shape k cut = if_above (drop cut c) (get_or log k []) (Own cut) (Behind k cut)

  -- "c = N(k)·t: if t is not above r(k), r(k)·m·t. If t is not below r(k+1), one below r(k+1), then M, then t. Otherwise t."
  abbrev pub between_shape : ℕ → Back
  between_shape k = if_not_above (drop 1 c) (get_or log k []) (Behind k 1) (under_shape (k + 1) 1)

  -- "c = N(k), 0 ≤ k < n: r(k)", or c = N(k)·t
  unfoldable pub within_shape : Back
  within_shape = cond (ltb (length c) 2) (Restored (index_in c)) (between_shape (index_in c))

-- how many of c's tuples v is without
abbrev pub cut_of : Row → Row → ℕ
cut_of c v = length c - length v

-- "c below N(0)", "c above N(n−1)", or between these
unfoldable pub shape_of : Author → List Row → Row → Back
shape_of author log c =
    let p = first_position log in
    let last = length log - 1 in
    if_below c (N p author 0) (under_shape c log 0 (cut_of c (strip_below p author c)))
    (if_above c (N p author last) (over_shape c log last (cut_of c (strip_above p author last c))) (within_shape c log))

-- what is found of a name that is taken back alone, as one of the shapes
abbrev pub single : Single → Back
single (Logged k) = Restored k
single (Kept cut) = Own cut

-- the most tuples of one of the names, and the fewest
abbrev pub deepest_of : List Row → ℕ
deepest_of [] = 0
deepest_of (a ∷ names) = max (length a) (deepest_of names)

abbrev pub shallowest_of : List Row → ℕ
shallowest_of [] = limit
shallowest_of (a ∷ names) = min (length a) (shallowest_of names)
