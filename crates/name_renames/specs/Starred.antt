-- The starred table of document 01, "Cases", as one statement. proofs/Starred.antt computes it.
use Rattle.std.specs.Prelude.{ℕ, ◌≡◌, List, [], ◌∷◌, ◌++◌, ℤ, pos, negsuc}
use Rattle.names.specs.declared.Author.{Author}
use Rattle.names.specs.Ordering.{Row}
use Rattle.names.specs.Names.{m, M}
use Rattle.name_renames.specs.Renaming.{rename, take_back}

-- the name (p, n, s, o)
abbrev pub one : ℕ → ℕ → ℕ → ℤ → Row
one p n s o = record { position = p; node = n; sequence = s; offset = o } ∷ []

-- "Log L: r0 = (9,2,0,0), r1 = (9,2,0,0)(6,1,0,0), r2 = (9,2,0,1); author (1, 1) unless said."
abbrev pub r0 : Row
r0 = one 9 2 0 (pos 0)

abbrev pub r1 : Row
r1 = one 9 2 0 (pos 0) ++ one 6 1 0 (pos 0)

abbrev pub r2 : Row
r2 = one 9 2 0 (pos 1)

abbrev pub L : List Row
L = r0 ∷ r1 ∷ r2 ∷ []

abbrev pub author : Author
author = record { node = 1; sequence = 1 }

abbrev pub other_author : Author
other_author = record { node = 3; sequence = 1 }

pub record Starred : Type 0 where
  -- | rename (9,2,0,0)(13,2,1,0) | (9,1,1,1)(9,2,0,0)(13,2,1,0) |
  pub rename_between : rename author L (one 9 2 0 (pos 0) ++ one 13 2 1 (pos 0)) ≡ one 9 1 1 (pos 1) ++ one 9 2 0 (pos 0) ++ one 13 2 1 (pos 0)
  -- | rename r1 | (9,1,1,1) |
  pub rename_logged : rename author L r1 ≡ one 9 1 1 (pos 1)
  -- | rename (9,1,0,5) | unchanged |
  pub rename_keep_below : rename author L (one 9 1 0 (pos 5)) ≡ one 9 1 0 (pos 5)
  -- | rename (9,1,2,0) | (9,1,1,−1)(9,1,2,0) |
  pub rename_put_below : rename author L (one 9 1 2 (pos 0)) ≡ one 9 1 1 (negsuc 0) ++ one 9 1 2 (pos 0)
  -- | rename (9,2,0,2) | unchanged |
  pub rename_keep_above : rename author L (one 9 2 0 (pos 2)) ≡ one 9 2 0 (pos 2)
  -- | same, author (3, 1) | (9,3,1,2)(9,2,0,2) |
  pub rename_put_above : rename other_author L (one 9 2 0 (pos 2)) ≡ one 9 3 1 (pos 2) ++ one 9 2 0 (pos 2)
  -- | back (9,1,1,1)(9,2,0,0)(13,2,1,0) | (9,2,0,0)(13,2,1,0) |
  pub back_between_lem : take_back author L (one 9 1 1 (pos 1) ++ one 9 2 0 (pos 0) ++ one 13 2 1 (pos 0)) ≡ one 9 2 0 (pos 0) ++ one 13 2 1 (pos 0)
  -- | back (9,1,1,0)(9,2,0,0) | (9,2,0,0) m (9,2,0,0) |
  pub back_not_above : take_back author L (one 9 1 1 (pos 0) ++ one 9 2 0 (pos 0)) ≡ one 9 2 0 (pos 0) ++ (m ∷ one 9 2 0 (pos 0))
  -- | back (9,1,1,1)(20,2,5,0) | (9,2,0,0) M (20,2,5,0) |
  pub back_not_below : take_back author L (one 9 1 1 (pos 1) ++ one 20 2 5 (pos 0)) ≡ one 9 2 0 (pos 0) ++ (M ∷ one 20 2 5 (pos 0))
  -- | back (9,1,1,−1)(4,2,5,0) | unchanged |
  pub back_low_tail : take_back author L (one 9 1 1 (negsuc 0) ++ one 4 2 5 (pos 0)) ≡ one 9 1 1 (negsuc 0) ++ one 4 2 5 (pos 0)
  -- | back (9,1,1,−1)(20,2,5,0) | (9,2,0,−1) M (20,2,5,0) |
  pub back_high_tail : take_back author L (one 9 1 1 (negsuc 0) ++ one 20 2 5 (pos 0)) ≡ one 9 2 0 (negsuc 0) ++ (M ∷ one 20 2 5 (pos 0))
  -- | back (9,1,1,7) | (9,2,0,1) m (9,1,1,7) |
  pub back_after_last : take_back author L (one 9 1 1 (pos 7)) ≡ one 9 2 0 (pos 1) ++ (m ∷ one 9 1 1 (pos 7))
