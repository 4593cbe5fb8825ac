-- A stem that was found in bytes: what it tells of the shape (`Tells`), and how many tuples a joined name has (`behind_depth`, `ahead_depth`). Assumes nothing.
use mathlib.Core.Path.{◌≡◌}
use mathlib.Core.List.{◌∷◌, ◌++◌}
use Prim.Native.Nat.{ℕ, ◌+◌, ◌-◌, ◌≤◌}
use native.Mathlib.Omega.{arith}
use lib.ListN.{length, drop, length-append, length-drop}
use Rattle.names.specs.Ordering.{Row}
use Rattle.names.specs.Names.{m, M, one_below}
use Rattle.names.proofs.Laws.{below_length}
use Rattle.numbers.specs.Bytes.{Bytes}
use Rattle.pages.specs.Pages.{names_of}
use Rattle.one_name.specs.declared.Back.{Back}
use Rattle.one_name.specs.declared.Stem.{Stem}
use Rattle.one_name.specs.Backs.{shaped}
use Rattle.one_name.specs.Stems.{stem, is_behind, is_ahead, row_of_stem, StemLies}

module _ (s log : Bytes) where
  abbrev pub Tells : Row → Stem → Back → Type 0
  Tells c x b =
      ((x.behind ≡ is_behind b) × (x.ahead ≡ is_ahead b) × (x.depth ≡ length (shaped c (names_of log) b)))
      × (StemLies s log x × (row_of_stem s log x ≡ stem c (names_of log) b))

module _ (r c : Row) (count cut : ℕ) (e : length c ≡ count) (h : cut ≤ length c) where
  pub behind_depth : length r + (count - cut + 1) ≡ length (r ++ (m ∷ drop cut c))
  behind_depth = omega (arith, length-append r (m ∷ drop cut c), length-drop cut c)

  pub ahead_depth : length r + (count - cut + 1) ≡ length (one_below r ++ (M ∷ drop cut c))
  ahead_depth = omega (arith, length-append (one_below r) (M ∷ drop cut c), length-drop cut c, below_length r)
