-- Groups made of parts: which are longest (`longest_apart`), and a part of a run as a group or none (`piece`). Assumes nothing.
use mathlib.Core.Path.{◌≡◌, refl, ◌∙◌, sym, ap}
use mathlib.Core.List.{List, [], ◌∷◌, ◌++◌}
use mathlib.Core.Bool.{Bool, true, not, ◌&&◌, and_assoc}
use Prim.Native.Nat.{ℕ}
use native.Mathlib.Omega.{arith}
use borrow.Author.Tests.{le-leb}
use lib.ListN.{length}
use Rattle.names.specs.Ordering.{Row}
use Rattle.std.specs.List.{list_all}
use Rattle.groups.specs.Groups.{Group, run, ungrouped, name_after, longest}
use Rattle.groups.proofs.Glue.{same, has_slot}

-- the last of the groups does not go on with the name a
abbrev pub last_apart : List Group → Row → Bool
last_apart [] a = true
last_apart (g ∷ []) a = not (same (name_after g) a)
last_apart (g ∷ h ∷ gs) a = last_apart (h ∷ gs) a

pub last_of : (fs : List Group) (g : Group) (a : Row) → last_apart (fs ++ (g ∷ [])) a ≡ not (same (name_after g) a)
last_of [] g a = refl
last_of (f ∷ []) g a = refl
last_of (f ∷ h ∷ fs) g a = last_of (h ∷ fs) g a

pub longest_apart : (fs : List Group) (g : Group) (hs : List Group)
    → longest (fs ++ (g ∷ hs)) ≡ longest fs && (last_apart fs g.first && longest (g ∷ hs))
longest_apart [] g hs = refl
longest_apart (f ∷ []) g hs = refl
longest_apart (f ∷ h ∷ fs) g hs =
    let b = not (same (name_after f) h.first) in
    ap (λ (c : Bool). b && c) (longest_apart (h ∷ fs) g hs)
    ∙ sym (and_assoc b (longest (h ∷ fs)) (last_apart (h ∷ fs) g.first && longest (g ∷ hs)))

-- line numbers of a run that begins with a, as a group where there are any
abbrev pub piece : Row → List ℕ → List Group
piece a [] = []
piece a (x ∷ l) = record { first = a; lines = x ∷ l } ∷ []

pub piece_slots : (a : Row) (l : List ℕ) (gs : List Group) → ungrouped (piece a l ++ gs) ≡ run a l ++ ungrouped gs
piece_slots a [] gs = refl
piece_slots a (x ∷ l) gs = refl

pub piece_has : (a : Row) (l : List ℕ) (gs : List Group) → list_all has_slot gs ≡ true → list_all has_slot (piece a l ++ gs) ≡ true
piece_has a [] gs e = e
piece_has a (x ∷ l) gs e = λ i. le-leb 1 (length (x ∷ l)) (omega arith) i && e i
