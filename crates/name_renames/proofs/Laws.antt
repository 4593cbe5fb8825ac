-- What specs/Laws.antt states holds: `laws`. Each law is a theorem of another file, from the tests of specs/Laws.antt. Assumes nothing.
use mathlib.Core.Path.{◌≡◌, refl}
use mathlib.Core.List.{List, [], ◌∷◌}
use mathlib.Core.Bool.{true, ◌&&◌}
use Prim.Native.Nat.{ℕ, ◌<◌, ◌≤◌}
use native.Mathlib.Numerals.{add-one}
use native.Mathlib.Omega.{arith}
use borrow.Author.Tests.{leb-true}
use lib.ListN.{length}
use lib.Dec.{leb}
use Rattle.names.specs.declared.Author.{Author}
use Rattle.names.specs.Ordering.{Row, compare_tuples, compare_rows, rising, ◌<ⁿ◌}
use Rattle.names.specs.Names.{one_below, ordinary, ordinary_from, marker, ends_well, is_name}
use Rattle.numbers.proofs.Bools.{and_0, and_1}
use Rattle.names.proofs.Validity.{Allowed, ordinary_is, Valid, name_valid, valid_name}
use Rattle.name_renames.specs.Renaming.{rename, take_back, first_position, under, over, strip_below, strip_above, back_from, back_of}
use Rattle.name_renames.specs.Laws.{is_author, are_names, plain, are_plain, Log, RenamingLaws, Placed, BackLaws, Laws}
use Rattle.name_renames.proofs.Fresh.{fresh_Fresh}
use Rattle.name_renames.proofs.Lists.{All, nil, cons}
use Rattle.name_renames.proofs.Table.{rename_depth}
use Rattle.name_renames.proofs.Forward.{rename_mono}
use Rattle.name_renames.proofs.Gaps.{MarkerFree}
use Rattle.name_renames.proofs.GivenBack.{back_rename}
use Rattle.name_renames.proofs.Backward.{take_back_mono, below_first, above_logged, below_logged}
use Rattle.name_renames.proofs.Alone.{alone_mono, alone_is}
use Rattle.name_renames.proofs.Validity.{rename_valid, take_back_valid, valid_nonempty}

-- ── from the tests ──

allowed : (author : Author) → is_author author ≡ true → Allowed author
allowed author e =
    let a = leb 1 author.node in
    let b = leb author.node 65535 in
    let c = leb author.sequence 4294967295 in
    let ab = and_0 (a && b) c e in
    record {
      node_min = leb-true 1 author.node (and_0 a b ab);
      node_max = leb-true author.node 65535 (and_1 a b ab);
      sequence_max = leb-true author.sequence 4294967295 (and_1 (a && b) c e);
    }

pub all_valid : (l : List Row) → are_names l ≡ true → All Valid l
unfolding are_names
all_valid [] e = nil
all_valid (x ∷ l) e = cons (name_valid x (and_0 (is_name x) (are_names l) e)) (all_valid l (and_1 (is_name x) (are_names l) e))

free : (x : Row) → plain x ≡ true → MarkerFree x
unfolding plain
free [] e = nil
free (t ∷ x) e = cons (ordinary_is t (and_0 (ordinary t) (plain x) e)) (free x (and_1 (ordinary t) (plain x) e))

pub all_free : (l : List Row) → are_plain l ≡ true → All MarkerFree l
unfolding are_plain
all_free [] e = nil
all_free (x ∷ l) e = cons (free x (and_0 (plain x) (are_plain l) e)) (all_free l (and_1 (plain x) (are_plain l) e))

-- ── renaming ──

rename_names : (author : Author) (log : List Row) (x : Row) → is_author author ≡ true → Log log → is_name x ≡ true → is_name (rename author log x) ≡ true
rename_names author log x a g e = go log g.some g.counted (all_valid log g.names)
  where
    go : (log : List Row) → 0 < length log → length log ≤ 2147483647 → All Valid log → is_name (rename author log x) ≡ true
    go [] i j nil = absurd (omega arith)
    go (r ∷ rest) i j (cons v vs) = valid_name (rename_valid author r rest x (allowed author a) j v (name_valid x e))

renaming : (author : Author) (log : List Row) → RenamingLaws author log
renaming author log =
    record {
      order_kept = λ x y f g h. rename_mono author log (fresh_Fresh author x f) (fresh_Fresh author y g) h;
      one_tuple = λ x. omega (arith, rename_depth author log x);
      valid = rename_names author log;
    }

-- ── taking back ──

-- the log with its first name apart
module _ (author : Author) (f : Row) (rest : List Row) (g : Log (f ∷ rest)) where
  abbrev log : List Row
  log = f ∷ rest

  abbrev p : ℕ
  p = first_position log

  filled : [] <ⁿ f
  filled = elim (all_valid log g.names) [ cons v vs ↦ valid_nonempty v ]

  mono : (c d : Row) → are_plain (c ∷ d ∷ log) ≡ true → c <ⁿ d → take_back author log c <ⁿ take_back author log d
  mono c d e h = go (all_free (c ∷ d ∷ log) e)
    where
      go : All MarkerFree (c ∷ d ∷ log) → take_back author log c <ⁿ take_back author log d
      go (cons i (cons j is)) = take_back_mono author f rest filled g.rises is i j h

  placed : (c : Row) → are_plain log ≡ true → Placed author log c
  unfolding take_back
  placed c e =
      let free = all_free log e in
      record {
        below_first = λ h. below_first p author f rest filled h;
        above_logged = λ k i h. above_logged p author f rest g.rises free k i h;
        below_next = λ k i h l. rw (add-one k) (below_logged p author f rest g.rises free k (omega (arith, i)) h (rw (add-one k) at l));
      }

nothing : {X : Type 0} → Log [] → X
nothing g = absurd (let i = g.some in omega arith)

back_names : (author : Author) (log : List Row) (c : Row) → is_author author ≡ true → Log log → is_name c ≡ true → is_name (take_back author log c) ≡ true
back_names author log c a g e = valid_name (take_back_valid author log c (allowed author a) g.counted (all_valid log g.names) (name_valid c e))

taking_back : (author : Author) (log : List Row) → BackLaws author log
taking_back author [] =
    record {
      given_back = λ x f. back_rename author [] x (fresh_Fresh author x f);
      valid = back_names author [];
      order_kept = λ c d g. nothing g;
      placed = λ c g. nothing g;
      alone_kept = λ c d g. nothing g;
      alone_is = λ c g. nothing g;
    }
taking_back author (r ∷ rest) =
    record {
      given_back = λ x f. back_rename author (r ∷ rest) x (fresh_Fresh author x f);
      valid = back_names author (r ∷ rest);
      order_kept = λ c d g. mono author r rest g c d;
      placed = λ c g. placed author r rest g c;
      alone_kept = λ c d g a b h. alone_mono author (r ∷ rest) g.rises c d g.some a b h;
      alone_is = λ c g a. alone_is author (r ∷ rest) c g.some a;
    }

pub laws : Laws
unfolding are_names rising compare_tuples compare_rows ordinary_from marker ends_well is_name one_below take_back under over strip_below strip_above back_from back_of
laws =
    record {
      renaming = renaming;
      taking_back = taking_back;
      marker_in_log = record { names = refl; log_rises = refl; child = refl; back = refl };
      marker_in_name = record { names = refl; log_rises = refl; child = refl; back = refl };
    }
