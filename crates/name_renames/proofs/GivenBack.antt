-- Taking back after renaming gives every fresh name back, markers or not, over any log: `back_rename`, and of lists
-- `back_rename_all`. Assumes nothing.
use mathlib.Core.Path.{◌≡◌, refl, sym, ap₂}
use mathlib.Core.List.{List, [], ◌∷◌, map}
use Prim.Native.Nat.{ℕ, suc}
use native.Mathlib.Omega.{arith}
use lib.IntN.{pos, negsuc}
use Rattle.names.specs.declared.Author.{Author}
use Rattle.names.specs.Ordering.{Row, across, down, offset, ◌<ⁿ◌, differ, same}
use Rattle.names.proofs.Laws.{row_less, row_more, row_same, tuple_same}
use Rattle.name_renames.specs.declared.Case.{Case}
use Rattle.name_renames.specs.Renaming.{lead, N, case_of, become, rename, first_position, take_back, strip_below, strip_above, back_from, back_of}
use Rattle.name_renames.proofs.Fresh.{Fresh}
use Rattle.name_renames.proofs.Splits.{clash, nonempty, next}
use Rattle.name_renames.proofs.Lists.{All, nil, cons}
use Rattle.name_renames.proofs.Forward.{BelowLeads, AboveLeads, PlaceAbove, in_gap, at_next, past, last_put, last_kept, Place, low_kept, low_put, at_first, higher, place, above_N}
use Rattle.name_renames.proofs.Walk.{StripBelow, kept_below, cut_below, strip_below_lem, StripAbove, kept_above, cut_above, strip_above_lem, back_N}
use Rattle.name_renames.proofs.Gaps.{under_in, over_in, gap_in}

module _ (p : ℕ) (author : Author) where
  -- a name that does not begin with (p, A, s, ..) is not stripped
  unstripped_below : (x : Row) → BelowLeads p author x → strip_below p author x ≡ x
  unstripped_below x b = go (strip_below_lem p author x) b
    where
      go : {x v : Row} → StripBelow p author x v → BelowLeads p author x → v ≡ x
      go (kept_below f) b = refl
      go (cut_below e k) b = clash (b (negsuc 1) []) (differ (rw e (offset refl refl refl (down {a = 1} {b = 0} (omega arith)))))

  unstripped_above : (k : ℕ) (x : Row) → AboveLeads p author x → strip_above p author k x ≡ x
  unstripped_above k x b = go (strip_above_lem p author k x) b
    where
      go : {x v : Row} → StripAbove p author k x v → AboveLeads p author x → v ≡ x
      go (kept_above f) b = refl
      go (cut_above e j) b = clash (b (pos (suc k)) []) (differ (rw e (offset refl refl refl next)))

  back_above_lem : {k : ℕ} {rest : List Row} {r x : Row} {c : Case} → PlaceAbove p author k rest x c → r <ⁿ x → back_from p author k r rest (become p author c x) ≡ x
  unfolding become back_from strip_above
  back_above_lem {k} {r = r} {x = x} (in_gap h) l =
      let u : lead p author (pos k) ∷ x <ⁿ N p author (suc k) = differ (offset refl refl refl next) in
      let v : N p author k <ⁿ lead p author (pos k) ∷ x = same refl (nonempty l) in
      rw (row_less u, row_more v, gap_in _ _ l h)
  back_above_lem {k} {rest = q ∷ rest} (at_next e) l = rw (row_same (N p author (suc k)), back_N p author (suc k) q rest) (sym e)
  back_above_lem (past h v) l = rw (row_more (above_N p author v (nonempty l))) (back_above_lem v h)
  back_above_lem {k} {x = x} (last_put b) l =
      let v : N p author k <ⁿ lead p author (pos k) ∷ x = same refl (nonempty l) in
      rw (row_more v, tuple_same (lead p author (pos k)), row_less (b (pos k) []), over_in _ x l)
  back_above_lem {k} {x = x} (last_kept b) l = rw (row_more (b (pos k) []), unstripped_above k x b, over_in _ x l)

  back_place : {log : List Row} {x : Row} {c : Case} → Place p author log x c → back_of p author log (become p author c x) ≡ x
  unfolding become back_of strip_below
  back_place {x = x} (low_kept h b) = rw (row_less (b (pos 0) []), unstripped_below x b, under_in _ h)
  back_place {x = x} (low_put h b) =
      let u : lead p author (negsuc 0) ∷ x <ⁿ N p author 0 = differ (offset refl refl refl across) in
      rw (row_less u, tuple_same (lead p author (negsuc 0)), row_more (b (pos 0) []), under_in _ h)
  back_place {log = r ∷ rest} (at_first e) = rw (row_same (N p author 0), back_N p author 0 r rest) (sym e)
  back_place (higher h v) = rw (row_more (above_N p author v (nonempty h))) (back_above_lem v h)

-- ── the theorem ──

pub back_rename : (author : Author) (log : List Row) (x : Row) → Fresh author x → take_back author log (rename author log x) ≡ x
unfolding take_back rename case_of become back_of
back_rename author [] x f = refl
back_rename author (r ∷ rest) x f = let p = first_position (r ∷ rest) in back_place p author (place p author r rest x f)

pub back_rename_all : (author : Author) (log : List Row) {names : List Row} → All (Fresh author) names → map (take_back author log) (map (rename author log) names) ≡ names
back_rename_all author log nil = refl
back_rename_all author log (cons {x} f fs) = ap₂ ◌∷◌ (back_rename author log x f) (back_rename_all author log fs)
