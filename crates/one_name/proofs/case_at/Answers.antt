-- `one_name::case_at` meets its contract. Assumes nothing.
use mathlib.Core.Path.{◌≡◌, ◌∙◌, sym, ap}
use Prim.Native.Nat.{ℕ, suc, ◌-◌, ◌<◌, ◌≤◌}
use native.Mathlib.Omega.{arith}
use lib.ListN.{length}
use Rattle.slots.specs.Tuples.{row_at}
use Rattle.pages.specs.declared.Place.TheVariants.{Gap}
use Rattle.pages.specs.Pages.{names_of}
use Rattle.pages.specs.Places.{place_of}
use Rattle.name_renames.specs.declared.Case.TheVariants.{KeepBelow, PutBelow, PutAbove, KeepAbove}
use Rattle.name_renames.specs.Renaming.{first_position, N, if_below}
use Rattle.one_name.proofs.CheckedLog.{logged}
use Rattle.one_name.proofs.PlaceInLog.{case_here, case_first, case_gap, case_last}
use Rattle.one_name.proofs.case_at.Goals as goal

pub returns-in-Here : goal.returns-in-Here
returns-in-Here c =
    let a = c.args in
    let s = a.log.now in
    let o = (logged s c.requires.0).rising in
    sym (case_here (first_position (names_of s)) a.author (row_at a.s.now a.x) (names_of s) o c.in-Here.k (sym c.requires.2 ∙ c.in-Here.is))

pub returns-then-k-eq0 : goal.returns-then-k-eq0
returns-then-k-eq0 c =
    let a = c.args in
    let s = a.log.now in
    let x = row_at a.s.now a.x in
    let l = logged s c.requires.0 in
    let e : place_of x (names_of s) ≡ Gap 0 = sym c.requires.2 ∙ c.in-Gap.is ∙ ap Gap c.if-k-eq0.true in
    let same-p = ap (λ (q : ℕ). if_below x (N q a.author 0) KeepBelow PutBelow) c.first_position-p.ensures in
    c.case_below.ensures ∙ same-p ∙ sym (case_first (first_position (names_of s)) a.author x (names_of s) l.rising l.some e)

pub returns-then-k-log : goal.returns-then-k-log
returns-then-k-log c =
    let a = c.args in
    let s = a.log.now in
    let x = row_at a.s.now a.x in
    let l = logged s c.requires.0 in
    let k = c.in-Gap.k in
    let z : k ≡ suc (k - 1) = omega (arith, c.if-k-eq0.false) in
    let h : suc (k - 1) < length (names_of s) = omega (arith, l.count, c.if-k-log.true) in
    let e : place_of x (names_of s) ≡ Gap (suc (k - 1)) = sym c.requires.2 ∙ c.in-Gap.is ∙ ap Gap z in
    sym (case_gap (first_position (names_of s)) a.author x (names_of s) l.rising (k - 1) h e)

pub case_above-requires : goal.case_above-requires
case_above-requires c =
    let a = c.args in
    let s = a.log.now in
    let l = logged s c.requires.0 in
    let k = c.in-Gap.k in
    let z : k ≡ suc (k - 1) = omega (arith, c.if-k-eq0.false) in
    let h : length (names_of s) ≤ suc (k - 1) = omega (arith, l.count, c.if-k-log.false) in
    let e : place_of (row_at a.s.now a.x) (names_of s) ≡ Gap (suc (k - 1)) = sym c.requires.2 ∙ c.in-Gap.is ∙ ap Gap z in
    let n = (case_last (first_position (names_of s)) a.author (row_at a.s.now a.x) (names_of s) l.rising (k - 1) h e).0 in
    (omega (arith, l.few), c.requires.1)

pub returns-else-k-log : goal.returns-else-k-log
returns-else-k-log c =
    let a = c.args in
    let s = a.log.now in
    let x = row_at a.s.now a.x in
    let l = logged s c.requires.0 in
    let k = c.in-Gap.k in
    let z : k ≡ suc (k - 1) = omega (arith, c.if-k-eq0.false) in
    let h : length (names_of s) ≤ suc (k - 1) = omega (arith, l.count, c.if-k-log.false) in
    let e : place_of x (names_of s) ≡ Gap (suc (k - 1)) = sym c.requires.2 ∙ c.in-Gap.is ∙ ap Gap z in
    let same-p = ap (λ (p : ℕ). if_below x (N p a.author (k - 1)) (PutAbove (k - 1)) KeepAbove) c.first_position-p.ensures in
    c.case_above.ensures ∙ same-p ∙ sym (case_last (first_position (names_of s)) a.author x (names_of s) l.rising (k - 1) h e).1
