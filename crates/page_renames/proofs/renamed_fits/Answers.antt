-- `page_renames::renamed_fits` meets its contract. Assumes nothing.
use mathlib.Core.Path.{◌≡◌, refl, ◌∙◌, sym, ap}
use mathlib.Core.Bool.{not}
use Prim.Native.Nat.{suc, ◌≤◌}
use native.Mathlib.Omega.{arith}
use borrow.Author.Tests.{le-leb, lt-leb}
use lib.ListN.{length}
use Rattle.names.specs.Ordering.{Row}
use Rattle.names.specs.Names.{limit, fits}
use Rattle.slots.specs.Slots.{head_size, name_of}
use Rattle.slots.proofs.RoundTrip.{kept}
use Rattle.slots.proofs.TuplesInBytes.{length_tuples_at}
use Rattle.slots.proofs.NameTests.{name_over_lem}
use Rattle.pages.specs.Pages.{names_of}
use Rattle.pages.specs.Places.{place_of}
use Rattle.name_renames.specs.Renaming.{first_position, case_of, rename}
use Rattle.name_renames.proofs.Table.{rename_depth}
use Rattle.one_name.specs.declared.Change.{Change}
use Rattle.one_name.specs.declared.Change.TheVariants.{Kept, Alone, Led}
use Rattle.one_name.specs.Changes.{changed_by, gains}
use Rattle.one_name.proofs.CheckedLog.{logged, case_index}
use Rattle.one_name.proofs.RenamedByChange.{renamed}
use Rattle.page_renames.proofs.renamed_fits.Goals as goal

-- a name of `limit` tuples, by what its case does to it
full : (c : Change) (x : Row) → length x ≡ limit → fits (changed_by c x) ≡ not (gains c)
full Kept x e = le-leb (length x) limit (omega arith)
full (Alone t) x e = refl
full (Led t) x e = lt-leb (suc (length x)) limit (omega arith)

pub depth-count-requires : goal.depth-count-requires
depth-count-requires c = omega (arith, (kept c.args.slot.now c.requires.1).long)

pub returns-then-count-lt-LIMIT : goal.returns-then-count-lt-LIMIT
returns-then-count-lt-LIMIT c =
    let a = c.args in
    let s = a.slot.now in
    let l = names_of a.log.now in
    let row = name_over_lem limit s c.depth-count.result c.depth-count.ensures in
    let d = sym (length_tuples_at s head_size c.depth-count.result) ∙ ap length row in
    let h : length (rename a.author l (name_of s)) ≤ limit = omega (arith, d, rename_depth a.author l (name_of s)) in
    sym (le-leb (length (rename a.author l (name_of s))) limit h)

pub find-place-requires : goal.find-place-requires
find-place-requires c = ((kept c.args.slot.now c.requires.1).long, (logged c.args.log.now c.requires.0).risen)

pub case_at-case-requires : goal.case_at-case-requires
case_at-case-requires c =
    let s = c.args.slot.now in
    let v = kept s c.requires.1 in
    let long = v.long in
    let fit = v.fit in
    let row = name_over_lem limit s c.depth-count.result c.depth-count.ensures in
    (c.requires.0, (omega arith, omega arith), c.find-place.ensures ∙ ap (λ (x : Row). place_of x (names_of c.args.log.now)) (sym row))

pub change_of-requires : goal.change_of-requires
change_of-requires c = (c.requires.0, case_index c.args.log.now c.args.author _ c.requires.0 c.case_at-case.result c.case_at-case.ensures)

pub returns : goal.returns
returns c =
    let a = c.args in
    let s = a.slot.now in
    let l = names_of a.log.now in
    let row = name_over_lem limit s c.depth-count.result c.depth-count.ensures in
    let case = c.case_at-case.ensures ∙ ap (λ (x : Row). case_of (first_position l) a.author l x) row in
    let d : length (name_of s) ≡ limit = omega (arith, sym (length_tuples_at s head_size c.depth-count.result) ∙ ap length row, c.depth-count.ensures, c.if-count-lt-LIMIT.false) in
    ap not c.gains.ensures
    ∙ sym (full c.change_of.result (name_of s) d)
    ∙ ap fits (renamed a.author l (name_of s) refl case c.change_of.ensures)
