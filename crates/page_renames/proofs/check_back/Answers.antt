use mathlib.Core.Path.{◌≡◌, refl, ◌∙◌, sym, subst}
use mathlib.Core.List.{[]}
use Prim.Native.Nat.{ℕ, ◌+◌, ◌-◌, ◌/◌, ◌<◌, ◌≤◌}
use native.Mathlib.Omega.{arith}
use borrow.Author.Tests.{le-leb, lt-leb}
use lib.ListN.{length, get_or}
use Rattle.names.specs.Names.{limit, fits}
use Rattle.slots.specs.Slots.{slot_size}
use Rattle.answers.specs.Laws.{here, later}
use Rattle.answers.proofs.Checked.{stops, clears}
use Rattle.pages.specs.Pages.{names_of}
use Rattle.name_renames.specs.Renaming.{take_back}
use Rattle.one_name.specs.Backs.{shape_of}
use Rattle.one_name.proofs.StemsInBytes.{Tells}
use Rattle.page_renames.specs.Renames.{take_back_tests}
use Rattle.page_renames.proofs.Books.{all_asked}
use Rattle.page_renames.proofs.BackPairs.{means, tells, deep, apart}
use Rattle.page_renames.proofs.PageWalk.{within_names, result_at, results_end, rising_turn, rising_ends}
use Rattle.page_renames.proofs.check_back.Goals as goal

pub loop-i-init : goal.loop-i-init
loop-i-init c = (refl, refl, λ h. absurd (omega (arith, h)))

pub stem_of-here-requires : goal.stem_of-here-requires
stem_of-here-requires c =
    let a = c.args in
    let v = all_asked a.page.now a.log.now a.author c.requires in
    (c.span_of-c.ensures.0, (means a.log.now a.author v.logged c.back_of-back.result c.back_of-back.ensures refl).0)

pub still_rises-rises-requires : goal.still_rises-rises-requires
still_rises-rises-requires c =
    let s = c.args.page.now in
    let g = c.args.log.now in
    let author = c.args.author in
    let f = take_back author (names_of g) in
    let i = c.loop-i.i in
    let v = all_asked s g author c.requires in
    let y = c.stem_of-here.result in
    let t = tells s g author v i c.back_of-back.result y c.back_of-back.ensures c.span_of-c.ensures.1 (c.stem_of-here.ensures.behind_value, c.stem_of-here.ensures.stem_lies) in
    let h : i < length s / slot_size = c.loop-i-test.true in
    let before = c.loop-i.invariant.2 in
    record {
      page_value = (v.layout, v.logged, within_names s i h);
      stem_lies = (λ p. (before p).1.0, t.1.0);
      i_value = λ p. apart s g author v i p h c.loop-i.last y (before p) t;
    }

pub loop-i-preserved : goal.loop-i-preserved
loop-i-preserved c =
    let s = c.args.page.now in
    let g = c.args.log.now in
    let author = c.args.author in
    let f = take_back author (names_of g) in
    let i = c.loop-i.i in
    let v = all_asked s g author c.requires in
    let y = c.stem_of-here.result in
    let t = tells s g author v i c.back_of-back.result y c.back_of-back.ensures c.span_of-c.ensures.1 (c.stem_of-here.ensures.behind_value, c.stem_of-here.ensures.stem_lies) in
    let h : i < length s / slot_size = c.loop-i-test.true in
    let short : length (f (get_or (names_of s) i [])) ≤ limit = omega (arith, c.if-here-gt-LIMIT.false, deep s g author v i y t) in
    let fit = result_at s i h f fits (sym (le-leb (length (f (get_or (names_of s) i []))) limit short)) in
    let goes = c.still_rises-rises in
    let turn = rising_turn s f i h c.loop-i.rises goes.result goes.ensures in
    let same : i ≡ i + 1 - 1 = omega arith in
    let known = subst (λ (k : ℕ). Tells s g (get_or (names_of s) k []) y (shape_of author (names_of g) (get_or (names_of s) k []))) same t in
    (fit ∙ c.loop-i.invariant.0, turn ∙ c.loop-i.invariant.1, λ p. known)

pub returns-then-here-gt-LIMIT : goal.returns-then-here-gt-LIMIT
returns-then-here-gt-LIMIT c =
    let s = c.args.page.now in
    let g = c.args.log.now in
    let author = c.args.author in
    let f = take_back author (names_of g) in
    let i = c.loop-i.i in
    let v = all_asked s g author c.requires in
    let y = c.stem_of-here.result in
    let t = tells s g author v i c.back_of-back.result y c.back_of-back.ensures c.span_of-c.ensures.1 (c.stem_of-here.ensures.behind_value, c.stem_of-here.ensures.stem_lies) in
    let h : i < length s / slot_size = c.loop-i-test.true in
    let long : limit < length (f (get_or (names_of s) i [])) = omega (arith, c.if-here-gt-LIMIT.true, deep s g author v i y t) in
    let none = result_at s i h f fits (sym (lt-leb (length (f (get_or (names_of s) i []))) limit long)) ∙ c.loop-i.invariant.0 in
    stops (take_back_tests s g author) (here (sym none) refl)

-- after the last name all fit, and `rises` says whether they rise
pub returns-then-not-rises : goal.returns-then-not-rises
returns-then-not-rises c =
    let s = c.args.page.now in
    let g = c.args.log.now in
    let f = take_back c.args.author (names_of g) in
    let i = c.loop-i.i in
    let e : i ≡ length s / slot_size = omega (arith, c.loop-i-test.false, c.loop-i.auto.i-end) in
    let fit = results_end s i f fits (omega arith) ∙ c.loop-i.invariant.0 in
    let told = rising_ends s f i e c.loop-i.rises ∙ c.loop-i.invariant.1 in
    stops (take_back_tests s g c.args.author) (later (sym fit) (here (sym told ∙ c.if-not-rises.true) refl))

pub returns : goal.returns
returns c =
    let s = c.args.page.now in
    let g = c.args.log.now in
    let f = take_back c.args.author (names_of g) in
    let i = c.loop-i.i in
    let e : i ≡ length s / slot_size = omega (arith, c.loop-i-test.false, c.loop-i.auto.i-end) in
    let fit = results_end s i f fits (omega arith) ∙ c.loop-i.invariant.0 in
    let told = rising_ends s f i e c.loop-i.rises ∙ c.loop-i.invariant.1 in
    clears (take_back_tests s g c.args.author) (sym fit, (sym told ∙ c.if-not-rises.false, tt))
