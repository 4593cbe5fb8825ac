-- `pages::log_ok` meets its contract. Assumes nothing.
use mathlib.Core.Path.{◌≡◌, refl, ◌∙◌, sym, ap}
use mathlib.Core.Bool.{Bool, true, false, ◌&&◌}
use mathlib.Core.List.{[], ◌∷◌}
use Rattle.std.proofs.Common.{inl, inr}
use Prim.Native.Nat.{ℕ}
use native.Mathlib.Omega.{arith}
use borrow.Author.Tests.{le-leb, lt-leb}
use lib.ListN.{length}
use lib.Dec.{leb}
use Rattle.std.specs.Prelude.{is_ok}
use Rattle.numbers.proofs.Bools.{yes_no}
use Rattle.answers.specs.Answers.{◌else◌, check}
use Rattle.answers.specs.declared.Refusal.TheVariants.{BadLayout, NotRising}
use Rattle.std.specs.List.{list_all}
use Rattle.std.proofs.lemmas.List.Folds.{list_all-map}
use Rattle.slots.specs.Slots.{slot_of}
use Rattle.pages.specs.Pages.{keeps_layout, rises, is_log, parts_of, slots_of, line_is_zero, check_over}
use Rattle.pages.proofs.SlotBySlot.{length_slots}
use Rattle.pages.proofs.log_ok.Goals as goal
use Rattle.pages.proofs.log_ok.Goals.{then-is_ok, else-is_ok}

-- a page that is refused is no log, whatever else is asked ..
turned_away : (k r x y : Bool) (n : ℕ) → is_ok (check (k else BadLayout ∷ r else NotRising ∷ []) n) ≡ false → false ≡ k && r && x && y
turned_away true true x y n e = yes_no refl e
turned_away true false x y n e = refl
turned_away false r x y n e = refl

-- .. and one that is not keeps the layout and rises
let_in : (k r : Bool) (n : ℕ) → is_ok (check (k else BadLayout ∷ r else NotRising ∷ []) n) ≡ true → (k ≡ true) × (r ≡ true)
let_in true true n e = (refl, refl)
let_in true false n e = yes_no e refl
let_in false r n e = yes_no e refl

pub returns-then-log-ge-SLOT : goal.returns-then-log-ge-SLOT
unfolding is_log check_over
returns-then-log-ge-SLOT c =
    let s = c.args.log.now in
    let told = let_in (keeps_layout s) (rises s) (length (slots_of s)) (sym (ap is_ok c.check_page.ensures) ∙ sym c.is_ok.ensures.value ∙ c.if-log-ge-SLOT.true.0) in
    let some : leb 1 (length (slots_of s)) ≡ true = le-leb 1 (length (slots_of s)) (omega (arith, length_slots s, c.if-log-ge-SLOT.true.1)) in
    simp (told.0, told.1, some) (c.lines_are_zero.ensures ∙ sym (list_all-map line_is_zero slot_of (parts_of s)))

pub returns-else-log-ge-SLOT : goal.returns-else-log-ge-SLOT
unfolding is_log check_over
returns-else-log-ge-SLOT c =
    let s = c.args.log.now in
    let n = length (slots_of s) in
    let is = sym (ap is_ok c.check_page.ensures) ∙ sym c.is_ok.ensures.value in
    elim c.if-is_ok.branch [
      | then-is_ok w ↦ elim c.if-log-ge-SLOT.either [
        | inl h ↦
            let told = let_in (keeps_layout s) (rises s) n (is ∙ h.0) in
            let none : leb 1 n ≡ false = lt-leb 1 n (omega (arith, length_slots s, h.1)) in
            w.t-3-is ∙ lt-leb _ _ h.1 ∙ simp (told.0, told.1, none)
        | inr h ↦ yes_no w.if-is_ok.true h
      ]
      | else-is_ok w ↦ w.t-3-is ∙ w.if-is_ok.false ∙ turned_away (keeps_layout s) (rises s) (leb 1 n) (list_all line_is_zero (slots_of s)) n (is ∙ w.if-is_ok.false)
    ]
