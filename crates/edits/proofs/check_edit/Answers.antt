-- `edits::check_edit` meets its contract. Assumes nothing.
use mathlib.Core.Path.{◌≡◌, refl, ◌∙◌, sym, ap}
use mathlib.Core.List.{[], ◌∷◌}
use mathlib.Core.Bool.{Bool, true, false}
use Prim.Native.Nat.{ℕ}
use native.Mathlib.Omega.{arith}
use Rattle.std.proofs.lemmas.Result.{err_from_is_err_and}
use Rattle.answers.specs.Answers.{◌else◌, in_order, check}
use Rattle.answers.specs.declared.Refusal.TheVariants.{BadLayout, NotRising}
use Rattle.slots.specs.Slots.{keeps_slot}
use Rattle.pages.specs.Pages.{keeps_layout, rises, check_over}
use Rattle.std.specs.declared.result.Result.{Result}
use Rattle.answers.specs.declared.Refusal.{Refusal}
use Rattle.std.specs.declared.result.Result.TheVariants.{Ok, Err}
use Rattle.edits.proofs.check_edit.Goals as goal

-- a slot that breaks its layout, whatever the page
slot_broken : (k r : Bool) (x : (Result Unit Refusal)) → Err BadLayout ≡ in_order (k else BadLayout ∷ false else BadLayout ∷ r else NotRising ∷ []) Err x
slot_broken true r x = refl
slot_broken false r x = refl

-- a slot that keeps it: what the page's check answers
page_refused : (k r : Bool) (n : ℕ) (x : (Result Unit Refusal)) (e : Refusal) → check (k else BadLayout ∷ r else NotRising ∷ []) n ≡ Err e → Err e ≡ in_order (k else BadLayout ∷ true else BadLayout ∷ r else NotRising ∷ []) Err x
page_refused true true n x e p = absurd (let z : ◌≡◌ {A = ℕ} 0 1 = cc in omega arith)
page_refused true false n x e p = let is : e ≡ NotRising = cc in ap Err is
page_refused false r n x e p = let is : e ≡ BadLayout = cc in ap Err is

page_passes : (k r : Bool) (n m : ℕ) (x : (Result Unit Refusal)) → check (k else BadLayout ∷ r else NotRising ∷ []) n ≡ Ok m → x ≡ in_order (k else BadLayout ∷ true else BadLayout ∷ r else NotRising ∷ []) Err x
page_passes true true n m x p = refl
page_passes true false n m x p = absurd (let z : ◌≡◌ {A = ℕ} 0 1 = cc in omega arith)
page_passes false r n m x p = absurd (let z : ◌≡◌ {A = ℕ} 0 1 = cc in omega arith)

pub returns-then-not-slot_ok : goal.returns-then-not-slot_ok
returns-then-not-slot_ok c =
    let page = c.args.page.now in
    let slot = c.args.slot.now in
    let broken : keeps_slot slot ≡ false = sym c.slot_ok.ensures ∙ c.if-not-slot_ok.true in
    simp broken (slot_broken (keeps_layout page) (rises page) (Ok tt))

pub returns-in_err-check_page : goal.returns-in_err-check_page
unfolding check_over
returns-in_err-check_page c =
    let page = c.args.page.now in
    let slot_layout : keeps_slot c.args.slot.now ≡ true = sym c.slot_ok.ensures ∙ c.if-not-slot_ok.false in
    let told = err_from_is_err_and c.from_residual.result c.from_residual.ensures.1 in
    rw (told.1, told.2, slot_layout) (page_refused (keeps_layout page) (rises page) _ (Ok tt) _ (sym c.check_page.ensures ∙ c.in_err-check_page.was))

pub returns : goal.returns
unfolding check_over
returns c =
    let page = c.args.page.now in
    let slot_layout : keeps_slot c.args.slot.now ≡ true = sym c.slot_ok.ensures ∙ c.if-not-slot_ok.false in
    rw slot_layout (page_passes (keeps_layout page) (rises page) _ _ (Ok tt) (sym c.check_page.ensures ∙ c.in_ok-check_page.was))
