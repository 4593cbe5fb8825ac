-- `grouping::group` meets its contract. Assumes nothing.
use mathlib.Core.Path.{◌≡◌, ◌∙◌, sym}
use Prim.Native.Nat.{ℕ, ◌≤◌}
use native.Mathlib.Omega.{arith}
use borrow.Author.Tests.{leb-true, leb-false}
use lib.ListN.{length}
use Rattle.std.proofs.lemmas.Result.{err_from_is_err_and}
use Rattle.numbers.specs.Bytes.{Bytes}
use Rattle.answers.specs.Answers.{leaves}
use Rattle.answers.proofs.Outcomes.{refused, accepted}
use Rattle.pages.specs.Pages.{slots_of}
use Rattle.groups.specs.Groups.{grouped}
use Rattle.groups.specs.Forms.{form_bytes}
use Rattle.groups.specs.Calls.{group_outcome}
use Rattle.names.specs.Names.{limit}
use Rattle.pages.proofs.Checked.{page_counts}
use Rattle.grouping.proofs.Outcomes.{group_refused, group_short, group_done}
use Rattle.grouping.proofs.group.Goals as goal

abbrev form_size : Bytes → ℕ
form_size s = length (form_bytes (grouped (slots_of s)))

pub returns-in_err-check_page-clause-value : goal.returns-in_err-check_page-clause-value
returns-in_err-check_page-clause-value c =
    let told = err_from_is_err_and c.from_residual.result c.from_residual.ensures.1 in
    rw (told.1, told.2) (refused _ _ c.args.out.now (group_refused c.args.page.now (length c.args.out.now) (sym c.check_page.ensures ∙ c.in_err-check_page.was))).0

pub returns-in_err-check_page-clause-out_after : goal.returns-in_err-check_page-clause-out_after
returns-in_err-check_page-clause-out_after c =
    (refused _ _ c.args.out.now (group_refused c.args.page.now (length c.args.out.now) (sym c.check_page.ensures ∙ c.in_err-check_page.was))).1

pub has_room-requires : goal.has_room-requires
has_room-requires c = (page_counts limit c.args.page.now (sym c.check_page.ensures ∙ c.in_ok-check_page.was)).0

pub returns-then-not-has_room : goal.returns-then-not-has_room
returns-then-not-has_room c =
    let s = c.args.page.now in
    let room = length c.args.out.now in
    let sound = page_counts limit s (sym c.check_page.ensures ∙ c.in_ok-check_page.was) in
    let short = leb-false (form_size s) room (sym c.has_room.ensures ∙ c.if-not-has_room.true) in
    let both : (_ ≡ (group_outcome s room).answer) × (_ ≡ leaves (group_outcome s room) c.args.out.now) = refused _ _ _ (group_short s _ sound.0 sound.1 short)
    in record { value = both.0; out_after = both.1 }

pub write_form-requires : goal.write_form-requires
write_form-requires c =
    let s = c.args.page.now in
    let sound = page_counts limit s (sym c.check_page.ensures ∙ c.in_ok-check_page.was) in
    (sound.0, leb-true (form_size s) (length c.args.out.now) (sym c.has_room.ensures ∙ c.if-not-has_room.false))

pub returns : goal.returns
returns c =
    let s = c.args.page.now in
    let room = length c.args.out.now in
    let sound = page_counts limit s (sym c.check_page.ensures ∙ c.in_ok-check_page.was) in
    let fits : form_size s ≤ room = leb-true (form_size s) room (sym c.has_room.ensures ∙ c.if-not-has_room.false) in
    let written = c.write_form in
    let n = written.ensures.value in
    let both : (_ ≡ (group_outcome s room).answer) × (_ ≡ leaves (group_outcome s room) c.args.out.now) =
    accepted _ _ _ _ _ (group_done s room sound.0 sound.1 written.result n (omega arith)) written.ensures.out_after
    in record { value = both.0; out_after = both.1 }
