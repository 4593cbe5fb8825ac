-- The outcomes of the calls on forms: what a call writes (`form_writes`), how the tests that are left go on in the edit of a page
-- (`regroup_tests`, `as_passed`), and an edit's page grouped again (`regroup_writes`). Assumes nothing.
use mathlib.Core.Path.{◌≡◌, refl, ap, ◌∙◌}
use mathlib.Core.List.{List, [], ◌∷◌, flatten}
use mathlib.Core.Bool.{Bool, true, false}
use Prim.Native.Nat.{ℕ, ◌≤◌}
use native.Mathlib.Omega.{arith}
use lib.ListN.{length, length-map}
use Rattle.std.specs.List.{list_all}
use Rattle.slots.specs.Slots.{Slot, slot_bytes, is_slot}
use Rattle.std.specs.declared.result.Result.TheVariants.{Ok}
use Rattle.answers.specs.Answers.{Test, Outcome, ask, in_order, refuse, write}
use Rattle.answers.specs.Laws.{Passed}
use Rattle.answers.proofs.Outcomes.{writes}
use Rattle.pages.specs.Pages.{max_slots, pieces}
use Rattle.pages.proofs.RoundTrip.{slots_back, written_length}
use Rattle.fields.specs.Fields.{single}
use Rattle.fields.proofs.FieldInverse.{flat_single}
use Rattle.groups.specs.Groups.{grouped}
use Rattle.groups.specs.Forms.{form_bytes}
use Rattle.groups.specs.Calls.{form_pieces, ample, regroup}

-- ── the pieces of a form ──

pub form_flat : (l : List Slot) → flatten (form_pieces l) ≡ form_bytes (grouped l)
form_flat l = flat_single (form_bytes (grouped l))

pub form_writes : (l : List Slot) (room : ℕ) → length (form_bytes (grouped l)) ≤ room
    → write (form_pieces l) room ≡ record { answer = Ok (length (form_bytes (grouped l))); bytes = form_bytes (grouped l) }
form_writes l room h =
    writes (form_pieces l) room (length (form_bytes (grouped l))) (form_bytes (grouped l)) (length-map (form_bytes (grouped l)) single) (form_flat l) h

-- ── tests, and an edit after them ──

-- what comes after tests matters only where they pass
pub as_passed : (tests : List Test) (x y : Outcome) → (Passed tests → x ≡ y) → in_order tests refuse x ≡ in_order tests refuse y
as_passed [] x y f = f tt
as_passed (t ∷ tests) x y f = by t.passes refl (λ g. as_passed tests x y g)
  where
    by : (b : Bool) → t.passes ≡ b → ((Passed tests → x ≡ y) → in_order tests refuse x ≡ in_order tests refuse y)
        → ask b (refuse t.refusal) (in_order tests refuse x) ≡ ask b (refuse t.refusal) (in_order tests refuse y)
    by true e g = g (λ p. f (e, p))
    by false e g = refl

-- an edit's refusals stay
pub regroup_tests : (tests : List Test) (x : Outcome) (room : ℕ) → regroup (in_order tests refuse x) room ≡ in_order tests refuse (regroup x room)
regroup_tests [] x room = refl
regroup_tests (t ∷ tests) x room = by t.passes (regroup_tests tests x room)
  where
    by : (b : Bool) → regroup (in_order tests refuse x) room ≡ in_order tests refuse (regroup x room)
        → regroup (ask b (refuse t.refusal) (in_order tests refuse x)) room ≡ ask b (refuse t.refusal) (in_order tests refuse (regroup x room))
    by true e = e
    by false e = refl

-- and the slots that it writes, for which there is room, are those that are grouped
pub regroup_writes : (l : List Slot) → list_all is_slot l ≡ true → length l ≤ max_slots → (room : ℕ)
    → regroup (write (pieces l) ample) room ≡ write (form_pieces l) room
regroup_writes l e h room =
    let n = written_length l e in
    ap (λ (x : Outcome). regroup x room) (writes (pieces l) ample (length l) (flatten (pieces l)) (length-map l slot_bytes) refl (omega arith))
    ∙ ap (λ (x : List Slot). write (form_pieces x) room) (slots_back l e)
