-- The slots of a message are a log: those given for one are asked for a log with at most as many slots as the kind has names (`may_by`), and
-- those that reading gives are one (`read_log`). Assumes nothing.
use mathlib.Core.Path.{◌≡◌, refl, sym, ap, ◌∙◌}
use mathlib.Core.List.{List, [], ◌∷◌, map}
use mathlib.Core.Bool.{Bool, true, false, ◌&&◌, and-true, and-false, and_assoc, and_comm}
use Prim.Native.Nat.{ℕ, ◌≤◌}
use native.Mathlib.Omega.{arith}
use borrow.Author.Tests.{le-leb}
use lib.Dec.{leb}
use lib.ListN.{length, length-map, length-take}
use Rattle.names.specs.Names.{limit}
use Rattle.numbers.proofs.Bools.{and_0, and_1}
use Rattle.numbers.specs.Bytes.{Bytes}
use Rattle.slots.specs.Tuples.{tuples_at}
use Rattle.std.specs.List.{list_all}
use Rattle.slots.specs.Slots.{head_size, depth_of, name_of, slot_of, keeps_slot}
use Rattle.slots.proofs.RoundTrip.{kept}
use Rattle.std.specs.declared.result.Result.TheVariants.{Ok}
use Rattle.pages.specs.Pages.{slots_of, name_in, names_of, parts_of, keeps_layout, rises, line_is_zero, is_log}
use Rattle.pages.proofs.RoundTrip.{laid}
use Rattle.messages.specs.declared.Numbers.{Numbers}
use Rattle.name_fields.specs.NameFields.{name_fits}
use Rattle.messages.specs.Messages.{is_kind, is_epoch, is_author, most_names, is_line, is_message}
use Rattle.messages.specs.Calls.{read_outcome, numbers_read, may_write}
use Rattle.messages.proofs.TestsPassed.{ok_numbers, and_left}
use Rattle.messages.proofs.CallsInverse.{may_again}

-- the names of slots are names
names_fit : (l : List Bytes) → list_all keeps_slot l ≡ true → list_all name_fits (map name_in (map slot_of l)) ≡ true
names_fit [] e = refl
names_fit (x ∷ l) e =
    let v = kept x (and_0 (keeps_slot x) (list_all keeps_slot l) e) in
    let d = v.fit in
    let f : length (name_of x) ≤ limit = let t = length-take (depth_of x) (tuples_at x head_size limit) in omega arith in
    λ i. (v.named i && le-leb (length (name_of x)) limit f i) && names_fit l (and_1 (keeps_slot x) (list_all keeps_slot l) e) i

-- the same tests in another order; n holds where y does
order : (y k e a n w₁ w₂ r l z : Bool) → (y ≡ true → n ≡ true)
    → y && (k && e && a && n && (w₁ && w₂) && r && l) && z ≡ k && e && a && l && (y && r && w₁ && z && w₂)
order false k e a n w₁ w₂ r l z f = sym (and-false (k && e && a && l))
order true k e a n w₁ w₂ r l z f = rw (f refl) (simp (and-true, and_assoc, and_comm, and_left))

abbrev few : Numbers → Bytes → Bool
few x slots = leb (length (slots_of slots)) (most_names x.kind)

pub may_by : (x : Numbers) (slots : Bytes) → may_write x slots ≡ ok_numbers x && (is_log slots && leb (length (slots_of slots)) (most_names x.kind))
unfolding is_message is_log
may_by x slots =
    let n = length (slots_of slots) in
    let m = most_names x.kind in
    let layout = keeps_layout slots in
    let kind = is_kind x.kind in
    let epoch = is_epoch x.epoch in
    let author = is_author x.author in
    let names = list_all name_fits (names_of slots) in
    let line = is_line x.kind x.line in
    let zeros = list_all line_is_zero (slots_of slots) in
    ap (λ (n : ℕ). layout && (kind && epoch && author && names && (leb 1 n && leb n m) && rises slots && line) && zeros) (length-map (slots_of slots) name_in)
    ∙ order layout kind epoch author names (leb 1 n) (leb n m) (rises slots) line zeros (λ h. names_fit (parts_of slots) (laid slots h).good)

pub read_log : (s : Bytes) (room n : ℕ) → (read_outcome s room).answer ≡ Ok n → is_log (read_outcome s room).bytes ≡ true
read_log s room n h =
    let x = numbers_read s room in
    let slots = (read_outcome s room).bytes in
    let all = sym (may_by x slots) ∙ may_again s room n h in
    and_0 (is_log slots) (few x slots) (and_1 (ok_numbers x) (is_log slots && few x slots) all)
