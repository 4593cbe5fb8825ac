-- What decides that some bytes are a message, in the order in which the code asks (`keeps_by`, and `telling_by` by the answers), and where
-- the names of a message at a place are found (`names_found`, `rest_found`). Assumes nothing.
use mathlib.Core.Path.{◌≡◌, refl, sym, ap, ◌∙◌}
use mathlib.Core.List.{[]}
use mathlib.Core.Bool.{Bool, true, ◌&&◌, and-true, and_assoc, and_comm}
use Prim.Native.Nat.{ℕ, ◌+◌, ◌≤◌}
use native.Mathlib.Omega.{arith}
use borrow.Author.Tests.{le-leb}
use lib.Dec.{leb}
use lib.ListN.{length, drop, length-drop}
use lib.Seq.{drop-drop}
use Rattle.names.specs.Ordering.{rising}
use Rattle.numbers.proofs.Bools.{and_1}
use Rattle.numbers.specs.Bytes.{Bytes}
use Rattle.std.specs.List.{list_all}
use Rattle.std.specs.Prelude.{None}
use Rattle.std.specs.Bool.{then_some}
use Rattle.fields.specs.Fields.{stands}
use Rattle.fields.proofs.FieldInverse.{standing}
use Rattle.name_fields.specs.NameFields.{name_fits}
use Rattle.messages.specs.Messages.{kind_tag, epoch_tag, author_tag, kind_size, pair_size, is_kind, is_epoch, is_author, is_line, most_names, is_message, epoch_place, author_place, names_place, names_within, after_names, kind_in, names_in, rest_in, numbers_in, ends_as, framed, keeps_message}
use Rattle.messages.proofs.NameFields.{names_few}
use Rattle.messages.proofs.TestsPassed.{ok_numbers, and_left}
use Rattle.read_messages.specs.FirstPass.{numbers_stand, good_names, telling}

pub numbers_long : (s : Bytes) (p : ℕ) → numbers_stand (drop p s) ≡ true → p + names_place ≤ length s
numbers_long s p e =
    let t = drop p s in
    let before = stands kind_tag kind_size t && stands epoch_tag pair_size (drop epoch_place t) in
    let v = standing author_tag pair_size (drop author_place t) (and_1 before (stands author_tag pair_size (drop author_place t)) e) in
    let l = v.long in
    let d = length-drop p s in
    let f = length-drop author_place t in
    omega arith

-- the names of the message at p, and what follows them
module _ (s : Bytes) (p : ℕ) {kind most : ℕ} (k : kind ≡ kind_in (drop p s)) (m : most ≡ most_names kind) where
  pub names_found : names_within most (drop (p + names_place) s) ≡ names_in (drop p s)
  names_found = λ i. names_within ((m ∙ ap most_names k) i) (sym (drop-drop names_place p s) i)

  pub rest_found : after_names most (drop (p + names_place) s) ≡ rest_in (drop p s)
  rest_found = λ i. after_names ((m ∙ ap most_names k) i) (sym (drop-drop names_place p s) i)

-- the same tests in another order
order : (h d k e a n w₁ w₂ r l : Bool) → w₂ ≡ true
    → h && d && (k && e && a && n && (w₁ && w₂) && r && l) ≡ h && (n && r) && w₁ && d && (k && e && a && l)
order h d k e a n w₁ w₂ r l f = rw f (simp (and-true, and_assoc, and_comm, and_left))

abbrev ends : Bytes → Bool
ends s = ends_as (kind_in s) (rest_in s)

pub keeps_by : (s : Bytes)
    → keeps_message s ≡ numbers_stand s && good_names (names_in s) && leb 1 (length (names_in s)) && ends_as (kind_in s) (rest_in s) && ok_numbers (numbers_in s)
unfolding keeps_message framed is_message
keeps_by s =
    let x = numbers_in s in
    let l = names_in s in
    let m = most_names (kind_in s) in
    let kind = is_kind x.kind in
    let epoch = is_epoch x.epoch in
    let author = is_author x.author in
    let line = is_line x.kind x.line in
    let few = le-leb (length l) m (names_few m (drop names_place s)) in
    order (numbers_stand s) (ends s) kind epoch author (list_all name_fits l) (leb 1 (length l)) (leb (length l) m) (rising l) line few

-- what is told, by the answers to the tests
pub telling_by : (s : Bytes) (h g w e o : Bool)
    → numbers_stand s ≡ h → good_names (names_in s) ≡ g → leb 1 (length (names_in s)) ≡ w → ends_as (kind_in s) (rest_in s) ≡ e → ok_numbers (numbers_in s) ≡ o
    → telling s ≡ then_some (h && g && w && e && o) (record { names = length (names_in s); numbers = numbers_in s })
unfolding telling
telling_by s h g w e o p q r t u =
    ap (λ (b : Bool). then_some b (record { names = length (names_in s); numbers = numbers_in s })) (keeps_by s ∙ (λ i. p i && q i && r i && t i && u i))

-- no bytes are no message
pub told_nothing : telling [] ≡ None
unfolding telling keeps_message framed
told_nothing = refl
