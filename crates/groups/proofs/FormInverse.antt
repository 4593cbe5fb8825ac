-- Forms: groups as bytes, group after group (`form_more`, `form_append`). What is written is bytes (`written_octets`), is read back before
-- whatever follows (`groups_before`, `read_back`) and is a form (`written_form`); a form is the writing of what it says (`bytes_back`), so
-- forms are the writings of groups that are longest (`form_exactly`). Assumes nothing.
use mathlib.Core.Path.{◌≡◌, refl, sym, ap, ◌∙◌}
use mathlib.Core.List.{List, [], ◌∷◌, ◌++◌, map, append_assoc, append-nil}
use mathlib.Core.Bool.{Bool, true, false, cond, ◌&&◌}
use mathlib.Core.Logic.{◌↔◌}
use Prim.Native.Nat.{ℕ, zero, suc}
use lib.ListN.{length}
use Rattle.names.specs.Names.{fits, is_name}
use Rattle.numbers.specs.Bytes.{Bytes, Octets}
use Rattle.std.specs.List.{list_all}
use Rattle.numbers.proofs.Bools.{and_0, and_1}
use Rattle.numbers.proofs.Lists.{flat, flat_none}
use Rattle.numbers.proofs.Octets.{AllBytes, nil, join, all_octets}
use Rattle.fields.specs.Fields.{nothing}
use Rattle.fields.proofs.FieldInverse.{is_nothing}
use Rattle.groups.specs.Groups.{Group, longest, is_group}
use Rattle.groups.specs.Forms.{group_bytes, form_bytes, group_stands, group_in, after_group, groups_within, after_groups, groups_in, keeps_form}
use Rattle.groups.proofs.RunSlots.{run_first}
use Rattle.groups.proofs.GroupTests.{good}
use Rattle.groups.proofs.GroupFields.{rest_in, groups_turn, rest_turn}
use Rattle.groups.proofs.GroupBytes.{group_all, stands_back, group_back, after_back, group_there, after_octets}

-- ── to bytes ──

pub form_none : form_bytes [] ≡ []
unfolding form_bytes
form_none = flat_none

pub form_more : (g : Group) (gs : List Group) → form_bytes (g ∷ gs) ≡ group_bytes g ++ form_bytes gs
unfolding form_bytes
form_more g gs = flat (group_bytes g) (map group_bytes gs)

pub form_append : (gs hs : List Group) → form_bytes (gs ++ hs) ≡ form_bytes gs ++ form_bytes hs
form_append [] hs = ap (λ (b : Bytes). b ++ form_bytes hs) (sym form_none)
form_append (g ∷ gs) hs =
    form_more g (gs ++ hs)
    ∙ ap (λ (b : Bytes). group_bytes g ++ b) (form_append gs hs)
    ∙ sym (append_assoc (group_bytes g) (form_bytes gs) (form_bytes hs))
    ∙ ap (λ (b : Bytes). b ++ form_bytes hs) (sym (form_more g gs))

form_all : (gs : List Group) → list_all is_group gs ≡ true → AllBytes (form_bytes gs)
form_all [] e = rw form_none nil
form_all (g ∷ gs) e =
    rw (form_more g gs) (join (group_all g (and_0 (is_group g) (list_all is_group gs) e)) (form_all gs (and_1 (is_group g) (list_all is_group gs) e)))

pub written_octets : (gs : List Group) → list_all is_group gs ≡ true → Octets (form_bytes gs)
written_octets gs e = all_octets (form_all gs e)

-- ── and back ──

first_named : (g : Group) → is_group g ≡ true → is_name g.first ≡ true
first_named g e =
    let v = good g e in
    and_0 (is_name g.first) (fits g.first) (run_first g.first g.lines v.long v.slots)

module _ (r : Bytes) where
  cons : (g : Group) (gs : List Group) → form_bytes (g ∷ gs) ++ r ≡ group_bytes g ++ (form_bytes gs ++ r)
  cons g gs = ap (λ (b : Bytes). b ++ r) (form_more g gs) ∙ append_assoc (group_bytes g) (form_bytes gs) r

  -- groups written before r: they, and then those of r
  pub groups_before : (gs : List Group) → list_all is_group gs ≡ true → groups_in (form_bytes gs ++ r) ≡ gs ++ groups_in r
  groups_before [] e = ap (λ (b : Bytes). groups_in (b ++ r)) form_none
  groups_before (g ∷ gs) e =
      let t = form_bytes gs ++ r in
      let h = and_0 (is_group g) (list_all is_group gs) e in
      ap groups_in (cons g gs)
      ∙ groups_turn (group_bytes g ++ t) (stands_back g t)
      ∙ (λ i. group_back g t (first_named g h) i ∷ groups_in (after_back g t i))
      ∙ ap (λ (l : List Group). g ∷ l) (groups_before gs (and_1 (is_group g) (list_all is_group gs) e))

  pub rest_before : (gs : List Group) → rest_in (form_bytes gs ++ r) ≡ rest_in r
  rest_before [] = ap (λ (b : Bytes). rest_in (b ++ r)) form_none
  rest_before (g ∷ gs) =
      let t = form_bytes gs ++ r in
      ap rest_in (cons g gs) ∙ rest_turn (group_bytes g ++ t) (stands_back g t) ∙ ap rest_in (after_back g t) ∙ rest_before gs

pub read_back : (gs : List Group) → list_all is_group gs ≡ true → groups_in (form_bytes gs) ≡ gs
read_back gs e = ap groups_in (sym (append-nil (form_bytes gs))) ∙ groups_before [] gs e ∙ append-nil gs

rest_back : (gs : List Group) → rest_in (form_bytes gs) ≡ []
rest_back gs = ap rest_in (sym (append-nil (form_bytes gs))) ∙ rest_before [] gs

pub written_form : (gs : List Group) → list_all is_group gs ≡ true → longest gs ≡ true → keeps_form (form_bytes gs) ≡ true
unfolding keeps_form
written_form gs e h =
    (λ i. nothing (rest_back gs i) && list_all is_group (read_back gs e i) && longest (read_back gs e i)) ∙ (λ i. e i && h i)

-- ── from bytes and back ──

there : (most : ℕ) (s : Bytes) → Octets s → form_bytes (groups_within most s) ++ after_groups most s ≡ s
there zero s k = ap (λ (b : Bytes). b ++ s) form_none
there (suc most) s k = go (group_stands s) refl (λ e. there most (after_group s) (after_octets s k e))
  where
    groups : List Group
    groups = groups_within most (after_group s)

    after : Bytes
    after = after_groups most (after_group s)

    go : (b : Bool) → group_stands s ≡ b → (group_stands s ≡ true → form_bytes groups ++ after ≡ after_group s)
        → form_bytes (cond b (group_in s ∷ groups) []) ++ cond b after s ≡ s
    go false e f = ap (λ (b : Bytes). b ++ s) form_none
    go true e f = cons after (group_in s) groups ∙ ap (λ (b : Bytes). group_bytes (group_in s) ++ b) (f e) ∙ group_there s k e

-- the groups that stand from the beginning of s on, and what follows them
pub form_there : (s : Bytes) → Octets s → form_bytes (groups_in s) ++ rest_in s ≡ s
form_there s k = there (length s) s k

-- what the test of a form has found
pub record Kept (s : Bytes) : Type 0 where
  pub ended : rest_in s ≡ []
  pub good : list_all is_group (groups_in s) ≡ true
  pub long : longest (groups_in s) ≡ true

pub kept : (s : Bytes) → keeps_form s ≡ true → Kept s
unfolding keeps_form
kept s e =
    let a = nothing (rest_in s) in
    let b = list_all is_group (groups_in s) in
    let c = longest (groups_in s) in
    let ab = and_0 (a && b) c e in
    record { ended = is_nothing (rest_in s) (and_0 a b ab); good = and_1 a b ab; long = and_1 (a && b) c e }

pub bytes_back : (s : Bytes) → Octets s → keeps_form s ≡ true → form_bytes (groups_in s) ≡ s
bytes_back s k e =
    sym (append-nil (form_bytes (groups_in s))) ∙ ap (λ (b : Bytes). form_bytes (groups_in s) ++ b) (sym (kept s e).ended) ∙ form_there s k

pub form_exactly : (s : Bytes) → Octets s
    → (keeps_form s ≡ true) ↔ ((gs : List Group) × (list_all is_group gs ≡ true) × (longest gs ≡ true) × (form_bytes gs ≡ s))
form_exactly s k = (
  λ h. (groups_in s, (kept s h).good, (kept s h).long, bytes_back s k h),
  λ v. sym (ap keeps_form v.3) ∙ written_form v.0 v.1 v.2,
)
