-- The groups that stand one after the other: a turn along them, their end, and that it does not matter how many are asked for where there are
-- as many as bytes. So from any place on the groups are the one that stands there and those after it (`groups_turn`), or none (`groups_stop`),
-- and so is what follows them (`rest_turn`, `rest_stop`). Assumes nothing.
use mathlib.Core.Path.{◌≡◌, refl, sym, ap, ◌∙◌}
use mathlib.Core.List.{List, [], ◌∷◌}
use mathlib.Core.Bool.{Bool, true, false, cond, ◌&&◌}
use Prim.Native.Nat.{ℕ, zero, suc, ◌+◌, ◌-◌, ◌*◌, ◌%◌, ◌≤◌}
use native.Mathlib.Omega.{arith}
use lib.Dec.{eqb}
use lib.ListN.{length, length-drop}
use Rattle.numbers.specs.Bytes.{Bytes}
use Rattle.numbers.proofs.Bools.{and_0, and_1, never}
use Rattle.slots.specs.Tuples.{tuple_size}
use Rattle.fields.specs.Fields.{field_head, size_in, after_field, stands}
use Rattle.fields.proofs.FieldInverse.{Standing, standing}
use Rattle.name_fields.specs.NameFields.{name_stands_as}
use Rattle.groups.specs.Groups.{Group, line_size}
use Rattle.groups.specs.Forms.{first_tag, length_tag, lines_tag, length_size, length_in, group_stands, group_in, after_group, groups_within, after_groups, groups_in}

-- what follows the groups that stand from the beginning of s on
abbrev pub rest_in : Bytes → Bytes
rest_in s = after_groups (length s) s

-- ── a group that stands ──

pub record Stands (s : Bytes) : Type 0 where
  pub name : name_stands_as first_tag s ≡ true
  pub first : Standing first_tag (size_in s) s
  pub length : Standing length_tag length_size (after_field s)
  pub lines : Standing lines_tag (line_size * length_in (after_field s)) (after_field (after_field s))

pub group_stands_lem : (s : Bytes) → group_stands s ≡ true → Stands s
group_stands_lem s e =
    let a = name_stands_as first_tag s in
    let b = stands length_tag length_size (after_field s) in
    let c = stands lines_tag (line_size * length_in (after_field s)) (after_field (after_field s)) in
    let ab = and_0 (a && b) c e in
    let n = and_0 a b ab in
    record {
      name = n;
      first = standing first_tag (size_in s) s (and_0 (stands first_tag (size_in s) s) (eqb (size_in s % tuple_size) 0) n);
      length = standing length_tag length_size (after_field s) (and_1 a b ab);
      lines = standing lines_tag (line_size * length_in (after_field s)) (after_field (after_field s)) (and_1 (a && b) c e);
    }

-- fewer bytes than a field's head are no group
pub no_group_lem : (s : Bytes) → length s ≤ 2 → group_stands s ≡ false
no_group_lem s h = never (group_stands s) (λ e. let l = (group_stands_lem s e).first.long in omega arith)

-- what follows a group has fewer bytes
field_shorter : (s : Bytes) → length (after_field s) ≤ length s - field_head
field_shorter s = let d = length-drop (field_head + size_in s) s in omega arith

pub group_shorter : (s : Bytes) → length (after_group s) ≤ length s - field_head
group_shorter s =
    let a = field_shorter s in
    let b = field_shorter (after_field s) in
    let c = field_shorter (after_field (after_field s)) in
    omega arith

-- ── at most so many ──

module _ (s : Bytes) (e : group_stands s ≡ false) where
  within_stop : (most : ℕ) → groups_within most s ≡ []
  within_stop zero = refl
  within_stop (suc most) = ap (λ (b : Bool). cond b (group_in s ∷ groups_within most (after_group s)) []) e

  after_stop : (most : ℕ) → after_groups most s ≡ s
  after_stop zero = refl
  after_stop (suc most) = ap (λ (b : Bool). cond b (after_groups most (after_group s)) s) e

-- as many as bytes are enough
within_same : (m n : ℕ) (s : Bytes) → length s ≤ m → length s ≤ n → groups_within m s ≡ groups_within n s
within_same zero n s h g = sym (within_stop s (no_group_lem s (omega arith)) n)
within_same (suc m) zero s h g = within_stop s (no_group_lem s (omega arith)) (suc m)
within_same (suc m) (suc n) s h g =
    let l = group_shorter s in
    ap (λ (r : List Group). cond (group_stands s) (group_in s ∷ r) []) (within_same m n (after_group s) (omega arith) (omega arith))

after_same : (m n : ℕ) (s : Bytes) → length s ≤ m → length s ≤ n → after_groups m s ≡ after_groups n s
after_same zero n s h g = sym (after_stop s (no_group_lem s (omega arith)) n)
after_same (suc m) zero s h g = after_stop s (no_group_lem s (omega arith)) (suc m)
after_same (suc m) (suc n) s h g =
    let l = group_shorter s in
    ap (λ (r : Bytes). cond (group_stands s) r s) (after_same m n (after_group s) (omega arith) (omega arith))

pub groups_within_lem : (most : ℕ) (s : Bytes) → length s ≤ most → groups_within most s ≡ groups_in s
groups_within_lem most s h = within_same most (length s) s h (omega arith)

pub rest_within : (most : ℕ) (s : Bytes) → length s ≤ most → after_groups most s ≡ rest_in s
rest_within most s h = after_same most (length s) s h (omega arith)

-- ── all of them ──

module _ (s : Bytes) (e : group_stands s ≡ true) where
  pub groups_turn : groups_in s ≡ group_in s ∷ groups_in (after_group s)
  groups_turn =
      let l = group_shorter s in
      sym (groups_within_lem (suc (length s)) s (omega arith))
      ∙ ap (λ (b : Bool). cond b (group_in s ∷ groups_within (length s) (after_group s)) []) e
      ∙ ap (λ (r : List Group). group_in s ∷ r) (groups_within_lem (length s) (after_group s) (omega arith))

  pub rest_turn : rest_in s ≡ rest_in (after_group s)
  rest_turn =
      let l = group_shorter s in
      sym (rest_within (suc (length s)) s (omega arith))
      ∙ ap (λ (b : Bool). cond b (after_groups (length s) (after_group s)) s) e
      ∙ rest_within (length s) (after_group s) (omega arith)

module _ (s : Bytes) (e : group_stands s ≡ false) where
  pub groups_stop : groups_in s ≡ []
  groups_stop = within_stop s e (length s)

  pub rest_stop : rest_in s ≡ s
  rest_stop = after_stop s e (length s)
