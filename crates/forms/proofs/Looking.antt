-- One look at a form, group by group: what holds while it goes on (`Looking`), at first (`looking_first`), after one group more (`looking_rises`,
-- `looking_falls`), at the end (`looking_end`) and where it is given up (`looking_unstood`, `looking_bad`, `looking_joins`); and what it has told
-- (`looked_all`, `looked_none`; `none_looked`, `some_looked`; `look_passed`, `look_refused`). Assumes nothing.
use mathlib.Core.Path.{◌≡◌, refl, sym, ap, ◌∙◌, subst}
use mathlib.Core.List.{List, [], ◌∷◌}
use mathlib.Core.Bool.{Bool, true, false, cond, ◌&&◌, and-true, and-false, and_assoc}
use Prim.Native.Nat.{ℕ, ◌+◌, ◌*◌, ◌≤◌, ◌<◌}
use native.Mathlib.Omega.{arith}
use borrow.Author.Tests.{ne_eqb}
use lib.ListN.{length, drop, length-append, length-drop, drop_of_length-le}
use Rattle.names.specs.Ordering.{Row, compare_rows, rising}
use Rattle.std.specs.Ordering.{is_lt}
use Rattle.numbers.specs.Bytes.{Bytes}
use Rattle.numbers.proofs.Bools.{never}
use Rattle.std.specs.declared.option.Option.{Option}
use Rattle.std.specs.declared.option.Option.TheVariants.{Some, None}
use Rattle.std.specs.declared.result.Result.{Result}
use Rattle.std.specs.declared.result.Result.TheVariants.{Ok, Err}
use Rattle.std.specs.Option.{ok_or}
use Rattle.std.specs.Result.{result_ok}
use Rattle.answers.specs.declared.Refusal.{Refusal}
use Rattle.answers.specs.declared.Refusal.TheVariants.{Malformed}
use Rattle.std.specs.List.{list_all}
use Rattle.slots.specs.Tuples.{row_at}
use Rattle.slots.proofs.TuplesInBytes.{length_tuples_at}
use Rattle.fields.specs.Fields.{field_head, size_in, nothing}
use Rattle.groups.specs.Groups.{Group, line_size, slots_in, ungrouped, apart, longest, is_group}
use Rattle.groups.specs.Forms.{group_bytes, group_stands, group_in, after_group, groups_in, slots_of_form, keeps_form}
use Rattle.groups.proofs.Glue.{run_length}
use Rattle.groups.proofs.GroupFields.{rest_in, groups_turn, rest_turn, rest_stop}
use Rattle.groups.proofs.FormInverse.{kept}
use Rattle.forms.specs.declared.Block.{Block}
use Rattle.forms.specs.declared.Place.{Place}
use Rattle.forms.specs.declared.Looked.{Looked}
use Rattle.forms.specs.declared.After.TheVariants.{Joins, Falls, Rises}
use Rattle.forms.specs.Blocks.{no_block, after_name, block_here, block_at, end_of, group_of, Stood, Sound, last_name, after_group_of, nowhere, sought, sought_from, all_told, looked}
use Rattle.forms.proofs.BlockAt.{none_told, some_told, block_group, block_end, block_after}
use Rattle.forms.proofs.GroupsInBlocks.{group_size, group_named}
use Rattle.forms.proofs.Seeking.{sought_few}
use Rattle.forms.proofs.NamesAlong.{names_in, group_rising, first_longest, first_rising}

-- what is left of the test of a form after the group g: t is left of its bytes
abbrev keeps_after : Group → Bytes → Bool
keeps_after g t = nothing (rest_in t) && list_all is_group (groups_in t) && longest (g ∷ groups_in t)

-- the groups before `at` were passed, with so many slots, and the last of them is `last`
pub record Looking (s : Bytes) (x : Row) (place : Place) (last : Block) (rises : Bool) (slots at : ℕ) : Type 0 where
  pub within : at ≤ length s
  pub sound : Sound s last
  pub room : line_size * slots ≤ at
  pub few : place.groups ≤ at
  pub keeps : keeps_after (group_of s last) (drop at s) ≡ keeps_form s
  pub order : keeps_form s ≡ true → rises && rising (last_name (group_of s last) ∷ names_in (groups_in (drop at s))) ≡ rising (names_in (groups_in s))
  pub count : slots + length (ungrouped (groups_in (drop at s))) ≡ length (slots_of_form s)
  pub found : sought_from x at place (groups_in (drop at s)) ≡ sought_from x 0 nowhere (groups_in s)

-- ── what it tells ──

module _ (s : Bytes) (x : Row) where
  -- of a form ..
  pub looked_all : keeps_form s ≡ true → Some (all_told s x) ≡ looked s x
  unfolding looked
  looked_all e = sym (ap (λ (b : Bool). cond b (Some (all_told s x)) None) e)

  -- .. and of what is none
  pub looked_none : keeps_form s ≡ false → None ≡ looked s x
  unfolding looked
  looked_none e = sym (ap (λ (b : Bool). cond b (Some (all_told s x)) None) e)

  -- as the code has it
  pub none_looked : None ≡ looked s x → keeps_form s ≡ false
  none_looked q = never (keeps_form s) (λ e. let z : Some (all_told s x) ≡ None = looked_all e ∙ sym q in absurd (let w : ◌≡◌ {A = ℕ} 0 1 = cc in omega arith))

  pub some_looked : {r : Looked} → Some r ≡ looked s x → (keeps_form s ≡ true) × (r ≡ all_told s x)
  some_looked {r} q = by (keeps_form s) refl
    where
      by : (b : Bool) → keeps_form s ≡ b → (keeps_form s ≡ true) × (r ≡ all_told s x)
      by true e = let z : Some r ≡ Some (all_told s x) = q ∙ sym (looked_all e) in (e, cc)
      by false e = let z : Some r ≡ None = q ∙ sym (looked_none e) in absurd (let w : ◌≡◌ {A = ℕ} 0 1 = cc in omega arith)

-- as a call has it that refuses what is no form, by `ok_or`
pub look_passed : {o : Option Looked} {r : Result Looked Refusal} {l : Looked} → o ≡ result_ok r → r ≡ Ok l → Some l ≡ o
look_passed e f = sym (e ∙ ap result_ok f)

pub look_refused : (o : Option Looked) {r : Result Looked Refusal} {y : Refusal} → r ≡ ok_or o Malformed → r ≡ Err y → (None ≡ o) × (y ≡ Malformed)
look_refused None e f = let z : ◌≡◌ {A = Result Looked Refusal} (Err _) (Err Malformed) = sym f ∙ e in (refl, cc)
look_refused (Some l) e f = let z : ◌≡◌ {A = Result Looked Refusal} (Err _) (Ok l) = sym f ∙ e in absurd (let w : ◌≡◌ {A = ℕ} 0 1 = cc in omega arith)

-- how a name comes after a group, by what that asks
joins_told : (c d : Bool) → cond c (cond d Rises Falls) Joins ≡ Joins → c ≡ false
joins_told true true q = absurd (let w : ◌≡◌ {A = ℕ} 0 1 = cc in omega arith)
joins_told true false q = absurd (let w : ◌≡◌ {A = ℕ} 0 1 = cc in omega arith)
joins_told false d q = refl

rises_told : (c d : Bool) → cond c (cond d Rises Falls) Joins ≡ Rises → (c ≡ true) × (d ≡ true)
rises_told true true q = (refl, refl)
rises_told true false q = absurd (let w : ◌≡◌ {A = ℕ} 0 1 = cc in omega arith)
rises_told false d q = absurd (let w : ◌≡◌ {A = ℕ} 0 1 = cc in omega arith)

falls_told : (c d : Bool) → cond c (cond d Rises Falls) Joins ≡ Falls → (c ≡ true) × (d ≡ false)
falls_told true true q = absurd (let w : ◌≡◌ {A = ℕ} 0 1 = cc in omega arith)
falls_told true false q = (refl, refl)
falls_told false d q = absurd (let w : ◌≡◌ {A = ℕ} 0 1 = cc in omega arith)

-- ── at first ──

pub looking_first : (s : Bytes) (x : Row) → Looking s x nowhere no_block true 0 0
unfolding keeps_form
looking_first s x = record {
  within = omega arith;
  sound = ((omega arith, omega arith, omega arith), λ e. refl, λ h. absurd (omega arith));
  room = omega arith;
  few = omega arith;
  keeps = first_longest (nothing (rest_in s)) (groups_in s);
  order = λ e. first_rising (groups_in s) (kept s e).good;
  count = omega arith;
  found = refl;
}

module _ {s : Bytes} {x : Row} {place : Place} {last : Block} {rises : Bool} {slots at : ℕ} (v : Looking s x place last rises slots at) where
  abbrev t : Bytes
  t = drop at s

  abbrev g : Group
  g = group_of s last

  -- ── at the end ──

  pub looking_end : length s ≤ at → Some (record { rises = rises; slots = slots; place = place }) ≡ looked s x
  unfolding rising
  looking_end h =
      let d : t ≡ [] = drop_of_length-le s h in
      let n : groups_in t ≡ [] = ap groups_in d in
      let e : keeps_form s ≡ true = sym v.keeps ∙ (λ i. nothing (rest_in (d i)) && list_all is_group (n i) && longest (g ∷ n i)) in
      let r : rises ≡ rising (names_in (groups_in s)) = sym (and-true rises) ∙ sym (ap (λ (l : List Group). rises && rising (last_name g ∷ names_in l)) n) ∙ v.order e in
      let c : slots ≡ length (slots_of_form s) = let z = ap (λ (l : List Group). length (ungrouped l)) n in let w = v.count in omega arith in
      let f : place ≡ sought_from x 0 nowhere (groups_in s) = sym (ap (sought_from x at place) n) ∙ v.found in
      (λ i. Some (record { rises = r i; slots = c i; place = f i })) ∙ looked_all s x e

  -- ── at a group ──

  -- none stands there
  pub looking_unstood : at < length s → None ≡ block_at s at → None ≡ looked s x
  looking_unstood h z =
      let e = none_told s at z in
      let d = length-drop at s in
      let left : nothing t ≡ false = ne_eqb (length t) 0 (λ q. omega arith) in
      looked_none s x
      (sym v.keeps
      ∙ (λ i. nothing (rest_stop t e i) && list_all is_group (groups_in t) && longest (g ∷ groups_in t))
      ∙ ap (λ (c : Bool). c && list_all is_group (groups_in t) && longest (g ∷ groups_in t)) left)

  module _ {block : Block} (told : Some block ≡ block_at s at) where
    b : block ≡ block_here s at
    b = (some_told s at told).1

    stood : group_stands t ≡ true
    stood = (some_told s at told).0

    abbrev h : Group
    h = group_of s block

    abbrev rest : Bytes
    rest = drop (end_of block) s

    abbrev hs : List Group
    hs = groups_in rest

    says : group_in t ≡ h
    says = sym (ap (group_of s) b ∙ block_group s at stood)

    goes_on_lem : after_group t ≡ rest
    goes_on_lem = sym (ap (λ (y : Block). drop (end_of y) s) b ∙ block_after s at stood)

    along : groups_in t ≡ h ∷ hs
    along = groups_turn t stood ∙ (λ i. says i ∷ groups_in (goes_on_lem i))

    rest_is : rest_in t ≡ rest_in rest
    rest_is = rest_turn t stood ∙ ap rest_in goes_on_lem

    turn : nothing (rest_in rest) && (is_group h && list_all is_group hs) && (apart g h && longest (h ∷ hs)) ≡ keeps_form s
    turn = sym (λ i. nothing (rest_is i) && list_all is_group (along i) && longest (g ∷ along i)) ∙ v.keeps

    -- it ends further on
    lines_is : block.lines ≡ at + field_head + size_in t + after_name
    lines_is = ap (λ (y : Block). y.lines) b

    pub looking_further : at < end_of block
    looking_further = let l = lines_is in omega arith

    -- it is no group
    pub looking_bad : is_group (group_of s block) ≡ false → None ≡ looked s x
    looking_bad f =
        let n = nothing (rest_in rest) in
        let l = apart g h && longest (h ∷ hs) in
        looked_none s x (sym turn ∙ ap (λ (c : Bool). n && (c && list_all is_group hs) && l) f ∙ ap (λ (c : Bool). c && l) (and-false n))

    -- it goes on where the one before ends
    pub looking_joins : after_group_of (group_of s last) (row_at s block.name) ≡ Joins → None ≡ looked s x
    looking_joins f =
        let n = nothing (rest_in rest) && (is_group h && list_all is_group hs) in
        looked_none s x
        (sym turn ∙ ap (λ (c : Bool). n && (c && longest (h ∷ hs))) (joins_told (apart g h) (is_lt (compare_rows (last_name g) h.first)) f) ∙ and-false n)

    -- it is a group after which the look goes on; c is whether it begins above the last name
    module _ (u : Stood s block) (f : is_group (group_of s block) ≡ true) where
      passed : {c : Bool} → (apart g h ≡ true) × (is_lt (compare_rows (last_name g) h.first) ≡ c)
          → Looking s x (sought x at (row_at s block.name) place) block (rises && c) (slots + block.count) (end_of block)
      passed {c} a =
          let w = group_named s block f in
          let lines = lines_is in
          let size = group_size s block in
          let k = v.within in
          let m = v.room in
          let names = rising (last_name h ∷ names_in hs) in
          let end : at + length (group_bytes h) ≡ end_of block =
          ap (λ (y : Group). at + length (group_bytes y)) (sym says) ∙ sym (ap end_of b ∙ block_end s at stood) in
          record {
            within = u.1;
            sound = (u, λ e. absurd (omega (arith, w.long)), λ e. f);
            room = omega arith;
            few = omega (arith, v.few, sought_few x at (row_at s block.name) place);
            keeps = (λ i. nothing (rest_in rest) && (sym f i && list_all is_group hs) && (sym a.0 i && longest (h ∷ hs))) ∙ turn;
            order = λ e.
                and_assoc rises c names
                ∙ ap (λ (d : Bool). rises && (d && names)) (sym a.1)
                ∙ ap (λ (d : Bool). rises && d) (sym (group_rising (last_name g) h (ungrouped hs) (omega (arith, w.long)) (omega (arith, w.deep, length_tuples_at s block.name.at block.name.count))))
                ∙ sym (ap (λ (l : List Group). rises && rising (last_name g ∷ names_in l)) along)
                ∙ v.order e;
            count =
                let n = v.count in
                let p = ap (λ (l : List Group). length (ungrouped l)) along ∙ length-append (slots_in h) (ungrouped hs) in
                omega (arith, run_length h.first h.lines);
            found =
                ap (λ (q : ℕ). sought_from x q (sought x at h.first place) hs) (sym end)
                ∙ sym (ap (sought_from x at place) along)
                ∙ v.found;
          }

      module _ {place' : Place} {q : ℕ} (p : place' ≡ sought x at (row_at s block.name) place) (e : q ≡ end_of block) where
        on : {c d : Bool} → d ≡ rises && c → (apart g h ≡ true) × (is_lt (compare_rows (last_name g) h.first) ≡ c)
            → Looking s x place' block d (slots + block.count) q
        on {d = d} r a =
            let n = slots + block.count in
            subst (λ (y : Place). Looking s x y block d n q) (sym p)
            (subst (λ (y : Bool). Looking s x (sought x at (row_at s block.name) place) block y n q) (sym r)
            (subst (Looking s x (sought x at (row_at s block.name) place) block (rises && _) n) (sym e) (passed a)))

        pub looking_rises : {d : Bool} → after_group_of (group_of s last) (row_at s block.name) ≡ Rises → d ≡ rises → Looking s x place' block d (slots + block.count) q
        looking_rises o r = on (r ∙ sym (and-true rises)) (rises_told (apart g h) (is_lt (compare_rows (last_name g) h.first)) o)

        pub looking_falls : {d : Bool} → after_group_of (group_of s last) (row_at s block.name) ≡ Falls → d ≡ false → Looking s x place' block d (slots + block.count) q
        looking_falls o r = on (r ∙ sym (and-false rises)) (falls_told (apart g h) (is_lt (compare_rows (last_name g) h.first)) o)
