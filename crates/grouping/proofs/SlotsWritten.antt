-- The slots of a group as they are written: each by itself (`block_slot`), and group after group (`Ungrouping`, a loop's invariant, with its
-- start, a turn and its end). Assumes nothing.
use mathlib.Core.Path.{◌≡◌, refl, sym, ap, ◌∙◌}
use mathlib.Core.List.{List, [], ◌∷◌, ◌++◌, flatten, map-append}
use mathlib.Core.Bool.{Bool, true, false}
use Prim.Native.Nat.{ℕ, ◌+◌, ◌-◌, ◌*◌, ◌<◌, ◌≤◌}
use native.Mathlib.Omega.{arith}
use lib.ListN.{length, get_or, drop, length-append, length-drop, length-map, drop_of_length-le, get_or-map}
use Rattle.numbers.specs.Bytes.{Bytes, at32, put}
use Rattle.std.specs.List.{list_all}
use Rattle.numbers.proofs.Bools.{and_0, and_1}
use Rattle.numbers.proofs.Every.{every_each}
use Rattle.numbers.proofs.Lists.{flat_append, flat_none}
use Rattle.numbers.proofs.Put.{put_put, put_length, put_none}
use Rattle.slots.specs.Tuples.{tuple_size, row_at}
use Rattle.slots.specs.Slots.{Slot, slot_size, slot_bytes, is_slot}
use Rattle.slots.proofs.RoundTrip.{encoded_length}
use Rattle.pages.specs.Pages.{pieces}
use Rattle.pages.proofs.RoundTrip.{written_length}
use Rattle.runs.specs.Runs.{onward}
use Rattle.runs.proofs.RunNames.{name_at}
use Rattle.groups.specs.Groups.{Group, line_size, slots_in, ungrouped, is_group}
use Rattle.groups.specs.Forms.{group_stands, group_in, groups_in, slots_of_form, keeps_form}
use Rattle.groups.proofs.Glue.{run_length}
use Rattle.groups.proofs.RunSlots.{run_at_lem, run_within}
use Rattle.groups.proofs.GroupTests.{Good, good}
use Rattle.groups.proofs.LineBytes.{line_at}
use Rattle.groups.proofs.GroupFields.{rest_in, groups_turn, rest_turn, rest_stop}
use Rattle.groups.proofs.GroupBytes.{group_length}
use Rattle.groups.proofs.FormInverse.{kept}
use Rattle.forms.specs.declared.Block.{Block}
use Rattle.forms.specs.Blocks.{block_here, end_of, group_of}
use Rattle.forms.proofs.BlockAt.{block_group, block_end, block_after}
use Rattle.forms.proofs.GroupsInBlocks.{group_size, group_named}
use Rattle.grouping.proofs.FirstRun.{no_slot}

-- ── the slots of a group ──

module _ (s : Bytes) (x : Block) where
  -- slot k
  abbrev pub slot_in : ℕ → Slot
  slot_in k = record { line = at32 s (x.lines + line_size * k); name = onward k (row_at s x.name) }

  pub block_many : length (pieces (slots_in (group_of s x))) ≡ x.count
  block_many =
      length-map (slots_in (group_of s x)) slot_bytes
      ∙ run_length (row_at s x.name) (group_of s x).lines
      ∙ group_size s x

  module _ (e : is_group (group_of s x) ≡ true) where
    v : Good (group_of s x)
    v = good (group_of s x) e

    -- no offset passes what the code can write
    pub block_offset : at32 s (x.name.at + tuple_size * x.name.count - 4) + x.count ≤ 2147483647
    block_offset =
        let o = name_at s x.name.at x.name.count (group_named s x e).named in
        omega (arith, run_within (row_at s x.name) (group_of s x).lines o.0 v.long v.slots, group_size s x)

    module _ (k : ℕ) (h : k < x.count) where
      within : k < length (group_of s x).lines
      within = omega (arith, group_size s x)

      slot_is : get_or (slots_in (group_of s x)) k no_slot ≡ slot_in k
      slot_is =
          run_at_lem (row_at s x.name) (group_of s x).lines k no_slot within
          ∙ ap (λ (n : ℕ). record { line = n; name = onward k (row_at s x.name) }) (line_at s x.lines x.count k h)

      pub block_slot : get_or (pieces (slots_in (group_of s x))) k (slot_bytes no_slot) ≡ slot_bytes (slot_in k)
      block_slot = get_or-map slot_bytes (slots_in (group_of s x)) k no_slot ∙ ap slot_bytes slot_is

      pub block_long : length (slot_bytes (slot_in k)) ≡ slot_size
      block_long =
          let m : k < length (slots_in (group_of s x)) = omega (arith, within, run_length (row_at s x.name) (group_of s x).lines) in
          encoded_length (slot_in k) (ap is_slot (sym slot_is) ∙ every_each is_slot (slots_in (group_of s x)) k no_slot m v.slots)

-- ── group after group ──

-- the groups before `at` were written as i slots to o, which was o₀; the next one stands at `at`
pub record Ungrouping (s o₀ o : Bytes) (i at : ℕ) : Type 0 where
  pub few : at ≤ length s
  pub ended : rest_in (drop at s) ≡ []
  pub sound : list_all is_group (groups_in (drop at s)) ≡ true
  pub count : i + length (ungrouped (groups_in (drop at s))) ≡ length (slots_of_form s)
  pub room : length o ≡ length o₀
  pub stand : put o (slot_size * i) (flatten (pieces (ungrouped (groups_in (drop at s))))) ≡ put o₀ 0 (flatten (pieces (slots_of_form s)))

pub ungrouping_first : (s o : Bytes) → keeps_form s ≡ true → Ungrouping s o o 0 0
ungrouping_first s o e =
    let v = kept s e in
    record { few = omega arith; ended = v.ended; sound = v.good; count = omega arith; room = refl; stand = refl }

module _ {s o₀ o : Bytes} {i at : ℕ} (v : Ungrouping s o₀ o i at) where
  pub ungrouping_end : length s ≤ at → o ≡ put o₀ 0 (flatten (pieces (slots_of_form s)))
  ungrouping_end h =
      put_none o (slot_size * i)
      ∙ ap (put o (slot_size * i)) (sym (ap (λ (t : Bytes). flatten (pieces (ungrouped (groups_in t)))) (drop_of_length-le s {i = at} h) ∙ flat_none))
      ∙ v.stand

  module _ (h : at < length s) where
    pub group_there : group_stands (drop at s) ≡ true
    group_there = by (group_stands (drop at s)) refl
      where
        by : (b : Bool) → group_stands (drop at s) ≡ b → b ≡ true
        by true e = refl
        by false e = absurd (let z = ap length (sym (rest_stop (drop at s) e) ∙ v.ended) in omega (arith, length-drop at s))

    -- the group that stands there, as the code has it
    module _ (x : Block) (f : x ≡ block_here s at) where
      abbrev g : Group
      g = group_of s x

      abbrev left : List Group
      left = groups_in (drop (end_of x) s)

      next : groups_in (drop at s) ≡ group_of s x ∷ groups_in (drop (end_of x) s)
      next =
          groups_turn (drop at s) group_there
          ∙ sym (λ j. block_group s at group_there j ∷ groups_in (block_after s at group_there j))
          ∙ ap (λ (y : Block). group_of s y ∷ groups_in (drop (end_of y) s)) (sym f)

      all : list_all is_group (group_of s x ∷ groups_in (drop (end_of x) s)) ≡ true
      all = sym (ap (list_all is_group) next) ∙ v.sound

      pub group_sound : is_group (group_of s x) ≡ true
      group_sound = and_0 (is_group g) (list_all is_group left) all

      long : length (slots_in (group_of s x)) ≡ x.count
      long = run_length g.first g.lines ∙ group_size s x

      pub group_further : at < end_of x
      group_further = omega (arith, ap end_of f, block_end s at group_there, group_length (group_in (drop at s)))

      counted : i + x.count + length (ungrouped left) ≡ length (slots_of_form s)
      counted = omega (arith, v.count, long, ap (λ (l : List Group). length (ungrouped l)) next, length-append (slots_in g) (ungrouped left))

      module _ (within : slot_size * length (slots_of_form s) ≤ length o₀) where
        pub group_fits : slot_size * (i + x.count) ≤ length o
        group_fits = omega (arith, v.room, counted)

        pub ungrouping_on : (o' : Bytes) → o' ≡ put o (slot_size * i) (flatten (pieces (slots_in (group_of s x)))) → end_of x ≤ length s
            → Ungrouping s o₀ o' (i + x.count) (end_of x)
        ungrouping_on o' e m =
            let w = flatten (pieces (slots_in g)) in
            let rest = flatten (pieces (ungrouped left)) in
            let fits = group_fits in
            let n : length w ≡ slot_size * x.count = written_length (slots_in g) (good g group_sound).slots ∙ ap (λ (k : ℕ). slot_size * k) long in
            let q : slot_size * (i + x.count) ≡ slot_size * i + length w = omega arith in
            let both : flatten (pieces (ungrouped (groups_in (drop at s)))) ≡ w ++ rest =
            ap (λ (l : List Group). flatten (pieces (ungrouped l))) next
            ∙ ap flatten (map-append slot_bytes (slots_in g) (ungrouped left))
            ∙ flat_append (pieces (slots_in g)) (pieces (ungrouped left)) in
            record {
              few = m;
              ended = ap (λ (t : Bytes). rest_in t) (ap (λ (y : Block). drop (end_of y) s) f ∙ block_after s at group_there) ∙ sym (rest_turn (drop at s) group_there) ∙ v.ended;
              sound = and_1 (is_group g) (list_all is_group left) all;
              count = counted;
              room = ap length e ∙ put_length o (slot_size * i) (omega arith) w (omega arith) ∙ v.room;
              stand =
                  (λ j. put (e j) (q j) rest)
                  ∙ put_put o (slot_size * i) (omega arith) w rest
                  ∙ ap (put o (slot_size * i)) (sym both)
                  ∙ v.stand;
            }
