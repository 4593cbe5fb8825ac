-- The change that an edit chooses is the right one: of a name within a group (`chosen_inside`) or after one, or before all (`chosen_after`), and of a
-- name that the form has (`chosen_out`); and that the form has a name (`is_here_lem`, `is_present`). Assumes nothing.
use Rattle.std.proofs.lemmas.List.Folds.{list_all-append}
use mathlib.Core.Path.{◌≡◌, refl, ◌∙◌, sym, ap, subst}
use mathlib.Core.Logic.{◌⊎◌, inl, inr}
use mathlib.Core.List.{List, [], ◌∷◌, ◌++◌, map, append_assoc, append-nil}
use mathlib.Core.Bool.{Bool, true, false, cond, not, ◌&&◌}
use Prim.Native.Nat.{ℕ, ◌+◌, ◌-◌, ◌*◌, ◌<◌, ◌≤◌}
use native.Mathlib.Omega.{arith}
use native.Mathlib.Decide.{dec_lt}
use borrow.Author.Tests.{lt-ltb, le-ltb, ltb-true, ne_eqb}
use lib.Dec.{eqb, ltb}
use lib.ListN.{length, take, drop, length-append}
use lib.Seq.{take_at, drop_at}
use Rattle.names.specs.Ordering.{Row, compare_rows, Rising}
use Rattle.std.specs.Ordering.{is_eq}
use Rattle.std.specs.declared.cmp.Ordering.{Ordering}
use Rattle.std.specs.declared.cmp.Ordering.TheVariants.{Less, Equal, Greater}
use Rattle.names.specs.Names.{is_name}
use Rattle.names.proofs.Laws.{same_row}
use Rattle.numbers.specs.Bytes.{Bytes, Octets, at32}
use Rattle.std.specs.List.{list_all}
use Rattle.numbers.proofs.Bools.{yes_no, and_0, and_1}
use Rattle.slots.specs.declared.Span.{Span}
use Rattle.slots.specs.Tuples.{tuple_size, row_at}
use Rattle.slots.specs.Slots.{Slot, head_size, name_of, slot_of, line_of}
use Rattle.slots.proofs.RoundTrip.{kept, name_long}
use Rattle.slots.proofs.TuplesInBytes.{length_tuples_at}
use Rattle.pages.specs.Pages.{name_in}
use Rattle.pages.specs.Places.{has}
use Rattle.fields.specs.Fields.{longest_content}
use Rattle.runs.specs.Runs.{onward, is_next}
use Rattle.runs.specs.Beside.{beside_of}
use Rattle.runs.specs.declared.Stand.TheVariants.{At, Beyond}
use Rattle.runs.proofs.RunNames.{name_at}
use Rattle.edits.specs.Edits.{placed, without}
use Rattle.groups.specs.Groups.{Group, size, line_size, slots_in, ungrouped, alone, joined, grouped, name_after, longest, is_group}
use Rattle.groups.specs.Forms.{group_bytes, form_bytes, groups_in, slots_of_form, group_stands}
use Rattle.groups.proofs.Glue.{same, glue, glue_none, glue_front, glue_joins, glue_apart, run_length, ungrouped_append}
use Rattle.groups.proofs.GroupTests.{have_slots}
use Rattle.groups.proofs.FormInverse.{form_none, form_append, bytes_back, kept as form_kept}
use Rattle.groups.proofs.FormPages.{Held, held}
use Rattle.forms.specs.declared.Block.{Block}
use Rattle.forms.specs.declared.Place.{Place}
use Rattle.forms.specs.Blocks.{no_block, end_of}
use Rattle.form_changes.specs.declared.Change.{Change}
use Rattle.form_changes.specs.Changes.{Fits, Given, changed}
use Rattle.form_edits.specs.declared.Met.{Met}
use Rattle.form_edits.specs.declared.Met.TheVariants.{Here, Inside, After}
use Rattle.form_edits.specs.Choices.{group_at, met_by, is_here, met_in, block_by, after_block, precedes_in, goes_on, head_of, split_by, bridge_by, append_by, prepend_by, alone_at, between_by, part_by, close_by, vanish_by}
use Rattle.form_edits.specs.Edits.{Edited, place_in, reached_in, preceded_in, next_in, taken_in, Inserts}
use Rattle.form_edits.proofs.Zipper.{FirstAbove, Preceded, first, second, Reached, Divided, none, some, divides}
use Rattle.form_edits.proofs.EditedGroups.{Cut, inserted_groups, inserted_absent, Stood, groups_over}
use Rattle.form_edits.proofs.Results.{inside, inside_absent, after_joins, after_apart, after_absent, here_present, leaves, alone_goes}
use Rattle.form_edits.proofs.LaidBlocks.{Laid, laid, stands_there, place_within, one_more}
use Rattle.form_edits.proofs.ChangeBytes.{split_bytes, append_bytes, prepend_bytes, bridge_bytes, alone_bytes, part_bytes, close_bytes, vanish_bytes, split_fits, append_fits, prepend_fits, bridge_fits, alone_fits, part_fits, close_fits, vanish_fits, is_given}
use Rattle.form_edits.proofs.Rows.{under_none}
use Rattle.form_edits.proofs.MetNames.{AboveAll, met_after, met_inside, met_here}

-- ── the groups after some ──

-- the block after the groups fs: none, or that of the first of hs
pub data Next (s : Bytes) (fs hs : List Group) (n : Block) : Type 0 where
  last : hs ≡ [] → n ≡ no_block → Next s fs hs n
  next : (h : Group) (ks : List Group) → hs ≡ h ∷ ks → Laid s fs h ks n → Next s fs hs n

module _ (s : Bytes) (k : Octets s) (fs hs : List Group) (e : s ≡ form_bytes (fs ++ hs)) (v : list_all is_group hs ≡ true) where
  abbrev p : ℕ
  p = length (form_bytes fs)

  long : length s ≡ p + length (form_bytes hs)
  long = ap length (e ∙ form_append fs hs) ∙ length-append (form_bytes fs) (form_bytes hs)

  pub next_block : Next s fs hs (next_in s (length (form_bytes fs)))
  next_block = go hs refl
    where
      go : (l : List Group) → hs ≡ l → Next s fs hs (next_in s (length (form_bytes fs)))
      go [] q =
          let z : length (form_bytes hs) ≡ 0 = ap (λ (l : List Group). length (form_bytes l)) q ∙ ap length form_none in
          last q (ap (λ (b : Bool). cond b (group_at s p) no_block) (le-ltb p (length s) (omega (arith, long))))
      go (h ∷ ks) q =
          let f : s ≡ form_bytes (fs ++ (h ∷ ks)) = e ∙ ap (λ (l : List Group). form_bytes (fs ++ l)) q in
          let g : is_group h ≡ true = and_0 (is_group h) (list_all is_group ks) (ap (list_all is_group) (sym q) ∙ v) in
          let d = laid s k fs h ks f g in
          let w : p < length s = let m = d.stood.1 in let c = d.start in let n = d.stood.0 in let o = d.deep in omega arith in
          next h ks q (subst (Laid s fs h ks) (sym (ap (λ (b : Bool). cond b (group_at s p) no_block) (lt-ltb p (length s) w))) d)

  -- where there is more, a group stands
  pub next_stands : ltb (length (form_bytes fs)) (length s) ≡ true → (length (form_bytes fs) ≤ length s) × (group_stands (drop (length (form_bytes fs)) s) ≡ true)
  next_stands l = go hs refl
    where
      go : (m : List Group) → hs ≡ m → (length (form_bytes fs) ≤ length s) × (group_stands (drop (length (form_bytes fs)) s) ≡ true)
      go [] q = absurd (let z : length (form_bytes hs) ≡ 0 = ap (λ (l : List Group). length (form_bytes l)) q ∙ ap length form_none in let w = ltb-true p (length s) l in omega (arith, long))
      go (h ∷ ks) q =
          let f : s ≡ form_bytes (fs ++ (h ∷ ks)) = e ∙ ap (λ (l : List Group). form_bytes (fs ++ l)) q in
          let g : is_group h ≡ true = and_0 (is_group h) (list_all is_group ks) (ap (list_all is_group) (sym q) ∙ v) in
          (place_within s k fs h ks f g, stands_there s k fs h ks f g)

  -- the form up to there, and from there on
  pub cut_before : take (length (form_bytes fs)) s ≡ form_bytes fs
  cut_before = ap (take p) (e ∙ form_append fs hs) ∙ take_at (form_bytes fs) (form_bytes hs) p refl

  pub cut_after : drop (length (form_bytes fs)) s ≡ form_bytes hs
  cut_after = ap (drop p) (e ∙ form_append fs hs) ∙ drop_at (form_bytes fs) (form_bytes hs) p refl

  pub cut_within : length (form_bytes fs) ≤ length s
  cut_within = omega (arith, long)

-- names that the test finds the same
is_same_lem : (a b : Row) → same a b ≡ true → a ≡ b
is_same_lem a b e = same_row a b (go (compare_rows a b) e)
  where
    go : (o : Ordering) → is_eq o ≡ true → o ≡ Equal
    go Less e = yes_no e refl
    go Equal e = refl
    go Greater e = yes_no e refl

-- ── a slot before groups ──

module _ (x : Slot) where
  joined_next : (h : Group) (ks : List Group) → is_next x.name h.first ≡ true → joined x (h ∷ ks) ≡ record { first = x.name; lines = x.line ∷ h.lines } ∷ ks
  joined_next h ks e = ap (λ (b : Bool). cond b (record { first = x.name; lines = x.line ∷ h.lines } ∷ ks) (alone x ∷ h ∷ ks)) e

  joined_apart : (h : Group) (ks : List Group) → is_next x.name h.first ≡ false → joined x (h ∷ ks) ≡ alone x ∷ h ∷ ks
  joined_apart h ks e = ap (λ (b : Bool). cond b (record { first = x.name; lines = x.line ∷ h.lines } ∷ ks) (alone x ∷ h ∷ ks)) e

-- such a slot begins the first of the groups
first_of : (x : Slot) (hs : List Group) → (h : Group) × (ks : List Group) × (joined x hs ≡ h ∷ ks) × (h.first ≡ x.name)
first_of x [] = (alone x, [], refl, refl)
first_of x (h ∷ ks) = go (is_next x.name h.first) refl
  where
    go : (b : Bool) → is_next x.name h.first ≡ b → (g : Group) × (l : List Group) × (joined x (h ∷ ks) ≡ g ∷ l) × (g.first ≡ x.name)
    go true e = (record { first = x.name; lines = x.line ∷ h.lines }, ks, joined_next x h ks e, refl)
    go false e = (alone x, h ∷ ks, joined_apart x h ks e, refl)

-- ── an edit ──

module _ (s slot : Bytes) (k : Octets s) (so : Octets slot) (name : Span) (e : Edited s slot name) where
  abbrev x : Row
  x = name_of slot

  v : Held s
  v = held s e.tests

  groups : list_all is_group (groups_in s) ≡ true
  groups = (form_kept s v.form).good

  pub bytes : s ≡ form_bytes (groups_in s)
  bytes = sym (bytes_back s k v.form)

  is_name_lem : is_name (name_of slot) ≡ true
  is_name_lem = (kept slot e.keeps).named

  pub given_named : is_name (row_at slot name) ≡ true
  given_named = ap is_name e.named ∙ is_name_lem

  given_deep : 1 ≤ name.count
  given_deep = let a = name_long (row_at slot name) given_named in let b = length_tuples_at slot name.at name.count in omega arith

  given_long : head_size ≤ length slot
  given_long = let l = (kept slot e.keeps).long in omega arith

  given_low : at32 slot (name.at + tuple_size * name.count - 4) < 2147483648
  given_low = let q = (name_at slot name.at name.count given_named).1 in omega arith

  given_head : (n : ℕ) → line_size * n ≤ longest_content → Given slot (head_of name n)
  given_head n h = is_given slot name e.lies given_deep given_long given_low n h

  module _ (fs : List Group) (g : Group) (hs : List Group) (q : groups_in s ≡ fs ++ (g ∷ hs)) where
    pub form_is : s ≡ form_bytes (fs ++ (g ∷ hs))
    form_is = bytes ∙ ap form_bytes q

    all_groups : list_all is_group fs && list_all is_group (g ∷ hs) ≡ true
    all_groups = sym (list_all-append is_group fs (g ∷ hs)) ∙ ap (list_all is_group) (sym q) ∙ groups

    groups_from : list_all is_group (g ∷ hs) ≡ true
    groups_from = and_1 (list_all is_group fs) (list_all is_group (g ∷ hs)) all_groups

    pub is_group_lem : is_group g ≡ true
    is_group_lem = and_0 (is_group g) (list_all is_group hs) groups_from

    groups_after : list_all is_group hs ≡ true
    groups_after = and_1 (is_group g) (list_all is_group hs) groups_from

    here : Laid s fs g hs (group_at s (length (form_bytes fs)))
    here = laid s k fs g hs form_is is_group_lem

    stood : Stood fs g hs
    stood = record {
      have = ap (list_all _) (sym q) ∙ have_slots (groups_in s) groups;
      long = ap longest (sym q) ∙ (form_kept s v.form).long;
      order = subst (λ (l : List Group). Rising (map name_in (ungrouped l))) q v.order;
    }

    slots_are : slots_of_form s ≡ ungrouped (fs ++ (g ∷ hs))
    slots_are = ap ungrouped q

    pub few : size g ≤ 256
    few =
        let a = ap length (slots_are ∙ ungrouped_append fs (g ∷ hs)) ∙ length-append (ungrouped fs) (ungrouped (g ∷ hs)) in
        let b = length-append (slots_in g) (ungrouped hs) in
        let c = run_length g.first g.lines in
        let d = v.few in
        omega arith

    after_is : s ≡ form_bytes ((fs ++ (g ∷ [])) ++ hs)
    after_is = form_is ∙ ap form_bytes (sym (append_assoc fs (g ∷ []) hs))

  -- the group that was reached, and the one before it
  reached : (fs : List Group) (g : Group) → Reached x fs g (place_in s x) → reached_in s x ≡ group_at s (length (form_bytes fs))
  reached fs g r =
      let c = r.count in
      ap (λ (b : Bool). cond b (group_at s (place_in s x).here) no_block) (lt-ltb 0 (place_in s x).groups (omega arith)) ∙ ap (group_at s) r.here

  nowhere_reached : (place_in s x).groups ≡ 0 → reached_in s x ≡ no_block
  nowhere_reached c = ap (λ (b : Bool). cond b (group_at s (place_in s x).here) no_block) (le-ltb 0 (place_in s x).groups (omega arith))

  -- where a name was met in the group that was reached
  pub met_is : (fs : List Group) (g : Group) (hs : List Group) (b : Block) → Laid s fs g hs b → met_in s b x ≡ met_by (beside_of g.first x) (size g)
  met_is fs g hs b l =
      let d = l.deep in
      ap (λ (c : Bool). cond c (After false) (met_by (beside_of (row_at s b.name) x) b.count)) (ne_eqb b.name.count 0 (λ z. omega arith))
      ∙ (λ j. met_by (beside_of (l.first j) x) (l.count j))

  -- ── what was found ──

  pub data Found (b : Block) : Type 0 where
    before_all : groups_in s ≡ [] ++ groups_in s → b ≡ no_block → FirstAbove x (groups_in s) → Found b
    at_group : (fs : List Group) (g : Group) (hs : List Group) → groups_in s ≡ fs ++ (g ∷ hs) → Laid s fs g hs b → Reached x fs g (place_in s x) → FirstAbove x hs → Found b

  pub found : Found (reached_in s x)
  found = go (divides x (groups_in s))
    where
      go : Divided x (groups_in s) (place_in s x) → Found (reached_in s x)
      go (none c a) = before_all refl (nowhere_reached c) a
      go (some fs g hs q r a) = at_group fs g hs q (subst (Laid s fs g hs) (sym (reached fs g r)) (here fs g hs q)) r a

  -- ── insert ──

  -- within a group
  pub chosen_inside : (b : Block) → Found b → (j : ℕ) → met_in s b x ≡ Inside j → Inserts s slot (split_by b j name)
  chosen_inside b (before_all q n a) j m = absurd (nothing (ap (λ (c : Block). met_in s c x) (sym n) ∙ m))
    where
      nothing : ¬ (After false ≡ Inside j)
      nothing e = let z : ◌≡◌ {A = ℕ} 0 1 = cc in omega arith
  chosen_inside b (at_group fs g hs q l r a) j m = go (met_inside g x l.named r.low j (sym (met_is fs g hs b l) ∙ m))
    where
      go : ((i : ℕ) × (beside_of g.first x ≡ Beyond i) × (i + 1 ≡ j) × (i + 1 < size g)) → Inserts s slot (split_by b j name)
      go (i, t, n, h) =
          let c = l.count in
          let w = stood fs g hs q in
          subst (λ (z : ℕ). Inserts s slot (split_by b z name)) n
          (record {
            absent = ap (λ (y : List Slot). has x (map name_in y)) (slots_are fs g hs q) ∙ inside_absent w l.named x a i t h;
            fits = split_fits s l (let f = few fs g hs q in omega arith) name (i + 1) (omega arith);
            stands = given_head 1 (omega arith);
            bytes =
                split_bytes s slot k name e.named l (i + 1) (omega arith) (omega arith)
                ∙ ap form_bytes (sym (ap (λ (y : List Slot). grouped (placed (slot_of slot) y)) (slots_are fs g hs q) ∙ inside w l.named x a i t h (slot_of slot) refl));
          })

  -- ── after a group, or before all ──

  -- the group after is none, or begins with the next name, or not
  precedes_none : (n : Block) → n ≡ no_block → precedes_in s x n ≡ false
  precedes_none n z = ap (precedes_in s x) z

  precedes_is : (fs : List Group) (h : Group) (ks : List Group) (n : Block) → Laid s fs h ks n → precedes_in s x n ≡ is_next x h.first
  precedes_is fs h ks n l =
      let d = l.long in
      ap (λ (c : Bool). cond c false (is_next x (row_at s n.name))) (ne_eqb n.count 0 (λ z. omega arith)) ∙ ap (is_next x) l.first

  -- a group of hs has at most as many slots as a page
  pub few_after : (fs hs : List Group) → groups_in s ≡ fs ++ hs → (h : Group) (ks : List Group) → hs ≡ h ∷ ks → size h ≤ 256
  few_after fs hs q h ks z = few fs h ks (q ∙ ap (λ (l : List Group). fs ++ l) z)

  -- it does not go on with the group before
  module _ (fs hs : List Group) (q : groups_in s ≡ fs ++ hs) (v' : list_all is_group hs ≡ true) (absent : has x (map name_in (slots_of_form s)) ≡ false) (is : grouped (placed (slot_of slot) (slots_of_form s)) ≡ fs ++ joined (slot_of slot) hs) where
    abbrev end : ℕ
    end = length (form_bytes fs)

    whole : s ≡ form_bytes (fs ++ hs)
    whole = bytes ∙ ap form_bytes q

    spread_alone : joined (slot_of slot) hs ≡ alone (slot_of slot) ∷ hs → Inserts s slot (alone_at end name)
    spread_alone j = record {
      absent = absent;
      fits = alone_fits s name end (cut_within s k fs hs whole v');
      stands = given_head 1 (omega arith);
      bytes = alone_bytes s slot k name e.named fs hs end (cut_before s k fs hs whole v') (cut_after s k fs hs whole v') ∙ ap form_bytes (sym (is ∙ ap (λ (l : List Group). fs ++ l) j));
    }

    spread_next : (h : Group) (ks : List Group) (n : Block) → hs ≡ h ∷ ks → Laid s fs h ks n → is_next x h.first ≡ true → Inserts s slot (prepend_by n name)
    spread_next h ks n z l t = record {
      absent = absent;
      fits = prepend_fits s l (let f = few_after fs hs q h ks z in let c = l.count in omega arith) name;
      stands = given_head (1 + n.count) (let f = few_after fs hs q h ks z in let c = l.count in omega arith);
      bytes =
          prepend_bytes s slot k name e.named l
          ∙ ap form_bytes (sym (is ∙ ap (λ (l : List Group). fs ++ joined (slot_of slot) l) z ∙ ap (λ (l : List Group). fs ++ l) (joined_next (slot_of slot) h ks t)));
    }

    spread : (n : Block) → Next s fs hs n → Inserts s slot (cond (precedes_in s x n) (prepend_by n name) (alone_at end name))
    spread n (last z m) =
        subst (λ (b : Bool). Inserts s slot (cond b (prepend_by n name) (alone_at end name))) (sym (precedes_none n m))
        (spread_alone (ap (joined (slot_of slot)) z ∙ ap (λ (l : List Group). alone (slot_of slot) ∷ l) (sym z)))
    spread n (next h ks z l) = go (is_next x h.first) refl
      where
        go : (b : Bool) → is_next x h.first ≡ b → Inserts s slot (cond (precedes_in s x n) (prepend_by n name) (alone_at end name))
        go true t =
            subst (λ (b : Bool). Inserts s slot (cond b (prepend_by n name) (alone_at end name))) (sym (precedes_is fs h ks n l ∙ t)) (spread_next h ks n z l t)
        go false t =
            subst (λ (b : Bool). Inserts s slot (cond b (prepend_by n name) (alone_at end name))) (sym (precedes_is fs h ks n l ∙ t))
            (spread_alone (ap (joined (slot_of slot)) z ∙ joined_apart (slot_of slot) h ks t ∙ ap (λ (l : List Group). alone (slot_of slot) ∷ l) (sym z)))

  -- it goes on with the group before
  module _ (fs : List Group) (g : Group) (hs : List Group) (q : groups_in s ≡ fs ++ (g ∷ hs)) (b : Block) (l : Laid s fs g hs b) (a : FirstAbove x hs) (all : AboveAll g x true) where
    w : Stood fs g hs
    w = stood fs g hs q

    lacks : has x (map name_in (slots_of_form s)) ≡ false
    lacks = ap (λ (y : List Slot). has x (map name_in y)) (slots_are fs g hs q) ∙ after_absent w l.named x a all.under

    gives : (h : Group) (ks : List Group) → joined (slot_of slot) hs ≡ h ∷ ks → h.first ≡ x
        → grouped (placed (slot_of slot) (slots_of_form s)) ≡ fs ++ (record { first = g.first; lines = g.lines ++ h.lines } ∷ ks)
    gives h ks j m =
        ap (λ (y : List Slot). grouped (placed (slot_of slot) y)) (slots_are fs g hs q)
        ∙ after_joins w l.named x a all.under (slot_of slot) refl (all.next refl) h ks j m

    small : b.count ≤ 256
    small = let f = few fs g hs q in let c = l.count in omega arith

    gather_alone : joined (slot_of slot) hs ≡ alone (slot_of slot) ∷ hs → Inserts s slot (append_by b name)
    gather_alone j = record {
      absent = lacks;
      fits = append_fits s l small name;
      stands = given_head 0 (omega arith);
      bytes = append_bytes s slot k name e.named l ∙ ap form_bytes (sym (gives (alone (slot_of slot)) hs j refl));
    }

    gather_next : (h : Group) (ks : List Group) (n : Block) → hs ≡ h ∷ ks → Laid s (fs ++ (g ∷ [])) h ks n → is_next x h.first ≡ true → Inserts s slot (bridge_by b n name)
    gather_next h ks n z m t =
        let j = ap (joined (slot_of slot)) z ∙ joined_next (slot_of slot) h ks t in
        let f = few_after (fs ++ (g ∷ [])) hs (q ∙ sym (append_assoc fs (g ∷ []) hs)) h ks z in
        record {
          absent = lacks;
          fits = bridge_fits s l small m (let c = m.count in omega arith) (let c = m.spaced in let d = l.end in omega arith) name;
          stands = given_head 0 (omega arith);
          bytes = bridge_bytes s slot k name e.named l m ∙ ap form_bytes (sym (gives (record { first = x; lines = line_of slot ∷ h.lines }) ks j refl));
        }

    gather : (n : Block) → Next s (fs ++ (g ∷ [])) hs n → Inserts s slot (cond (precedes_in s x n) (bridge_by b n name) (append_by b name))
    gather n (last z m) =
        subst (λ (c : Bool). Inserts s slot (cond c (bridge_by b n name) (append_by b name))) (sym (precedes_none n m))
        (gather_alone (ap (joined (slot_of slot)) z ∙ ap (λ (l : List Group). alone (slot_of slot) ∷ l) (sym z)))
    gather n (next h ks z m) = go (is_next x h.first) refl
      where
        go : (c : Bool) → is_next x h.first ≡ c → Inserts s slot (cond (precedes_in s x n) (bridge_by b n name) (append_by b name))
        go true t =
            subst (λ (c : Bool). Inserts s slot (cond c (bridge_by b n name) (append_by b name))) (sym (precedes_is (fs ++ (g ∷ [])) h ks n m ∙ t)) (gather_next h ks n z m t)
        go false t =
            subst (λ (c : Bool). Inserts s slot (cond c (bridge_by b n name) (append_by b name))) (sym (precedes_is (fs ++ (g ∷ [])) h ks n m ∙ t))
            (gather_alone (ap (joined (slot_of slot)) z ∙ joined_apart (slot_of slot) h ks t ∙ ap (λ (l : List Group). alone (slot_of slot) ∷ l) (sym z)))

  -- where the groups after the one that was reached begin
  pub data Ends (b : Block) : Type 0 where
    ends : (fs hs : List Group) → groups_in s ≡ fs ++ hs → list_all is_group hs ≡ true → after_block b ≡ length (form_bytes fs) → Ends b

  pub found_ends : (b : Block) → Found b → Ends b
  found_ends b (before_all q n a) = ends [] (groups_in s) refl groups (ap after_block n ∙ sym (ap length form_none))
  found_ends b (at_group fs g hs q l r a) =
      let d = l.long in
      ends (fs ++ (g ∷ [])) hs (q ∙ sym (append_assoc fs (g ∷ []) hs)) (groups_after fs g hs q)
      (ap (λ (c : Bool). cond c 0 (end_of b)) (ne_eqb b.count 0 (λ z. omega arith)) ∙ l.end)

  pub end_stands : (b : Block) → Found b → ltb (after_block b) (length s) ≡ true → (after_block b ≤ length s) × (group_stands (drop (after_block b) s) ≡ true)
  end_stands b f t = go (found_ends b f)
    where
      go : Ends b → (after_block b ≤ length s) × (group_stands (drop (after_block b) s) ≡ true)
      go (ends fs hs q g z) =
          subst (λ (n : ℕ). (n ≤ length s) × (group_stands (drop n s) ≡ true)) (sym z)
          (next_stands s k fs hs (bytes ∙ ap form_bytes q) g (ap (λ (n : ℕ). ltb n (length s)) (sym z) ∙ t))

  pub chosen_after : (b : Block) → Found b → (j : Bool) → met_in s b x ≡ After j
      → Inserts s slot (between_by b (next_in s (after_block b)) (after_block b) j (precedes_in s x (next_in s (after_block b))) name)
  chosen_after b (before_all q n a) j m =
      let gs = groups_in s in
      let z : after_block b ≡ length (form_bytes []) = ap after_block n ∙ sym (ap length form_none) in
      let f : false ≡ j = no_join j (ap (λ (c : Block). met_in s c x) (sym n) ∙ m) in
      let c : Cut x [] gs = record {
        had = refl;
        have = have_slots gs groups;
        long = refl;
        rest = (form_kept s v.form).long;
        under = under_none;
        over = groups_over x gs (have_slots gs groups) v.order a;
      } in
      let i = spread [] gs refl groups (inserted_absent x c) (inserted_groups (slot_of slot) c) (next_in s (length (form_bytes []))) (next_block s k [] gs bytes groups) in
      subst (λ (t : Bool). Inserts s slot (between_by b (next_in s (after_block b)) (after_block b) t (precedes_in s x (next_in s (after_block b))) name)) f
      (subst (λ (p : ℕ). Inserts s slot (cond (precedes_in s x (next_in s p)) (prepend_by (next_in s p) name) (alone_at p name))) (sym z) i)
    where
      no_join : (j : Bool) → After false ≡ After j → false ≡ j
      no_join j e = cc
  chosen_after b (at_group fs g hs q l r a) j m = go j (met_after g x l.named r.low j (sym (met_is fs g hs b l) ∙ m))
    where
      z : after_block b ≡ length (form_bytes (fs ++ (g ∷ [])))
      z = let d = l.long in ap (λ (c : Bool). cond c 0 (end_of b)) (ne_eqb b.count 0 (λ t. omega arith)) ∙ l.end

      n : Next s (fs ++ (g ∷ [])) hs (next_in s (after_block b))
      n = subst (λ (p : ℕ). Next s (fs ++ (g ∷ [])) hs (next_in s p)) (sym z) (next_block s k (fs ++ (g ∷ [])) hs (after_is fs g hs q) (groups_after fs g hs q))

      split_q : groups_in s ≡ (fs ++ (g ∷ [])) ++ hs
      split_q = q ∙ sym (append_assoc fs (g ∷ []) hs)

      apart_gives : AboveAll g x false → grouped (placed (slot_of slot) (slots_of_form s)) ≡ (fs ++ (g ∷ [])) ++ joined (slot_of slot) hs
      apart_gives all = finish (first_of (slot_of slot) hs)
        where
          finish : ((h : Group) × (ks : List Group) × (joined (slot_of slot) hs ≡ h ∷ ks) × (h.first ≡ x)) → grouped (placed (slot_of slot) (slots_of_form s)) ≡ (fs ++ (g ∷ [])) ++ joined (slot_of slot) hs
          finish (h, ks, t, u) =
              ap (λ (y : List Slot). grouped (placed (slot_of slot) y)) (slots_are fs g hs q)
              ∙ after_apart (stood fs g hs q) l.named x a all.under (slot_of slot) refl (all.other refl) h ks t u
              ∙ ap (λ (y : List Group). fs ++ (g ∷ y)) (sym t)
              ∙ sym (append_assoc fs (g ∷ []) (joined (slot_of slot) hs))

      go : (j : Bool) → AboveAll g x j → Inserts s slot (between_by b (next_in s (after_block b)) (after_block b) j (precedes_in s x (next_in s (after_block b))) name)
      go true all = gather fs g hs q b l a all (next_in s (after_block b)) n
      go false all =
          let lack = ap (λ (y : List Slot). has x (map name_in y)) (slots_are fs g hs q) ∙ after_absent (stood fs g hs q) l.named x a all.under in
          let i = spread (fs ++ (g ∷ [])) hs split_q (groups_after fs g hs q) lack (apart_gives all) (next_in s (after_block b)) n in
          subst (λ (p : ℕ). Inserts s slot (cond (precedes_in s x (next_in s (after_block b))) (prepend_by (next_in s (after_block b)) name) (alone_at p name))) (sym z) i

  -- ── remove ──

  -- a name that the form has
  pub is_here_lem : (b : Block) → Found b → (i : ℕ) → met_in s b x ≡ Here i → has x (map name_in (slots_of_form s)) ≡ true
  is_here_lem b (before_all q n a) i m = absurd (nothing (ap (λ (c : Block). met_in s c x) (sym n) ∙ m))
    where
      nothing : ¬ (After false ≡ Here i)
      nothing e = let z : ◌≡◌ {A = ℕ} 0 1 = cc in omega arith
  is_here_lem b (at_group fs g hs q l r a) i m =
      let h = met_here g x l.named r.low i (sym (met_is fs g hs b l) ∙ m) in
      ap (λ (y : List Slot). has x (map name_in y)) (slots_are fs g hs q) ∙ here_present (stood fs g hs q) l.named x a i h.0 h.1

  pub is_present : (b : Block) → Found b → is_here (met_in s b x) ≡ true → has x (map name_in (slots_of_form s)) ≡ true
  is_present b f h = go (met_in s b x) refl h
    where
      go : (m : Met) → met_in s b x ≡ m → is_here m ≡ true → has x (map name_in (slots_of_form s)) ≡ true
      go (Here i) e h = is_here_lem b f i e
      go (Inside i) e h = yes_no h refl
      go (After j) e h = yes_no h refl

  -- what a change makes of the form without the name
  pub record Removes (c : Change) : Type 0 where
    pub fits : Fits s c
    pub bytes : changed s [] c ≡ form_bytes (grouped (without x (slots_of_form s)))

  -- the groups before and after the only one of its group
  module _ (fs : List Group) (g : Group) (hs : List Group) (q : groups_in s ≡ fs ++ (g ∷ hs)) (b : Block) (l : Laid s fs g hs b) (is : grouped (without x (slots_of_form s)) ≡ glue fs hs) where
    vanish : glue fs hs ≡ fs ++ hs → Removes (vanish_by b)
    vanish z = record {
      fits = vanish_fits s l (let f = few fs g hs q in let c = l.count in omega arith);
      bytes = vanish_bytes s slot k name e.named l ∙ ap form_bytes (sym (is ∙ z));
    }

    -- the group before
    pub precedes_by : (p : Place) → p.groups ≡ length fs + 1 → Preceded fs p.before → (f : Block) → f ≡ block_by s (ltb 1 p.groups) p.before
        → ((fs ≡ []) × (f ≡ no_block)) ⊎ ((es : List Group) × (d : Group) × (fs ≡ es ++ (d ∷ [])) × Laid s es d (g ∷ hs) f)
    precedes_by p c (first z) f t =
        inl (z, t ∙ ap (λ (b : Bool). cond b (group_at s p.before) no_block) (le-ltb 1 p.groups (let n = ap length z in omega arith)))
    precedes_by p c (second es d z n) f t =
        let m = ap length z ∙ length-append es (d ∷ []) in
        let u = t ∙ ap (λ (b : Bool). cond b (group_at s p.before) no_block) (lt-ltb 1 p.groups (omega arith)) ∙ ap (group_at s) n in
        inr (es, d, z, subst (Laid s es d (g ∷ hs)) (sym u) (here es d (g ∷ hs) (q ∙ ap (λ (y : List Group). y ++ (g ∷ hs)) z ∙ append_assoc es (d ∷ []) (g ∷ hs))))

    goes_none : (f n : Block) → f ≡ no_block → goes_on s f n ≡ false
    goes_none f n z = ap (λ (y : Block). goes_on s y n) z

    goes_last : (f n : Block) → n ≡ no_block → goes_on s f n ≡ false
    goes_last f n z = ap (goes_on s f) z ∙ go (eqb f.count 0)
      where
        go : (c : Bool) → cond c false false ≡ false
        go true = refl
        go false = refl

    goes_is : (es : List Group) (d : Group) (ds : List Group) (f : Block) → Laid s es d ds f → (ts : List Group) (h : Group) (ks : List Group) (n : Block) → Laid s ts h ks n
        → goes_on s f n ≡ same (name_after d) h.first
    goes_is es d ds f u ts h ks n w =
        let p = u.long in
        let r = w.long in
        let t = is_eq (compare_rows (onward f.count (row_at s f.name)) (row_at s n.name)) in
        ap (λ (c : Bool). cond c false (cond (eqb n.count 0) false t)) (ne_eqb f.count 0 (λ z. omega arith))
        ∙ ap (λ (c : Bool). cond c false t) (ne_eqb n.count 0 (λ z. omega arith))
        ∙ (λ j. same (onward (u.count j) (u.first j)) (w.first j))

    out : (f : Block) → ((fs ≡ []) × (f ≡ no_block)) ⊎ ((es : List Group) × (d : Group) × (fs ≡ es ++ (d ∷ [])) × Laid s es d (g ∷ hs) f)
        → (n : Block) → Next s (fs ++ (g ∷ [])) hs n → Removes (cond (goes_on s f n) (close_by f n) (vanish_by b))
    out f (inl (z, t)) n w =
        subst (λ (c : Bool). Removes (cond c (close_by f n) (vanish_by b))) (sym (goes_none f n t))
        (vanish (ap (λ (y : List Group). glue y hs) z ∙ ap (λ (y : List Group). y ++ hs) (sym z)))
    out f (inr (es, d, z, u)) n (last t m) =
        subst (λ (c : Bool). Removes (cond c (close_by f n) (vanish_by b))) (sym (goes_last f n m))
        (vanish (ap (glue fs) t ∙ glue_none fs ∙ sym (append-nil fs) ∙ ap (λ (y : List Group). fs ++ y) (sym t)))
    out f (inr (es, d, z, u)) n (next h ks t w) = go (same (name_after d) h.first) refl
      where
        back : glue fs hs ≡ es ++ glue (d ∷ []) (h ∷ ks)
        back = (λ j. glue (z j) (t j)) ∙ glue_front es d (h ∷ ks)

        go : (c : Bool) → same (name_after d) h.first ≡ c → Removes (cond (goes_on s f n) (close_by f n) (vanish_by b))
        go true y =
            subst (λ (c : Bool). Removes (cond c (close_by f n) (vanish_by b))) (sym (goes_is es d (g ∷ hs) f u (fs ++ (g ∷ [])) h ks n w ∙ y))
            (record {
              fits =
                  let a = few es d (g ∷ hs) (q ∙ ap (λ (y : List Group). y ++ (g ∷ hs)) z ∙ append_assoc es (d ∷ []) (g ∷ hs)) in
                  let c = few_after (fs ++ (g ∷ [])) hs (q ∙ sym (append_assoc fs (g ∷ []) hs)) h ks t in
                  close_fits s u (let m = u.count in omega arith) w (let m = w.count in omega arith)
                  (let i = w.spaced in let o = u.end in let m = one_more fs g in let r = ap length m ∙ length-append (form_bytes fs) (group_bytes g) in let y = ap (λ (l : List Group). length (form_bytes l)) z in omega arith);
              bytes =
                  close_bytes s slot k name e.named u w
                  ∙ ap form_bytes (sym (is ∙ back ∙ ap (λ (y : List Group). es ++ y) (glue_joins d h ks (is_same_lem (name_after d) h.first y))));
            })
        go false y =
            subst (λ (c : Bool). Removes (cond c (close_by f n) (vanish_by b))) (sym (goes_is es d (g ∷ hs) f u (fs ++ (g ∷ [])) h ks n w ∙ y))
            (vanish
            (back
            ∙ ap (λ (y : List Group). es ++ y) (glue_apart d h ks (ap not y))
            ∙ sym (append_assoc es (d ∷ []) (h ∷ ks))
            ∙ (λ j. sym z j ++ sym t j)))

  pub chosen_out : (b : Block) → Found b → (i : ℕ) → met_in s b x ≡ Here i → Removes (taken_in s (preceded_in s x) b i)
  chosen_out b (before_all q n a) i m = absurd (nothing (ap (λ (c : Block). met_in s c x) (sym n) ∙ m))
    where
      nothing : ¬ (After false ≡ Here i)
      nothing e = let z : ◌≡◌ {A = ℕ} 0 1 = cc in omega arith
  chosen_out b (at_group fs g hs q l r a) i m = go (dec_lt 1 b.count)
    where
      h : (beside_of g.first x ≡ At i) × (i < size g)
      h = met_here g x l.named r.low i (sym (met_is fs g hs b l) ∙ m)

      w : Stood fs g hs
      w = stood fs g hs q

      rest : Next s (fs ++ (g ∷ [])) hs (next_in s (end_of b))
      rest = subst (λ (p : ℕ). Next s (fs ++ (g ∷ [])) hs (next_in s p)) (sym l.end) (next_block s k (fs ++ (g ∷ [])) hs (after_is fs g hs q) (groups_after fs g hs q))

      several : 1 < b.count → Removes (taken_in s (preceded_in s x) b i)
      several t =
          let c = l.count in
          subst (λ (y : Bool). Removes (cond y (part_by b i) (cond (goes_on s (preceded_in s x) (next_in s (end_of b))) (close_by (preceded_in s x) (next_in s (end_of b))) (vanish_by b)))) (sym (lt-ltb 1 b.count t))
          (record {
            fits = part_fits s l (let f = few fs g hs q in omega arith) i (let y = h.1 in omega arith);
            bytes =
                part_bytes s slot k name e.named l i (let y = h.1 in omega arith)
                ∙ ap form_bytes (sym (ap (λ (y : List Slot). grouped (without x y)) (slots_are fs g hs q) ∙ leaves w l.named x a i h.0 h.1 (omega arith)));
          })

      only : ¬ (1 < b.count) → Removes (taken_in s (preceded_in s x) b i)
      only t =
          let c = l.count in
          let o = l.long in
          let is = ap (λ (y : List Slot). grouped (without x y)) (slots_are fs g hs q) ∙ alone_goes w l.named x a i h.0 h.1 (omega arith) in
          subst (λ (y : Bool). Removes (cond y (part_by b i) (cond (goes_on s (preceded_in s x) (next_in s (end_of b))) (close_by (preceded_in s x) (next_in s (end_of b))) (vanish_by b)))) (sym (le-ltb 1 b.count (omega arith)))
          (out fs g hs q b l is (preceded_in s x) (precedes_by fs g hs q b l is (place_in s x) r.count r.before (preceded_in s x) refl) (next_in s (end_of b)) rest)

      go : Dec (1 < b.count) → Removes (taken_in s (preceded_in s x) b i)
      go d = elim d [ yes t ↦ several t | no t ↦ only t ]
