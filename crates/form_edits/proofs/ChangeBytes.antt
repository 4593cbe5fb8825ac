-- What each change makes of a form's bytes, as the form of groups: `split_bytes`, `append_bytes`, `bridge_bytes`, `prepend_bytes`, `alone_bytes`,
-- `part_bytes`, `close_bytes`, `vanish_bytes`; and that it fits (`split_fits` ..), and the given slot (`is_given`). Assumes nothing.
use mathlib.Core.Path.{◌≡◌, refl, ◌∙◌, sym, ap}
use mathlib.Core.List.{List, [], ◌∷◌, ◌++◌, append_assoc, append-nil}
use mathlib.Core.Bool.{Bool, cond}
use Prim.Native.Nat.{ℕ, ◌+◌, ◌-◌, ◌*◌, ◌≤◌, ◌<◌}
use native.Mathlib.Omega.{arith}
use native.Mathlib.Decide.{dec_le}
use borrow.Author.Tests.{eq-eqb, ne_eqb}
use lib.ListN.{length, take, drop, length-drop, length-append}
use lib.Seq.{length-take-le}
use Rattle.names.specs.Ordering.{Row}
use Rattle.numbers.specs.Bytes.{Bytes, Octets, at32, bytes32}
use Rattle.slots.specs.declared.Span.{Span}
use Rattle.slots.specs.Tuples.{tuple_size, row_at, Lies}
use Rattle.slots.specs.Slots.{head_size, line_of, name_of, slot_of}
use Rattle.fields.specs.Fields.{longest_content}
use Rattle.runs.specs.Runs.{onward}
use Rattle.groups.specs.Groups.{Group, size, line_size, alone}
use Rattle.groups.specs.Forms.{line_bytes, group_bytes, form_bytes}
use Rattle.groups.proofs.LineBytes.{lines_none, lines_more, lines_append}
use Rattle.groups.proofs.FormInverse.{form_more, form_append}
use Rattle.forms.specs.declared.Block.{Block}
use Rattle.forms.specs.Blocks.{end_of}
use Rattle.forms.proofs.HeadBytes.{head_lines}
use Rattle.form_changes.specs.declared.Change.{Change}
use Rattle.form_changes.specs.Changes.{head_for, front, back, given, changed, Headed, Fits, Given}
use Rattle.form_changes.proofs.ChangedBytes.{a_head, front_none}
use Rattle.form_edits.specs.Choices.{start_of, head_of, no_head, split_by, bridge_by, append_by, prepend_by, alone_at, part_from, part_by, close_by, vanish_by}
use Rattle.form_edits.proofs.Longest.{piece}
use Rattle.form_edits.proofs.LaidBlocks.{Laid, lines_from, lines_on, recounted, recounted_all}

-- ── groups as heads and line numbers ──

group_for : (g : Group) → 1 ≤ size g → group_bytes g ≡ head_for g.first (size g) ++ line_bytes g.lines
group_for g h = head_lines g ∙ ap (λ (r : Bytes). r ++ line_bytes g.lines) (sym (a_head g.first (size g) h))

piece_bytes : (a : Row) (l : List ℕ) (gs : List Group) → form_bytes (piece a l ++ gs) ≡ head_for a (length l) ++ (line_bytes l ++ form_bytes gs)
piece_bytes a [] gs = ap (λ (r : Bytes). r ++ form_bytes gs) (sym lines_none)
piece_bytes a (x ∷ l) gs =
    form_more (record { first = a; lines = x ∷ l }) gs
    ∙ ap (λ (r : Bytes). r ++ form_bytes gs) (group_for (record { first = a; lines = x ∷ l }) (omega arith))
    ∙ append_assoc (head_for a (length (x ∷ l))) (line_bytes (x ∷ l)) (form_bytes gs)

more_bytes : (g : Group) (gs : List Group) → 1 ≤ size g → form_bytes (g ∷ gs) ≡ head_for g.first (size g) ++ (line_bytes g.lines ++ form_bytes gs)
more_bytes g gs h = form_more g gs ∙ ap (λ (r : Bytes). r ++ form_bytes gs) (group_for g h) ∙ append_assoc (head_for g.first (size g)) (line_bytes g.lines) (form_bytes gs)

one_line : (x : ℕ) → line_bytes (x ∷ []) ≡ bytes32 x
one_line x = lines_more x [] ∙ ap (λ (r : Bytes). bytes32 x ++ r) lines_none ∙ append-nil (bytes32 x)

-- two and two are one, two and one
across : (a b c d : Bytes) → (a ++ b) ++ (c ++ d) ≡ a ++ ((b ++ c) ++ d)
across a b c d = simp append_assoc

-- where the bytes begin that give way, of the first slot of a group and of a later one
pub from_first : (b : Block) (i : ℕ) → i ≡ 0 → part_from b i ≡ start_of b
from_first b i e = ap (λ (z : Bool). cond z (start_of b) (b.lines + line_size * i)) (eq-eqb i 0 e)

pub from_later : (b : Block) (i : ℕ) → 1 ≤ i → part_from b i ≡ b.lines + line_size * i
from_later b i h = ap (λ (z : Bool). cond z (start_of b) (b.lines + line_size * i)) (ne_eqb i 0 (λ e. omega arith))

-- the form of fs and then u stand before, w between and r after, and these three are the form of gs
made : (s : Bytes) (c : Change) (w u r : Bytes) (fs gs : List Group) → front s c ≡ form_bytes fs ++ u → back s c ≡ r → u ++ (w ++ r) ≡ form_bytes gs
    → changed s w c ≡ form_bytes (fs ++ gs)
unfolding changed
made s c w u r fs gs a b e =
    (λ i. a i ++ (w ++ b i)) ∙ append_assoc (form_bytes fs) u (w ++ r) ∙ ap (λ (z : Bytes). form_bytes fs ++ z) e ∙ sym (form_append fs gs)

-- nothing is said of the group before
stays : (s : Bytes) (c : Change) (fs : List Group) → c.count ≡ 0 → take c.from s ≡ form_bytes fs → front s c ≡ form_bytes fs ++ []
stays s c fs n e = front_none s c n ∙ e ∙ sym (append-nil (form_bytes fs))

-- ── with the blocks of a form ──

module _ (s slot : Bytes) (k : Octets s) (name : Span) (named : row_at slot name ≡ name_of slot) where
  module _ {fs : List Group} {g : Group} {hs : List Group} {b : Block} (v : Laid s fs g hs b) where
    taken : take (start_of b) s ≡ form_bytes fs
    taken =
        let q = v.start in
        let e : start_of b ≡ length (form_bytes fs) = omega arith in
        ap (λ (n : ℕ). take n s) e ∙ v.before

    -- "splitting"
    pub split_bytes : (i : ℕ) → 1 ≤ i → i < b.count
        → changed s (given slot (split_by b i name).head) (split_by b i name).change
        ≡ form_bytes (fs ++ (record { first = g.first; lines = take i g.lines } ∷ alone (slot_of slot) ∷ record { first = onward i g.first; lines = drop i g.lines } ∷ hs))
    split_bytes i h l =
        let m = v.count in
        let c = (split_by b i name).change in
        let p : Group = record { first = g.first; lines = take i g.lines } in
        let q : Group = record { first = onward i g.first; lines = drop i g.lines } in
        let n : length (take i g.lines) ≡ i = length-take-le i g.lines (omega arith) in
        let r : length (drop i g.lines) ≡ b.count - i = length-drop i g.lines ∙ ap (λ (z : ℕ). z - i) (sym m) in
        made s c (given slot (split_by b i name).head) (head_for g.first i ++ line_bytes (take i g.lines))
        (head_for (onward i g.first) (b.count - i) ++ (line_bytes (drop i g.lines) ++ form_bytes hs)) fs (p ∷ alone (slot_of slot) ∷ q ∷ hs)
        (recounted k v c i (omega arith) refl refl h)
        (λ j. head_for (onward i (v.first j)) (b.count - i) ++ lines_from k v i (omega arith) j)
        ((λ j. (head_for g.first (sym n j) ++ line_bytes (take i g.lines)) ++ ((head_for (named j) 1 ++ bytes32 (line_of slot)) ++ (head_for (onward i g.first) (sym r j) ++ (line_bytes (drop i g.lines) ++ form_bytes hs))))
        ∙ again (head_for g.first (length (take i g.lines))) (line_bytes (take i g.lines)) (head_for (name_of slot) 1) (bytes32 (line_of slot))
        (head_for (onward i g.first) (length (drop i g.lines)) ++ (line_bytes (drop i g.lines) ++ form_bytes hs))
        ∙ sym (more_bytes p (alone (slot_of slot) ∷ q ∷ hs) (omega arith)
        ∙ ap (λ (z : Bytes). head_for g.first (length (take i g.lines)) ++ (line_bytes (take i g.lines) ++ z))
        (more_bytes (alone (slot_of slot)) (q ∷ hs) (omega arith)
        ∙ (λ j. head_for (name_of slot) 1 ++ (one_line (line_of slot) j ++ more_bytes q hs (omega arith) j)))))
      where
        again : (a b c d e : Bytes) → (a ++ b) ++ ((c ++ d) ++ e) ≡ a ++ (b ++ (c ++ (d ++ e)))
        again a b c d e = simp append_assoc

    -- right after a group
    pub append_bytes : changed s (given slot (append_by b name).head) (append_by b name).change ≡ form_bytes (fs ++ (record { first = g.first; lines = g.lines ++ (line_of slot ∷ []) } ∷ hs))
    append_bytes =
        let m = v.count in
        let c = (append_by b name).change in
        let l = g.lines ++ (line_of slot ∷ []) in
        let p : Group = record { first = g.first; lines = l } in
        let n : b.count + 1 ≡ length l = omega (arith, length-append g.lines (line_of slot ∷ [])) in
        made s c (bytes32 (line_of slot)) (head_for g.first (b.count + 1) ++ line_bytes g.lines) (form_bytes hs) fs (p ∷ hs)
        (recounted_all k v c refl refl (omega arith)) v.after
        ((λ j. (head_for g.first (n j) ++ line_bytes g.lines) ++ (bytes32 (line_of slot) ++ form_bytes hs))
        ∙ across (head_for g.first (length l)) (line_bytes g.lines) (bytes32 (line_of slot)) (form_bytes hs)
        ∙ sym (more_bytes p hs (omega arith)
        ∙ ap (λ (z : Bytes). head_for g.first (length l) ++ (z ++ form_bytes hs)) (lines_append g.lines (line_of slot ∷ []) ∙ ap (λ (z : Bytes). line_bytes g.lines ++ z) (one_line (line_of slot)))))

    -- right before a group
    pub prepend_bytes : changed s (given slot (prepend_by b name).head) (prepend_by b name).change ≡ form_bytes (fs ++ (record { first = name_of slot; lines = line_of slot ∷ g.lines } ∷ hs))
    prepend_bytes =
        let m = v.count in
        let c = (prepend_by b name).change in
        let l = line_of slot ∷ g.lines in
        let p : Group = record { first = name_of slot; lines = l } in
        let n : 1 + b.count ≡ length l = omega arith in
        made s c (given slot (prepend_by b name).head) [] (line_bytes g.lines ++ form_bytes hs) fs (p ∷ hs) (stays s c fs refl taken) (lines_on k v)
        ((λ j. (head_for (named j) (n j) ++ bytes32 (line_of slot)) ++ (line_bytes g.lines ++ form_bytes hs))
        ∙ across (head_for (name_of slot) (length l)) (bytes32 (line_of slot)) (line_bytes g.lines) (form_bytes hs)
        ∙ sym (more_bytes p hs (omega arith) ∙ ap (λ (z : Bytes). head_for (name_of slot) (length l) ++ (z ++ form_bytes hs)) (lines_more (line_of slot) g.lines)))

    -- what stands before slot i, where it goes
    part_front : (i : ℕ) → i < b.count → front s (part_by b i) ≡ form_bytes fs ++ (head_for g.first i ++ line_bytes (take i g.lines))
    part_front i h = elim (dec_le 1 i) [
      | yes l ↦ recounted k v (part_by b i) i (omega arith) (from_later b i l) refl l
      | no l ↦
          let e : i ≡ 0 = omega arith in
          stays s (part_by b i) fs e (ap (λ (n : ℕ). take n s) (from_first b i e) ∙ taken)
          ∙ ap (λ (z : Bytes). form_bytes fs ++ z) (sym lines_none)
          ∙ ap (λ (n : ℕ). form_bytes fs ++ (head_for g.first n ++ line_bytes (take n g.lines))) (sym e)
    ]

    -- what is left of a group of several
    pub part_bytes : (i : ℕ) → i < b.count
        → changed s [] (part_by b i) ≡ form_bytes (fs ++ (piece g.first (take i g.lines) ++ (piece (onward (i + 1) g.first) (drop (i + 1) g.lines) ++ hs)))
    part_bytes i h =
        let m = v.count in
        let n : length (take i g.lines) ≡ i = length-take-le i g.lines (omega arith) in
        let r : length (drop (i + 1) g.lines) ≡ b.count - (i + 1) = length-drop (i + 1) g.lines ∙ ap (λ (z : ℕ). z - (i + 1)) (sym m) in
        let q = piece (onward (i + 1) g.first) (drop (i + 1) g.lines) ++ hs in
        let rest = line_bytes (drop (i + 1) g.lines) ++ form_bytes hs in
        made s (part_by b i) [] (head_for g.first i ++ line_bytes (take i g.lines)) (head_for (onward (i + 1) g.first) (b.count - (i + 1)) ++ rest) fs
        (piece g.first (take i g.lines) ++ q) (part_front i h)
        (λ j. head_for (onward (i + 1) (v.first j)) (b.count - (i + 1)) ++ lines_from k v (i + 1) (omega arith) j)
        ((λ j. (head_for g.first (sym n j) ++ line_bytes (take i g.lines)) ++ (head_for (onward (i + 1) g.first) (sym r j) ++ rest))
        ∙ append_assoc (head_for g.first (length (take i g.lines))) (line_bytes (take i g.lines)) (head_for (onward (i + 1) g.first) (length (drop (i + 1) g.lines)) ++ rest)
        ∙ sym (piece_bytes g.first (take i g.lines) q
        ∙ ap (λ (z : Bytes). head_for g.first (length (take i g.lines)) ++ (line_bytes (take i g.lines) ++ z)) (piece_bytes (onward (i + 1) g.first) (drop (i + 1) g.lines) hs)))

    -- nothing is left of it
    pub vanish_bytes : changed s [] (vanish_by b) ≡ form_bytes (fs ++ hs)
    vanish_bytes = made s (vanish_by b) [] [] (form_bytes hs) fs hs (stays s (vanish_by b) fs refl taken) v.after refl

  -- two groups that become one, with the slot's line number between them or not
  module _ {fs : List Group} {g : Group} {gs : List Group} {b : Block} (v : Laid s fs g gs b) {es : List Group} {h : Group} {hs : List Group} {n : Block} (w : Laid s es h hs n) where
    pub bridge_bytes : changed s (given slot (bridge_by b n name).head) (bridge_by b n name).change ≡ form_bytes (fs ++ (record { first = g.first; lines = g.lines ++ (line_of slot ∷ h.lines) } ∷ hs))
    bridge_bytes =
        let c = (bridge_by b n name).change in
        let l = g.lines ++ (line_of slot ∷ h.lines) in
        let p : Group = record { first = g.first; lines = l } in
        let m : b.count + 1 + n.count ≡ length l = omega (arith, length-append g.lines (line_of slot ∷ h.lines), v.count, w.count) in
        made s c (bytes32 (line_of slot)) (head_for g.first (b.count + 1 + n.count) ++ line_bytes g.lines) (line_bytes h.lines ++ form_bytes hs) fs (p ∷ hs)
        (recounted_all k v c refl refl (omega arith)) (lines_on k w)
        ((λ j. (head_for g.first (m j) ++ line_bytes g.lines) ++ (bytes32 (line_of slot) ++ (line_bytes h.lines ++ form_bytes hs)))
        ∙ again (head_for g.first (length l)) (line_bytes g.lines) (bytes32 (line_of slot)) (line_bytes h.lines) (form_bytes hs)
        ∙ sym (more_bytes p hs (omega arith)
        ∙ ap (λ (z : Bytes). head_for g.first (length l) ++ (z ++ form_bytes hs)) (lines_append g.lines (line_of slot ∷ h.lines) ∙ ap (λ (z : Bytes). line_bytes g.lines ++ z) (lines_more (line_of slot) h.lines))))
      where
        again : (a b c d e : Bytes) → (a ++ b) ++ (c ++ (d ++ e)) ≡ a ++ ((b ++ (c ++ d)) ++ e)
        again a b c d e = simp append_assoc

    pub close_bytes : changed s [] (close_by b n) ≡ form_bytes (fs ++ (record { first = g.first; lines = g.lines ++ h.lines } ∷ hs))
    close_bytes =
        let l = g.lines ++ h.lines in
        let p : Group = record { first = g.first; lines = l } in
        let m : b.count + n.count ≡ length l = omega (arith, length-append g.lines h.lines, v.count, w.count) in
        let o = v.long in
        made s (close_by b n) [] (head_for g.first (b.count + n.count) ++ line_bytes g.lines) (line_bytes h.lines ++ form_bytes hs) fs (p ∷ hs)
        (recounted_all k v (close_by b n) refl refl (omega arith)) (lines_on k w)
        ((λ j. (head_for g.first (m j) ++ line_bytes g.lines) ++ (line_bytes h.lines ++ form_bytes hs))
        ∙ across (head_for g.first (length l)) (line_bytes g.lines) (line_bytes h.lines) (form_bytes hs)
        ∙ sym (more_bytes p hs (omega arith) ∙ ap (λ (z : Bytes). head_for g.first (length l) ++ (z ++ form_bytes hs)) (lines_append g.lines h.lines)))

  -- a group by itself
  pub alone_bytes : (fs hs : List Group) (p : ℕ) → take p s ≡ form_bytes fs → drop p s ≡ form_bytes hs
      → changed s (given slot (alone_at p name).head) (alone_at p name).change ≡ form_bytes (fs ++ (alone (slot_of slot) ∷ hs))
  alone_bytes fs hs p a b =
      let c = (alone_at p name).change in
      made s c (given slot (alone_at p name).head) [] (form_bytes hs) fs (alone (slot_of slot) ∷ hs) (stays s c fs refl a) b
      ((λ j. (head_for (named j) 1 ++ bytes32 (line_of slot)) ++ form_bytes hs)
      ∙ append_assoc (head_for (name_of slot) 1) (bytes32 (line_of slot)) (form_bytes hs)
      ∙ sym (more_bytes (alone (slot_of slot)) hs (omega arith) ∙ ap (λ (z : Bytes). head_for (name_of slot) 1 ++ (z ++ form_bytes hs)) (one_line (line_of slot))))

-- ── they fit ──

pub is_given : (slot : Bytes) (name : Span) → Lies slot name → 1 ≤ name.count → head_size ≤ length slot → at32 slot (name.at + tuple_size * name.count - 4) < 2147483648
    → (n : ℕ) → line_size * n ≤ longest_content → Given slot (head_of name n)
is_given slot name lies deep long low n h = record { long = long; head = λ l. (lies, deep, h, omega arith) }

module _ (s : Bytes) where
  none : (x : Span) → Headed s (no_head x)
  none x = λ q. absurd (omega arith)

  module _ {fs : List Group} {g : Group} {hs : List Group} {b : Block} (v : Laid s fs g hs b) (few : b.count ≤ 256) where
    -- a head of a name that comes later in the group's run
    later : (n i : ℕ) → line_size * n ≤ longest_content → i ≤ b.count → Headed s (record { name = b.name; onward = i; slots = n })
    later n i h l = λ q. ((v.stood.0, v.short), v.deep, h, omega (arith, v.offsets))

    in_order_lem : start_of b ≤ b.lines
    in_order_lem = omega (arith, v.start, v.spaced)

    pub split_fits : (name : Span) (i : ℕ) → i < b.count → Fits s (split_by b i name).change
    split_fits name i l =
        let q = v.stood.1 in
        record {
          order = omega arith;
          within = omega arith;
          sizes = λ h. (let o = v.spaced in omega arith, omega arith, omega arith);
          rest = later (b.count - i) i (omega arith) (omega arith);
        }

    pub append_fits : (name : Span) → Fits s (append_by b name).change
    append_fits name = record {
      order = omega arith;
      within = v.stood.1;
      sizes = λ h. (let o = v.spaced in omega arith, omega arith, omega arith);
      rest = none name;
    }

    pub prepend_fits : (name : Span) → Fits s (prepend_by b name).change
    prepend_fits name = record {
      order = in_order_lem;
      within = let q = v.stood.1 in omega arith;
      sizes = λ h. absurd (omega arith);
      rest = none name;
    }

    pub part_fits : (i : ℕ) → i < b.count → Fits s (part_by b i)
    part_fits i h =
        let q = v.stood.1 in
        record {
          order = elim (dec_le 1 i) [
            | yes l ↦ let f = from_later b i l in omega arith
            | no l ↦ let f = from_first b i (omega arith) in let o = in_order_lem in omega arith
          ];
          within = omega arith;
          sizes = λ l. let f = from_later b i l in (let o = v.spaced in omega arith, omega arith, omega arith);
          rest = later (b.count - (i + 1)) (i + 1) (omega arith) (omega arith);
        }

    pub vanish_fits : Fits s (vanish_by b)
    vanish_fits = record {
      order = let o = in_order_lem in omega arith;
      within = v.stood.1;
      sizes = λ h. absurd (omega arith);
      rest = none b.name;
    }

    -- two groups, the second after the first
    module _ {es : List Group} {h : Group} {ks : List Group} {n : Block} (w : Laid s es h ks n) (few' : n.count ≤ 256) (beyond : end_of b ≤ n.lines) where
      pub bridge_fits : (name : Span) → Fits s (bridge_by b n name).change
      bridge_fits name = record {
        order = beyond;
        within = let q = w.stood.1 in omega arith;
        sizes = λ l. (let o = v.spaced in omega arith, omega arith, omega arith);
        rest = none name;
      }

      pub close_fits : Fits s (close_by b n)
      close_fits = record {
        order = beyond;
        within = let q = w.stood.1 in omega arith;
        sizes = λ l. (let o = v.spaced in omega arith, omega arith, omega arith);
        rest = none n.name;
      }

  pub alone_fits : (name : Span) (p : ℕ) → p ≤ length s → Fits s (alone_at p name).change
  alone_fits name p h = record { order = omega arith; within = h; sizes = λ l. absurd (omega arith); rest = none name }
