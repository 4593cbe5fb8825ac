-- The groups of a form after an edit, case by case: a name within a run splits it (`inside`); after a group it goes on with it, or with the next, or
-- both, or neither (`after`); a name of a run of several leaves what is before and after it (`leaves`), and the only one of its group closes
-- the gap or not (`closes`, `vanishes`). Assumes nothing.
use Rattle.std.proofs.lemmas.List.Folds.{list_all-append}
use mathlib.Core.Path.{◌≡◌, refl, ◌∙◌, sym, ap, subst}
use mathlib.Core.List.{List, [], ◌∷◌, ◌++◌, map, append_assoc, append-nil}
use mathlib.Core.Bool.{Bool, true, false, cond, not, ◌&&◌}
use Prim.Native.Nat.{ℕ, zero, suc, ◌+◌, ◌-◌, ◌<◌, ◌≤◌}
use native.Mathlib.Omega.{arith}
use native.Mathlib.Numerals.{add-one}
use native.Mathlib.Decide.{dec_lt}
use borrow.Author.Tests.{le-leb, lt-leb, leb-true}
use lib.Dec.{leb}
use lib.ListN.{length, take, drop, get_or, length-append, length-drop, take-append-drop}
use lib.Seq.{drop-cons, length-take-le}
use Rattle.std.specs.declared.cmp.Ordering.{Ordering}
use Rattle.std.specs.declared.cmp.Ordering.TheVariants.{Less, Equal, Greater}
use Rattle.names.specs.Ordering.{Row, compare_rows, ◌<ⁿ◌, ◌≤ⁿ◌, less, equal}
use Rattle.std.specs.Ordering.{is_eq}
use Rattle.names.specs.Names.{is_name}
use Rattle.names.proofs.Laws.{<ⁿ_irrefl, ℕ_less, ℕ_more, less_row, more_row, same_row, row_less}
use Rattle.std.specs.List.{list_all}
use Rattle.numbers.proofs.Bools.{yes_no, never, and_0, and_1}
use Rattle.slots.specs.Slots.{Slot}
use Rattle.slots.proofs.RoundTrip.{name_long}
use Rattle.pages.specs.Pages.{name_in}
use Rattle.pages.specs.Places.{has}
use Rattle.runs.specs.Runs.{next, onward, is_next}
use Rattle.runs.specs.Beside.{beside_of}
use Rattle.runs.specs.Laws.{Says, at, beyond}
use Rattle.runs.specs.declared.Stand.{Stand}
use Rattle.runs.specs.declared.Stand.TheVariants.{At, Beyond}
use Rattle.runs.proofs.RunNames.{next_length, onward_length, onward_next, onward_add, next_one, onward_compare}
use Rattle.runs.proofs.RunLaws.{against, says, compared}
use Rattle.edits.specs.Edits.{placed, without}
use Rattle.groups.specs.Groups.{Group, size, run, ungrouped, alone, joined, grouped, name_after}
use Rattle.groups.proofs.Glue.{same, glue, has_slot, glue_none, glue_front, glue_joins, glue_apart, run_append, ungrouped_append}
use Rattle.form_edits.proofs.Rows.{Under, under_more}
use Rattle.form_edits.proofs.Longest.{last_apart, last_of, piece, piece_slots}
use Rattle.form_edits.proofs.Zipper.{FirstAbove}
use Rattle.form_edits.proofs.EditedGroups.{Cut, inserted_groups, inserted_absent, removed_groups, removed_present, Stood, had_before, has_slot_lem, under_first, cut}

-- names that differ are not the same
pub not_same : (a b : Row) → ¬ (a ≡ b) → same a b ≡ false
not_same a b n = never (same a b) (λ e. n (same_row a b (go (compare_rows a b) e)))
  where
    go : (o : Ordering) → is_eq o ≡ true → o ≡ Equal
    go Less e = yes_no e refl
    go Equal e = refl
    go Greater e = yes_no e refl

pub piece_some : (a : Row) (l : List ℕ) → 1 ≤ length l → piece a l ≡ record { first = a; lines = l } ∷ []
piece_some a [] h = absurd (omega arith)
piece_some a (x ∷ l) h = refl

piece_nil : (a : Row) (l : List ℕ) → length l ≡ 0 → piece a l ≡ []
piece_nil a [] h = refl
piece_nil a (x ∷ l) h = absurd (omega arith)

-- nothing goes on where the last of the groups does not
pub glue_append : (fs : List Group) (h : Group) (hs : List Group) → last_apart fs h.first ≡ true → glue fs (h ∷ hs) ≡ fs ++ (h ∷ hs)
glue_append [] h hs e = refl
glue_append (f ∷ []) h hs e = glue_apart f h hs e
glue_append (f ∷ g ∷ fs) h hs e = ap (λ (l : List Group). f ∷ l) (glue_append (g ∷ fs) h hs e)

-- the last of the groups, where there is one
last_apart_by : (fs : List Group) (a : Row) → ((es : List Group) (f : Group) → fs ≡ es ++ (f ∷ []) → ¬ (name_after f ≡ a)) → last_apart fs a ≡ true
last_apart_by [] a n = refl
last_apart_by (f ∷ []) a n = ap not (not_same (name_after f) a (n [] f refl))
last_apart_by (f ∷ g ∷ fs) a n = last_apart_by (g ∷ fs) a (λ es h e. n (f ∷ es) h (ap (λ (l : List Group). f ∷ l) e))

under_rest : {a : Row} (l m : List Slot) → Under a (l ++ m) → Under a m
under_rest [] m u = u
under_rest (x ∷ l) m (under_more h u) = under_rest l m u

-- the last name of a run below a
under_last : {a : Row} (b : Row) (x : ℕ) (l : List ℕ) → Under a (run b (x ∷ l)) → onward (length l) b <ⁿ a
under_last b x [] (under_more k u) = k
under_last b x (y ∷ l) (under_more k u) = under_last (next b) y l u

-- no group whose slots are below a has the name after a as its next
no_loop : (f : Group) (a : Row) → 1 ≤ size f → Under a (run f.first f.lines) → ¬ (name_after f ≡ next a)
no_loop f a h u z = go f.lines refl
  where
    go : (l : List ℕ) → f.lines ≡ l → ⊥
    go [] q = omega (arith, ap length q)
    go (y ∷ l) q =
        let w = under_last f.first y l (subst (λ (m : List ℕ). Under a (run f.first m)) q u) in
        let n : onward (size f) f.first ≡ next (onward (length l) f.first) = ap (λ (m : List ℕ). onward (length m) f.first) q ∙ onward_next (length l) f.first in
        <ⁿ_irrefl (subst (λ (b : Row). b <ⁿ a) (next_one (sym n ∙ z)) w)

module _ {fs : List Group} {g : Group} {hs : List Group} (v : Stood fs g hs) (named : is_name g.first ≡ true) (x : Row) (a : FirstAbove x hs) where
  -- parts of g's line numbers before and after x
  whole : (l r : List ℕ) → l ++ r ≡ g.lines → ungrouped (fs ++ (g ∷ hs)) ≡ ungrouped (fs ++ piece g.first l) ++ ungrouped (piece (onward (length l) g.first) r ++ hs)
  whole l r e =
      let b = onward (length l) g.first in
      let left = ungrouped_append fs (piece g.first l) ∙ ap (λ (m : List Slot). ungrouped fs ++ m) (ap ungrouped (sym (append-nil (piece g.first l))) ∙ piece_slots g.first l [] ∙ append-nil (run g.first l)) in
      ungrouped_append fs (g ∷ hs)
      ∙ ap (λ (m : List ℕ). ungrouped fs ++ (run g.first m ++ ungrouped hs)) (sym e)
      ∙ ap (λ (m : List Slot). ungrouped fs ++ (m ++ ungrouped hs)) (run_append g.first l r)
      ∙ ap (λ (m : List Slot). ungrouped fs ++ m) (append_assoc (run g.first l) (run b r) (ungrouped hs))
      ∙ sym (append_assoc (ungrouped fs) (run g.first l) (run b r ++ ungrouped hs))
      ∙ (λ i. sym left i ++ sym (piece_slots b r hs) i)

  low_by : compare_rows g.first x ≡ Less → g.first ≤ⁿ x
  low_by e = less (less_row g.first x e)

  -- ── a name within the run ──

  module _ (i : ℕ) (e : beside_of g.first x ≡ Beyond i) (h : i + 1 < size g) where
    against_is : (k : ℕ) → compare_rows (onward k g.first) x ≡ cond (leb k i) Less Greater
    against_is k = compared g.first x named k ∙ ap (λ (s : Stand). against s k) e

    abbrev left : List ℕ
    left = take (i + 1) g.lines

    abbrev right : List ℕ
    right = drop (i + 1) g.lines

    left_long : length left ≡ i + 1
    left_long = length-take-le (i + 1) g.lines (omega arith)

    right_long : length right ≡ size g - (i + 1)
    right_long = length-drop (i + 1) g.lines

    inside_cut : Cut x (fs ++ piece g.first left) (piece (onward (length left) g.first) right ++ hs)
    inside_cut =
        cut v x (low_by (against_is 0 ∙ ap (λ (b : Bool). cond b Less Greater) (le-leb 0 i (omega arith)))) a left right (onward (length left) g.first)
        (λ k l. less_row (onward k g.first) x (against_is k ∙ ap (λ (b : Bool). cond b Less Greater) (le-leb k i (omega (arith, left_long)))))
        (λ k l. subst (λ (n : Row). x <ⁿ n) (onward_add (length left) k g.first) (more_row (onward (length left + k) g.first) x (against_is (length left + k) ∙ ap (λ (b : Bool). cond b Less Greater) (lt-leb (length left + k) i (omega (arith, left_long))))))
        (λ l. let m : length left + length right ≡ size g = omega (arith, left_long, right_long) in sym (onward_add (length left) (length right) g.first) ∙ ap (λ (n : ℕ). onward n g.first) m)

    -- the name is deeper than those of the run
    deeper : Says g.first x (Beyond i) → length g.first < length x
    deeper (beyond t u q) = let n = ap length q ∙ length-append (onward i g.first) (t ∷ u) in omega (arith, onward_length i g.first)

    -- "splitting"
    pub inside : (s : Slot) → s.name ≡ x
        → grouped (placed s (ungrouped (fs ++ (g ∷ hs))))
        ≡ fs ++ (record { first = g.first; lines = take (i + 1) g.lines } ∷ alone s ∷ record { first = onward (i + 1) g.first; lines = drop (i + 1) g.lines } ∷ hs)
    inside s n =
        let p : Group = record { first = g.first; lines = left } in
        let q : Group = record { first = onward (length left) g.first; lines = right } in
        let one = piece_some g.first left (omega (arith, left_long)) in
        let two = ap (λ (l : List Group). l ++ hs) (piece_some (onward (length left) g.first) right (omega (arith, right_long))) in
        let far : is_next s.name (onward (length left) g.first) ≡ false =
        not_same (next s.name) (onward (length left) g.first)
        (λ z. omega (arith, ap length z, next_length s.name, ap length n, onward_length (length left) g.first, deeper (subst (Says g.first x) e (says g.first x named)))) in
        let off : not (same (name_after p) s.name) ≡ true =
        ap not (ap (same (name_after p)) n ∙ ap is_eq (against_is (length left)) ∙ ap (λ (b : Bool). is_eq (cond b Less Greater)) (lt-leb (length left) i (omega (arith, left_long)))) in
        ap (λ (l : List Slot). grouped (placed s l)) (whole left right (take-append-drop (i + 1) g.lines))
        ∙ inserted_groups s (subst (λ (y : Row). Cut y (fs ++ piece g.first left) (piece (onward (length left) g.first) right ++ hs)) (sym n) inside_cut)
        ∙ (λ j. glue (fs ++ one j) (joined s (two j)))
        ∙ ap (λ (b : Bool). glue (fs ++ (p ∷ [])) (cond b (record { first = s.name; lines = s.line ∷ right } ∷ hs) (alone s ∷ q ∷ hs))) far
        ∙ glue_front fs p (alone s ∷ q ∷ hs)
        ∙ ap (λ (l : List Group). fs ++ l) (glue_apart p (alone s) (q ∷ hs) off)
        ∙ ap (λ (m : ℕ). fs ++ (p ∷ alone s ∷ record { first = onward m g.first; lines = right } ∷ hs)) left_long

    pub inside_absent : has x (map name_in (ungrouped (fs ++ (g ∷ hs)))) ≡ false
    inside_absent =
        ap (λ (l : List Slot). has x (map name_in l)) (whole left right (take-append-drop (i + 1) g.lines)) ∙ inserted_absent x inside_cut

  -- ── a name after the run ──

  module _ (f : (k : ℕ) → k < size g → onward k g.first <ⁿ x) where
    after_cut : Cut x (fs ++ (g ∷ [])) hs
    after_cut =
        subst (λ (l : List Group). Cut x (fs ++ l) hs) (piece_some g.first g.lines (has_slot_lem v))
        (cut v x (less (f 0 (has_slot_lem v))) a g.lines [] (name_after g) f (λ k l. absurd (omega arith)) (λ l. absurd (omega arith)))

    pub after_absent : has x (map name_in (ungrouped (fs ++ (g ∷ hs)))) ≡ false
    after_absent =
        ap (λ (l : List Group). has x (map name_in (ungrouped l))) (sym (append_assoc fs (g ∷ []) hs))
        ∙ ap (λ (l : List Slot). has x (map name_in l)) (ungrouped_append (fs ++ (g ∷ [])) hs)
        ∙ inserted_absent x after_cut

    after : (s : Slot) → s.name ≡ x → grouped (placed s (ungrouped (fs ++ (g ∷ hs)))) ≡ fs ++ glue (g ∷ []) (joined s hs)
    after s n =
        ap (λ (l : List Group). grouped (placed s (ungrouped l))) (sym (append_assoc fs (g ∷ []) hs))
        ∙ ap (λ (l : List Slot). grouped (placed s l)) (ungrouped_append (fs ++ (g ∷ [])) hs)
        ∙ inserted_groups s (subst (λ (y : Row). Cut y (fs ++ (g ∷ [])) hs) (sym n) after_cut)
        ∙ glue_front fs g (joined s hs)

    -- it goes on with the run
    pub after_joins : (s : Slot) → s.name ≡ x → name_after g ≡ x → (h : Group) (ks : List Group) → joined s hs ≡ h ∷ ks → h.first ≡ s.name
        → grouped (placed s (ungrouped (fs ++ (g ∷ hs)))) ≡ fs ++ (record { first = g.first; lines = g.lines ++ h.lines } ∷ ks)
    after_joins s n e h ks j m =
        after s n ∙ ap (λ (l : List Group). fs ++ glue (g ∷ []) l) j ∙ ap (λ (l : List Group). fs ++ l) (glue_joins g h ks (e ∙ sym n ∙ sym m))

    -- or not
    pub after_apart : (s : Slot) → s.name ≡ x → ¬ (name_after g ≡ x) → (h : Group) (ks : List Group) → joined s hs ≡ h ∷ ks → h.first ≡ s.name
        → grouped (placed s (ungrouped (fs ++ (g ∷ hs)))) ≡ fs ++ (g ∷ h ∷ ks)
    after_apart s n e h ks j m =
        let off = ap not (not_same (name_after g) h.first (λ z. e (z ∙ m ∙ n))) in
        after s n ∙ ap (λ (l : List Group). fs ++ glue (g ∷ []) l) j ∙ ap (λ (l : List Group). fs ++ l) (glue_apart g h ks off)

  -- ── a name of the run ──

  module _ (i : ℕ) (e : beside_of g.first x ≡ At i) (h : i < size g) where
    is_name_lem : Says g.first x (At i) → x ≡ onward i g.first
    is_name_lem (at q) = q

    pub name_here : x ≡ onward i g.first
    name_here = is_name_lem (subst (Says g.first x) e (says g.first x named))

    compared_is : (k : ℕ) → compare_rows (onward k g.first) x ≡ against (At i) k
    compared_is k = compared g.first x named k ∙ ap (λ (s : Stand). against s k) e

    abbrev left' : List ℕ
    left' = take i g.lines

    abbrev right' : List ℕ
    right' = drop (i + 1) g.lines

    left_long' : length left' ≡ i
    left_long' = length-take-le i g.lines (omega arith)

    right_long' : length right' ≡ size g - (i + 1)
    right_long' = length-drop (i + 1) g.lines

    abbrev after' : Row
    after' = onward (i + 1) g.first

    not_above_lem : compare_rows g.first x ≡ against (At i) 0 → g.first ≤ⁿ x
    not_above_lem q = go i q
      where
        go : (i : ℕ) → compare_rows g.first x ≡ against (At i) 0 → g.first ≤ⁿ x
        go zero q = equal (same_row g.first x (q ∙ ap (λ (o : Ordering). o) refl))
        go (suc i) q = less (less_row g.first x (q ∙ ℕ_less 0 (suc i) (omega arith)))

    here_cut : Cut x (fs ++ piece g.first left') (piece after' right' ++ hs)
    here_cut =
        cut v x (not_above_lem (compared_is 0)) a left' right' after'
        (λ k l. less_row (onward k g.first) x (compared_is k ∙ ℕ_less k i (omega (arith, left_long'))))
        (λ k l. subst (λ (n : Row). x <ⁿ n) (onward_add (i + 1) k g.first) (more_row (onward (i + 1 + k) g.first) x (compared_is (i + 1 + k) ∙ ℕ_more (i + 1 + k) i (omega arith))))
        (λ l. let m : i + 1 + length right' ≡ size g = omega (arith, right_long') in sym (onward_add (i + 1) (length right') g.first) ∙ ap (λ (n : ℕ). onward n g.first) m)

    abbrev slot : Slot
    slot = record { line = get_or g.lines i 0; name = onward i g.first }

    apart_lines : left' ++ (get_or g.lines i 0 ∷ right') ≡ g.lines
    apart_lines =
        ap (λ (n : ℕ). take i g.lines ++ (get_or g.lines i 0 ∷ drop n g.lines)) (add-one i)
        ∙ ap (λ (l : List ℕ). take i g.lines ++ l) (sym (drop-cons g.lines i 0 h))
        ∙ take-append-drop i g.lines

    around : ungrouped (fs ++ (g ∷ hs)) ≡ ungrouped (fs ++ piece g.first left') ++ (slot ∷ ungrouped (piece after' right' ++ hs))
    around =
        let w = whole left' (get_or g.lines i 0 ∷ right') apart_lines in
        let m : suc (length left') ≡ i + 1 = omega (arith, left_long') in
        let s : next (onward (length left') g.first) ≡ after' = sym (onward_next (length left') g.first) ∙ ap (λ (n : ℕ). onward n g.first) m in
        w
        ∙ (λ j. ungrouped (fs ++ piece g.first left') ++ (record { line = get_or g.lines i 0; name = onward (left_long' j) g.first } ∷ (run (s j) right' ++ ungrouped hs)))
        ∙ ap (λ (m : List Slot). ungrouped (fs ++ piece g.first left') ++ (slot ∷ m)) (sym (piece_slots after' right' hs))

    pub here_present : has x (map name_in (ungrouped (fs ++ (g ∷ hs)))) ≡ true
    here_present = ap (λ (l : List Slot). has x (map name_in l)) around ∙ removed_present x slot (sym name_here) here_cut

    here : grouped (without x (ungrouped (fs ++ (g ∷ hs)))) ≡ glue (fs ++ piece g.first left') (piece after' right' ++ hs)
    here = ap (λ (l : List Slot). grouped (without x l)) around ∙ removed_groups x slot (sym name_here) here_cut

    -- no group before g goes on with the name after its first
    skips : last_apart fs (next g.first) ≡ true
    skips =
        last_apart_by fs (next g.first)
        (λ es f q z.
        let u : Under g.first (ungrouped es ++ (run f.first f.lines ++ [])) = subst (Under g.first) (ap ungrouped q ∙ ungrouped_append es (f ∷ [])) (under_first v) in
        let w = subst (Under g.first) (append-nil (run f.first f.lines)) (under_rest (ungrouped es) (run f.first f.lines ++ []) u) in
        let k : list_all has_slot (es ++ (f ∷ [])) ≡ true = ap (list_all has_slot) (sym q) ∙ had_before v in
        let n = leb-true 1 (size f) (and_0 (has_slot f) true (and_1 (list_all has_slot es) (has_slot f && true) (sym (list_all-append has_slot es (f ∷ [])) ∙ k))) in
        no_loop f g.first n w z)

    abbrev both : List Group → List Group → Type 0
    both l r = glue (fs ++ l) (r ++ hs) ≡ (fs ++ l) ++ (r ++ hs)

    -- the first of the run goes
    first_goes : i ≡ 0 → i + 1 < size g → both (piece g.first left') (piece after' right')
    first_goes z m =
        let l = piece_nil g.first left' (left_long' ∙ z) in
        let r = piece_some after' right' (omega (arith, right_long')) in
        let o : last_apart (fs ++ []) after' ≡ true = ap (λ (l : List Group). last_apart l after') (append-nil fs) ∙ ap (λ (n : ℕ). last_apart fs (onward (n + 1) g.first)) z ∙ skips in
        subst (λ (l : List Group). both l (piece after' right')) (sym l)
        (subst (λ (r : List Group). both [] r) (sym r) (glue_append (fs ++ []) (record { first = after'; lines = right' }) hs o))

    -- one in the middle
    middle_goes : 0 < i → i + 1 < size g → both (piece g.first left') (piece after' right')
    middle_goes k m =
        let p : Group = record { first = g.first; lines = left' } in
        let l = piece_some g.first left' (omega (arith, left_long')) in
        let r = piece_some after' right' (omega (arith, right_long')) in
        let c = onward_compare g.first (name_long g.first named) (length left') (i + 1) ∙ ℕ_less (length left') (i + 1) (omega (arith, left_long')) in
        let o : last_apart (fs ++ (p ∷ [])) after' ≡ true = last_of fs p after' ∙ ap (λ (o : Ordering). not (is_eq o)) c in
        subst (λ (l : List Group). both l (piece after' right')) (sym l)
        (subst (λ (r : List Group). both (p ∷ []) r) (sym r) (glue_append (fs ++ (p ∷ [])) (record { first = after'; lines = right' }) hs o))

    -- the last
    last_goes : 0 < i → i + 1 ≡ size g → both (piece g.first left') (piece after' right')
    last_goes k m =
        let p : Group = record { first = g.first; lines = left' } in
        let l = piece_some g.first left' (omega (arith, left_long')) in
        let r = piece_nil after' right' (omega (arith, right_long')) in
        subst (λ (l : List Group). both l (piece after' right')) (sym l) (subst (λ (r : List Group). both (p ∷ []) r) (sym r) (go hs a))
      where
        go : (hs : List Group) → FirstAbove x hs
            → glue (fs ++ (record { first = g.first; lines = take i g.lines } ∷ [])) hs ≡ (fs ++ (record { first = g.first; lines = take i g.lines } ∷ [])) ++ hs
        go [] a = glue_none (fs ++ (record { first = g.first; lines = take i g.lines } ∷ [])) ∙ sym (append-nil (fs ++ (record { first = g.first; lines = take i g.lines } ∷ [])))
        go (h ∷ hs) a =
            let p : Group = record { first = g.first; lines = take i g.lines } in
            let e : name_after p ≡ x = ap (λ (n : ℕ). onward n g.first) left_long' ∙ sym name_here in
            let c : compare_rows (name_after p) h.first ≡ Less = ap (λ (y : Row). compare_rows y h.first) e ∙ row_less a in
            glue_append (fs ++ (p ∷ [])) h hs (last_of fs p h.first ∙ ap (λ (o : Ordering). not (is_eq o)) c)

    -- what is left of a run of several, before the name and after it
    pub leaves : 1 < size g
        → grouped (without x (ungrouped (fs ++ (g ∷ hs)))) ≡ fs ++ (piece g.first (take i g.lines) ++ (piece (onward (i + 1) g.first) (drop (i + 1) g.lines) ++ hs))
    leaves n = here ∙ go (dec_lt 0 i) (dec_lt (i + 1) (size g)) ∙ append_assoc fs (piece g.first left') (piece after' right' ++ hs)
      where
        go : Dec (0 < i) → Dec (i + 1 < size g) → glue (fs ++ piece g.first left') (piece after' right' ++ hs) ≡ (fs ++ piece g.first left') ++ (piece after' right' ++ hs)
        go b c = elim b [
          | yes k ↦ elim c [ yes m ↦ middle_goes k m | no m ↦ last_goes k (omega arith) ]
          | no k ↦ elim c [ yes m ↦ first_goes (omega arith) m | no m ↦ absurd (omega arith) ]
        ]

    -- the only one of its group: what stands before and after it comes together
    pub alone_goes : size g ≡ 1 → grouped (without x (ungrouped (fs ++ (g ∷ hs)))) ≡ glue fs hs
    alone_goes n =
        let l = piece_nil g.first left' (left_long' ∙ omega arith) in
        let r = piece_nil after' right' (omega (arith, right_long')) in
        here ∙ (λ j. glue (fs ++ l j) (r j ++ hs)) ∙ ap (λ (m : List Group). glue m hs) (append-nil fs)
