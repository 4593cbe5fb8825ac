-- What the functions of an edit ask of each other, of the groups that were found. Assumes nothing.
use mathlib.Core.Path.{◌≡◌, refl, ◌∙◌, sym, ap, subst}
use mathlib.Core.List.{List, [], ◌∷◌, ◌++◌, append_assoc}
use mathlib.Core.Bool.{Bool, true, false, cond}
use Prim.Native.Nat.{ℕ, ◌<◌, ◌≤◌}
use native.Mathlib.Omega.{arith}
use native.Mathlib.Decide.{dec_le}
use borrow.Author.Tests.{ltb-true, lt-ltb, le-ltb, eq-eqb, ne_eqb}
use lib.Dec.{eqb, ltb}
use lib.ListN.{length, drop, length-append}
use Rattle.names.specs.Ordering.{Row, compare_rows}
use Rattle.names.specs.Names.{is_name}
use Rattle.numbers.specs.Bytes.{Bytes, Octets}
use Rattle.slots.specs.declared.Span.{Span}
use Rattle.slots.specs.Tuples.{row_at}
use Rattle.slots.specs.Slots.{name_of}
use Rattle.numbers.proofs.Bools.{yes_no}
use Rattle.runs.specs.Runs.{onward, is_next}
use Rattle.fields.specs.Fields.{field_head}
use Rattle.groups.specs.Groups.{Group, size}
use Rattle.groups.specs.Forms.{form_bytes, groups_in, group_stands}
use Rattle.forms.specs.declared.Block.{Block}
use Rattle.forms.specs.Blocks.{block_here, no_block, end_of, Stood as Stands}
use Rattle.std.specs.Ordering.{is_eq, is_le}
use Rattle.forms.proofs.BlockAt.{stood}
use Rattle.form_edits.specs.declared.Met.{Met}
use Rattle.form_edits.specs.declared.Met.TheVariants.{Here, Inside, After}
use Rattle.form_edits.specs.Choices.{group_at, met_in, after_block, precedes_in, goes_on}
use Rattle.form_edits.specs.Edits.{Edited, place_in, preceded_in, next_in}
use Rattle.form_edits.proofs.Zipper.{Preceded, first, second, Divided, none, some, divides}
use Rattle.form_edits.proofs.LaidBlocks.{Laid, laid, stands_there, place_within}
use Rattle.form_edits.proofs.MetNames.{met_inside, met_here}
use Rattle.form_edits.proofs.Chosen.{Next, last, next, next_block, Found, before_all, at_group, Ends, ends, found_ends, bytes, is_group_lem, form_is, few, few_after, met_is}

-- a block that is a group's: where it begins and ends, and its first name
pub record Bounds (s : Bytes) (b : Block) : Type 0 where
  pub start : field_head ≤ b.name.at
  pub end : end_of b ≤ length s
  pub few : b.count ≤ 256
  pub some : 1 ≤ b.count
  pub named : is_name (row_at s b.name) ≡ true

laid_bounds : {s : Bytes} (fs : List Group) (g : Group) (hs : List Group) {b : Block} → Laid s fs g hs b → size g ≤ 256 → Bounds s b
laid_bounds fs g hs l f = record {
  start = let a = l.start in omega arith;
  end = l.stood.1;
  few = let c = l.count in omega arith;
  some = l.long;
  named = ap is_name l.first ∙ l.named;
}

-- what stands at a place, a block or none, lies within the form
at_stood : (s : Bytes) (p : ℕ) → Octets s → Stands s (group_at s p)
at_stood s p k = go (group_stands (drop p s)) refl
  where
    go : (b : Bool) → group_stands (drop p s) ≡ b → Stands s (cond b (block_here s p) no_block)
    go true e = stood s p e k
    go false e = (omega arith, omega arith, omega arith)

-- the block of the group before lies within the form, and has no more slots than have room in a field
pub preceded_stood : (s slot : Bytes) → Octets s → Stands s (preceded_in s (name_of slot))
preceded_stood s slot k = go (ltb 1 (place_in s (name_of slot)).groups)
  where
    p : ℕ
    p = (place_in s (name_of slot)).before

    go : (b : Bool) → Stands s (cond b (group_at s p) no_block)
    go true = at_stood s p k
    go false = (omega arith, omega arith, omega arith)

module _ (s slot : Bytes) (k : Octets s) (so : Octets slot) (name : Span) (e : Edited s slot name) where
  abbrev x : Row
  x = name_of slot

  -- the group that was reached stands at its place
  pub reached_stands : ltb 0 (place_in s x).groups ≡ true → ((place_in s x).here ≤ length s) × (group_stands (drop (place_in s x).here s) ≡ true)
  reached_stands t = go (divides x (groups_in s))
    where
      go : Divided x (groups_in s) (place_in s x) → ((place_in s x).here ≤ length s) × (group_stands (drop (place_in s x).here s) ≡ true)
      go (none c a) = absurd (let w = ltb-true 0 (place_in s x).groups t in omega arith)
      go (some fs g hs q r a) =
          let f = form_is s slot k so name e fs g hs q in
          let i = is_group_lem s slot k so name e fs g hs q in
          subst (λ (n : ℕ). (n ≤ length s) × (group_stands (drop n s) ≡ true)) (sym r.here) (place_within s k fs g hs f i, stands_there s k fs g hs f i)

  -- and the one before it
  pub preceded_stands : ltb 1 (place_in s x).groups ≡ true → ((place_in s x).before ≤ length s) × (group_stands (drop (place_in s x).before s) ≡ true)
  preceded_stands t = go (divides x (groups_in s))
    where
      go : Divided x (groups_in s) (place_in s x) → ((place_in s x).before ≤ length s) × (group_stands (drop (place_in s x).before s) ≡ true)
      go (none c a) = absurd (let w = ltb-true 1 (place_in s x).groups t in omega arith)
      go (some fs g hs q r a) = by r.before
        where
          by : Preceded fs (place_in s x).before → ((place_in s x).before ≤ length s) × (group_stands (drop (place_in s x).before s) ≡ true)
          by (first z) = absurd (let w = ltb-true 1 (place_in s x).groups t in let c = r.count in let n = ap length z in omega arith)
          by (second es d z n) =
              let p : groups_in s ≡ es ++ (d ∷ g ∷ hs) = q ∙ ap (λ (y : List Group). y ++ (g ∷ hs)) z ∙ append_assoc es (d ∷ []) (g ∷ hs) in
              let f = form_is s slot k so name e es d (g ∷ hs) p in
              let i = is_group_lem s slot k so name e es d (g ∷ hs) p in
              subst (λ (n : ℕ). (n ≤ length s) × (group_stands (drop n s) ≡ true)) (sym n) (place_within s k es d (g ∷ hs) f i, stands_there s k es d (g ∷ hs) f i)

  -- the block of the one before: none, or a group's
  pub preceded_bounds : 1 ≤ (preceded_in s x).count → Bounds s (preceded_in s x)
  preceded_bounds t = go (divides x (groups_in s))
    where
      go : Divided x (groups_in s) (place_in s x) → Bounds s (preceded_in s x)
      go (none c a) = absurd (let z = ap (λ (b : Block). b.count) (nothing (le-ltb 1 (place_in s x).groups (omega arith))) in omega arith)
        where
          nothing : ltb 1 (place_in s x).groups ≡ false → preceded_in s x ≡ no_block
          nothing q = ap (λ (b : Bool). cond b (group_at s (place_in s x).before) no_block) q
      go (some fs g hs q r a) = by r.before
        where
          by : Preceded fs (place_in s x).before → Bounds s (preceded_in s x)
          by (first z) =
              let c = r.count in
              let m = ap length z in
              let n : preceded_in s x ≡ no_block = ap (λ (b : Bool). cond b (group_at s (place_in s x).before) no_block) (le-ltb 1 (place_in s x).groups (omega arith)) in
              absurd (let w = ap (λ (b : Block). b.count) n in omega arith)
          by (second es d z n) =
              let p : groups_in s ≡ es ++ (d ∷ g ∷ hs) = q ∙ ap (λ (y : List Group). y ++ (g ∷ hs)) z ∙ append_assoc es (d ∷ []) (g ∷ hs) in
              let c = r.count in
              let m = ap length z ∙ length-append es (d ∷ []) in
              let u : preceded_in s x ≡ group_at s (length (form_bytes es)) = ap (λ (b : Bool). cond b (group_at s (place_in s x).before) no_block) (lt-ltb 1 (place_in s x).groups (omega arith)) ∙ ap (group_at s) n in
              subst (Bounds s) (sym u)
              (laid_bounds es d (g ∷ hs) (laid s k es d (g ∷ hs) (form_is s slot k so name e es d (g ∷ hs) p) (is_group_lem s slot k so name e es d (g ∷ hs) p)) (few s slot k so name e es d (g ∷ hs) p))

  module _ (b : Block) (v : Found s slot k so name e b) where
    pub block_within : end_of b ≤ length s
    block_within = go v
      where
        go : Found s slot k so name e b → end_of b ≤ length s
        go (before_all q n a) = let z = ap end_of n in omega arith
        go (at_group fs g hs q l r a) = l.stood.1

    -- a group, not above the name
    pub block_low : 1 ≤ b.name.count → (is_name (row_at s b.name) ≡ true) × (is_le (compare_rows (row_at s b.name) x) ≡ true)
    block_low t = go v
      where
        go : Found s slot k so name e b → (is_name (row_at s b.name) ≡ true) × (is_le (compare_rows (row_at s b.name) x) ≡ true)
        go (before_all q n a) = absurd (let z = ap (λ (c : Block). c.name.count) n in omega arith)
        go (at_group fs g hs q l r a) = (ap is_name l.first ∙ l.named, ap (λ (y : Row). is_le (compare_rows y x)) l.first ∙ r.low)

    -- where the name was met in it
    pub met_bounds : (m : Met) → met_in s b x ≡ m → ¬ (m ≡ After false) → Bounds s b
    met_bounds m t n = go v
      where
        go : Found s slot k so name e b → Bounds s b
        go (before_all q z a) = absurd (n (sym t ∙ ap (λ (c : Block). met_in s c x) z))
        go (at_group fs g hs q l r a) = laid_bounds fs g hs l (few s slot k so name e fs g hs q)

    pub inside_index : (j : ℕ) → met_in s b x ≡ Inside j → j < b.count
    inside_index j t = go v
      where
        go : Found s slot k so name e b → j < b.count
        go (before_all q z a) = absurd (let y : After false ≡ Inside j = sym (ap (λ (c : Block). met_in s c x) z) ∙ t in let w : ◌≡◌ {A = ℕ} 0 1 = cc in omega arith)
        go (at_group fs g hs q l r a) =
            let p = met_inside g x l.named r.low j (sym (met_is s slot k so name e fs g hs b l) ∙ t) in
            let c = l.count in
            let i = p.2 in
            let h = p.3 in
            omega arith

    pub here_index : (j : ℕ) → met_in s b x ≡ Here j → j < b.count
    here_index j t = go v
      where
        go : Found s slot k so name e b → j < b.count
        go (before_all q z a) = absurd (let y : After false ≡ Here j = sym (ap (λ (c : Block). met_in s c x) z) ∙ t in let w : ◌≡◌ {A = ℕ} 0 1 = cc in omega arith)
        go (at_group fs g hs q l r a) =
            let p = met_here g x l.named r.low j (sym (met_is s slot k so name e fs g hs b l) ∙ t) in
            let c = l.count in
            let h = p.1 in
            omega arith

    -- the group after it: none, or a group
    pub next_bounds : 1 ≤ (next_in s (after_block b)).count → Bounds s (next_in s (after_block b))
    next_bounds t = go (found_ends s slot k so name e b v)
      where
        go : Ends s slot k so name e b → Bounds s (next_in s (after_block b))
        go (ends fs hs q g z) = by (subst (λ (p : ℕ). Next s fs hs (next_in s p)) (sym z) (next_block s k fs hs (bytes s slot k so name e ∙ ap form_bytes q) g))
          where
            by : Next s fs hs (next_in s (after_block b)) → Bounds s (next_in s (after_block b))
            by (last y n) = absurd (let w = ap (λ (c : Block). c.count) n in omega arith)
            by (next h ks y l) = laid_bounds fs h ks l (few_after s slot k so name e fs hs q h ks y)

    -- the same by where the block ends
    pub after_end : 1 ≤ b.count → after_block b ≡ end_of b
    after_end t = ap (λ (c : Bool). cond c 0 (end_of b)) (ne_eqb b.count 0 (λ z. omega arith))

-- a test of the group after that says yes
pub precedes_some : (s : Bytes) (x : Row) (n : Block) → precedes_in s x n ≡ true → 1 ≤ n.count
precedes_some s x n t = elim (dec_le 1 n.count) [
  | yes l ↦ l
  | no l ↦ absurd (yes_no t (ap (λ (c : Bool). cond c false (is_next x (row_at s n.name))) (eq-eqb n.count 0 (omega arith))))
]

pub goes_some : (s : Bytes) (b n : Block) → goes_on s b n ≡ true → (1 ≤ b.count) × (1 ≤ n.count)
goes_some s b n t = elim (dec_le 1 b.count) [
  | yes l ↦ elim (dec_le 1 n.count) [ yes m ↦ (l, m) | no m ↦ absurd (yes_no t (ap (λ (c : Bool). cond (eqb b.count 0) false (cond c false y)) (eq-eqb n.count 0 (omega arith)) ∙ either (eqb b.count 0))) ]
  | no l ↦ absurd (yes_no t (ap (λ (c : Bool). cond c false (cond (eqb n.count 0) false y)) (eq-eqb b.count 0 (omega arith))))
]
  where
    y : Bool
    y = is_eq (compare_rows (onward b.count (row_at s b.name)) (row_at s n.name))

    either : (c : Bool) → cond c false false ≡ false
    either true = refl
    either false = refl
