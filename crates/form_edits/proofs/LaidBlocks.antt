-- A group of a form where it stands, after the groups fs and before hs (`Laid`, `laid`), its line numbers in two parts (`lines_first`, `lines_rest`), with what
-- follows them (`lines_from`, `lines_on`), and the form up to there where another number of slots is said of the group (`recounted`). Assumes nothing.
use mathlib.Core.Path.{◌≡◌, refl, ◌∙◌, sym, ap, subst}
use mathlib.Core.List.{List, [], ◌∷◌, ◌++◌, append_assoc, append-nil}
use mathlib.Core.Bool.{Bool, true, cond}
use Prim.Native.Nat.{ℕ, ◌+◌, ◌-◌, ◌*◌, ◌≤◌}
use native.Mathlib.Omega.{arith}
use lib.ListN.{length, take, drop, length-append, take-append-drop}
use lib.Seq.{take_at, drop_at, drop-drop, take_all, take-take, take-add, length-take-le}
use Rattle.names.specs.Names.{limit, is_name, fits}
use Rattle.numbers.specs.Bytes.{Bytes, Octets, at32, put}
use Rattle.numbers.proofs.Bools.{and_0}
use Rattle.slots.specs.Tuples.{tuple_size, row_at}
use Rattle.fields.specs.Fields.{field_head}
use Rattle.name_fields.specs.NameFields.{field_of_name}
use Rattle.runs.proofs.RunNames.{last_offset, name_at}
use Rattle.groups.specs.Groups.{Group, size, line_size, is_group}
use Rattle.groups.specs.Forms.{first_tag, group_bytes, form_bytes, lines_at, line_bytes, group_stands, group_in, after_group}
use Rattle.groups.proofs.GroupTests.{good}
use Rattle.groups.proofs.RunSlots.{run_first, run_within}
use Rattle.groups.proofs.LineBytes.{length_lines_at, lines_length, here_lines, lines_add}
use Rattle.groups.proofs.GroupBytes.{stands_back, group_back, after_back}
use Rattle.groups.proofs.FormInverse.{form_none, form_more, form_append}
use Rattle.forms.specs.declared.Block.{Block}
use Rattle.forms.specs.Blocks.{no_block, block_here, end_of, Stood, after_name, sizes_bytes}
use Rattle.forms.proofs.BlockAt.{block_group, block_end, block_after, stood}
use Rattle.forms.proofs.GroupsInBlocks.{group_named}
use Rattle.forms.proofs.HeadBytes.{sizes_size, head_lines}
use Rattle.form_changes.specs.declared.Change.{Change}
use Rattle.form_changes.specs.Changes.{head_for, front}
use Rattle.form_changes.proofs.ChangedBytes.{a_head, some_sizes}
use Rattle.form_edits.specs.Choices.{group_at}

pub record Laid (s : Bytes) (fs : List Group) (g : Group) (hs : List Group) (b : Block) : Type 0 where
  pub start : b.name.at ≡ length (form_bytes fs) + field_head
  pub first : row_at s b.name ≡ g.first
  pub lines : lines_at s b.lines b.count ≡ g.lines
  pub count : b.count ≡ size g
  pub long : 1 ≤ b.count
  pub end : end_of b ≡ length (form_bytes (fs ++ (g ∷ [])))
  pub behind : length (form_bytes fs) ≤ end_of b
  pub stood : Stood s b
  pub deep : 1 ≤ b.name.count
  pub short : b.name.count ≤ limit
  pub named : is_name g.first ≡ true
  pub offsets : at32 s (b.name.at + tuple_size * b.name.count - 4) + b.count ≤ 2147483647
  pub before : take (length (form_bytes fs)) s ≡ form_bytes fs
  pub after : drop (end_of b) s ≡ form_bytes hs
  pub spaced : length (form_bytes fs) + after_name ≤ b.lines
  pub headed : take (b.lines - after_name) s ≡ form_bytes fs ++ field_of_name first_tag g.first

-- what stands at p, where a group stands there
pub there : (s : Bytes) (p : ℕ) → group_stands (drop p s) ≡ true → group_at s p ≡ block_here s p
there s p e = ap (λ (b : Bool). cond b (block_here s p) no_block) e

-- a group more
pub one_more : (fs : List Group) (g : Group) → form_bytes (fs ++ (g ∷ [])) ≡ form_bytes fs ++ group_bytes g
one_more fs g =
    form_append fs (g ∷ [])
    ∙ ap (λ (s : Bytes). form_bytes fs ++ s) (form_more g [] ∙ ap (λ (s : Bytes). group_bytes g ++ s) form_none ∙ append-nil (group_bytes g))

module _ (s : Bytes) (k : Octets s) (fs : List Group) (g : Group) (hs : List Group) (e : s ≡ form_bytes (fs ++ (g ∷ hs))) (v : is_group g ≡ true) where
  abbrev p : ℕ
  p = length (form_bytes fs)

  split : s ≡ form_bytes fs ++ (group_bytes g ++ form_bytes hs)
  split = e ∙ form_append fs (g ∷ hs) ∙ ap (λ (r : Bytes). form_bytes fs ++ r) (form_more g hs)

  from : drop p s ≡ group_bytes g ++ form_bytes hs
  from = ap (drop p) split ∙ drop_at (form_bytes fs) (group_bytes g ++ form_bytes hs) p refl

  pub stands_there : group_stands (drop (length (form_bytes fs)) s) ≡ true
  stands_there = ap group_stands from ∙ stands_back g (form_bytes hs)

  pub place_within : length (form_bytes fs) ≤ length s
  place_within = let n = ap length split ∙ length-append (form_bytes fs) (group_bytes g ++ form_bytes hs) in omega arith

  is_named : is_name g.first ≡ true
  is_named = let q = good g v in and_0 (is_name g.first) (fits g.first) (run_first g.first g.lines q.long q.slots)

  is_group_lem : group_in (drop p s) ≡ g
  is_group_lem = ap group_in from ∙ group_back g (form_bytes hs) is_named

  -- the name's field, and what follows it
  abbrev after_field_lem : Bytes
  after_field_lem = sizes_bytes (size g) ++ (line_bytes g.lines ++ form_bytes hs)

  fields : s ≡ (form_bytes fs ++ field_of_name first_tag g.first) ++ after_field_lem
  fields =
      split
      ∙ ap (λ (r : Bytes). form_bytes fs ++ (r ++ form_bytes hs)) (head_lines g)
      ∙ again (form_bytes fs) (field_of_name first_tag g.first) (sizes_bytes (size g)) (line_bytes g.lines) (form_bytes hs)
    where
      again : (a b c d e : Bytes) → a ++ ((b ++ c) ++ d ++ e) ≡ (a ++ b) ++ (c ++ (d ++ e))
      again a b c d e = simp append_assoc

  fields_length : length (group_bytes g) ≡ length (field_of_name first_tag g.first) + (after_name + line_size * size g)
  fields_length =
      let a = field_of_name first_tag g.first in
      let z = sizes_size (size g) in
      let l = lines_length g.lines in
      ap length (head_lines g) ∙ length-append (a ++ sizes_bytes (size g)) (line_bytes g.lines) ∙ ap (λ (n : ℕ). n + length (line_bytes g.lines)) (length-append a (sizes_bytes (size g))) ∙ omega arith

  laid_here : Laid s fs g hs (block_here s (length (form_bytes fs)))
  laid_here =
      let b = block_here s p in
      let q = block_group s p stands_there ∙ is_group_lem in
      let first : row_at s b.name ≡ g.first = ap (λ (h : Group). h.first) q in
      let lines : lines_at s b.lines b.count ≡ g.lines = ap (λ (h : Group). h.lines) q in
      let count : b.count ≡ size g = sym (length_lines_at s b.lines b.count) ∙ ap length lines in
      let w = good g v in
      let n = group_named s b (ap is_group q ∙ v) in
      let o = name_at s b.name.at b.name.count n.named in
      let r = run_within g.first g.lines (ap last_offset (sym first) ∙ o.0) w.long w.slots in
      let ends : end_of b ≡ p + length (group_bytes g) = block_end s p stands_there ∙ ap (λ (h : Group). p + length (group_bytes h)) is_group_lem in
      let n-long = fields_length in
      let name-end : length (form_bytes fs ++ field_of_name first_tag g.first) ≡ b.lines - after_name = length-append (form_bytes fs) (field_of_name first_tag g.first) ∙ omega arith in
      record {
        start = refl;
        first = first;
        lines = lines;
        count = count;
        long = let l = w.long in omega arith;
        end = ends ∙ sym (ap length (one_more fs g) ∙ length-append (form_bytes fs) (group_bytes g));
        behind = let q = block_end s p stands_there in omega arith;
        stood = stood s p stands_there k;
        deep = n.deep;
        short = n.short;
        named = is_named;
        offsets = let l = r in omega arith;
        before = ap (take p) split ∙ take_at (form_bytes fs) (group_bytes g ++ form_bytes hs) p refl;
        after = block_after s p stands_there ∙ ap after_group from ∙ after_back g (form_bytes hs);
        spaced = omega arith;
        headed = ap (take (b.lines - after_name)) fields ∙ take_at (form_bytes fs ++ field_of_name first_tag g.first) after_field_lem (b.lines - after_name) name-end;
      }

  pub laid : Laid s fs g hs (group_at s (length (form_bytes fs)))
  laid = subst (Laid s fs g hs) (sym (there s p stands_there)) laid_here

-- its line numbers, the first i and the rest
module _ {s : Bytes} {fs : List Group} {g : Group} {hs : List Group} {b : Block} (k : Octets s) (v : Laid s fs g hs b) (i : ℕ) (h : i ≤ b.count) where
  two : lines_at s b.lines i ++ lines_at s (b.lines + line_size * i) (b.count - i) ≡ g.lines
  two =
      let m : i + (b.count - i) ≡ b.count = omega arith in
      sym (lines_add s b.lines i (b.count - i)) ∙ ap (lines_at s b.lines) m ∙ v.lines

  abbrev first : List ℕ
  first = lines_at s b.lines i

  abbrev rest : List ℕ
  rest = lines_at s (b.lines + line_size * i) (b.count - i)

  first_is : first ≡ take i g.lines
  first_is = sym (ap (take i) (sym two) ∙ take_at first rest i (length_lines_at s b.lines i))

  rest_is : rest ≡ drop i g.lines
  rest_is = sym (ap (drop i) (sym two) ∙ drop_at first rest i (length_lines_at s b.lines i))

  pub lines_first : take (line_size * i) (drop b.lines s) ≡ line_bytes (take i g.lines)
  lines_first = let l = v.stood.1 in sym (here_lines s k b.lines i (omega arith)) ∙ ap line_bytes first_is

  pub lines_rest : take (line_size * (b.count - i)) (drop (b.lines + line_size * i) s) ≡ line_bytes (drop i g.lines)
  lines_rest = let l = v.stood.1 in sym (here_lines s k (b.lines + line_size * i) (b.count - i) (omega arith)) ∙ ap line_bytes rest_is

  -- all that stands from there on
  pub lines_from : drop (b.lines + line_size * i) s ≡ line_bytes (drop i g.lines) ++ form_bytes hs
  lines_from =
      let t = b.lines + line_size * i in
      let m = line_size * (b.count - i) in
      let e : t + m ≡ end_of b = omega arith in
      sym (take-append-drop m (drop t s)) ∙ (λ j. lines_rest j ++ (drop-drop m t s ∙ ap (λ (n : ℕ). drop n s) e ∙ v.after) j)

-- all of them
module _ {s : Bytes} {fs : List Group} {g : Group} {hs : List Group} {b : Block} (k : Octets s) (v : Laid s fs g hs b) where
  pub lines_on : drop b.lines s ≡ line_bytes g.lines ++ form_bytes hs
  lines_on = let z : b.lines ≡ b.lines + line_size * 0 = omega arith in ap (λ (n : ℕ). drop n s) z ∙ lines_from k v 0 (omega arith)

  -- the group up to its line i, and so many slots said of it
  pub recounted : (c : Change) (i : ℕ) → i ≤ b.count → c.from ≡ b.lines + line_size * i → c.lines ≡ b.lines → 1 ≤ c.count
      → front s c ≡ form_bytes fs ++ (head_for g.first c.count ++ line_bytes (take i g.lines))
  recounted c i h f l n =
      let d = v.spaced in
      let q = b.lines - after_name in
      let t = b.lines + line_size * i in
      let w = take t s in
      let z = sizes_bytes c.count in
      let m = v.stood.1 in
      let e : q + length z ≡ b.lines = let y = sizes_size c.count in omega arith in
      let o = length-take-le b.lines s (omega arith) in
      let name = field_of_name first_tag g.first in
      let lines = line_bytes (take i g.lines) in
      let before : take q w ≡ form_bytes fs ++ name = take-take q t s (omega arith) ∙ v.headed in
      let after : drop (q + length z) w ≡ lines =
      (λ j. drop (e j) (take-add b.lines (line_size * i) s j))
      ∙ drop_at (take b.lines s) (take (line_size * i) (drop b.lines s)) b.lines o
      ∙ lines_first k v i h in
      (λ j. put (take (f j) s) (l j - after_name) (some_sizes c.count n j))
      ∙ (λ j. before j ++ z ++ after j)
      ∙ again (form_bytes fs) name z lines
      ∙ ap (λ (r : Bytes). form_bytes fs ++ (r ++ lines)) (sym (a_head g.first c.count n))
    where
      again : (a b c d : Bytes) → (a ++ b) ++ c ++ d ≡ a ++ ((b ++ c) ++ d)
      again a b c d = simp append_assoc

  -- all of the group
  pub recounted_all : (c : Change) → c.from ≡ end_of b → c.lines ≡ b.lines → 1 ≤ c.count
      → front s c ≡ form_bytes fs ++ (head_for g.first c.count ++ line_bytes g.lines)
  recounted_all c f l n =
      let m = v.count in
      recounted c b.count (omega arith) f l n
      ∙ ap (λ (r : List ℕ). form_bytes fs ++ (head_for g.first c.count ++ line_bytes r)) (take_all b.count g.lines (omega arith))
