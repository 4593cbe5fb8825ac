-- The groups of slots written one after the other (`Grouping`, a loop's invariant, with its start, a turn and its end): each is what stands
-- before its line numbers, and these. Assumes nothing.
use mathlib.Core.Path.{◌≡◌, refl, sym, ap, ◌∙◌}
use mathlib.Core.List.{List, [], ◌∷◌, ◌++◌, map, append_assoc}
use Prim.Native.Nat.{ℕ, ◌+◌, ◌*◌, ◌<◌, ◌≤◌}
use native.Mathlib.Omega.{arith}
use lib.ListN.{length, drop, get_or, length-append, drop_of_length-le}
use lib.Seq.{drop-drop}
use Rattle.names.specs.Ordering.{Row}
use Rattle.numbers.specs.Bytes.{Bytes, put}
use Rattle.numbers.proofs.Put.{put_put, put_length, put_none}
use Rattle.slots.specs.Slots.{Slot}
use Rattle.pages.specs.Pages.{name_in}
use Rattle.groups.specs.Groups.{Group, line_size, grouped}
use Rattle.groups.specs.Forms.{line_bytes, form_bytes}
use Rattle.groups.proofs.LineBytes.{lines_length}
use Rattle.groups.proofs.FormInverse.{form_none, form_more}
use Rattle.forms.specs.Blocks.{head_bytes}
use Rattle.forms.proofs.HeadBytes.{head_lines}
use Rattle.grouping.specs.FirstGroup.{first_run}
use Rattle.grouping.proofs.FirstRun.{grouped_first}
use Rattle.grouping.proofs.LinesWritten.{lines_from, length_lines}

-- the groups of the slots before slot k were written to o, which was o₀; the next goes to p
pub record Grouping (l : List Slot) (o₀ o : Bytes) (p k : ℕ) : Type 0 where
  pub few : k ≤ length l
  pub count : p + length (form_bytes (grouped (drop k l))) ≡ length (form_bytes (grouped l))
  pub room : length o ≡ length o₀
  pub stand : put o p (form_bytes (grouped (drop k l))) ≡ put o₀ 0 (form_bytes (grouped l))

pub grouping_first : (l : List Slot) (o : Bytes) → Grouping l o o 0 0
grouping_first l o = record { few = omega arith; count = omega arith; room = refl; stand = refl }

module _ {l : List Slot} {o₀ o : Bytes} {p k : ℕ} (v : Grouping l o₀ o p k) where
  pub grouping_end : length l ≤ k → o ≡ put o₀ 0 (form_bytes (grouped l))
  grouping_end h =
      put_none o p
      ∙ ap (put o p) (sym (ap (λ (m : List Slot). form_bytes (grouped m)) (drop_of_length-le l {i = k} h) ∙ form_none))
      ∙ v.stand

  pub grouping_size : length l ≤ k → p ≡ length (form_bytes (grouped l))
  grouping_size h =
      let c = v.count in
      let z : length (form_bytes (grouped (drop k l))) ≡ 0 = ap (λ (m : List Slot). length (form_bytes (grouped m))) (drop_of_length-le l {i = k} h) ∙ ap length form_none in
      omega arith

  -- the next group: n slots, of which the first has the name a
  module _ (h : k < length l) (n : ℕ) (e : n ≡ first_run (drop k l)) (m : k + n ≤ length l) (a : Row) (f : a ≡ get_or (map name_in l) k []) where
    abbrev rest : Bytes
    rest = form_bytes (grouped (drop (k + n) l))

    abbrev lines : Bytes
    lines = line_bytes (lines_from l k n)

    next : form_bytes (grouped (drop k l)) ≡ head_bytes a n ++ (lines ++ rest)
    next =
        let g : Group = record { first = a; lines = lines_from l k n } in
        ap form_bytes (grouped_first l k h)
        ∙ (λ i. form_bytes (record { first = sym f i; lines = lines_from l k (sym e i) } ∷ grouped (drop (sym e i) (drop k l))))
        ∙ ap (λ (x : List Slot). form_bytes (g ∷ grouped x)) (drop-drop n k l)
        ∙ form_more g (grouped (drop (k + n) l))
        ∙ ap (λ (b : Bytes). b ++ rest) (head_lines g ∙ ap (λ (j : ℕ). head_bytes a j ++ lines) (length_lines l k n m))
        ∙ append_assoc (head_bytes a n) lines rest

    long : length (form_bytes (grouped (drop k l))) ≡ length (head_bytes a n) + (line_size * n + length rest)
    long =
        let c = length_lines l k n m in
        let d = lines_length (lines_from l k n) in
        ap length next
        ∙ length-append (head_bytes a n) (lines ++ rest)
        ∙ ap (λ (j : ℕ). length (head_bytes a n) + j) (length-append lines rest ∙ ap (λ (j : ℕ). j + length rest) (d ∙ ap (λ (j : ℕ). line_size * j) c))

    module _ (within : length (form_bytes (grouped l)) ≤ length o₀) where
      pub head_fits : p + length (head_bytes a n) ≤ length o
      head_fits = omega (arith, v.count, v.room, long)

      -- what stands before the line numbers was written
      module _ (o' : Bytes) (p' : ℕ) (q : p' ≡ p + length (head_bytes a n)) (w : o' ≡ put o p (head_bytes a n)) where
        head_room : length o' ≡ length o
        head_room = ap length w ∙ put_length o p (omega (arith, head_fits)) (head_bytes a n) head_fits

        pub lines_fit : p' + line_size * n ≤ length o'
        lines_fit = omega (arith, v.count, v.room, long, head_room)

        pub grouping_on : (o'' : Bytes) → o'' ≡ put o' p' (line_bytes (lines_from l k n)) → Grouping l o₀ o'' (p' + line_size * n) (k + n)
        grouping_on o'' z =
            let c = length_lines l k n m in
            let d = lines_length (lines_from l k n) in
            let fit = lines_fit in
            let fits = head_fits in
            let r = head_room in
            let t : length lines ≡ line_size * n = omega arith in
            record {
              few = m;
              count = omega (arith, v.count, long);
              room = ap length z ∙ put_length o' p' (omega arith) lines (omega arith) ∙ r ∙ v.room;
              stand =
                  (λ i. put (z i) (p' + sym t i) rest)
                  ∙ put_put o' p' (omega arith) lines rest
                  ∙ (λ i. put (w i) (q i) (lines ++ rest))
                  ∙ put_put o p (omega arith) (head_bytes a n) (lines ++ rest)
                  ∙ ap (put o p) (sym next)
                  ∙ v.stand;
            }
