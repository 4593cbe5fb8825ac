-- What stands before the line numbers of a group: with these it is the group (`head_lines`), how many bytes (`head_size_lem`), and that it is there
-- once its pieces are written one after the other (`sizes_written`, `head_written`). Assumes nothing.
use mathlib.Core.Path.{◌≡◌, refl, sym, ap, ◌∙◌}
use mathlib.Core.List.{◌∷◌, ◌++◌, append_assoc}
use Prim.Native.Nat.{ℕ, ◌+◌, ◌*◌, ◌≤◌}
use native.Mathlib.Omega.{arith}
use lib.ListN.{length, length-append}
use Rattle.names.specs.Ordering.{Row}
use Rattle.numbers.specs.Bytes.{Bytes, bytes16, put}
use Rattle.numbers.proofs.Put.{put_more}
use Rattle.slots.specs.declared.Span.{Span}
use Rattle.slots.specs.Tuples.{tuple_size, row_at, row_bytes}
use Rattle.slots.proofs.TuplesInBytes.{length_tuples_at}
use Rattle.slots.proofs.WrittenSlots.{row_length}
use Rattle.runs.specs.Runs.{onward}
use Rattle.runs.proofs.RunNames.{onward_length}
use Rattle.fields.specs.Fields.{field_head, field_bytes}
use Rattle.name_fields.specs.NameFields.{field_of_name}
use Rattle.name_fields.proofs.NameInverse.{name_length}
use Rattle.groups.specs.Groups.{Group, size, line_size}
use Rattle.groups.specs.Forms.{first_tag, length_tag, lines_tag, length_size, line_bytes, group_bytes, group_head}
use Rattle.groups.proofs.LineBytes.{lines_length}
use Rattle.forms.specs.Blocks.{after_name, sizes_bytes, head_bytes}

pub sizes_size : (n : ℕ) → length (sizes_bytes n) ≡ after_name
sizes_size n = refl

pub head_lines : (g : Group) → group_bytes g ≡ head_bytes g.first (size g) ++ line_bytes g.lines
head_lines g =
    let w = line_bytes g.lines in
    let a = field_of_name first_tag g.first in
    let b = field_bytes length_tag (bytes16 (size g)) in
    let c = lines_tag ∷ bytes16 (line_size * size g) in
    ap (λ (n : ℕ). a ++ b ++ ((lines_tag ∷ bytes16 n) ++ w)) (lines_length g.lines)
    ∙ sym (append_assoc (a ++ b) c w)
    ∙ ap (λ (r : Bytes). r ++ w) (append_assoc a b c)

pub head_size_lem : (a : Row) (n : ℕ) → length (head_bytes a n) ≡ group_head + tuple_size * length a
head_size_lem a n =
    let e = name_length first_tag a in
    let f = sizes_size n in
    length-append (field_of_name first_tag a) (sizes_bytes n) ∙ omega arith

-- of a name in bytes, k later
pub onward_size : (k : ℕ) (s : Bytes) (x : Span) → length (onward k (row_at s x)) ≡ x.count
onward_size k s x = onward_length k (row_at s x) ∙ length_tuples_at s x.at x.count

pub head_at : (k : ℕ) (s : Bytes) (x : Span) (n : ℕ) → length (head_bytes (onward k (row_at s x)) n) ≡ group_head + tuple_size * x.count
head_at k s x n = head_size_lem (onward k (row_at s x)) n ∙ ap (λ (j : ℕ). group_head + tuple_size * j) (onward_size k s x)

-- their pieces, as three calls each leave them
pub sizes_written : (o : Bytes) (p : ℕ) → p ≤ length o → (n : ℕ) {o₁ o₂ o₃ : Bytes} → o₁ ≡ put o p (length_tag ∷ bytes16 length_size)
    → o₂ ≡ put o₁ (p + field_head) (bytes16 n) → o₃ ≡ put o₂ (p + field_head + length_size) (lines_tag ∷ bytes16 (line_size * n)) → o₃ ≡ put o p (sizes_bytes n)
sizes_written o p h n e₁ e₂ e₃ =
    let w = field_bytes length_tag (bytes16 n) in
    let q : p + field_head + length_size ≡ p + length w = omega arith in
    put_more o p h w (lines_tag ∷ bytes16 (line_size * n)) (put_more o p h (length_tag ∷ bytes16 length_size) (bytes16 n) e₁ refl e₂) q e₃

module _ (o : Bytes) (p : ℕ) (h : p ≤ length o) (a : Row) (n : ℕ) {size : ℕ} (e : size ≡ tuple_size * length a) where
  pub head_written : {o₁ o₂ o₃ : Bytes} → o₁ ≡ put o p (first_tag ∷ bytes16 size) → o₂ ≡ put o₁ (p + field_head) (row_bytes a)
      → o₃ ≡ put o₂ (p + field_head + size) (sizes_bytes n) → o₃ ≡ put o p (head_bytes a n)
  head_written e₁ e₂ e₃ =
      let f : size ≡ length (row_bytes a) = e ∙ sym (row_length a) in
      let w₁ = first_tag ∷ bytes16 (length (row_bytes a)) in
      let w₂ = field_of_name first_tag a in
      let l = name_length first_tag a in
      let p₁ = e₁ ∙ ap (λ (k : ℕ). put o p (first_tag ∷ bytes16 k)) f in
      let p₂ = put_more o p h w₁ (row_bytes a) p₁ refl e₂ in
      let q : p + field_head + size ≡ p + length w₂ = omega arith in
      put_more o p h w₂ (sizes_bytes n) p₂ q e₃
