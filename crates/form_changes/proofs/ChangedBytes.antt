-- The pieces of a changed form: how many bytes each has (`head_in_length`, `front_length`, `changed_length`), that they are the form once they are written one
-- after the other (`front_written`, `put_written`, `cut_written`), and what a call then answers (`too_short`, `is_written`). Assumes nothing.
use mathlib.Core.Path.{◌≡◌, refl, sym, ap, ◌∙◌}
use mathlib.Core.List.{[], ◌++◌, map, append_assoc}
use mathlib.Core.Bool.{Bool, true, false, cond}
use Prim.Native.Nat.{ℕ, ◌+◌, ◌-◌, ◌*◌, ◌≤◌, ◌<◌}
use native.Mathlib.Omega.{arith}
use native.Mathlib.Decide.{dec_le}
use borrow.Author.Tests.{eq-eqb, ne_eqb}
use lib.Dec.{eqb}
use lib.ListN.{length, take, drop, length-append, length-drop, length-map, take-append-drop}
use lib.Seq.{length-take-le, drop-drop}
use Rattle.names.specs.Ordering.{Row}
use Rattle.numbers.specs.Bytes.{Bytes, put}
use Rattle.numbers.proofs.Put.{put_more, put_length, put_none}
use Rattle.slots.specs.Tuples.{tuple_size, row_at}
use Rattle.slots.proofs.CopiedTuples.{put_over}
use Rattle.answers.specs.declared.Refusal.TheVariants.{Short}
use Rattle.std.specs.declared.result.Result.TheVariants.{Ok, Err}
use Rattle.answers.specs.Answers.{write, leaves}
use Rattle.answers.proofs.Outcomes.{refused, accepted, writes, writes_short}
use Rattle.fields.specs.Fields.{single}
use Rattle.fields.proofs.FieldInverse.{flat_single}
use Rattle.runs.specs.Runs.{onward}
use Rattle.groups.specs.Forms.{group_head}
use Rattle.forms.specs.Blocks.{after_name, sizes_bytes, head_bytes}
use Rattle.forms.proofs.HeadBytes.{head_at, sizes_size}
use Rattle.form_changes.specs.declared.Head.{Head}
use Rattle.form_changes.specs.declared.Change.{Change}
use Rattle.form_changes.specs.Changes.{head_for, head_in, sizes_for, front, back, changed, Fits}

-- ── each piece ──

pub no_head_lem : (a : Row) (n : ℕ) → n ≡ 0 → head_for a n ≡ []
no_head_lem a n e = simp (eq-eqb n 0 e)

pub a_head : (a : Row) (n : ℕ) → 1 ≤ n → head_for a n ≡ head_bytes a n
a_head a n h = simp (ne_eqb n 0 (λ e. omega arith))

pub no_sizes : (n : ℕ) → n ≡ 0 → sizes_for n ≡ []
no_sizes n e = simp (eq-eqb n 0 e)

pub some_sizes : (n : ℕ) → 1 ≤ n → sizes_for n ≡ sizes_bytes n
some_sizes n h = simp (ne_eqb n 0 (λ e. omega arith))

-- of so many slots, with a name of so many tuples
abbrev pub size_of_head : ℕ → ℕ → ℕ
size_of_head slots count = cond (eqb slots 0) 0 (group_head + tuple_size * count)

pub head_in_length : (s : Bytes) (h : Head) → length (head_in s h) ≡ size_of_head h.slots h.name.count
head_in_length s h = go (eqb h.slots 0)
  where
    go : (b : Bool) → length (cond b [] (head_bytes (onward h.onward (row_at s h.name)) h.slots)) ≡ cond b 0 (group_head + tuple_size * h.name.count)
    go true = refl
    go false = head_at h.onward s h.name h.slots

-- nothing is said of the group before
pub front_none : (s : Bytes) (c : Change) → c.count ≡ 0 → front s c ≡ take c.from s
front_none s c e = ap (put (take c.from s) (c.lines - after_name)) (no_sizes c.count e) ∙ sym (put_none (take c.from s) (c.lines - after_name))

module _ (s : Bytes) (c : Change) (v : Fits s c) where
  pub front_length : length (front s c) ≡ c.from
  front_length =
      let order = v.order in
      let within = v.within in
      let l = length-take-le c.from s (omega arith) in
      elim (dec_le 1 c.count) [
        | yes h ↦
            let fits = v.sizes h in
            let e = some_sizes c.count h in
            let f = sizes_size c.count in
            ap (λ (w : Bytes). length (put (take c.from s) (c.lines - after_name) w)) e
            ∙ put_length (take c.from s) (c.lines - after_name) (omega arith) (sizes_bytes c.count) (omega arith)
            ∙ l
        | no h ↦ ap length (front_none s c (omega arith)) ∙ l
      ]

  pub back_length : length (back s c) ≡ length (head_in s c.rest) + (length s - c.to)
  back_length = length-append (head_in s c.rest) (drop c.to s) ∙ ap (λ (n : ℕ). length (head_in s c.rest) + n) (length-drop c.to s)

  pub changed_length : (w : Bytes) → length (changed s w c) ≡ c.from + length w + length (head_in s c.rest) + (length s - c.to)
  unfolding changed
  changed_length w =
      let a = front_length in
      let b = back_length in
      length-append (front s c) (w ++ back s c) ∙ ap (λ (n : ℕ). length (front s c) + n) (length-append w (back s c)) ∙ omega arith

  -- ── written ──

  -- the bytes before, and then how many slots the group before has, over what stood there
  pub front_written : (o : Bytes) {d e : Bytes} → c.from ≤ length o → 1 ≤ c.count → d ≡ put o 0 (take c.from s) → e ≡ put d (c.lines - after_name) (sizes_bytes c.count)
      → e ≡ put o 0 (front s c)
  front_written o {d} {e} h n f g =
      let order = v.order in
      let within = v.within in
      let fits = v.sizes n in
      let w = take c.from s in
      let q = c.lines - after_name in
      let z = sizes_bytes c.count in
      let l = length-take-le c.from s (omega arith) in
      let m : length (take q w) ≡ q = length-take-le q w (omega arith) in
      let at : q ≡ 0 + length (take q w) = omega arith in
      put_over o 0 (omega arith) (take q w) (drop q w) z (omega arith) (f ∙ ap (put o 0) (sym (take-append-drop q w))) at g
      ∙ ap (put o 0) (sym (append_assoc (take q w) z (drop (length z) (drop q w))) ∙ ap (λ (r : Bytes). take q w ++ z ++ r) (drop-drop (length z) q w))
      ∙ ap (λ (r : Bytes). put o 0 (put w q r)) (sym (some_sizes c.count n))

  module _ (o : Bytes) where
    -- what stands before, what is put between, and what stands after
    pub put_written : (w : Bytes) {d e f : Bytes} {p : ℕ} → d ≡ put o 0 (front s c) → e ≡ put d c.from w → p ≡ c.from + length w → f ≡ put e p (back s c) → f ≡ put o 0 (changed s w c)
    unfolding changed
    put_written w {p = p} a b q g =
        let l = front_length in
        let m = length-append (front s c) w in
        let at : c.from ≡ 0 + length (front s c) = omega arith in
        let on : p ≡ 0 + length (front s c ++ w) = omega arith in
        put_more o 0 (omega arith) (front s c ++ w) (back s c) (put_more o 0 (omega arith) (front s c) w a at b) on g
        ∙ ap (put o 0) (append_assoc (front s c) w (back s c))

    pub cut_written : {d f : Bytes} → d ≡ put o 0 (front s c) → f ≡ put d c.from (back s c) → f ≡ put o 0 (changed s [] c)
    cut_written {d} a g =
        let z : c.from ≡ c.from + 0 = omega arith in
        put_written [] a (put_none d c.from) z g

-- ── what a call answers ──

module _ (w o : Bytes) where
  pub too_short : length o < length w → (Err Short ≡ (write (map single w) (length o)).answer) × (o ≡ leaves (write (map single w) (length o)) o)
  too_short h = refused (write (map single w) (length o)) Short o (writes_short (map single w) (length o) (omega (arith, ap length (flat_single w))))

  pub is_written : {n : ℕ} (e : Bytes) → n ≡ length w → length w ≤ length o → e ≡ put o 0 w
      → (Ok n ≡ (write (map single w) (length o)).answer) × (e ≡ leaves (write (map single w) (length o)) o)
  is_written {n} e q h f =
      let z : length (map single w) ≡ n = omega (arith, length-map w single) in
      accepted (write (map single w) (length o)) n w o e (writes (map single w) (length o) n w z (flat_single w) h) f
