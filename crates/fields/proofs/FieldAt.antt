-- A field at the place p of some bytes s, which is said of `drop p s`: how far in s it reaches (`stands_long`); and at the end of s there is
-- nothing (`nothing_at`). Assumes nothing.
use mathlib.Core.Path.{◌≡◌, sym, ◌∙◌}
use mathlib.Core.Bool.{true}
use Prim.Native.Nat.{ℕ, ◌+◌, ◌≤◌}
use native.Mathlib.Decide.{dec_le}
use native.Mathlib.Omega.{arith}
use borrow.Author.Tests.{eq-eqb, ne_eqb}
use lib.Dec.{eqb}
use lib.ListN.{length, drop, length-drop}
use Rattle.numbers.specs.Bytes.{Bytes}
use Rattle.fields.specs.Fields.{field_head, size_in, stands, nothing}
use Rattle.fields.proofs.FieldInverse.{standing}

module _ (s : Bytes) (p : ℕ) where
  -- what stands ends within s
  pub stands_long : (tag size : ℕ) → stands tag size (drop p s) ≡ true → (p + (field_head + size) ≤ length s) × (size_in (drop p s) ≡ size)
  stands_long tag size e =
      let v = standing tag size (drop p s) e in
      (let l = v.long in let d = length-drop p s in omega arith, v.sized)

  -- nothing stands at the end of s
  pub nothing_at : p ≤ length s → eqb p (length s) ≡ nothing (drop p s)
  nothing_at h =
      let d = length-drop p s in
      elim (dec_le (length s) p) [
        | yes k ↦ eq-eqb p (length s) (omega arith) ∙ sym (eq-eqb (length (drop p s)) 0 (omega arith))
        | no k ↦ ne_eqb p (length s) (λ e. omega arith) ∙ sym (ne_eqb (length (drop p s)) 0 (λ e. omega arith))
      ]
