-- `runs::beside_offsets` meets its contract. Assumes nothing.
use mathlib.Core.Path.{◌≡◌, sym, ap, ◌∙◌}
use mathlib.Core.Bool.{true, false}
use Prim.Native.Nat.{ℕ, ◌-◌, ◌<◌, ◌≤◌, ◌^◌}
use native.Mathlib.Omega.{arith}
use lib.IntN.{ℤ, pos, suc_ℤ, ◌+ℤ◌, ◌-ℤ◌, +ℤ_one}
use lib.Signed.{lt_z}
use mir.Syntax.{w32}
use mir.Val.{to_z, of_z, SFits}
use mir.ValLaws.{to_z-of_z}
use Rattle.names.specs.Ordering.{◌<ᶻ◌}
use Rattle.numbers.proofs.SignedTests.{tested}
use Rattle.runs.specs.Beside.{by_offsets}
use Rattle.runs.proofs.ByOffsets.{is_lower, one_more_fits, right_before, lower, lower_deeper, not_lower, reaching, minus}
use Rattle.runs.proofs.beside_offsets.Goals as goal
use Rattle.runs.proofs.beside_offsets.Goals.{else-ends-via-then-ends+else-y-x-2, else-ends-via-else-ends}

-- one more than y as the code has it, and two numbers of the same bits
one_more : (y : ℤ) → SFits w32 y → to_z w32 (of_z w32 y) +ℤ pos 1 ≡ suc_ℤ y
one_more y f = ap (λ (z : ℤ). z +ℤ pos 1) (to_z-of_z w32 y f) ∙ +ℤ_one y

same_bits : {x y : ℤ} → SFits w32 x → SFits w32 y → of_z w32 x ≡ of_z w32 y → x ≡ y
same_bits {x} {y} f g e = sym (to_z-of_z w32 x f) ∙ ap (to_z w32) e ∙ to_z-of_z w32 y g

module _ {x y : ℤ} {n : ℕ} (f : SFits w32 x) (g : SFits w32 y) (e : x ≡ pos n) where
  -- y is below x, and one more is as wide
  below : lt_z (to_z w32 (of_z w32 y)) (to_z w32 (of_z w32 x)) ≡ true → (y <ᶻ pos n) × SFits w32 (suc_ℤ y)
  below t =
      let h = is_lower y n (rw e at (tested w32 g f t)) in
      let wide : n < 2 ^ 31 = rw e at f.sfits in
      (h, record { sfits = one_more_fits y h wide g.sfits })

  -- y is a number from x on, and the code has how many it comes after x
  reached : lt_z (to_z w32 (of_z w32 y)) (to_z w32 (of_z w32 x)) ≡ false →
      (m : ℕ) × (y ≡ pos m) × (n ≤ m) × SFits w32 (pos (m - n)) × (to_z w32 (of_z w32 y) -ℤ to_z w32 (of_z w32 x) ≡ pos (m - n))
  reached t =
      let r = not_lower y n (rw e at (tested w32 g f t)) in
      let wide : r.0 < 2 ^ 31 = rw r.1 at g.sfits in
      (r.0, r.1, r.2, record { sfits = omega arith }, (λ i. (to_z-of_z w32 y g ∙ r.1) i -ℤ (to_z-of_z w32 x f ∙ e) i) ∙ minus r.0 n r.2)

pub overflow_add-y : goal.overflow_add-y
overflow_add-y c =
    let f = c.ranges in
    rw (one_more c.args.y f.y) (below f.x f.y c.requires.1 c.if-y-x.true).1

pub returns-then-y-x-2 : goal.returns-then-y-x-2
returns-then-y-x-2 c =
    let f = c.ranges in
    let y = c.args.y in
    let e = c.requires.1 in
    let one = (below f.x f.y e c.if-y-x.true).1 in
    let q : suc_ℤ y ≡ pos c.requires.0 = same_bits one f.x (ap (of_z w32) (sym (one_more y f.y)) ∙ c.if-y-x-2.true) ∙ e in
    sym ((λ i. by_offsets (e i) y (c.if-ends.true i)) ∙ right_before y c.requires.0 q)

pub returns-else-ends : goal.returns-else-ends
returns-else-ends c =
    let f = c.ranges in
    let y = c.args.y in
    let e = c.requires.1 in
    let low = (below f.x f.y e c.if-y-x.true).0 in
    elim c.else-ends.branch [
      | else-ends-via-then-ends+else-y-x-2 w ↦
          sym
          ((λ i. by_offsets (e i) y (w.if-ends.true i))
          ∙ lower y c.requires.0 low (λ q. w.if-y-x-2.false (ap (of_z w32) (one_more y f.y ∙ q ∙ sym e))))
      | else-ends-via-else-ends w ↦ sym ((λ i. by_offsets (e i) y (w.if-ends.false i)) ∙ lower_deeper y c.requires.0 low)
    ]

pub overflow_sub-i : goal.overflow_sub-i
overflow_sub-i c =
    let f = c.ranges in
    let r = reached f.x f.y c.requires.1 c.if-y-x.false in
    rw r.4 r.3

pub overflow_cast-i : goal.overflow_cast-i
overflow_cast-i c =
    let f = c.ranges in
    let r = reached f.x f.y c.requires.1 c.if-y-x.false in
    rw (r.4, to_z-of_z w32 (pos (r.0 - c.requires.0)) r.3) (tt, omega (arith, r.3))

pub returns-then-ends-2 : goal.returns-then-ends-2
returns-then-ends-2 c =
    let f = c.ranges in
    let e = c.requires.1 in
    let r = reached f.x f.y e c.if-y-x.false in
    rw (r.4, to_z-of_z w32 (pos (r.0 - c.requires.0)) r.3)
    (sym ((λ i. by_offsets (e i) (r.1 i) (c.if-ends-2.true i)) ∙ reaching r.0 c.requires.0 true r.2))

pub returns-else-ends-2 : goal.returns-else-ends-2
returns-else-ends-2 c =
    let f = c.ranges in
    let e = c.requires.1 in
    let r = reached f.x f.y e c.if-y-x.false in
    rw (r.4, to_z-of_z w32 (pos (r.0 - c.requires.0)) r.3)
    (sym ((λ i. by_offsets (e i) (r.1 i) (c.if-ends-2.false i)) ∙ reaching r.0 c.requires.0 false r.2))
