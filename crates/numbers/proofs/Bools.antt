-- Tests: joined by `&&` and by `||`, with two answers, one that never holds, and two of numbers that hold together. Assumes nothing.
use mathlib.Core.Path.{◌≡◌, refl, ◌∙◌, sym}
use mathlib.Core.Bool.{Bool, true, false, ◌&&◌, ◌||◌}
use Prim.Native.Nat.{ℕ, ◌≤◌}
use native.Mathlib.Decide.{dec_le}
use native.Mathlib.Omega.{arith}
use borrow.Author.Tests.{le-leb, lt-leb}
use lib.Dec.{leb}

pub and_0 : (a b : Bool) → a && b ≡ true → a ≡ true
and_0 true b e = refl
and_0 false b e = e

pub and_1 : (a b : Bool) → a && b ≡ true → b ≡ true
and_1 true b e = e
and_1 false b e = absurd (let z : ◌≡◌ {A = ℕ} 0 1 = cc in omega arith)

pub yes_no : {A : Type 0} {b : Bool} → b ≡ true → b ≡ false → A
yes_no p q = absurd (let z : ◌≡◌ {A = ℕ} 0 1 = cc in omega arith)

pub or_0 : (a b : Bool) → a || b ≡ false → a ≡ false
or_0 true b e = e
or_0 false b e = refl

pub or_1 : (a b : Bool) → a || b ≡ false → b ≡ false
or_1 true b e = yes_no refl e
or_1 false b e = e

pub never : (b : Bool) → (b ≡ true → ⊥) → b ≡ false
never true f = absurd (f refl)
never false f = refl

-- two tests of numbers that hold together
pub leb_by : (a b c d : ℕ) → (a ≤ b → c ≤ d) → (c ≤ d → a ≤ b) → leb a b ≡ leb c d
leb_by a b c d f g = elim (dec_le a b) [
  | yes h ↦ le-leb a b h ∙ sym (le-leb c d (f h))
  | no h ↦ lt-leb a b (omega arith) ∙ sym (elim (dec_le c d) [ yes k ↦ absurd (let w = g k in omega arith) | no k ↦ lt-leb c d (omega arith) ])
]
