-- What `by_offsets` answers, by the tests that the code makes: of an offset y beside that of a run's first name, x, which is at least 0.
-- Assumes nothing.
use mathlib.Core.Path.{◌≡◌, refl, ap}
use mathlib.Core.Bool.{Bool, true, false, cond}
use Prim.Native.Nat.{ℕ, zero, suc, ◌+◌, ◌-◌, ◌<◌, ◌≤◌}
use native.Mathlib.Omega.{arith}
use borrow.Author.Tests.{ltb-true, ltb-false, lt-ltb, le-ltb, eq-eqb, ne_eqb}
use lib.Dec.{eqb-suc-zero}
use lib.IntN.{ℤ, pos, negsuc, suc_ℤ, ◌-ℤ◌}
use lib.Signed.{lt_z, mag}
use Rattle.names.specs.Ordering.{◌<ᶻ◌, up, across}
use Rattle.numbers.proofs.Bools.{yes_no}
use Rattle.runs.specs.declared.Stand.TheVariants.{Below, Before, At, Beyond}
use Rattle.runs.specs.Beside.{by_offsets}

-- ── below x ──

pub is_lower : (y : ℤ) (x : ℕ) → lt_z y (pos x) ≡ true → y <ᶻ pos x
is_lower (pos y) x e = up (ltb-true y x e)
is_lower (negsuc y) x e = across

-- one more fits too
pub one_more_fits : (y : ℤ) {x w : ℕ} → y <ᶻ pos x → x < w → mag y < w → mag (suc_ℤ y) < w
one_more_fits (pos y) (up h) k l = omega arith
one_more_fits (negsuc zero) h k l = l
one_more_fits (negsuc (suc y)) h k l = omega arith

pub right_before : (y : ℤ) (x : ℕ) → suc_ℤ y ≡ pos x → by_offsets (pos x) y true ≡ Before
right_before (pos y) x e =
    let h : suc y ≡ x = cc in
    simp (lt-ltb y x (omega arith), eq-eqb (y + 1) x (omega arith))
right_before (negsuc zero) x e =
    let h : 0 ≡ x = cc in
    simp (eq-eqb x 0 (omega arith))
right_before (negsuc (suc y)) x e = absurd (let z : ◌≡◌ {A = ℕ} 0 1 = cc in omega arith)

pub lower : (y : ℤ) (x : ℕ) → y <ᶻ pos x → ¬ (suc_ℤ y ≡ pos x) → by_offsets (pos x) y true ≡ Below
lower (pos y) x (up h) n =
    simp (lt-ltb y x h, ne_eqb (y + 1) x (λ q. let r : suc y ≡ x = omega arith in n (ap pos r)))
lower (negsuc zero) x h n = simp (ne_eqb x 0 (λ q. let r : 0 ≡ x = omega arith in n (ap pos r)))
lower (negsuc (suc y)) x h n = simp (eqb-suc-zero y)

pub lower_deeper : (y : ℤ) (x : ℕ) → y <ᶻ pos x → by_offsets (pos x) y false ≡ Below
lower_deeper (pos y) x (up h) = simp (lt-ltb y x h)
lower_deeper (negsuc y) x h = refl

-- ── not below x ──

pub not_lower : (y : ℤ) (x : ℕ) → lt_z y (pos x) ≡ false → (n : ℕ) × (y ≡ pos n) × (x ≤ n)
not_lower (pos y) x e = (y, refl, ltb-false y x e)
not_lower (negsuc y) x e = yes_no refl e

pub reaching : (y x : ℕ) (b : Bool) → x ≤ y → by_offsets (pos x) (pos y) b ≡ cond b (At (y - x)) (Beyond (y - x))
reaching y x b h = simp (le-ltb y x h)

pub minus : (y x : ℕ) → x ≤ y → pos y -ℤ pos x ≡ pos (y - x)
minus y zero h = let e : y + 0 ≡ y - 0 = omega arith in ap pos e
minus y (suc x) h = simp (le-ltb y (suc x) h)
