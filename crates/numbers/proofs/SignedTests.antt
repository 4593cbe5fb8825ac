-- A test of two signed parameters, which the code has as bits, says it of the numbers (`tested`), and the sign (`sign`). Assumes nothing.
use mathlib.Core.Path.{◌≡◌, refl}
use mathlib.Core.Bool.{Bool}
use lib.Dec.{leb-zero}
use lib.IntN.{ℤ, pos, negsuc}
use lib.Signed.{lt_z, le_z, non_neg}
use mir.Syntax.{Width}
use mir.Val.{to_z, of_z, SFits}
use mir.ValLaws.{to_z-of_z}

pub tested : (w : Width) {x y : ℤ} {b : Bool} → SFits w x → SFits w y → lt_z (to_z w (of_z w x)) (to_z w (of_z w y)) ≡ b → lt_z x y ≡ b
tested w {x} {y} f g e = rw (to_z-of_z w x f, to_z-of_z w y g) at e

pub sign : (z : ℤ) → le_z (pos 0) z ≡ non_neg z
sign (pos n) = leb-zero n
sign (negsuc n) = refl
