-- A text written after a text is one text. Assumes nothing.
use mathlib.Core.Path.{◌≡◌, ◌∙◌, sym, ap}
use mathlib.Core.List.{◌++◌, append_assoc}
use Prim.Native.Nat.{ℕ, ◌+◌, ◌≤◌}
use native.Mathlib.Omega.{arith}
use lib.ListN.{length, take, length-append}
use lib.Seq.{length-take-le}
use Rattle.numbers.specs.Bytes.{Bytes, put}
use Rattle.numbers.proofs.Put.{put_more, put_length}

-- what a call promises that writes the text w into o from p on: it answers r and leaves e
abbrev pub Wrote : Bytes → ℕ → Bytes → ℕ → Bytes → Type 0
Wrote o p w r e = (r ≡ p + length w) × (e ≡ put o p w)

pub wrote_more : (o : Bytes) (p : ℕ) → p ≤ length o → (w s : Bytes) {q r : ℕ} {d e : Bytes} → Wrote o p w q d → Wrote d q s r e → Wrote o p (w ++ s) r e
wrote_more o p h w s a b = (omega (arith, a.0, b.0, length-append w s), put_more o p h w s a.1 a.0 b.1)

-- the same text said in another way
pub wrote_as : (o : Bytes) (p : ℕ) {w s : Bytes} {r : ℕ} {e : Bytes} → w ≡ s → Wrote o p w r e → Wrote o p s r e
wrote_as o p q a = (a.0 ∙ ap (λ (l : Bytes). p + length l) q, a.1 ∙ ap (put o p) q)

-- a text of two parts
pub wrote_two : (o : Bytes) (p : ℕ) → p ≤ length o → (w s t : Bytes) {q r : ℕ} {d e : Bytes} → Wrote o p w q d → Wrote d q (s ++ t) r e → Wrote o p (w ++ s ++ t) r e
wrote_two o p h w s t a b = wrote_as o p (sym (append_assoc w s t)) (wrote_more o p h w (s ++ t) a b)

-- a text from the start stands within what had room for it
pub wrote_within : (o w : Bytes) {r : ℕ} {e : Bytes} → Wrote o 0 w r e → r ≤ length o → (r ≤ length e) × (r ≡ length (take r e))
wrote_within o w {r} {e} a h =
    let l : length e ≡ length o = ap length a.1 ∙ put_length o 0 (omega arith) w (omega (arith, a.0)) in
    let f : r ≤ length e = omega arith in
    (f, sym (length-take-le r e f))
