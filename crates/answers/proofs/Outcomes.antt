-- What an outcome leaves in an output: a refusal every byte as it was; an accepted call its bytes from the start, nothing after
-- them changed. What an accepted outcome says of itself: `no_answer`, `write_accepted`; and an outcome as a call meets it: `refused`,
-- `accepted`, `writes_short`, `writes`, `write_refuses`. Assumes nothing.
use mathlib.Core.Path.{◌≡◌, refl, ◌∙◌, sym, ap}
use mathlib.Core.List.{List, ◌++◌, flatten}
use mathlib.Core.Bool.{Bool, true, false}
use Prim.Native.Nat.{ℕ, ◌<◌, ◌≤◌}
use native.Mathlib.Decide.{dec_le}
use native.Mathlib.Nat.{zero-add}
use native.Mathlib.Omega.{arith}
use borrow.Author.Tests.{le-leb, lt-leb}
use lib.Dec.{leb}
use lib.ListN.{length, take, drop}
use lib.Seq.{take-append_seam, drop-append_seam}
use Rattle.numbers.specs.Bytes.{Bytes, put}
use Rattle.numbers.proofs.Put.{put_length}
use Rattle.answers.specs.declared.Refusal.{Refusal}
use Rattle.answers.specs.declared.Refusal.TheVariants.{Short}
use Rattle.std.specs.declared.result.Result.TheVariants.{Ok, Err}
use Rattle.answers.specs.Answers.{Outcome, ask, refuse, accept, write, leaves}

-- from the start: the bytes, and what stood after them
leaves_is : (x : Outcome) (o : Bytes) → leaves x o ≡ x.bytes ++ drop (length x.bytes) o
leaves_is x o = ap (λ (n : ℕ). x.bytes ++ drop n o) (zero-add (length x.bytes))

pub refused_leaves : (r : Refusal) (o : Bytes) → leaves (refuse r) o ≡ o
refused_leaves r o = leaves_is (refuse r) o

module _ (x : Outcome) (o : Bytes) where
  pub leaves_first : take (length x.bytes) (leaves x o) ≡ x.bytes
  leaves_first = ap (take (length x.bytes)) (leaves_is x o) ∙ take-append_seam x.bytes (drop (length x.bytes) o)

  pub leaves_after : drop (length x.bytes) (leaves x o) ≡ drop (length x.bytes) o
  leaves_after = ap (drop (length x.bytes)) (leaves_is x o) ∙ drop-append_seam x.bytes (drop (length x.bytes) o)

  pub leaves_length : length x.bytes ≤ length o → length (leaves x o) ≡ length o
  leaves_length h = put_length o 0 (omega arith) x.bytes (omega arith)

-- ── what an accepted outcome says ──

pub no_answer : {A : Type 0} (r : Refusal) (n : ℕ) → Err r ≡ Ok n → A
no_answer r n e = absurd (let z : ◌≡◌ {A = ℕ} 0 1 = cc in omega arith)

pub write_accepted : (l : List Bytes) (room n : ℕ) → (write l room).answer ≡ Ok n → write l room ≡ accept l
write_accepted l room n e = go (leb (length (flatten l)) room) e
  where
    go : (b : Bool) → (ask b (refuse Short) (accept l)).answer ≡ Ok n → ask b (refuse Short) (accept l) ≡ accept l
    go true e = refl
    go false e = no_answer Short n e

-- ── an outcome as a call leaves it ──

pub refused : (x : Outcome) (r : Refusal) (o : Bytes) → x ≡ refuse r → (Err r ≡ x.answer) × (o ≡ leaves x o)
refused x r o e = (sym (ap (λ (y : Outcome). y.answer) e), sym (refused_leaves r o) ∙ sym (ap (λ (y : Outcome). leaves y o) e))

pub accepted : (x : Outcome) (n : ℕ) (w o e : Bytes) → x ≡ record { answer = Ok n; bytes = w } → e ≡ put o 0 w → (Ok n ≡ x.answer) × (e ≡ leaves x o)
accepted x n w o e q f = (sym (ap (λ (y : Outcome). y.answer) q), f ∙ sym (ap (λ (y : Outcome). leaves y o) q))

-- 8, or the bytes
pub writes_short : (l : List Bytes) (room : ℕ) → room < length (flatten l) → write l room ≡ refuse Short
writes_short l room h = rw (lt-leb (length (flatten l)) room h)

pub writes : (l : List Bytes) (room n : ℕ) (w : Bytes) → length l ≡ n → flatten l ≡ w → length w ≤ room → write l room ≡ record { answer = Ok n; bytes = w }
writes l room n w p q h =
    let k : length (flatten l) ≤ room = rw q h in
    rw (le-leb (length (flatten l)) room k) (λ i. record { answer = Ok (p i); bytes = q i })

-- writing alone refuses with 8 and nothing else
pub write_refuses : (l : List Bytes) (room : ℕ) {r : Refusal} → (write l room).answer ≡ Err r → (r ≡ Short) × (room < length (flatten l))
write_refuses l room {r} e = elim (dec_le (length (flatten l)) room) [
  | yes h ↦ no_answer r (length l) (sym e ∙ ap (λ (y : Outcome). y.answer) (writes l room (length l) (flatten l) refl refl h))
  | no h ↦
      let k : room < length (flatten l) = omega arith in
      let same : Err r ≡ Err Short = sym e ∙ ap (λ (y : Outcome). y.answer) (writes_short l room k) in
      (let is : r ≡ Short = cc in is, k)
]
