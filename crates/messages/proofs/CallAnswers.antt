-- What reading and writing answer, each refusal exactly when 01 says: of a call that asks one test, 15, and then writes, 8 (`malformed`,
-- `short`, `done`, and back `is_malformed`, `is_short`, `is_done`), then of each of the two. Assumes nothing.
use mathlib.Core.Path.{◌≡◌, refl, sym, ap, ◌∙◌}
use mathlib.Core.List.{List, [], ◌∷◌, map, flatten}
use mathlib.Core.Bool.{Bool, true, false}
use mathlib.Core.Logic.{◌↔◌}
use Prim.Native.Nat.{ℕ, ◌*◌, ◌<◌, ◌≤◌}
use native.Mathlib.Decide.{dec_le}
use native.Mathlib.Omega.{arith}
use lib.ListN.{length, length-map}
use Rattle.numbers.specs.Bytes.{Bytes}
use Rattle.slots.specs.Slots.{slot_size, slot_bytes}
use Rattle.answers.specs.declared.Refusal.{Refusal}
use Rattle.answers.specs.declared.Refusal.TheVariants.{Malformed, Short}
use Rattle.answers.specs.Answers.{Answer}
use Rattle.std.specs.declared.result.Result.TheVariants.{Ok, Err}
use Rattle.answers.specs.Answers.{Outcome, Test, ◌else◌, refuse, accept, write, outcome}
use Rattle.pages.specs.Pages.{pieces}
use Rattle.pages.proofs.RoundTrip.{written_length}
use Rattle.answers.proofs.Outcomes.{write_accepted, write_refuses, writes, writes_short}
use Rattle.answers.specs.Laws.{here, RefusedBy, test, after}
use Rattle.answers.proofs.Refusals.{passed, failed, accepted_passes, refused_first}
use Rattle.messages.specs.declared.Numbers.{Numbers}
use Rattle.messages.specs.Messages.{message_bytes, names_in, parts_in, keeps_message}
use Rattle.fields.specs.Fields.{single}
use Rattle.fields.proofs.FieldInverse.{flat_single}
use Rattle.messages.specs.Calls.{bare, read_outcome, parts_given, may_write, write_outcome}
use Rattle.messages.proofs.TestsPassed.{good, parts_message}
use Rattle.messages.proofs.BareSlots.{bare_slots}

-- ── one test, and then the output ──

-- a refusal is not an acceptance
no_count : {A : Type 0} {r : Refusal} {n : ℕ} {a : Answer} → a ≡ Err r → a ≡ Ok n → A
no_count e f = absurd (cc)

abbrev answered : {x y : Outcome} → x ≡ y → x.answer ≡ y.answer
answered e = ap (λ (o : Outcome). o.answer) e

module _ (l : List Bytes) (room : ℕ) where
  write_fits : {n : ℕ} → (write l room).answer ≡ Ok n → length (flatten l) ≤ room
  write_fits e = elim (dec_le (length (flatten l)) room) [
    | yes h ↦ h
    | no h ↦ let k : room < length (flatten l) = omega arith in no_count (answered (writes_short l room k)) e
  ]

  module _ (b : Bool) where
    abbrev tests : List Test
    tests = b else Malformed ∷ []

    malformed : b ≡ false → outcome (b else Malformed ∷ []) l room ≡ refuse Malformed
    malformed h = failed refuse (write l room) tests (here h refl)

    short : b ≡ true → room < length (flatten l) → outcome (b else Malformed ∷ []) l room ≡ refuse Short
    short h k = passed refuse (write l room) tests (h, tt) ∙ writes_short l room k

    done : b ≡ true → length (flatten l) ≤ room → outcome (b else Malformed ∷ []) l room ≡ accept l
    done h k = passed refuse (write l room) tests (h, tt) ∙ writes l room (length l) (flatten l) refl refl k

    is_malformed : (outcome (b else Malformed ∷ []) l room).answer ≡ Err Malformed → b ≡ false
    is_malformed e = by (refused_first (write l room) tests e)
      where
        by : RefusedBy Malformed tests (write l room) → b ≡ false
        by (test (Rattle.answers.specs.Laws.later _ x7)) = elim x7 [ ]
        by (test (here p q)) = p
        by (after p f) = let short = (write_refuses l room f).0 in absurd (cc)

    is_short : (outcome (b else Malformed ∷ []) l room).answer ≡ Err Short → (b ≡ true) × (room < length (flatten l))
    is_short e = by (refused_first (write l room) tests e)
      where
        by : RefusedBy Short tests (write l room) → (b ≡ true) × (room < length (flatten l))
        by (test (Rattle.answers.specs.Laws.later _ x7)) = elim x7 [ ]
        by (test (here p q)) = absurd (cc)
        by (after p f) = (p.0, (write_refuses l room f).1)

    is_done : {n : ℕ} → (outcome (b else Malformed ∷ []) l room).answer ≡ Ok n → (b ≡ true) × (length (flatten l) ≤ room) × (n ≡ length l)
    is_done {n} e =
        let p = accepted_passes (write l room) n tests e in
        let f : (write l room).answer ≡ Ok n = answered (sym p.1) ∙ e in
        let g : Ok (length l) ≡ Ok n = answered (sym (write_accepted l room n f)) ∙ f in
        (p.0.0, write_fits f, let same : n ≡ length l = cc in same)

-- ── reading ──

module _ (s : Bytes) (room : ℕ) where
  abbrev slots : List Bytes
  slots = pieces (map bare (names_in s))

  pub slots_count : length (pieces (map bare (names_in s))) ≡ length (names_in s)
  slots_count = length-map (map bare (names_in s)) slot_bytes ∙ length-map (names_in s) bare

  pub read_malformed : keeps_message s ≡ false → read_outcome s room ≡ refuse Malformed
  unfolding read_outcome
  read_malformed h = malformed slots room (keeps_message s) h

  module _ (h : keeps_message s ≡ true) where
    pub slots_size : length (flatten (pieces (map bare (names_in s)))) ≡ slot_size * length (names_in s)
    slots_size =
        written_length (map bare (names_in s)) (bare_slots (names_in s) (good (parts_in s) (parts_message s h)).named)
        ∙ ap (λ (n : ℕ). slot_size * n) (length-map (names_in s) bare)

    pub read_short : room < slot_size * length (names_in s) → read_outcome s room ≡ refuse Short
    unfolding read_outcome
    read_short k = short slots room (keeps_message s) h (omega (arith, slots_size))

    pub read_done : slot_size * length (names_in s) ≤ room
        → read_outcome s room ≡ record { answer = Ok (length (names_in s)); bytes = flatten (pieces (map bare (names_in s))) }
    unfolding read_outcome
    read_done k =
        done slots room (keeps_message s) h (omega (arith, slots_size)) ∙ (λ i. record { answer = Ok (slots_count i); bytes = flatten slots })

  pub when_malformed : ((read_outcome s room).answer ≡ Err Malformed) ↔ (keeps_message s ≡ false)
  unfolding read_outcome
  when_malformed = (is_malformed slots room (keeps_message s), λ h. answered (read_malformed h))

  pub when_short : ((read_outcome s room).answer ≡ Err Short) ↔ ((keeps_message s ≡ true) × (room < slot_size * length (names_in s)))
  unfolding read_outcome
  when_short = (λ e. let v = is_short slots room (keeps_message s) e in (v.0, rw (slots_size v.0) at v.1), λ v. answered (read_short v.0 v.1))

  pub when_read : (n : ℕ) → ((read_outcome s room).answer ≡ Ok n)
      ↔ ((keeps_message s ≡ true) × (slot_size * length (names_in s) ≤ room) × (n ≡ length (names_in s)))
  unfolding read_outcome
  when_read n = (
    λ e. let v = is_done slots room (keeps_message s) e in (v.0, rw (slots_size v.0) at v.1, v.2 ∙ slots_count),
    λ v. answered (read_done v.0 v.1) ∙ ap Ok (sym v.2),
  )

-- ── writing ──

module _ (x : Numbers) (slots : Bytes) (room : ℕ) where
  abbrev w : Bytes
  w = message_bytes (parts_given x slots)

  size : length (flatten (map single w)) ≡ length w
  size = ap length (flat_single w)

  pub write_malformed : may_write x slots ≡ false → write_outcome x slots room ≡ refuse Malformed
  unfolding write_outcome
  write_malformed h = malformed (map single w) room (may_write x slots) h

  pub write_too_long : may_write x slots ≡ true → room < length (message_bytes (parts_given x slots)) → write_outcome x slots room ≡ refuse Short
  unfolding write_outcome
  write_too_long h k = short (map single w) room (may_write x slots) h (omega (arith, size))

  pub write_done : may_write x slots ≡ true → length (message_bytes (parts_given x slots)) ≤ room
      → write_outcome x slots room ≡ record { answer = Ok (length (message_bytes (parts_given x slots))); bytes = message_bytes (parts_given x slots) }
  unfolding write_outcome
  write_done h k =
      done (map single w) room (may_write x slots) h (omega (arith, size))
      ∙ (λ i. record { answer = Ok (length-map w single i); bytes = flat_single w i })

  pub when_unwritable : ((write_outcome x slots room).answer ≡ Err Malformed) ↔ (may_write x slots ≡ false)
  unfolding write_outcome
  when_unwritable = (is_malformed (map single w) room (may_write x slots), λ h. answered (write_malformed h))

  pub when_too_long : ((write_outcome x slots room).answer ≡ Err Short)
      ↔ ((may_write x slots ≡ true) × (room < length (message_bytes (parts_given x slots))))
  unfolding write_outcome
  when_too_long = (
    λ e. let v = is_short (map single w) room (may_write x slots) e in (v.0, rw size at v.1),
    λ v. answered (write_too_long v.0 v.1),
  )

  pub when_written : (n : ℕ) → ((write_outcome x slots room).answer ≡ Ok n)
      ↔ ((may_write x slots ≡ true) × (length (message_bytes (parts_given x slots)) ≤ room) × (n ≡ length (message_bytes (parts_given x slots))))
  unfolding write_outcome
  when_written n = (
    λ e. let v = is_done (map single w) room (may_write x slots) e in (v.0, rw size at v.1, v.2 ∙ length-map w single),
    λ v. answered (write_done v.0 v.1) ∙ ap Ok (sym v.2),
  )
