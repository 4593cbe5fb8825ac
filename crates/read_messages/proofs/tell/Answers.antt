-- `read_messages::tell` meets its contract. Assumes nothing.
use mathlib.Core.Path.{◌≡◌, refl, ◌∙◌, sym, ap}
use mathlib.Core.Bool.{Bool, true, false}
use Prim.Native.Nat.{ℕ, ◌+◌}
use native.Mathlib.Omega.{arith}
use lib.ListN.{length, drop}
use borrow.Author.Tests.{le-leb, lt-leb}
use Rattle.std.specs.Bool.{then_some}
use Rattle.numbers.specs.Bytes.{Bytes}
use Rattle.messages.specs.Messages.{ends_as, names_in, kind_in, rest_in, numbers_in, most_names, names_place, names_within, after_names}
use Rattle.messages.proofs.TestsPassed.{ok_numbers}
use Rattle.read_messages.specs.FirstPass.{good_names}
use Rattle.read_messages.proofs.FirstPassTells.{numbers_long, names_found, rest_found, telling_by}
use Rattle.read_messages.proofs.tell.Goals as goal
use Rattle.read_messages.proofs.tell.Goals.{then-names-eq0-via-then-names-eq0, then-names-eq0-via-else-names-eq0+then-not-ends}

-- ── what passing the names of the message at p has given, by what passing promises ──

module _ (s : Bytes) (p : ℕ) {kind most : ℕ} (k : kind ≡ kind_in (drop p s)) (m : most ≡ most_names kind) where
  names : {g : Bool} → g ≡ good_names (names_within most (drop (p + names_place) s)) → good_names (names_in (drop p s)) ≡ g
  names e = ap good_names (sym (names_found s p k m)) ∙ sym e

  count : {n : ℕ} → n ≡ length (names_within most (drop (p + names_place) s)) → n ≡ length (names_in (drop p s))
  count e = e ∙ ap length (names_found s p k m)

  rest : (a : ℕ) → drop a s ≡ after_names most (drop (p + names_place) s) → drop a s ≡ rest_in (drop p s)
  rest a e = e ∙ rest_found s p k m

  ended : (a : ℕ) {b : Bool} → drop a s ≡ after_names most (drop (p + names_place) s) → b ≡ ends_as kind (drop a s)
      → ends_as (kind_in (drop p s)) (rest_in (drop p s)) ≡ b
  ended a r e = (λ i. ends_as (sym k i) (sym (rest a r) i)) ∙ sym e

-- ── the goals ──

pub returns-then-not-numbers_stand : goal.returns-then-not-numbers_stand
returns-then-not-numbers_stand c =
    let t = drop c.args.cursor.at c.args.message.now in
    sym (telling_by t false _ _ _ _ (sym c.numbers_stand.ensures ∙ c.if-not-numbers_stand.true) refl refl refl refl)

pub returns-in_err-names : goal.returns-in_err-names
returns-in_err-names c =
    let s = c.args.message.now in
    let p = c.args.cursor.at in
    let stood = sym c.numbers_stand.ensures ∙ c.if-not-numbers_stand.false in
    let g = names s p c.kind_in-kind.ensures c.most_names.ensures c.in_err-names.ensures.good in
    c.from_residual.ensures ∙ sym (telling_by (drop p s) true false _ _ _ stood g refl refl refl)

pub returns-then-names-eq0 : goal.returns-then-names-eq0
returns-then-names-eq0 c =
    let s = c.args.message.now in
    let p = c.args.cursor.at in
    let k = c.kind_in-kind.ensures in
    let m = c.most_names.ensures in
    let stood = sym c.numbers_stand.ensures ∙ c.if-not-numbers_stand.false in
    let g = names s p k m c.in_ok-names.ensures.good in
    let z = count s p k m c.in_ok-names.ensures.count in
    elim c.then-names-eq0.branch [
      | then-names-eq0-via-then-names-eq0 v ↦
          let w = lt-leb 1 (length (names_in (drop p s))) (let y = v.if-names-eq0.true in omega arith) in
          sym (telling_by (drop p s) true true false _ _ stood g w refl refl)
      | then-names-eq0-via-else-names-eq0+then-not-ends v ↦
          let w = le-leb 1 (length (names_in (drop p s))) (let y = v.if-names-eq0.false in omega arith) in
          let e = ended s p k m _ c.in_ok-names.ensures.rest.0 v.ends.ensures ∙ v.if-not-ends.true in
          sym (telling_by (drop p s) true true true false _ stood g w e refl)
    ]

pub numbers_in-numbers-requires : goal.numbers_in-numbers-requires
numbers_in-numbers-requires c =
    let s = c.args.message.now in
    let p = c.args.cursor.at in
    let k = c.kind_in-kind.ensures in
    let m = c.most_names.ensures in
    let stood = sym c.numbers_stand.ensures ∙ c.if-not-numbers_stand.false in
    let found = c.in_ok-names.ensures.rest.0 in
    record {
      names_place_in_bounds = (numbers_long s p stood, rest s p k m _ found);
      message_value = ended s p k m _ found c.ends.ensures ∙ c.if-not-ends.false;
    }

pub returns : goal.returns
returns c =
    let s = c.args.message.now in
    let p = c.args.cursor.at in
    let k = c.kind_in-kind.ensures in
    let m = c.most_names.ensures in
    let stood = sym c.numbers_stand.ensures ∙ c.if-not-numbers_stand.false in
    let g = names s p k m c.in_ok-names.ensures.good in
    let z = count s p k m c.in_ok-names.ensures.count in
    let w = le-leb 1 (length (names_in (drop p s))) (let y = c.if-names-eq0.false in omega arith) in
    let e = ended s p k m _ c.in_ok-names.ensures.rest.0 c.ends.ensures ∙ c.if-not-ends.false in
    let x = c.numbers_in-numbers.ensures in
    c.then_some.ensures
    ∙ (λ i. then_some ((c.numbers_ok.ensures ∙ ap ok_numbers x) i) (record { names = z i; numbers = x i }))
    ∙ sym (telling_by (drop p s) true true true true (ok_numbers (numbers_in (drop p s))) stood g w e refl)
