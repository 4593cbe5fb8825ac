-- `read_messages::name_follows` meets its contract. Assumes nothing.
use mathlib.Core.Path.{◌≡◌, ◌∙◌, sym, ap}
use mathlib.Core.Bool.{Bool, false, ◌&&◌, and-true, and-false}
use Prim.Native.Nat.{ℕ, ◌≤◌, ◌<◌}
use native.Mathlib.Omega.{arith}
use lib.ListN.{length}
use borrow.Author.Tests.{le-leb, lt-leb}
use Rattle.names.specs.Names.{limit, is_name}
use Rattle.numbers.specs.Bytes.{Bytes}
use Rattle.slots.specs.declared.Span.{Span}
use Rattle.slots.specs.Tuples.{tuples_at, row_at}
use Rattle.slots.proofs.TuplesInBytes.{length_tuples_at}
use Rattle.name_fields.specs.NameFields.{name_fits}
use Rattle.read_messages.proofs.name_follows.Goals as goal
use Rattle.read_messages.proofs.name_follows.Goals.{then-name-lt1-via-then-name-lt1, then-name-lt1-via-else-name-lt1+then-name-gt-LIMIT}

module _ (s : Bytes) (x : Span) (less : Bool) where
  none : x.count ≡ 0 → name_fits (row_at s x) && less ≡ false
  unfolding is_name
  none e = ap (λ (n : ℕ). name_fits (tuples_at s x.at n) && less) e

  many : limit < x.count → name_fits (row_at s x) && less ≡ false
  many h =
      let l : limit < length (row_at s x) = let q = length_tuples_at s x.at x.count in omega arith in
      ap (λ (b : Bool). (is_name (row_at s x) && b) && less) (lt-leb (length (row_at s x)) limit l) ∙ ap (λ (b : Bool). b && less) (and-false (is_name (row_at s x)))

  few : x.count ≤ limit → name_fits (row_at s x) && less ≡ is_name (row_at s x) && less
  few h =
      let l : length (row_at s x) ≤ limit = let q = length_tuples_at s x.at x.count in omega arith in
      ap (λ (b : Bool). (is_name (row_at s x) && b) && less) (le-leb (length (row_at s x)) limit l) ∙ ap (λ (b : Bool). b && less) (and-true (is_name (row_at s x)))

pub returns-then-name-lt1 : goal.returns-then-name-lt1
returns-then-name-lt1 c =
    elim c.then-name-lt1.branch [
      | then-name-lt1-via-then-name-lt1 w ↦ sym (none c.args.message.now c.args.name _ (omega arith))
      | then-name-lt1-via-else-name-lt1+then-name-gt-LIMIT w ↦ sym (many c.args.message.now c.args.name _ (omega arith))
    ]

pub returns : goal.returns
returns c = c.follows.ensures ∙ sym (few c.args.message.now c.args.name _ (omega arith))
