-- What stands at the place p of a message s, told by the bytes of s (`pair_at`); and a turn along the names from there (`names_next`,
-- `after_next`). Of a name's field it is told in `name_fields`. Assumes nothing.
use mathlib.Core.Path.{◌≡◌, sym, ap, ◌∙◌}
use mathlib.Core.List.{◌∷◌}
use mathlib.Core.Bool.{true}
use Prim.Native.Nat.{ℕ, suc, ◌+◌, ◌-◌, ◌<◌}
use native.Mathlib.Omega.{arith}
use lib.ListN.{drop}
use lib.Seq.{drop-drop}
use Rattle.numbers.specs.Bytes.{Bytes}
use Rattle.numbers.proofs.ReadNumbers.{two_on, four_on}
use Rattle.fields.specs.Fields.{field_head, size_in}
use Rattle.name_fields.specs.NameFields.{tuples_in}
use Rattle.messages.specs.Messages.{sequence_place, pair_in, name_stands, names_within, after_names}
use Rattle.messages.proofs.NameFields.{names_turn, after_turn}

module _ (s : Bytes) (p : ℕ) where
  pub pair_at : (q : ℕ) → pair_in s (p + q) ≡ pair_in (drop p s) q
  pair_at q =
      let node = two_on p s (q + field_head) (p + q + field_head) (omega arith) in
      let sequence = four_on p s (q + field_head + sequence_place) (p + q + field_head + sequence_place) (omega arith) in
      sym (λ i. record { node = node i; sequence = sequence i })

-- a turn at p of s, where k of the names have been passed
module _ (s : Bytes) (p most k : ℕ) (h : k < most) (e : name_stands (drop p s) ≡ true) where
  one_more : most - k ≡ suc (most - (k + 1))
  one_more = omega arith

  pub names_next : names_within (most - k) (drop p s)
      ≡ tuples_in (drop p s) ∷ names_within (most - (k + 1)) (drop (p + (field_head + size_in (drop p s))) s)
  names_next =
      ap (λ (n : ℕ). names_within n (drop p s)) one_more
      ∙ names_turn (drop p s) (most - (k + 1)) e
      ∙ ap (λ (r : Bytes). tuples_in (drop p s) ∷ names_within (most - (k + 1)) r) (drop-drop (field_head + size_in (drop p s)) p s)

  pub after_next : after_names (most - k) (drop p s) ≡ after_names (most - (k + 1)) (drop (p + (field_head + size_in (drop p s))) s)
  after_next =
      ap (λ (n : ℕ). after_names n (drop p s)) one_more
      ∙ after_turn (drop p s) (most - (k + 1)) e
      ∙ ap (after_names (most - (k + 1))) (drop-drop (field_head + size_in (drop p s)) p s)
