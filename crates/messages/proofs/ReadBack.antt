-- Read after write: the writing of a message's parts is a message (`written_message`), and it says these parts (`parts_back`).
-- Assumes nothing.
use mathlib.Core.Path.{◌≡◌, refl, sym, ap, ◌∙◌}
use mathlib.Core.List.{List, [], ◌∷◌, ◌++◌, map, flatten, append_assoc}
use mathlib.Core.Bool.{Bool, true, false, cond, ◌&&◌, ◌||◌}
use Prim.Native.Nat.{ℕ, zero, suc, ◌+◌, ◌*◌, ◌/◌, ◌%◌, ◌≤◌}
use native.Mathlib.Omega.{arith}
use borrow.Author.Tests.{eqb-true}
use lib.Dec.{leb, eqb}
use lib.ListN.{length}
use Rattle.names.specs.declared.Author.{Author}
use Rattle.names.specs.Ordering.{Row}
use Rattle.names.specs.Names.{fits, is_name}
use Rattle.numbers.proofs.Bools.{and_0, and_1}
use Rattle.numbers.specs.Bytes.{Bytes, at32, bytes32}
use Rattle.slots.specs.Tuples.{row_bytes}
use Rattle.std.specs.List.{list_all}
use Rattle.numbers.proofs.NumberBytes.{back32}
use Rattle.numbers.proofs.Lists.{flat, flat_none, flat_append}
use Rattle.fields.specs.Fields.{field_head, after_field, stands, field_bytes, nothing}
use Rattle.name_fields.specs.NameFields.{name_fits}
use Rattle.messages.specs.Messages.{insert, kind_tag, epoch_tag, author_tag, name_tag, line_tag, kind_size, pair_size, line_size, Parts, most_names, is_message, pair_bytes, name_field, line_fields, message_bytes, pair_in, name_stands, names_within, after_names, parts_in, ends_as, framed, keeps_message}
use Rattle.fields.proofs.FieldInverse.{after_back, stands_back}
use Rattle.name_fields.proofs.NameInverse.{name_stands_lem, tuples_back}
use Rattle.messages.proofs.NameFields.{names_turn, after_turn, names_stop, after_stop}
use Rattle.messages.proofs.TestsPassed.{Good, good}

-- ── the names ──

module _ (a : Row) (r : Bytes) where
  names_on : (most : ℕ) → is_name a ≡ true → names_within (suc most) (name_field a ++ r) ≡ a ∷ names_within most r
  names_on most h =
      names_turn (name_field a ++ r) most (name_stands_lem name_tag a r)
      ∙ (λ i. tuples_back name_tag a r h i ∷ names_within most (after_back name_tag (row_bytes a) r i))

  after_on : (most : ℕ) → after_names (suc most) (name_field a ++ r) ≡ after_names most r
  after_on most = after_turn (name_field a ++ r) most (name_stands_lem name_tag a r) ∙ ap (after_names most) (after_back name_tag (row_bytes a) r)

-- the fields of names, and then r, where no name stands
module _ (r : Bytes) (e : name_stands r ≡ false) where
  none : flatten {A = ℕ} [] ++ r ≡ r
  none = ap (λ (l : Bytes). l ++ r) flat_none

  cons : (a : Row) (l : List Row) → flatten (map name_field (a ∷ l)) ++ r ≡ name_field a ++ (flatten (map name_field l) ++ r)
  cons a l =
      ap (λ (x : Bytes). x ++ r) (flat (name_field a) (map name_field l))
      ∙ append_assoc (name_field a) (flatten (map name_field l)) r

  pub names_back_lem : (l : List Row) (most : ℕ) → list_all name_fits l ≡ true → length l ≤ most
      → names_within most (flatten (map name_field l) ++ r) ≡ l
  names_back_lem [] most h f = ap (names_within most) none ∙ names_stop r e most
  names_back_lem (a ∷ l) zero h f = absurd (omega arith)
  names_back_lem (a ∷ l) (suc most) h f =
      ap (names_within (suc most)) (cons a l)
      ∙ names_on a (flatten (map name_field l) ++ r) most (and_0 (is_name a) (fits a) (and_0 (name_fits a) (list_all name_fits l) h))
      ∙ ap (λ (x : List Row). a ∷ x) (names_back_lem l most (and_1 (name_fits a) (list_all name_fits l) h) (omega arith))

  pub rest_back : (l : List Row) (most : ℕ) → length l ≤ most → after_names most (flatten (map name_field l) ++ r) ≡ r
  rest_back [] most f = ap (after_names most) none ∙ after_stop r e most
  rest_back (a ∷ l) zero f = absurd (omega arith)
  rest_back (a ∷ l) (suc most) f =
      ap (after_names (suc most)) (cons a l)
      ∙ after_on a (flatten (map name_field l) ++ r) most
      ∙ rest_back l most (omega arith)

-- ── the line number ──

-- its field, where the kind is insert
module _ (line : ℕ) where
  abbrev ending : Bool → Bytes
  ending b = flatten (cond b (field_bytes line_tag (bytes32 line) ∷ []) [])

  no_name : (b : Bool) → name_stands (ending b) ≡ false
  unfolding flatten
  no_name true = refl
  no_name false = refl

  ends : (b : Bool) → cond b (stands line_tag line_size (ending b) && nothing (after_field (ending b))) (nothing (ending b)) ≡ true
  unfolding flatten
  ends true = refl
  ends false = refl

  line_back : (b : Bool) → leb line 4294967295 && (b || eqb line 0) ≡ true → cond b (at32 (ending b) field_head) 0 ≡ line
  unfolding flatten
  line_back true h = back32 line []
  line_back false h = sym (eqb-true line 0 (and_1 (leb line 4294967295) (eqb line 0) h))

-- ── the message ──

pair_back : (x : Author) (r : Bytes) → pair_in (field_bytes epoch_tag (pair_bytes x) ++ r) 0 ≡ x
pair_back x r = λ i. record { node = two i; sequence = back32 x.sequence [] i }
  where
    two : x.node / 256 * 256 + x.node % 256 ≡ x.node
    two = omega arith

module _ (p : Parts) where
  abbrev pub tail : Bytes
  tail = flatten (map name_field p.names) ++ flatten (line_fields p.numbers.kind p.numbers.line)

  -- the fields of fixed sizes, and then r
  abbrev pub headed : Bytes → Bytes
  headed r =
      field_bytes kind_tag (p.numbers.kind ∷ [])
      ++ (field_bytes epoch_tag (pair_bytes p.numbers.epoch) ++ (field_bytes author_tag (pair_bytes p.numbers.author) ++ r))

  pub split : message_bytes p ≡ headed tail
  unfolding message_bytes flatten
  split = ap headed (flat_append (map name_field p.names) (line_fields p.numbers.kind p.numbers.line))

module _ (p : Parts) (h : is_message p ≡ true) where
  v : Good p
  v = good p h

  abbrev last : Bytes
  last = flatten (line_fields p.numbers.kind p.numbers.line)

  no_more : name_stands last ≡ false
  no_more = no_name p.numbers.line (eqb p.numbers.kind insert)

  names : names_within (most_names p.numbers.kind) (tail p) ≡ p.names
  names = names_back_lem last no_more p.names (most_names p.numbers.kind) v.named v.few

  rest : after_names (most_names p.numbers.kind) (tail p) ≡ last
  rest = rest_back last no_more p.names (most_names p.numbers.kind) v.few

  abbrev is_insert : Bool
  is_insert = eqb p.numbers.kind insert

  line : cond is_insert (at32 (after_names (most_names p.numbers.kind) (tail p)) field_head) 0 ≡ p.numbers.line
  line = ap (λ (r : Bytes). cond is_insert (at32 r field_head) 0) rest ∙ line_back p.numbers.line is_insert v.line

  pub parts_back : parts_in (message_bytes p) ≡ p
  parts_back =
      let epoch = pair_back p.numbers.epoch [] in
      let author = pair_back p.numbers.author [] in
      ap parts_in (split p)
      ∙ (λ i. record { numbers = record { kind = p.numbers.kind; epoch = epoch i; author = author i; line = line i }; names = names i })

  frames : framed (message_bytes p) ≡ true
  unfolding framed
  frames =
      let epoch = field_bytes epoch_tag (pair_bytes p.numbers.epoch) in
      let author = field_bytes author_tag (pair_bytes p.numbers.author) in
      ap framed (split p)
      ∙ (λ i.
      stands_back kind_tag (p.numbers.kind ∷ []) (epoch ++ (author ++ tail p)) kind_size refl i
      && stands_back epoch_tag (pair_bytes p.numbers.epoch) (author ++ tail p) pair_size refl i
      && stands_back author_tag (pair_bytes p.numbers.author) (tail p) pair_size refl i
      && (ap (ends_as p.numbers.kind) rest ∙ ends p.numbers.line (eqb p.numbers.kind insert)) i)

  pub written_message : keeps_message (message_bytes p) ≡ true
  unfolding keeps_message
  written_message = λ i. frames i && (ap is_message parts_back ∙ h) i
