-- Write after read: a message is the writing of what it says (`bytes_back`), which may be written (TestsPassed: `parts_message`). So "a
-- message has one writing" (`one_writing`). Assumes nothing.
use mathlib.Core.Path.{◌≡◌, refl, sym, ap, ◌∙◌}
use mathlib.Core.List.{List, [], ◌∷◌, ◌++◌, map, flatten, append_assoc, append-nil}
use mathlib.Core.Bool.{Bool, true, false, cond, ◌&&◌}
use Prim.Native.Nat.{ℕ, zero, suc, ◌+◌, ◌-◌, ◌<◌, ◌≤◌}
use native.Mathlib.Omega.{arith}
use lib.Dec.{eqb}
use lib.ListN.{length, take, drop, length-drop}
use lib.Seq.{drop-cons, drop-drop}
use Rattle.names.specs.Ordering.{Row}
use Rattle.numbers.proofs.Bools.{and_0, and_1}
use Rattle.numbers.specs.Bytes.{Bytes, Octets, at32, bytes32}
use Rattle.numbers.proofs.Lists.{next_to, flat, flat_none}
use Rattle.numbers.proofs.NumberBytes.{here16, here32}
use Rattle.numbers.proofs.Octets.{octets_drop}
use Rattle.fields.specs.Fields.{field_head, size_in, after_field, stands, field_bytes, nothing}
use Rattle.name_fields.specs.NameFields.{tuples_in}
use Rattle.messages.specs.Messages.{insert, kind_tag, epoch_tag, author_tag, name_tag, line_tag, kind_size, pair_size, line_size, sequence_place, most_names, pair_bytes, name_field, message_bytes, epoch_place, author_place, names_place, pair_in, kind_in, name_stands, names_within, after_names, rest_in, parts_in, keeps_message}
use Rattle.fields.proofs.FieldInverse.{is_nothing, Standing, standing, field_there}
use Rattle.name_fields.proofs.NameInverse.{name_there}
use Rattle.messages.proofs.TestsPassed.{frame}
use Rattle.messages.proofs.ReadBack.{tail, split}

pub flat_one : (f : Bytes) → flatten (f ∷ []) ≡ f
flat_one f = flat f [] ∙ ap (λ (r : Bytes). f ++ r) flat_none ∙ append-nil f

-- ── the fields of fixed sizes ──

module _ (s : Bytes) (k : Octets s) where
  kind_there : Standing kind_tag kind_size s → field_bytes kind_tag (kind_in s ∷ []) ++ drop epoch_place s ≡ s
  kind_there v =
      let l : field_head < length s = omega (arith, v.long) in
      let c : kind_in s ∷ [] ≡ take kind_size (drop field_head s) = rw (drop-cons s field_head 0 l) in
      ap (λ (x : Bytes). field_bytes kind_tag x ++ drop epoch_place s) c ∙ field_there kind_tag kind_size s k v

  pair_bytes_lem : (p : ℕ) → p + field_head + pair_size ≤ length s → pair_bytes (pair_in s p) ≡ take pair_size (drop field_head (drop p s))
  pair_bytes_lem p h =
      (λ i. here16 s k (p + field_head) (omega arith) i ++ here32 s k (p + field_head + sequence_place) (omega arith) i)
      ∙ next_to s (p + field_head) sequence_place (pair_size - sequence_place)
      ∙ ap (take pair_size) (sym (drop-drop field_head p s))

  pair_there : (tag p q : ℕ) → q ≡ p + (field_head + pair_size) → Standing tag pair_size (drop p s)
      → field_bytes tag (pair_bytes (pair_in s p)) ++ drop q s ≡ drop p s
  pair_there tag p q e v =
      let l : p + field_head + pair_size ≤ length s = let w = v.long in let d = length-drop p s in omega arith in
      (λ i. field_bytes tag (pair_bytes_lem p l i) ++ (ap (λ (n : ℕ). drop n s) e ∙ sym (drop-drop (field_head + pair_size) p s)) i)
      ∙ field_there tag pair_size (drop p s) (octets_drop p s k) v

-- ── the names ──

names_there : (most : ℕ) (s : Bytes) → Octets s → flatten (map name_field (names_within most s)) ++ after_names most s ≡ s
names_there zero s k = ap (λ (x : Bytes). x ++ s) flat_none
names_there (suc most) s k = go (name_stands s) refl (names_there most (after_field s) (octets_drop (field_head + size_in s) s k))
  where
    here : Bytes
    here = name_field (tuples_in s)

    names : List Row
    names = names_within most (after_field s)

    after : Bytes
    after = after_names most (after_field s)

    go : (b : Bool) → name_stands s ≡ b → flatten (map name_field names) ++ after ≡ after_field s
        → flatten (map name_field (cond b (tuples_in s ∷ names) [])) ++ cond b after s ≡ s
    go false e h = ap (λ (x : Bytes). x ++ s) flat_none
    go true e h =
        ap (λ (x : Bytes). x ++ after) (flat here (map name_field names))
        ∙ append_assoc here (flatten (map name_field names)) after
        ∙ ap (λ (x : Bytes). here ++ x) h
        ∙ name_there name_tag s k e

after_octets : (most : ℕ) (s : Bytes) → Octets s → Octets (after_names most s)
after_octets zero s k = k
after_octets (suc most) s k = go (name_stands s) (after_octets most (after_field s) (octets_drop (field_head + size_in s) s k))
  where
    go : (b : Bool) → Octets (after_names most (after_field s)) → Octets (cond b (after_names most (after_field s)) s)
    go true h = h
    go false h = k

-- ── the line number ──

module _ (r : Bytes) (k : Octets r) where
  line_bytes_lem : Standing line_tag line_size r → nothing (after_field r) ≡ true → field_bytes line_tag (bytes32 (at32 r field_head)) ≡ r
  line_bytes_lem v e =
      let d : drop (field_head + line_size) r ≡ [] = ap (λ (n : ℕ). drop (field_head + n) r) (sym v.sized) ∙ is_nothing (after_field r) e in
      let f = field_bytes line_tag (take line_size (drop field_head r)) in
      ap (field_bytes line_tag) (here32 r k field_head v.long)
      ∙ sym (append-nil f)
      ∙ ap (λ (x : Bytes). f ++ x) (sym d)
      ∙ field_there line_tag line_size r k v

  end_there : (b : Bool) → cond b (stands line_tag line_size r && nothing (after_field r)) (nothing r) ≡ true
      → flatten (cond b (field_bytes line_tag (bytes32 (cond b (at32 r field_head) 0)) ∷ []) []) ≡ r
  end_there false e = flat_none ∙ sym (is_nothing r e)
  end_there true e =
      let stood = stands line_tag line_size r in
      let ended = nothing (after_field r) in
      flat_one (field_bytes line_tag (bytes32 (at32 r field_head)))
      ∙ line_bytes_lem (standing line_tag line_size r (and_0 stood ended e)) (and_1 stood ended e)

-- ── the message ──

pub bytes_back : (s : Bytes) → Octets s → keeps_message s ≡ true → message_bytes (parts_in s) ≡ s
bytes_back s k h =
    let v = frame s h in
    let t = drop names_place s in
    let o = octets_drop names_place s k in
    let kind = field_bytes kind_tag (kind_in s ∷ []) in
    let epoch = field_bytes epoch_tag (pair_bytes (pair_in s epoch_place)) in
    let author = field_bytes author_tag (pair_bytes (pair_in s author_place)) in
    let most = most_names (kind_in s) in
    let e = end_there (rest_in s) (after_octets most t o) (eqb (kind_in s) insert) v.end in
    let names = flatten (map name_field (names_within most t)) in
    let n : tail (parts_in s) ≡ t = ap (λ (x : Bytes). names ++ x) e ∙ names_there most t o in
    split (parts_in s)
    ∙ ap (λ (x : Bytes). kind ++ (epoch ++ (author ++ x))) n
    ∙ ap (λ (x : Bytes). kind ++ (epoch ++ x)) (pair_there s k author_tag author_place names_place refl v.author)
    ∙ ap (λ (x : Bytes). kind ++ x) (pair_there s k epoch_tag epoch_place author_place refl v.epoch)
    ∙ kind_there s k v.kind

-- "A message has one writing."
pub one_writing : (s t : Bytes) → Octets s → Octets t → keeps_message s ≡ true → keeps_message t ≡ true
    → parts_in s ≡ parts_in t → s ≡ t
one_writing s t k l h g e = sym (bytes_back s k h) ∙ ap message_bytes e ∙ bytes_back t l g
