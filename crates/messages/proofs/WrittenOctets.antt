-- What is written is bytes: `written_octets`, of a message's parts. Assumes nothing.
use mathlib.Core.Path.{◌≡◌}
use mathlib.Core.List.{List, [], ◌∷◌, map, flatten}
use mathlib.Core.Bool.{Bool, true, false, cond, ◌&&◌, ◌||◌}
use Prim.Native.Nat.{ℕ, ◌≤◌}
use native.Mathlib.Omega.{arith}
use borrow.Author.Tests.{leb-true}
use lib.Dec.{leb, eqb}
use Rattle.names.specs.declared.Author.{Author}
use Rattle.names.specs.Ordering.{Row}
use Rattle.names.specs.Names.{within}
use Rattle.numbers.proofs.Bools.{and_0, and_1}
use Rattle.numbers.specs.Bytes.{Octets, bytes32}
use Rattle.std.specs.List.{list_all}
use Rattle.numbers.proofs.Lists.{flat, flat_none}
use Rattle.numbers.proofs.Octets.{AllBytes, nil, byte, all_octets, join, two, four}
use Rattle.fields.specs.Fields.{field_bytes}
use Rattle.fields.proofs.FieldInverse.{field_all}
use Rattle.name_fields.specs.NameFields.{name_fits}
use Rattle.name_fields.proofs.NameInverse.{name_field_all}
use Rattle.messages.specs.Messages.{insert, rename, kind_tag, epoch_tag, author_tag, name_tag, line_tag, Parts, is_message, pair_bytes, name_field, line_fields, message_bytes}
use Rattle.messages.proofs.TestsPassed.{Good, good}
use Rattle.messages.proofs.ReadBack.{split}

pair_all : (x : Author) → x.node ≤ 65535 → x.sequence ≤ 4294967295 → AllBytes (pair_bytes x)
pair_all x h g = join (two x.node (omega arith)) (four x.sequence (omega arith))

names_all : (l : List Row) → list_all name_fits l ≡ true → AllBytes (flatten (map name_field l))
names_all [] e = rw flat_none nil
names_all (a ∷ l) e =
    let here = name_field_all name_tag a (omega arith) (and_0 (name_fits a) (list_all name_fits l) e) in
    rw (flat (name_field a) (map name_field l)) (join here (names_all l (and_1 (name_fits a) (list_all name_fits l) e)))

line_all : (line : ℕ) → line ≤ 4294967295 → (b : Bool) → AllBytes (flatten (cond b (field_bytes line_tag (bytes32 line) ∷ []) []))
line_all line h true =
    let f = field_all line_tag (bytes32 line) (omega arith) (omega arith) (four line (omega arith)) in
    rw (flat (field_bytes line_tag (bytes32 line)) [], flat_none) (join f nil)
line_all line h false = rw flat_none nil

pub written_octets : (p : Parts) → is_message p ≡ true → Octets (message_bytes p)
written_octets p h = all_octets {s = message_bytes p} (rw (split p) (join kind (join epoch (join author (join names line)))))
  where
    v : Good p
    v = good p h

    kind : AllBytes (field_bytes kind_tag (p.numbers.kind ∷ []))
    kind =
        let k = leb-true p.numbers.kind rename (and_1 (leb insert p.numbers.kind) (leb p.numbers.kind rename) v.kind) in
        field_all kind_tag (p.numbers.kind ∷ []) (omega arith) (omega arith) (byte p.numbers.kind (omega arith) nil)

    epoch : AllBytes (field_bytes epoch_tag (pair_bytes p.numbers.epoch))
    epoch =
        let x = p.numbers.epoch in
        let a = leb x.node 65535 in
        let b = leb x.sequence 4294967295 in
        let e = and_0 (a && b) (leb 1 x.node || eqb x.sequence 0) v.epoch in
        let pair = pair_all x (leb-true x.node 65535 (and_0 a b e)) (leb-true x.sequence 4294967295 (and_1 a b e)) in
        field_all epoch_tag (pair_bytes x) (omega arith) (omega arith) pair

    author : AllBytes (field_bytes author_tag (pair_bytes p.numbers.author))
    author =
        let x = p.numbers.author in
        let a = within 1 65535 x.node in
        let b = leb x.sequence 4294967295 in
        let n = leb-true x.node 65535 (and_1 (leb 1 x.node) (leb x.node 65535) (and_0 a b v.author)) in
        field_all author_tag (pair_bytes x) (omega arith) (omega arith) (pair_all x n (leb-true x.sequence 4294967295 (and_1 a b v.author)))

    names : AllBytes (flatten (map name_field p.names))
    names = names_all p.names v.named

    line : AllBytes (flatten (line_fields p.numbers.kind p.numbers.line))
    line =
        let n = p.numbers.line in
        let is_insert = eqb p.numbers.kind insert in
        line_all n (leb-true n 4294967295 (and_0 (leb n 4294967295) (is_insert || eqb n 0) v.line)) is_insert
