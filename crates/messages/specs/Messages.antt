-- Messages: document 01, "Messages". The reasons for which one is malformed stand once, in `is_message`, for reading and for writing.
use Rattle.std.specs.Prelude.{ℕ, zero, suc, ◌+◌, ◌*◌, Bool, cond, ◌&&◌, ◌||◌, length, drop, get_or, eqb, leb}
use mathlib.Core.List.{List, [], ◌∷◌, ◌++◌, map, flatten}
use Rattle.names.specs.declared.Author.{Author}
use Rattle.names.specs.Ordering.{Row, rising}
use Rattle.names.specs.Names.{limit, within}
use Rattle.numbers.specs.Bytes.{Bytes, at16, at32, bytes16, bytes32}
use Rattle.slots.specs.Tuples.{tuple_size}
use Rattle.std.specs.List.{list_all}
use Rattle.pages.specs.Pages.{max_slots}
use Rattle.messages.specs.declared.Numbers.{Numbers}
use Rattle.fields.specs.Fields.{field_head, after_field, stands, field_bytes, nothing}
use Rattle.name_fields.specs.NameFields.{name_fits, field_of_name, name_stands_as, tuples_in}

-- "kind, one byte (1 insert, 2 remove, 3 rename)"
abbrev pub insert : ℕ
insert = 1

abbrev pub remove : ℕ
remove = 2

abbrev pub rename : ℕ
rename = 3

-- "Tag 1: kind", "Tag 2: epoch", "Tag 3: author", "tag 4 (a name's tuples ..)", "tag 5 (line number ..)"
abbrev pub kind_tag : ℕ
kind_tag = 1

abbrev pub epoch_tag : ℕ
epoch_tag = 2

abbrev pub author_tag : ℕ
author_tag = 3

abbrev pub name_tag : ℕ
name_tag = 4

abbrev pub line_tag : ℕ
line_tag = 5

-- "kind, one byte", "node and sequence in 6 bytes", "line number, 4 bytes"
abbrev pub kind_size : ℕ
kind_size = 1

abbrev pub pair_size : ℕ
pair_size = 6

abbrev pub line_size : ℕ
line_size = 4

-- where the sequence stands in a pair, after the node
abbrev pub sequence_place : ℕ
sequence_place = 2

-- What a message says, and "the parts given for one".
pub record Parts : Type 0 where
  pub numbers : Numbers
  pub names : List Row

-- ── what can be said ──

-- "1 insert, 2 remove, 3 rename"
abbrev pub is_kind : ℕ → Bool
is_kind kind = within insert rename kind

-- "epoch, node and sequence in 6 bytes, six zeros for the first epoch; node 0 with another sequence is malformed"
abbrev pub is_epoch : Author → Bool
is_epoch e = leb e.node 65535 && leb e.sequence 4294967295 && (leb 1 e.node || eqb e.sequence 0)

-- "author, 6 bytes, node at least 1"
abbrev pub is_author : Author → Bool
is_author a = within 1 65535 a.node && leb a.sequence 4294967295

-- "for insert tag 4 ..; for remove one tag 4; for rename 1..256 tags 4": at most so many names, and at least one
abbrev pub most_names : ℕ → ℕ
most_names kind = cond (eqb kind rename) max_slots 1

-- "a line number other than 0 where the kind isn't insert"
abbrev pub is_line : ℕ → ℕ → Bool
is_line kind line = leb line 4294967295 && (eqb kind insert || eqb line 0)

-- "15 for any parts that reading can't give: a bad kind, epoch, author or name, a wrong number of names, names of a rename not rising,
-- .. a line number other than 0 where the kind isn't insert". That the names rise is asked of every kind: one name by itself does.
unfoldable pub is_message : Parts → Bool
is_message p =
    is_kind p.numbers.kind && is_epoch p.numbers.epoch && is_author p.numbers.author && list_all name_fits p.names
    && within 1 (most_names p.numbers.kind) (length p.names) && rising p.names && is_line p.numbers.kind p.numbers.line

-- ── the encoder ──

-- "node and sequence in 6 bytes"
abbrev pub pair_bytes : Author → Bytes
pair_bytes x = bytes16 x.node ++ bytes32 x.sequence

-- "tag 4 (a name's tuples, 12 bytes each)"
abbrev pub name_field : Row → Bytes
name_field a = field_of_name name_tag a

-- "for insert .. tag 5 (line number, 4 bytes)"
abbrev pub line_fields : ℕ → ℕ → List Bytes
line_fields kind line = cond (eqb kind insert) (field_bytes line_tag (bytes32 line) ∷ []) []

-- "in this order, nothing after"
abbrev pub fields_of : Parts → List Bytes
fields_of p =
    field_bytes kind_tag (p.numbers.kind ∷ [])
    ∷ field_bytes epoch_tag (pair_bytes p.numbers.epoch)
    ∷ field_bytes author_tag (pair_bytes p.numbers.author)
    ∷ (map name_field p.names ++ line_fields p.numbers.kind p.numbers.line)

unfoldable pub message_bytes : Parts → Bytes
message_bytes p = flatten (fields_of p)

-- ── the decoder ──

-- where the fields of fixed sizes begin, and the names after them
abbrev pub epoch_place : ℕ
epoch_place = field_head + kind_size

abbrev pub author_place : ℕ
author_place = epoch_place + field_head + pair_size

abbrev pub names_place : ℕ
names_place = author_place + field_head + pair_size

-- node and sequence of the field that begins at p
abbrev pub pair_in : Bytes → ℕ → Author
pair_in s p = record { node = at16 s (p + field_head); sequence = at32 s (p + field_head + sequence_place) }

abbrev pub kind_in : Bytes → ℕ
kind_in s = get_or s field_head 0

-- a name's field stands whole at the beginning of s
abbrev pub name_stands : Bytes → Bool
name_stands s = name_stands_as name_tag s

-- the names whose fields stand one after the other from the beginning of s on, at most so many
abbrev pub names_within : ℕ → Bytes → List Row
names_within zero s = []
names_within (suc most) s = cond (name_stands s) (tuples_in s ∷ names_within most (after_field s)) []

-- what follows their fields
abbrev pub after_names : ℕ → Bytes → Bytes
after_names zero s = s
after_names (suc most) s = cond (name_stands s) (after_names most (after_field s)) s

abbrev pub names_in : Bytes → List Row
names_in s = names_within (most_names (kind_in s)) (drop names_place s)

abbrev pub rest_in : Bytes → Bytes
rest_in s = after_names (most_names (kind_in s)) (drop names_place s)

-- "line number (0 unless insert)"
abbrev pub line_in : Bytes → ℕ
line_in s = cond (eqb (kind_in s) insert) (at32 (rest_in s) field_head) 0

abbrev pub numbers_in : Bytes → Numbers
numbers_in s = record { kind = kind_in s; epoch = pair_in s epoch_place; author = pair_in s author_place; line = line_in s }

abbrev pub parts_in : Bytes → Parts
parts_in s = record { numbers = numbers_in s; names = names_in s }

-- ── the layout ──

-- what follows the names: for insert "tag 5 (line number, 4 bytes)", and "nothing after"
abbrev pub ends_as : ℕ → Bytes → Bool
ends_as kind s = cond (eqb kind insert) (stands line_tag line_size s && nothing (after_field s)) (nothing s)

-- "Fields .. in this order, nothing after."
unfoldable pub framed : Bytes → Bool
framed s =
    stands kind_tag kind_size s && stands epoch_tag pair_size (drop epoch_place s) && stands author_tag pair_size (drop author_place s)
    && ends_as (kind_in s) (rest_in s)

unfoldable pub keeps_message : Bytes → Bool
keeps_message s = framed s && is_message (parts_in s)

-- "The longest is 25,366 bytes" (02, P8: 49,942): a rename of as many names as a page has, each of as many tuples as a name has
abbrev pub longest : ℕ
longest = names_place + max_slots * (field_head + tuple_size * limit)
