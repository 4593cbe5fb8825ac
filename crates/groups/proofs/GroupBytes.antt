-- One group as bytes, at the beginning of some bytes: how long it is (`group_length`), that it is bytes (`group_all`); what is written is read
-- back (`stands_back`, `group_back`, `after_back`), and where a group stands the bytes begin with its writing (`group_there`); what is then
-- left to test of it (`found_exactly`). Assumes nothing.
use mathlib.Core.Path.{◌≡◌, refl, sym, ap, ◌∙◌}
use mathlib.Core.List.{List, ◌∷◌, ◌++◌, append_assoc}
use mathlib.Core.Bool.{true, ◌&&◌}
use Prim.Native.Nat.{ℕ, ◌+◌, ◌*◌, ◌≤◌}
use native.Mathlib.Omega.{arith}
use borrow.Author.Tests.{le-leb}
use lib.Dec.{leb}
use lib.IntN.{pos}
use lib.ListN.{length, drop, length-append}
use Rattle.names.specs.Names.{is_name}
use Rattle.numbers.specs.Bytes.{Bytes, Octets, bytes16}
use Rattle.numbers.proofs.NumberBytes.{here16, sum16}
use Rattle.numbers.proofs.Octets.{AllBytes, join, two, octets_drop}
use Rattle.numbers.proofs.ReadNumbers.{fits16}
use Rattle.slots.specs.Tuples.{tuple_size, row_bytes}
use Rattle.runs.proofs.RunNames.{last_offset}
use Rattle.fields.specs.Fields.{field_head, longest_content, size_in, after_field, stands, field_bytes}
use Rattle.fields.proofs.FieldInverse.{field_length, field_all, after_back as field_after, stands_back as field_stands, field_there}
use Rattle.name_fields.specs.NameFields.{name_fits, field_of_name, name_stands_as, tuples_in}
use Rattle.name_fields.proofs.NameInverse.{name_length, name_field_all, name_stands_lem, tuples_back, name_there}
use Rattle.groups.specs.Groups.{Group, size, line_size, is_group}
use Rattle.groups.specs.Forms.{first_tag, length_tag, lines_tag, length_size, line_bytes, group_bytes, length_in, lines_at, group_stands, group_in, after_group, group_head}
use Rattle.groups.proofs.RunSlots.{run_lines, run_first, run_exactly}
use Rattle.groups.proofs.GroupTests.{good}
use Rattle.groups.proofs.LineBytes.{lines_length, lines_all, lines_back, length_lines_at, here_lines, lines_u32}
use Rattle.groups.proofs.GroupFields.{Stands, group_stands_lem}

-- ── to bytes ──

module _ (g : Group) where
  abbrev first_field : Bytes
  first_field = field_of_name first_tag g.first

  abbrev length_field : Bytes
  length_field = field_bytes length_tag (bytes16 (size g))

  abbrev lines_field : Bytes
  lines_field = field_bytes lines_tag (line_bytes g.lines)

  pub group_length : length (group_bytes g) ≡ group_head + tuple_size * length g.first + line_size * size g
  group_length =
      let a = name_length first_tag g.first in
      let b = field_length length_tag (bytes16 (size g)) in
      let c = field_length lines_tag (line_bytes g.lines) in
      let d = lines_length g.lines in
      length-append (first_field ++ length_field) lines_field
      ∙ ap (λ (n : ℕ). n + length lines_field) (length-append first_field length_field)
      ∙ omega arith

  pub group_all : is_group g ≡ true → AllBytes (group_bytes g)
  group_all e =
      let v = good g e in
      let s = v.short in
      let d = lines_length g.lines in
      let a = name_field_all first_tag g.first (omega arith) (run_first g.first g.lines v.long v.slots) in
      let b = field_all length_tag (bytes16 (size g)) (omega arith) (omega arith) (two (size g) (omega arith)) in
      let c = field_all lines_tag (line_bytes g.lines) (omega arith) (omega arith) (lines_all g.lines (run_lines g.first g.lines v.slots)) in
      join (join a b) c

  -- ── and back ──

  module _ (r : Bytes) where
    -- what follows the first name, and the length
    abbrev tail : Bytes
    tail = length_field ++ (lines_field ++ r)

    abbrev end : Bytes
    end = lines_field ++ r

    cut : group_bytes g ++ r ≡ first_field ++ tail
    cut =
        append_assoc (first_field ++ length_field) lines_field r ∙ append_assoc first_field length_field (lines_field ++ r)

    first_after_lem : after_field (first_field ++ tail) ≡ tail
    first_after_lem = field_after first_tag (row_bytes g.first) tail

    length_after : after_field tail ≡ end
    length_after = field_after length_tag (bytes16 (size g)) end

    counted : length_in tail ≡ size g
    counted = sum16 (size g)

    pub stands_back : group_stands (group_bytes g ++ r) ≡ true
    stands_back =
        let s = first_field ++ tail in
        let n : length (line_bytes g.lines) ≡ line_size * length_in tail = lines_length g.lines ∙ ap (λ (k : ℕ). line_size * k) (sym counted) in
        ap group_stands cut
        ∙ ap (λ (t : Bytes). name_stands_as first_tag s && stands length_tag length_size t && stands lines_tag (line_size * length_in t) (after_field t)) first_after_lem
        ∙ ap (λ (u : Bytes). name_stands_as first_tag s && stands length_tag length_size tail && stands lines_tag (line_size * length_in tail) u) length_after
        ∙ (λ i.
        name_stands_lem first_tag g.first tail i
        && field_stands length_tag (bytes16 (size g)) end length_size refl i
        && field_stands lines_tag (line_bytes g.lines) r (line_size * length_in tail) n i)

    pub group_back : is_name g.first ≡ true → group_in (group_bytes g ++ r) ≡ g
    group_back e =
        let s = first_field ++ tail in
        ap group_in cut
        ∙ ap (λ (t : Bytes). record { first = tuples_in s; lines = lines_at (after_field t) field_head (length_in t) }) first_after_lem
        ∙ (λ i. record { first = tuples_back first_tag g.first tail e i; lines = lines_at (length_after i) field_head (counted i) })
        ∙ ap (λ (l : List ℕ). record { first = g.first; lines = l }) (lines_back (lines_tag ∷ bytes16 (length (line_bytes g.lines))) g.lines r)

    pub after_back : after_group (group_bytes g ++ r) ≡ r
    after_back =
        ap after_group cut
        ∙ ap (λ (t : Bytes). after_field (after_field t)) first_after_lem
        ∙ ap after_field length_after
        ∙ field_after lines_tag (line_bytes g.lines) r

-- ── from bytes ──

module _ (s : Bytes) (k : Octets s) (e : group_stands s ≡ true) where
  abbrev after_name_lem : Bytes
  after_name_lem = after_field s

  abbrev after_length : Bytes
  after_length = after_field (after_field s)

  -- how many line numbers it says it has
  abbrev many : ℕ
  many = length_in (after_field s)

  v : Stands s
  v = group_stands_lem s e

  name_octets : Octets after_name_lem
  name_octets = octets_drop (field_head + size_in s) s k

  length_octets : Octets after_length
  length_octets = octets_drop (field_head + size_in after_name_lem) after_name_lem name_octets

  length_there : field_bytes length_tag (bytes16 many) ++ after_length ≡ after_name_lem
  length_there =
      let l = v.length.long in
      (λ i. field_bytes length_tag (here16 after_name_lem name_octets field_head (omega arith) i) ++ drop (field_head + v.length.sized i) after_name_lem)
      ∙ field_there length_tag length_size after_name_lem name_octets v.length

  lines_there : field_bytes lines_tag (line_bytes (lines_at after_length field_head many)) ++ after_group s ≡ after_length
  lines_there =
      let l = v.lines.long in
      (λ i. field_bytes lines_tag (here_lines after_length length_octets field_head many (omega arith) i) ++ drop (field_head + v.lines.sized i) after_length)
      ∙ field_there lines_tag (line_size * many) after_length length_octets v.lines

  pub group_there : group_bytes (group_in s) ++ after_group s ≡ s
  group_there =
      let a = field_of_name first_tag (tuples_in s) in
      let c = field_bytes lines_tag (line_bytes (lines_at after_length field_head many)) in
      cut (group_in s) (after_group s)
      ∙ (λ i. a ++ (field_bytes length_tag (bytes16 (length_lines_at after_length field_head many i)) ++ (c ++ after_group s)))
      ∙ ap (λ (t : Bytes). a ++ (field_bytes length_tag (bytes16 many) ++ t)) lines_there
      ∙ ap (λ (t : Bytes). a ++ t) length_there
      ∙ name_there first_tag s k v.name

  pub after_octets : Octets (after_group s)
  after_octets = octets_drop (field_head + size_in after_length) after_length length_octets

  pub found_size : size (group_in s) ≡ length_in (after_field s)
  found_size = length_lines_at after_length field_head many

  -- the length is small enough by itself
  found_short : line_size * size (group_in s) ≤ longest_content
  found_short =
      let z = v.lines.sized in
      let f = fits16 after_length 1 length_octets in
      let n = found_size in
      omega arith

  -- of a group whose first name is one, the length and the last offset are left to test
  pub found_exactly : {n : ℕ} → last_offset (tuples_in s) ≡ pos n → name_fits (tuples_in s) ≡ true → 1 ≤ length_in (after_field s)
      → is_group (group_in s) ≡ leb (n + length_in (after_field s)) 2147483647
  found_exactly {n} f w h =
      let z = found_size in
      let l = (group_in s).lines in
      let long : 1 ≤ length l = omega arith in
      let lines = lines_u32 after_length length_octets field_head many in
      (λ i. le-leb 1 (length l) long i && le-leb (line_size * length l) longest_content found_short i && run_exactly (tuples_in s) l f w long i)
      ∙ (λ i. lines i && leb (n + z i) 2147483647)

  -- and of every other it is refused
  pub found_good : is_group (group_in s) ≡ true → (1 ≤ length_in (after_field s)) × (name_fits (tuples_in s) ≡ true)
  found_good h =
      let z = found_size in
      let w = good (group_in s) h in
      (omega (arith, w.long), run_first (tuples_in s) (group_in s).lines w.long w.slots)
