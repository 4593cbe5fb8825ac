-- A name's tuples are written as bytes: `name_all`. Assumes nothing.
use Rattle.std.proofs.Common.{◌≡◌, ◌<◌, true, ℤ, arith}
use Rattle.names.specs.declared.Tuple.{Tuple}
use Rattle.names.specs.Ordering.{Row}
use Rattle.names.specs.Names.{is_name}
use Rattle.names.proofs.Validity.{Ordinary, Middle, plain, marker_m, marker_M, Ends, final, onward, name_valid, valid_ends}
use Rattle.numbers.proofs.Octets.{AllBytes, nil, join, two, four}
use Rattle.numbers.specs.Bytes.{unsigned}
use Rattle.numbers.proofs.TwosComplement.{Word, high, low}
use Rattle.slots.specs.Tuples.{tuple_bytes, row_bytes}
use Rattle.slots.proofs.RoundTrip.{Words, more, name_words}

word_small : {z : ℤ} → Word z → unsigned z < 4294967296
word_small (high h) = omega arith
word_small (low h) = omega arith

-- the numbers before the offset
record Small (t : Tuple) : Type 0 where
  position : t.position < 65536
  node : t.node < 65536
  sequence : t.sequence < 4294967296

ordinary_small : {t : Tuple} → Ordinary t → Small t
ordinary_small o = record { position = omega (arith, o.position_max); node = omega (arith, o.node_max); sequence = omega (arith, o.sequence_max) }

middle_small : {t : Tuple} → Middle t → Small t
middle_small (plain o) = ordinary_small o
middle_small (marker_m e) = rw e (record { position = omega arith; node = omega arith; sequence = omega arith })
middle_small (marker_M e) = rw e (record { position = omega arith; node = omega arith; sequence = omega arith })

tuple_all : {t : Tuple} → Small t → Word t.offset → AllBytes (tuple_bytes t)
unfolding tuple_bytes
tuple_all {t} s w =
    join (join (join (two t.position s.position) (two t.node s.node)) (four t.sequence s.sequence)) (four (unsigned t.offset) (word_small w))

row_all : {a : Row} → Ends a → Words a → AllBytes (row_bytes a)
row_all (final o h) (more w ws) = join (tuple_all (ordinary_small o) w) nil
row_all (onward b e) (more w ws) = join (tuple_all (middle_small b) w) (row_all e ws)

pub name_all : (a : Row) → is_name a ≡ true → AllBytes (row_bytes a)
name_all a e = row_all (valid_ends (name_valid a e)) (name_words a e)
