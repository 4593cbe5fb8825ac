-- A name that the code holds by value, written as bytes and read back (`held_back`): its offsets are words (`held_words`), which is what
-- owning the value tells of each tuple. Assumes nothing.
use Rattle.std.proofs.Common.{◌≡◌, ℕ, zero, suc, ◌+◌, List, [], ◌∷◌, length, take, drop}
use denote.Array.{each}
use denote.Shadow.{shadow}
use mir.Val.{Val}
use Rattle.names.specs.declared.Name.{Name}
use Rattle.names.specs.declared.Tuple.{Tuple}
use Rattle.names.specs.Ordering.{Row}
use Rattle.names.specs.Names.{row_of}
use Rattle.names.specs.contracts.Tuple.{the_row}
use Rattle.numbers.specs.Bytes.{Bytes, put}
use Rattle.numbers.proofs.TwosComplement.{is_word}
use Rattle.slots.specs.Tuples.{tuples_at, row_bytes}
use Rattle.slots.proofs.RoundTrip.{Words, none, more, row_back}

pub held_words : (xs : List Tuple) (us : List Val) → shadow (each the_row.Denot the_row.own_val xs us) → Words xs
held_words [] [] s = none
held_words [] (u ∷ us) s = absurd s
held_words (x ∷ xs) [] s = absurd s
held_words (x ∷ xs) (u ∷ us) s = more (is_word x.offset s.0.1.1.1.1.1.0.1) (held_words xs us s.1)

first_words : (n : ℕ) {a : Row} → Words a → Words (take n a)
first_words zero w = none
first_words (suc n) none = none
first_words (suc n) (more h w) = more h (first_words n w)

pub held_back : (x : Name) (o : Bytes) → Words x.tuples → tuples_at (put o 0 (row_bytes (row_of x))) 0 (length (row_of x)) ≡ row_of x
held_back x o w = row_back [] (row_of x) (drop (0 + length (row_bytes (row_of x))) o) (first_words x.depth w)
