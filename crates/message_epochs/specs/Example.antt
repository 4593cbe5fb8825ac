-- That what specs/Heard.antt asks of a unit can be met: a rename of one line, heard of by a unit that knows the first epoch alone.
use Rattle.std.specs.Prelude.{[], ◌∷◌}
use Rattle.numbers.specs.Bytes.{Bytes}
use Rattle.message_epochs.specs.Heard.{Hears}

-- kind 3, the first epoch, author (2, 5), and one name, (9, 1, 1, 0)
abbrev pub message : Bytes
message =
    1 ∷ 0 ∷ 1 ∷ 3
    ∷ 2 ∷ 0 ∷ 6 ∷ 0 ∷ 0 ∷ 0 ∷ 0 ∷ 0 ∷ 0
    ∷ 3 ∷ 0 ∷ 6 ∷ 0 ∷ 2 ∷ 0 ∷ 0 ∷ 0 ∷ 5
    ∷ 4 ∷ 0 ∷ 12 ∷ 0 ∷ 9 ∷ 0 ∷ 1 ∷ 0 ∷ 0 ∷ 0 ∷ 1 ∷ 0 ∷ 0 ∷ 0 ∷ 0
    ∷ []

-- the first epoch, all zero
abbrev pub table : Bytes
table = 0 ∷ 0 ∷ 0 ∷ 0 ∷ 0 ∷ 0 ∷ 0 ∷ 0 ∷ 0 ∷ 0 ∷ []

-- and (2, 5) under it, with a count of 1
abbrev pub second : Bytes
second = 0 ∷ 0 ∷ 0 ∷ 0 ∷ 0 ∷ 0 ∷ 0 ∷ 0 ∷ 0 ∷ 0 ∷ 0 ∷ 2 ∷ 0 ∷ 0 ∷ 0 ∷ 5 ∷ 0 ∷ 0 ∷ 0 ∷ 1 ∷ []

abbrev pub Met : Type 0
Met = Hears message table second
