-- A text as bytes. Each character that stands in one here is ASCII: its code is its byte.
use Prim.Native.String.{String, [], ◌∷◌}
use Prim.Native.Char.{code}
use mathlib.Core.List as list
use Rattle.numbers.specs.Bytes.{Bytes}

abbrev pub ascii : String → Bytes
ascii [] = list.[]
ascii (c ∷ s) = list.◌∷◌ (code c) (ascii s)
