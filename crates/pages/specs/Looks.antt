-- What one look at a page tells: 1 where it breaks its layout anywhere, else whether its names rise.
use Rattle.std.specs.Prelude.{ℕ}
use Rattle.numbers.specs.Bytes.{Bytes}
use Rattle.names.specs.Names.{limit}
use Rattle.slots.specs.declared.Seen.{Seen}
use Rattle.slots.specs.Looks.{seen}
use Rattle.pages.specs.Pages.{layout_over, rises_over}

-- of slots with room for so many tuples
abbrev pub seen_over : ℕ → Bytes → Seen
seen_over room s = seen (layout_over room s) (rises_over room s)

abbrev pub seen_in : Bytes → Seen
seen_in s = seen_over limit s
