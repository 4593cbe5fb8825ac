-- `old_pages::write_old` meets its contract. Assumes nothing.
use mathlib.Core.Path.{◌≡◌}
use mathlib.Core.List.{List}
use Rattle.numbers.specs.Bytes.{Bytes}
use Rattle.numbers.proofs.Pieces.{standing}
use Rattle.pages.specs.Pages.{slots_of}
use Rattle.old_pages.specs.OldPages.{old_size, old_pieces}
use Rattle.old_pages.proofs.write_old.Given as goal

-- the slots that are to be written
abbrev pub cut_pieces : Bytes → List Bytes
cut_pieces page = old_pieces (slots_of page)

abbrev pub invariant-loop-k : goal.invariant-loop-k
invariant-loop-k l = standing old_size (cut_pieces l.page) l.out l.k ≡ standing old_size (cut_pieces l.page) l.initial.out 0
