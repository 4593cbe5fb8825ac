-- What an accepted rename and an accepted taking back have written: document 01, "Renaming one name" and "Taking it back", over whole pages.
-- proofs/Books.antt has that all of it holds (`laws`).
use Rattle.std.specs.Prelude.{ℕ, ◌≤◌, ◌≡◌, length}
use Rattle.names.specs.declared.Author.{Author}
use Rattle.name_renames.specs.Renaming.{rename, take_back}
use Rattle.numbers.specs.Bytes.{Bytes, Octets}
use Rattle.pages.specs.Pages.{slots_of, names_of}
use Rattle.pages.specs.Laws.{IsPage}
use Rattle.std.specs.declared.result.Result.TheVariants.{Ok}
use Rattle.page_renames.specs.Renames.{carried, rename_outcome, take_back_outcome}

-- what the code is given: bytes, and an author whose node is a u16 and whose sequence is a u32
pub record Given (page : Bytes) (author : Author) : Type 0 where
  pub octets : Octets page
  pub node_max : author.node ≤ 65535
  pub sequence_max : author.sequence ≤ 4294967295

pub record Laws : Type 0 where
  -- "For fresh names the order is kept strictly, markers or not": an accepted rename writes a page
  pub rename_page : (page log : Bytes) (author : Author) (room n : ℕ) → Given page author →
      (rename_outcome page log author room).answer ≡ Ok n → IsPage (rename_outcome page log author room).bytes
  -- "the same number of slots in the same order", "Line numbers travel with their names": its slots are the page's, each name renamed
  pub rename_slots : (page log : Bytes) (author : Author) (room n : ℕ) → Given page author →
      (rename_outcome page log author room).answer ≡ Ok n →
      slots_of (rename_outcome page log author room).bytes ≡ carried (rename author (names_of log)) (slots_of page)
  -- 7 is "taken-back names not strictly rising": an accepted taking back writes a page
  pub back_page : (page log : Bytes) (author : Author) (room n : ℕ) → Given page author →
      (take_back_outcome page log author room).answer ≡ Ok n → IsPage (take_back_outcome page log author room).bytes
  -- whose slots are the page's, each name taken back
  pub back_slots : (page log : Bytes) (author : Author) (room n : ℕ) → Given page author →
      (take_back_outcome page log author room).answer ≡ Ok n →
      slots_of (take_back_outcome page log author room).bytes ≡ carried (take_back author (names_of log)) (slots_of page)
  -- A renamed page taken back is the page, byte for byte, markers or not, where the output has room for it.
  pub rename_back : (page log : Bytes) (author : Author) (room n : ℕ) → Given page author →
      (rename_outcome page log author room).answer ≡ Ok n → (room' : ℕ) → length page ≤ room' →
      take_back_outcome (rename_outcome page log author room).bytes log author room' ≡ record { answer = Ok (length (slots_of page)); bytes = page }
