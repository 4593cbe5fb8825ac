-- A book right after a rename of all its names is one group. 001, section 4.1: "As we assign contiguous identifiers to all elements of the
-- sequence, we eventually group them into one block". Here over 01's rename of a page and the groups of 02, P2, which are wanted "so the
-- book fits the old radio packet" (the demands). proofs/Grouped.antt has that all of it holds (`laws`).
use Rattle.std.specs.Prelude.{ℕ, ◌+◌, ◌*◌, ◌≤◌, ◌≡◌, [], ◌∷◌, map, length}
use Rattle.names.specs.declared.Author.{Author}
use Rattle.name_renames.specs.Rules.{N}
use Rattle.numbers.specs.Bytes.{Bytes}
use Rattle.slots.specs.Tuples.{tuple_size}
use Rattle.std.specs.declared.result.Result.TheVariants.{Ok}
use Rattle.pages.specs.Pages.{max_slots, slots_of, names_of}
use Rattle.page_renames.specs.Renames.{rename_outcome}
use Rattle.page_renames.specs.Laws.{Given}
use Rattle.groups.specs.Groups.{Group, line_size, line_in, grouped}
use Rattle.groups.specs.Forms.{form_bytes, group_head}
use Rattle.groups.specs.Calls.{group_outcome}

-- ── the rename ──

-- an accepted rename by a log of all the page's names, and of no others; n is the count that it answers
pub record RenamesAll (page log : Bytes) (author : Author) (room n : ℕ) : Type 0 where
  pub given : Given page author
  pub all_names : names_of log ≡ names_of page
  pub accepted : (rename_outcome page log author room).answer ≡ Ok n

-- ── its group ──

-- "the first name, a length and the line numbers in order": the first name is 01's N(0), where "N(k) = the name (p, A, s, k)", and "Line
-- numbers travel with their names"
abbrev pub group_of : Bytes → Bytes → Author → Group
group_of page log author = record { first = N author (names_of log) 0; lines = map line_in (slots_of page) }

-- how long the form of such a group is, of n lines: its first name has one tuple
abbrev pub renamed_size : ℕ → ℕ
renamed_size n = group_head + tuple_size + line_size * n

-- how many bytes a packet of the old radio carries: an assumption, for the demands and 02 give no number
abbrev pub packet : ℕ
packet = 1200

module _ (page log : Bytes) (author : Author) (room : ℕ) where
  -- the page right after the rename
  abbrev pub renamed : Bytes
  renamed = (rename_outcome page log author room).bytes

  pub record OneGroup (n : ℕ) : Type 0 where
    pub groups : grouped (slots_of renamed) ≡ group_of page log author ∷ []
    -- "the same number of slots"; "A log is a page of 1..256 slots", so there is a line
    pub count : length (slots_of page) ≡ n
    pub some : 1 ≤ n
    pub few : n ≤ max_slots
    -- so its form has so many bytes,
    pub form_is : length (form_bytes (grouped (slots_of renamed))) ≡ renamed_size n
    -- which grouping writes where there is room for them,
    pub group_is : (room' : ℕ) → renamed_size n ≤ room' →
        group_outcome renamed room' ≡ record { answer = Ok (renamed_size n); bytes = form_bytes (group_of page log author ∷ []) }
    -- "so the book fits the old radio packet", however many lines it has
    pub in_packet : renamed_size n ≤ packet

pub record Laws : Type 0 where
  pub one_group : (page log : Bytes) (author : Author) (room n : ℕ) → RenamesAll page log author room n → OneGroup page log author room n
  -- 23 bytes and four for each line: 1,047 for a book of 256
  pub size_is : (n : ℕ) → renamed_size n ≡ 23 + 4 * n
  pub full_is : renamed_size max_slots ≡ 1047
