-- 01's case of epochs ("Cases"), and the story of 02's P1.
use Rattle.std.specs.Prelude.{ℕ, ◌≤◌, ◌≡◌, List, [], ◌∷◌, true}
use Rattle.std.specs.declared.cmp.Ordering.TheVariants.{Less}
use Rattle.epoch_tree.specs.declared.Step.TheVariants.{Stay, Up, Down}
use Rattle.epoch_tree.specs.Tables.{Entry, zero_entry, is_table}
use Rattle.epoch_tree.specs.Tree.{path, Smaller, target, next_step, edges}
use Rattle.epoch_tree.specs.Counts.{compare_by_pairs}

-- node, sequence, parent and count
abbrev pub entry : ℕ → ℕ → ℕ → ℕ → Entry
entry node sequence parent count = record { node = node; sequence = sequence; parent = parent; count = count }

-- ── 01's case ──

-- "Epochs (node, sequence): (1,1) and (2,2) under the first, (1,1) with child (3,6), (2,2) with child (2,7): the target is (2,7)." It is
-- that of 001, figure 8, where A, B, C are 1, 2, 3 and "ε0 < εA1 < εC6 < εB2 < εB7". 02, P1: "01's epoch case stands with equal counts":
-- whatever the count n is.
abbrev pub figure : ℕ → List Entry
figure n = zero_entry ∷ entry 1 1 0 n ∷ entry 2 2 0 n ∷ entry 3 6 1 n ∷ entry 2 7 2 n ∷ []

pub record Figure (n : ℕ) : Type 0 where
  pub kept : is_table (figure n) ≡ true
  pub A1 : Smaller (figure n) 0 1
  pub C6 : Smaller (figure n) 1 3
  pub B2 : Smaller (figure n) 3 2
  pub B7 : Smaller (figure n) 2 4
  -- "the target is (2,7)"
  pub greatest : target (figure n) ≡ 4
  -- the walk from (3,6): up, up, down, down, and then it stays
  pub far : edges (figure n) 3 4 ≡ 4
  pub from_C6 : next_step (figure n) 3 ≡ Up 1
  pub from_A1 : next_step (figure n) 1 ≡ Up 0
  pub from_0 : next_step (figure n) 0 ≡ Down 2
  pub from_B2 : next_step (figure n) 2 ≡ Down 4
  pub from_B7 : next_step (figure n) 4 ≡ Stay

abbrev pub FigureHolds : Type 0
FigureHolds = (n : ℕ) → 1 ≤ n → n ≤ 256 → Figure n

-- ── the logger from the drawer ──

-- "A spare logger came back after a month with a rename of a three-line book. Its high node number made every unit undo weeks of tidying."
-- Loggers 2, 1 and 3 have renamed the crew's book in turn, of 180, 200 and 214 lines; the spare one is 900, whose rename is of the first
-- epoch.
abbrev pub drawer : List Entry
drawer = zero_entry ∷ entry 2 41 0 180 ∷ entry 1 57 1 200 ∷ entry 3 63 2 214 ∷ entry 900 5 0 3 ∷ []

pub record Drawer : Type 0 where
  pub kept : is_table drawer ≡ true
  -- the spare logger's rename is below the crew's first, and so below all of them
  pub loses : Smaller drawer 4 1
  -- the crew's last is the target, where all units stay
  pub greatest : target drawer ≡ 3
  pub crew_stays : next_step drawer 3 ≡ Stay
  -- and the spare logger takes its own rename back and follows the crew's
  pub far : edges drawer 4 3 ≡ 4
  pub from_spare : next_step drawer 4 ≡ Up 0
  pub from_0 : next_step drawer 0 ≡ Down 1
  pub from_1 : next_step drawer 1 ≡ Down 2
  pub from_2 : next_step drawer 2 ≡ Down 3
  -- by node and sequence alone the spare logger's is above each other, and would be the target
  pub above_0 : compare_by_pairs (path drawer 0) (path drawer 4) ≡ Less
  pub above_1 : compare_by_pairs (path drawer 1) (path drawer 4) ≡ Less
  pub above_2 : compare_by_pairs (path drawer 2) (path drawer 4) ≡ Less
  pub above_3 : compare_by_pairs (path drawer 3) (path drawer 4) ≡ Less
