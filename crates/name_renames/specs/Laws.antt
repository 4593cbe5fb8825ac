-- What holds of renaming and of taking back beyond 01's own rules (specs/Rules.antt): of the order, of freshness, of valid names and of
-- end markers. proofs/Laws.antt has that all of it holds (`laws`).
use Rattle.std.specs.Prelude.{ℕ, ◌+◌, ◌<◌, ◌≤◌, ◌≡◌, List, [], ◌∷◌, ◌++◌, Bool, true, ◌&&◌, length, leb, pos}
use Rattle.names.specs.declared.Author.{Author}
use Rattle.std.specs.declared.cmp.Ordering.TheVariants.{Less, Greater}
use Rattle.names.specs.Ordering.{Row, compare_rows, Rising, rising}
use Rattle.names.specs.Names.{m, within, ordinary, is_name}
use Rattle.name_renames.specs.Renaming.{rename, take_back, fresh}
use Rattle.name_renames.specs.Rules.{◌below◌, ◌above◌, r, N}
use Rattle.name_renames.specs.Alone.{alone, Stays}
use Rattle.name_renames.specs.Starred.{one, r0, L, author as author11}

-- ── the words ──

-- a valid author: "node at least 1", and u16 and u32 hold the pair
abbrev pub is_author : Author → Bool
is_author author = within 1 65535 author.node && leb author.sequence 4294967295

-- valid names, every one
unfoldable pub are_names : List Row → Bool
are_names [] = true
are_names (x ∷ l) = is_name x && are_names l

-- no end marker: every tuple is ordinary
unfoldable pub plain : Row → Bool
plain [] = true
plain (t ∷ a) = ordinary t && plain a

unfoldable pub are_plain : List Row → Bool
are_plain [] = true
are_plain (x ∷ l) = plain x && are_plain l

-- a log: at least one name, no more than offsets count (01's have 256 at most), all valid, rising
pub record Log (log : List Row) : Type 0 where
  pub some : 0 < length log
  pub counted : length log ≤ 2147483647
  pub names : are_names log ≡ true
  pub rises : Rising log

module _ (author : Author) (log : List Row) where
  -- ── renaming ──

  pub record RenamingLaws : Type 0 where
    -- "For fresh names the order is kept strictly, markers or not, .."
    pub order_kept : (x y : Row) → fresh author x ≡ true → fresh author y ≡ true → x below y → rename author log x below rename author log y
    -- ".. and a name gains at most one tuple."
    pub one_tuple : (x : Row) → length (rename author log x) ≤ length x + 1
    -- A renamed valid name is valid, markers or not.
    pub valid : (x : Row) → is_author author ≡ true → Log log → is_name x ≡ true → is_name (rename author log x) ≡ true

  -- ── taking back ──

  -- where c goes, beside the logged names
  pub record Placed (c : Row) : Type 0 where
    -- what is below N(0) goes below r0,
    pub below_first : c below N author log 0 → take_back author log c below r author log 0
    -- what is above N(k) goes above r(k),
    pub above_logged : (k : ℕ) → k < length log → c above N author log k → take_back author log c above r author log k
    -- and what is between N(k) and N(k+1) goes below r(k+1)
    pub below_next : (k : ℕ) → k + 1 < length log → c above N author log k → c below N author log (k + 1) → take_back author log c below r author log (k + 1)

  pub record BackLaws : Type 0 where
    -- A renamed fresh name is taken back to itself, markers or not.
    pub given_back : (x : Row) → fresh author x ≡ true → take_back author log (rename author log x) ≡ x
    -- What a valid name is taken back to is valid, markers or not.
    pub valid : (c : Row) → is_author author ≡ true → Log log → is_name c ≡ true → is_name (take_back author log c) ≡ true
    -- Without markers the order is kept strictly.
    pub order_kept : (c d : Row) → Log log → are_plain (c ∷ d ∷ log) ≡ true → c below d → take_back author log c below take_back author log d
    -- Without markers in the log a name stays between the same neighbours.
    pub placed : (c : Row) → Log log → are_plain log ≡ true → Placed c
    -- Two names that are taken back alone keep their order strictly, markers or not,
    pub alone_kept : (c d : Row) → Log log → alone author log c ≡ true → alone author log d ≡ true → c below d → take_back author log c below take_back author log d
    -- and such a name goes to one of the log, or to its own tuples.
    pub alone_is : (c : Row) → Log log → alone author log c ≡ true → Stays log c (take_back author log c)

  -- c is below d, and what they are taken back to is the other way round: 01's answer 7. All names are valid.
  pub record Reversed (c d : Row) : Type 0 where
    pub names : are_names (c ∷ d ∷ log) ≡ true
    pub log_rises : rising log ≡ true
    pub child : compare_rows c d ≡ Less
    pub back : compare_rows (take_back author log c) (take_back author log d) ≡ Greater

-- ── all of it, of every author and every log ──

pub record Laws : Type 0 where
  pub renaming : (author : Author) (log : List Row) → RenamingLaws author log
  pub taking_back : (author : Author) (log : List Row) → BackLaws author log
  -- With a marker in the log the order may be lost: (9,1,1,0)(9,2,0,0) and (9,1,1,1), over r0, (9,2,0,0) m (3,2,4,0).
  pub marker_in_log : Reversed author11 (r0 ∷ (r0 ++ (m ∷ one 3 2 4 (pos 0))) ∷ []) (one 9 1 1 (pos 0) ++ r0) (one 9 1 1 (pos 1))
  -- And with a marker in a name: "back of the page (9,1,1,0)(4,2,5,0), (9,1,1,0)(9,2,0,0) m (3,2,4,0) | 7"
  pub marker_in_name : Reversed author11 L (one 9 1 1 (pos 0) ++ one 4 2 5 (pos 0)) (one 9 1 1 (pos 0) ++ r0 ++ (m ∷ one 3 2 4 (pos 0)))
