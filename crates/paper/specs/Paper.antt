-- The paper's own steps for renaming one identifier and for reverting it: 001, algorithm 1 (section 4.2), algorithm 2 (section
-- 5.3), algorithms 3 and 4 (appendices B and C), with the helper functions of appendix A. They are kept apart: no other crate
-- cites this one. proofs/Paper.antt has where 01 and the paper agree and where they depart. docs/PAPER.md explains each departure.
--
-- The paper's words: an id is a name, renamedIds is the log, nId and nSeq are the author's pair, MIN_TUPLE and MAX_TUPLE are m
-- and M, and concat is `◌++◌`. The paper's lines stand in quotes beside what they have become. Where its text leaves a choice,
-- the one that is best for the paper is taken, and said after the word "Reading". A log has at least one name.
use Rattle.std.specs.Prelude.{ℕ, suc, ◌-◌, ◌<◌, ◌≡◌, List, [], ◌∷◌, ◌++◌, ◌⊎◌, Bool, true, false, cond, ◌&&◌, ◌||◌, length, drop, get_or, ℤ, pos, negsuc}
use Rattle.std.proofs.Math.IntN.{pred_ℤ}
use Rattle.std.specs.Int.Signed.{lt_z, non_neg}
use Rattle.names.specs.declared.Author.{Author}
use Rattle.std.specs.declared.cmp.Ordering.{Ordering}
use Rattle.std.specs.declared.cmp.Ordering.TheVariants.{Less, Equal, Greater}
use Rattle.names.specs.Ordering.{Row, compare_tuples, compare_rows, rising, ◌<ⁿ◌, ◌≤ⁿ◌}
use Rattle.std.specs.Ordering.{is_eq}
use Rattle.names.specs.Names.{m, M, is_name}
use Rattle.name_renames.specs.Renaming.{choose, if_below, first_position, lead, N, rename, take_back, fresh}
use Rattle.name_renames.specs.Rules.{◌below◌}
use Rattle.name_renames.specs.Laws.{plain, are_plain, Log}
use Rattle.name_renames.specs.Starred.{one, r0, r2, L, author, other_author}

-- ── appendix A: the helper functions ──

-- "renamedIds[index]". Reading: past the end it is the row of no tuples. With a log of at least one name nothing below reads there.
abbrev pub id_at : List Row → ℕ → Row
id_at renamedIds index = get_or renamedIds index []

-- "new Id(pos, nId, nSeq, offset)"
abbrev pub new_id : ℕ → Author → ℤ → Row
new_id p author offset = lead p author offset ∷ []

-- "id ∈ renamedIds"
unfoldable pub is_among : Row → List Row → Bool
is_among id [] = false
is_among id (r ∷ rest) = is_eq (compare_rows id r) || is_among id rest

-- "FINDINDEX : Retrieves the index of the given id in the given list of ids renamedIds." It is asked only of an id that is there.
unfoldable pub find_index : Row → List Row → ℕ
find_index id [] = 0
find_index id (r ∷ rest) = choose (compare_rows id r) (suc (find_index id rest)) 0 (suc (find_index id rest))

-- "FINDINDEXOFPRED : Retrieves the index of the predecessor of the given id in the given list of ids renamedIds." It is asked only
-- of an id above the first; each id of the list that is below it is passed.
unfoldable pub find_index_of_pred : Row → List Row → ℕ
find_index_of_pred id [] = 0
find_index_of_pred id (r ∷ []) = 0
find_index_of_pred id (r ∷ q ∷ rest) = if_below q id (suc (find_index_of_pred id (q ∷ rest))) 0

-- "ISRENAMEDID : Indicates if the given id is part of the block resulting of the rename operation, i.e. id is of the form
-- pos_offset^(nId nSeq)". Reading: the offset is one of 0..length−1, for which algorithm 2 hands over length. Appendix A does not
-- say it, and then an id after newLastId would read renamedIds past its end.
unfoldable pub is_renamed_id : Row → ℕ → Author → ℕ → Bool
is_renamed_id [] p author n = false
is_renamed_id (t ∷ []) p author n = is_eq (compare_tuples t (lead p author t.offset)) && lt_z t.offset (pos n) && non_neg t.offset
is_renamed_id (t ∷ u ∷ a) p author n = false

-- an offset as an index. It is asked only of offsets from 0 on.
abbrev pub as_index : ℤ → ℕ
as_index (pos k) = k
as_index (negsuc k) = 0

-- "GETFIRSTOFFSET : Retrieves the value of the offset of the first tuple of the given id."
abbrev pub get_first_offset : Row → ℕ
get_first_offset [] = 0
get_first_offset (t ∷ a) = as_index t.offset

-- "GETTAIL : Returns a new id obtained by removing the n first tuples of the given id."
abbrev pub get_tail : Row → ℕ → Row
get_tail id n = drop n id

-- "GETLASTOFFSET : Retrieves the value of the offset of the last tuple of the given id."
unfoldable pub get_last_offset : Row → ℤ
get_last_offset [] = pos 0
get_last_offset (t ∷ []) = t.offset
get_last_offset (t ∷ u ∷ a) = get_last_offset (u ∷ a)

-- "CREATEIDFROMBASE : Returns a new id by copying the given id and replacing its last offset with the given one."
unfoldable pub create_id_from_base : Row → ℤ → Row
create_id_from_base [] offset = []
create_id_from_base (t ∷ []) offset = record { position = t.position; node = t.node; sequence = t.sequence; offset = offset } ∷ []
create_id_from_base (t ∷ u ∷ a) offset = t ∷ create_id_from_base (u ∷ a) offset

-- "ISPREFIX : Indicates if the given id is a prefix of the other given id." Reading: a proper prefix, so that a tail has a tuple.
unfoldable pub is_prefix : Row → Row → Bool
is_prefix a [] = false
is_prefix [] (t ∷ b) = true
is_prefix (s ∷ a) (t ∷ b) = is_eq (compare_tuples t s) && is_prefix a b

module _ (renamedIds : List Row) where
  -- "firstId ← renamedIds[0]"
  abbrev pub first_id : Row
  first_id = id_at renamedIds 0

  -- "lastId ← renamedIds[length - 1]"
  abbrev pub last_id : Row
  last_id = id_at renamedIds (length renamedIds - 1)

  module _ (author : Author) where
    -- "newFirstId ← new Id(pos, nId, nSeq, 0)", with "pos ← position(firstId)"
    abbrev pub new_first_id : Row
    new_first_id = new_id (first_position renamedIds) author (pos 0)

    -- "predNewFirstId ← createIdFromBase(newFirstId, -1)"
    abbrev pub pred_new_first_id : Row
    pred_new_first_id = new_id (first_position renamedIds) author (negsuc 0)

    -- "newLastId ← new Id(pos, nId, nSeq, length - 1)"
    abbrev pub new_last_id : Row
    new_last_id = new_id (first_position renamedIds) author (pos (length renamedIds - 1))

-- ── renaming: algorithm 1, and algorithm 3 of appendix B ──

-- function RENIDLESSTHANFIRSTID(id, newFirstId)
--   "if id < newFirstId then return id"
--   "else .. predNewFirstId ← new Id(pos, nId, nSeq, -1)", with pos, nId and nSeq of newFirstId, "return concat(predNewFirstId, id)"
unfoldable pub ren_id_less_than_first_id : Row → Row → Row
ren_id_less_than_first_id id new_first = if_below id new_first id (create_id_from_base new_first (negsuc 0) ++ id)

-- function RENIDGREATERTHANLASTID(id, newLastId)
--   "if id < newLastId then return concat(newLastId, id)"
--   "else return id"
unfoldable pub ren_id_greater_than_last_id : Row → Row → Row
ren_id_greater_than_last_id id new_last = if_below id new_last (new_last ++ id) id

-- function RENIDFROMPREDID(id, renamedIds, pos, nId, nSeq)
--   "index ← findIndex(id, renamedIds)". Reading: findIndexOfPred, since id is not in renamedIds and section 4.2 names the predecessor.
--   "newPredId ← new Id(pos, nId, nSeq, index)", "return concat(newPredId, id)"
unfoldable pub ren_id_from_pred_id : Row → List Row → Author → Row
ren_id_from_pred_id id renamedIds author = new_id (first_position renamedIds) author (pos (find_index_of_pred id renamedIds)) ++ id

-- function RENAMEID(id, renamedIds, nId, nSeq)
--   "if id < firstId then .. return renIdLessThanFirstId(id, newFirstId)"
--   "else if id ∈ renamedIds then index ← findIndex(id, renamedIds), return new Id(pos, nId, nSeq, index)"
--   "else if lastId < id then .. return renIdGreaterThanLastId(id, newLastId)"
--   "else return renIdFromPredId(id, renamedIds, pos, nId, nSeq)"
unfoldable pub rename_id : Row → List Row → Author → Row
rename_id id renamedIds author =
    if_below id (first_id renamedIds) (ren_id_less_than_first_id id (new_first_id renamedIds author))
    (cond (is_among id renamedIds) (new_id (first_position renamedIds) author (pos (find_index id renamedIds)))
    (if_below (last_id renamedIds) id (ren_id_greater_than_last_id id (new_last_id renamedIds author)) (ren_id_from_pred_id id renamedIds author)))

-- ── reverting: algorithm 2, and algorithm 4 of appendix C ──

-- function REVRENIDLESSTHANNEWFIRSTID(id, firstId, newFirstId)
--   "predNewFirstId ← createIdFromBase(newFirstId, -1)"
--   "if isPrefix(predNewFirstId, id) then tail ← getTail(id, 1)"
--     "if tail < firstId then return tail"
--     "else .. offset ← getLastOffset(firstId), predFirstId ← createIdFromBase(firstId, offset)"
--       "return concat(predFirstId, MAX_TUPLE, tail)"
--   "else return id"
unfoldable pub rev_ren_id_less_than_new_first_id : Row → Row → Row → Row
rev_ren_id_less_than_new_first_id id first new_first =
    let tail = get_tail id 1 in
    let predFirstId = create_id_from_base first (get_last_offset first) in
    cond (is_prefix (create_id_from_base new_first (negsuc 0)) id) (if_below tail first tail (predFirstId ++ (M ∷ tail))) id

-- function REVRENIDGREATERTHANNEWLASTID(id, lastId). Reading: newLastId, which its lines name, is handed over too.
--   "if id < lastId then .. return concat(lastId, MIN_TUPLE, id)"
--   "else if isPrefix(newLastId, id) then tail ← getTail(id, 1)"
--     "if tail < lastId then .. return concat(lastId, MIN_TUPLE, tail)"
--     "else if tail < newLastId then return tail"
--     "else .. return id"
--   "else return id"
unfoldable pub rev_ren_id_greater_than_new_last_id : Row → Row → Row → Row
rev_ren_id_greater_than_new_last_id id last new_last =
    let tail = get_tail id 1 in
    if_below id last (last ++ (m ∷ id))
    (cond (is_prefix new_last id) (if_below tail last (last ++ (m ∷ tail)) (if_below tail new_last tail id)) id)

-- function REVRENIDFROMPREDID(id, renamedIds, index)
--   "predId ← renamedIds[index]", "succId ← renamedIds[index + 1]", "tail ← getTail(id, 1)"
--   "if tail < predId then .. return concat(predId, MIN_TUPLE, tail)"
--   "else if succId < tail then .. offset ← getLastOffset(succId) - 1, predOfSuccId ← createIdFromBase(succId, offset)"
--     "return concat(predOfSuccId, MAX_TUPLE, tail)"
--   "else return tail"
unfoldable pub rev_ren_id_from_pred_id : Row → List Row → ℕ → Row
rev_ren_id_from_pred_id id renamedIds index =
    let predId = id_at renamedIds index in
    let succId = id_at renamedIds (suc index) in
    let tail = get_tail id 1 in
    let predOfSuccId = create_id_from_base succId (pred_ℤ (get_last_offset succId)) in
    if_below tail predId (predId ++ (m ∷ tail)) (if_below succId tail (predOfSuccId ++ (M ∷ tail)) tail)

-- function REVERTRENAMEID(id, renamedIds, nId, nSeq)
--   "if id < newFirstId then return revRenIdLessThanNewFirstId(id, firstId, newFirstId)"
--   "else if isRenamedId(id, pos, nId, nSeq, length) then index ← getFirstOffset(id), return renamedIds[index]"
--   "else if newLastId < id then return revRenIdGreaterThanNewLastId(id, lastId)"
--   "else index ← getFirstOffset(id), return revRenIdFromPredId(id, renamedIds, index)"
unfoldable pub revert_rename_id : Row → List Row → Author → Row
revert_rename_id id renamedIds author =
    if_below id (new_first_id renamedIds author) (rev_ren_id_less_than_new_first_id id (first_id renamedIds) (new_first_id renamedIds author))
    (cond (is_renamed_id id (first_position renamedIds) author (length renamedIds)) (id_at renamedIds (get_first_offset id))
    (if_below (new_last_id renamedIds author) id (rev_ren_id_greater_than_new_last_id id (last_id renamedIds) (new_last_id renamedIds author))
    (rev_ren_id_from_pred_id id renamedIds (get_first_offset id))))

-- ── where 01 departs ──

-- The names c that taking back makes something else of than the paper does, one constructor for each kind. `Compared`, below, says
-- that these are all, and that each does differ. For renaming there is none.
pub data Departs (author : Author) (log : List Row) : Row → Type 0 where
  -- Algorithm 2, "if tail < predId": a tail equal to predId is handed back as it is, and so meets newPredId's own.
  tail_is_pred : (k : ℕ) → suc k < length log → Departs author log (N (first_position log) author k ++ id_at log k)
  -- Algorithm 2, "else if succId < tail": likewise a tail equal to succId.
  tail_is_succ : (k : ℕ) → suc k < length log → Departs author log (N (first_position log) author k ++ id_at log (suc k))
  -- Algorithm 4, "if isPrefix(predNewFirstId, id)": the prefix is stripped from every id that has it. RENAMEID puts it only before
  -- ids that are not below newFirstId; a tail below newFirstId passes the ids to its left.
  low_tail : {t : Row} → [] <ⁿ t → t <ⁿ new_first_id log author → Departs author log (pred_new_first_id log author ++ t)
  -- Algorithm 4, "offset ← getLastOffset(firstId)": not less 1, as algorithm 2 has it for succId. So predFirstId is firstId, and the
  -- result lies above it.
  high_tail : {t : Row} → new_first_id log author ≤ⁿ t → first_id log ≤ⁿ t → Departs author log (pred_new_first_id log author ++ t)
  -- Algorithm 4, "else return id": also where id is not below firstId.
  no_prefix : {c : Row} → is_prefix (pred_new_first_id log author) c ≡ false → c <ⁿ new_first_id log author → first_id log ≤ⁿ c → Departs author log c
  -- Algorithm 4, "else if tail < newLastId then return tail": also where tail is lastId.
  tail_is_last : last_id log <ⁿ new_last_id log author → Departs author log (new_last_id log author ++ last_id log)
  -- Algorithm 4, "else return id": also where id is lastId. (Where 01 strips lastId, it does not depart; over a log of fresh names it
  -- never does.)
  is_last : new_last_id log author <ⁿ last_id log → ((t : Row) → last_id log ≡ new_last_id log author ++ t → new_last_id log author ≤ⁿ t) → Departs author log (last_id log)
  -- Algorithm 4, "if id < lastId then .. return concat(lastId, MIN_TUPLE, id)": before the prefix is looked for, so that id and not its tail
  -- goes behind MIN_TUPLE.
  whole_below_last : {t : Row} → [] <ⁿ t → t <ⁿ new_last_id log author → new_last_id log author ++ t <ⁿ last_id log → Departs author log (new_last_id log author ++ t)
  -- Algorithm 4, "if tail < lastId" before "tail < newLastId": a tail that is not below newLastId, and so was not put behind it by
  -- RENAMEID, is stripped. (Only where lastId itself begins with newLastId.)
  late_test : {t : Row} → new_last_id log author ≤ⁿ t → t <ⁿ last_id log → last_id log <ⁿ new_last_id log author ++ t → Departs author log (new_last_id log author ++ t)

-- ── where the two agree ──

module _ (author : Author) (log : List Row) where
  -- what the paper takes c back to
  abbrev pub reverted : Row → Row
  reverted c = revert_rename_id c log author

  -- c does not depart, or it lies between N(n−1) and r(n−1)
  abbrev pub Steady : Row → Type 0
  Steady c = (¬ Departs author log c) ⊎ ((new_last_id log author below c) × (c below last_id log))

  pub record Compared : Type 0 where
    -- Renaming is the paper's, of every name, fresh or not.
    pub rename_agrees : (x : Row) → rename_id x log author ≡ rename author log x
    -- Taking back is the paper's, of every name but those that depart ..
    pub back_agrees : (c : Row) → (reverted c ≡ take_back author log c) ⊎ Departs author log c
    -- .. and of each that departs it is not.
    pub departs_differ : (c : Row) → Departs author log c → ¬ (reverted c ≡ take_back author log c)
    -- The paper takes every fresh name back that it has renamed.
    pub given_back : (x : Row) → fresh author x ≡ true → reverted (rename_id x log author) ≡ x
    -- Without markers it keeps the order of names that do not depart ..
    pub order_kept : (c d : Row) → are_plain (c ∷ d ∷ log) ≡ true → ¬ Departs author log c → ¬ Departs author log d → c below d → reverted c below reverted d
    -- .. and, where the last logged name is fresh, also of those between N(n−1) and r(n−1), which `whole_below_last` are some of.
    pub order_kept_last : (c d : Row) → are_plain (c ∷ d ∷ log) ≡ true → fresh author (last_id log) ≡ true → Steady c → Steady d → c below d → reverted c below reverted d

-- It holds of every author and every log.
abbrev pub Comparison : Type 0
Comparison = (author : Author) (log : List Row) → Log log → Compared author log

-- ── examples ──

-- valid names, with no end marker
unfoldable pub plain_names : List Row → Bool
plain_names [] = true
plain_names (x ∷ l) = is_name x && plain x && plain_names l

-- Two names c < d of the child epoch, valid and without markers, over such a log, which is rising: the paper's steps give results
-- that compare as said, and 01's keep them in order.
pub record Example (found : Ordering) (author : Author) (log : List Row) (c d : Row) : Type 0 where
  pub names : plain_names (c ∷ d ∷ log) ≡ true
  pub log_rises : rising log ≡ true
  pub child : compare_rows c d ≡ Less
  pub paper : compare_rows (revert_rename_id c log author) (revert_rename_id d log author) ≡ found
  pub ours : compare_rows (take_back author log c) (take_back author log d) ≡ Less

-- under the paper's steps the two become one name
abbrev pub Meet : Author → List Row → Row → Row → Type 0
Meet author log c d = Example Equal author log c d

-- under the paper's steps the two change places
abbrev pub Cross : Author → List Row → Row → Row → Type 0
Cross author log c d = Example Greater author log c d

-- (9,1,1,0)·x, and (9,1,1,0)(9,1,1,0)·x
abbrev pub behind : Row → Row
behind x = one 9 1 1 (pos 0) ++ x

abbrev pub doubled : Row → Row
doubled x = behind (behind x)

-- the last tuple of a new name by author (3, 1), and of one by author (4, 1)
abbrev pub new3 : Row
new3 = one 32768 3 1 (pos 0)

abbrev pub new4 : Row
new4 = one 32768 4 1 (pos 0)

-- (65534,2,0,0), and (65534,1,1,0)·new3
abbrev pub high : Row
high = one 65534 2 0 (pos 0)

abbrev pub new_high : Row
new_high = one 65534 1 1 (pos 0) ++ new3

-- (5,2,0,0), (3,2,5,0) and (7,2,5,0)
abbrev pub five : Row
five = one 5 2 0 (pos 0)

abbrev pub three : Row
three = one 3 2 5 (pos 0)

abbrev pub seven : Row
seven = one 7 2 5 (pos 0)

-- what the paper and 01 make of one name
pub record Back (author : Author) (log : List Row) (c : Row) (paperResult ourResult : Row) : Type 0 where
  pub paper : revert_rename_id c log author ≡ paperResult
  pub ours : take_back author log c ≡ ourResult

-- One example for each kind of `Departs`, with what becomes of its name, and one of names that are not fresh. The log is L and the
-- author (1, 1) where not said.
pub record Departures : Type 0 where
  -- tail_is_pred: N(0)·r0 meets N(0).
  pub tail_is_pred_lem : Meet author L (one 9 1 1 (pos 0)) (one 9 1 1 (pos 0) ++ r0)
  pub tail_is_pred_back : Back author L (one 9 1 1 (pos 0) ++ r0) r0 (r0 ++ (m ∷ r0))
  -- tail_is_succ: N(1)·r2 meets N(2).
  pub tail_is_succ_lem : Meet author L (one 9 1 1 (pos 1) ++ r2) (one 9 1 1 (pos 2))
  pub tail_is_succ_back : Back author L (one 9 1 1 (pos 1) ++ r2) r2 (one 9 2 0 (pos 0) ++ (M ∷ r2))
  -- low_tail: (9,1,1,−1)(4,2,5,0) passes its left neighbour (5,2,5,0).
  pub low_tail_lem : Cross author L (one 5 2 5 (pos 0)) (one 9 1 1 (negsuc 0) ++ one 4 2 5 (pos 0))
  pub low_tail_back : Back author L (one 9 1 1 (negsuc 0) ++ one 4 2 5 (pos 0)) (one 4 2 5 (pos 0)) (one 9 1 1 (negsuc 0) ++ one 4 2 5 (pos 0))
  -- high_tail: the log is (1,2,0,0), so that N(0) is (1,1,1,0). The new name of author (3, 1) before N(0) is (1,1,1,−1)(32768,3,1,0), by
  -- rule 2 of "New names"; it passes N(0).
  pub high_tail_lem : Cross author (one 1 2 0 (pos 0) ∷ []) (one 1 1 1 (negsuc 0) ++ new3) (one 1 1 1 (pos 0))
  pub high_tail_back : Back author (one 1 2 0 (pos 0) ∷ []) (one 1 1 1 (negsuc 0) ++ new3) (one 1 2 0 (pos 0) ++ (M ∷ new3)) (one 1 2 0 (negsuc 0) ++ (M ∷ new3))
  -- no_prefix: the log is (9,2,0,0)(32768,2,1,0), the author (3, 1). The page still has (9,2,0,0), which stays as it is; the new name of
  -- author (4, 1) between it and N(0) is (9,2,0,0)(32768,4,1,0), by rule 3, and passes N(0).
  pub no_prefix_lem : Cross other_author ((r0 ++ one 32768 2 1 (pos 0)) ∷ []) (r0 ++ new4) (one 9 3 1 (pos 0))
  pub no_prefix_back : Back other_author ((r0 ++ one 32768 2 1 (pos 0)) ∷ []) (r0 ++ new4) (r0 ++ new4) (r0 ++ one 32768 2 1 (negsuc 0) ++ (M ∷ (r0 ++ new4)))
  -- tail_is_last: author (3, 1); N(2)·r2 meets N(2).
  pub tail_is_last_lem : Meet other_author L (one 9 3 1 (pos 2)) (one 9 3 1 (pos 2) ++ r2)
  pub tail_is_last_back : Back other_author L (one 9 3 1 (pos 2) ++ r2) r2 (r2 ++ (m ∷ r2))
  -- is_last: r2, in the renamed page, meets N(2).
  pub is_last_lem : Meet author L (one 9 1 1 (pos 2)) r2
  pub is_last_back : Back author L r2 r2 (r2 ++ (m ∷ r2))
  -- whole_below_last: the log is (65534,2,0,0), so that N(0) is (65534,1,1,0). The new name of author (3, 1) after it is
  -- (65534,1,1,0)(32768,3,1,0), by rule 3. With a log of fresh names the result only is another one, and one tuple longer ..
  pub whole_below_last_back : Back author (high ∷ []) new_high (high ++ (m ∷ new_high)) (high ++ (m ∷ new3))
  -- .. but taking back asks for no freshness: over the log (9,1,1,0)(5,2,0,0) it passes its right neighbour.
  pub whole_below_last_lem : Cross author (behind five ∷ []) (behind three) (behind seven)
  -- late_test: the log is (9,1,1,0)(9,1,1,0)(5,2,0,0), not fresh; (9,1,1,0)(9,1,1,0)(7,2,5,0) passes its left neighbour.
  pub late_test_lem : Cross author (doubled five ∷ []) (doubled three) (doubled seven)
  pub late_test_back : Back author (doubled five ∷ []) (doubled seven) (doubled five ++ (m ∷ behind seven)) (doubled seven)
  -- Renaming: the two steps are the same (`Compared`), and let names meet that are not fresh: (9,1,1,−1)(9,1,1,0), which stays as it
  -- is, and (9,1,1,0). The paper asks for nothing; 01 answers 5.
  pub not_fresh_names : compare_rows (one 9 1 1 (negsuc 0) ++ one 9 1 1 (pos 0)) (one 9 1 1 (pos 0)) ≡ Less
  pub not_fresh_paper : rename_id (one 9 1 1 (negsuc 0) ++ one 9 1 1 (pos 0)) L author ≡ rename_id (one 9 1 1 (pos 0)) L author
  pub not_fresh_ours : rename author L (one 9 1 1 (negsuc 0) ++ one 9 1 1 (pos 0)) ≡ rename author L (one 9 1 1 (pos 0))
  pub not_fresh_refused : fresh author (one 9 1 1 (pos 0)) ≡ false
