-- A table's bytes and the list of its entries: `table_back`, the bytes of the entries of a table are the table; `entries_back`, the
-- entries of the bytes of some entries are these entries, and if they make a table the bytes are one (`written_table`). Entry k is
-- read from its place in the bytes (`entry_at_lem`). The bytes of a table with an entry added are the table's and then the entry's
-- (`added_bytes`), and are a table where it may be added (`added_written`). Assumes nothing.
use mathlib.Core.Path.{◌≡◌, refl, sym, ap, ◌∙◌}
use mathlib.Core.List.{List, [], ◌∷◌, ◌++◌, map, map-append, flatten}
use mathlib.Core.Bool.{true, ◌&&◌}
use Prim.Native.Nat.{ℕ, zero, suc, ◌+◌, ◌*◌, ◌/◌, ◌%◌, ◌<◌}
use native.Mathlib.Omega.{arith}
use borrow.Author.Tests.{eqb-true, eq-eqb}
use lib.Dec.{eqb}
use lib.ListN.{length, take, drop, get_or, length-append, length-take, length-drop, length-map, take-append-drop}
use lib.Seq.{take_at, drop_at, ext_get_or}
use Rattle.numbers.proofs.Bools.{and_0, and_1}
use Rattle.numbers.specs.Bytes.{Bytes, Octets}
use Rattle.numbers.proofs.ReadNumbers.{two_on, four_on, two_within, four_within}
use Rattle.numbers.proofs.Octets.{octets_take, octets_drop}
use Rattle.numbers.proofs.Lists.{flat, flat_none, flat_append}
use Rattle.numbers.proofs.Parts.{length_parts}
use Rattle.epoch_tree.specs.Tables.{Entry, entry_size, zero_entry, entry_at, entry_in, entry_of, entry_parts, entries_of, entry_bytes, entry_pieces, is_table, keeps_table, added}
use Rattle.epoch_tree.specs.Laws.{Addable}
use Rattle.epoch_tree.proofs.TableFacts.{Table, table}
use Rattle.epoch_tree.proofs.AddedEpoch.{added_table}

entry_≡ : {e f : Entry} → e.node ≡ f.node → e.sequence ≡ f.sequence → e.parent ≡ f.parent → e.count ≡ f.count → e ≡ f
entry_≡ a b c d = λ i. record { node = a i; sequence = b i; parent = c i; count = d i }

-- ── from entries and back ──

pub entry_back : (e : Entry) (s : Bytes) → entry_of (entry_bytes e ++ s) ≡ e
entry_back e s = entry_≡ (omega arith) (omega arith) (omega arith) (omega arith)

pub written_length : (t : List Entry) → length (flatten (entry_pieces t)) ≡ entry_size * length t
written_length [] = ap length flat_none
written_length (e ∷ t) =
    let b = written_length t in
    ap length (flat (entry_bytes e) (entry_pieces t)) ∙ length-append (entry_bytes e) (flatten (entry_pieces t)) ∙ omega arith

parts_back : (t : List Entry) → map entry_of (entry_parts (length t) (flatten (entry_pieces t))) ≡ t
parts_back [] = refl
parts_back (e ∷ t) =
    let f = flat (entry_bytes e) (entry_pieces t) in
    let a = ap (take entry_size) f ∙ take_at (entry_bytes e) (flatten (entry_pieces t)) entry_size refl in
    let d = ap (drop entry_size) f ∙ drop_at (entry_bytes e) (flatten (entry_pieces t)) entry_size refl in
    λ i. (ap entry_of a ∙ entry_back e []) i ∷ (ap (λ (s : Bytes). map entry_of (entry_parts (length t) s)) d ∙ parts_back t) i

pub entries_back : (t : List Entry) → entries_of (flatten (entry_pieces t)) ≡ t
entries_back t =
    let n : length (flatten (entry_pieces t)) / entry_size ≡ length t = let q = written_length t in omega arith in
    ap (λ (k : ℕ). map entry_of (entry_parts k (flatten (entry_pieces t)))) n ∙ parts_back t

pub written_table : (t : List Entry) → is_table t ≡ true → keeps_table (flatten (entry_pieces t)) ≡ true
unfolding keeps_table
written_table t h =
    let z : length (flatten (entry_pieces t)) % entry_size ≡ 0 = let q = written_length t in omega arith in
    λ i. eq-eqb (length (flatten (entry_pieces t)) % entry_size) 0 z i && (ap is_table (entries_back t) ∙ h) i

-- ── from bytes and back ──

bytes_back : (s : Bytes) → Octets s → length s ≡ entry_size → entry_bytes (entry_of s) ≡ s
bytes_back s k l = ext_get_or 0 (entry_bytes (entry_of s)) s (sym l) at
  where
    at : (i : ℕ) → i < entry_size → get_or (entry_bytes (entry_of s)) i 0 ≡ get_or s i 0
    at zero h = let b = k 1 in omega arith
    at (suc zero) h = let b = k 1 in omega arith
    at (suc (suc zero)) h = let b = k 3 in let c = k 4 in let d = k 5 in omega arith
    at (suc (suc (suc zero))) h = let b = k 3 in let c = k 4 in let d = k 5 in omega arith
    at (suc (suc (suc (suc zero)))) h = let c = k 4 in let d = k 5 in omega arith
    at (suc (suc (suc (suc (suc zero))))) h = let c = k 4 in let d = k 5 in omega arith
    at (suc (suc (suc (suc (suc (suc zero)))))) h = let b = k 7 in omega arith
    at (suc (suc (suc (suc (suc (suc (suc zero))))))) h = let b = k 7 in omega arith
    at (suc (suc (suc (suc (suc (suc (suc (suc zero)))))))) h = let b = k 9 in omega arith
    at (suc (suc (suc (suc (suc (suc (suc (suc (suc zero))))))))) h = let b = k 9 in omega arith
    at (suc (suc (suc (suc (suc (suc (suc (suc (suc (suc i)))))))))) h = absurd (omega arith)

all_back : (n : ℕ) (s : Bytes) → Octets s → length s ≡ entry_size * n → flatten (entry_pieces (map entry_of (entry_parts n s))) ≡ s
all_back zero [] k e = flat_none
all_back zero (x ∷ s) k e = absurd (let z : suc (length s) ≡ 0 = e ∙ omega arith in omega arith)
all_back (suc n) s k e =
    let a : length (take entry_size s) ≡ entry_size = let q = length-take entry_size s in omega arith in
    let b : length (drop entry_size s) ≡ entry_size * n = let q = length-drop entry_size s in omega arith in
    flat (entry_bytes (entry_of (take entry_size s))) (entry_pieces (map entry_of (entry_parts n (drop entry_size s))))
    ∙ (λ i. bytes_back (take entry_size s) (octets_take entry_size s k) a i ++ all_back n (drop entry_size s) (octets_drop entry_size s k) b i)
    ∙ take-append-drop entry_size s

-- a whole number of entries
pub whole : (s : Bytes) → keeps_table s ≡ true → length s ≡ entry_size * (length s / entry_size)
unfolding keeps_table
whole s h = let z = eqb-true (length s % entry_size) 0 (and_0 (eqb (length s % entry_size) 0) (is_table (entries_of s)) h) in omega arith

-- which are a table
pub entries_table : (s : Bytes) → keeps_table s ≡ true → is_table (entries_of s) ≡ true
unfolding keeps_table
entries_table s h = and_1 (eqb (length s % entry_size) 0) (is_table (entries_of s)) h

-- with its facts
pub checked : (s : Bytes) → keeps_table s ≡ true → Table (entries_of s)
checked s h = table (entries_of s) (entries_table s h)

pub table_back : (s : Bytes) → Octets s → keeps_table s ≡ true → flatten (entry_pieces (entries_of s)) ≡ s
table_back s k h = all_back (length s / entry_size) s k (whole s h)

-- ── an entry by its place ──

pub length_entries : (s : Bytes) → length (entries_of s) ≡ length s / entry_size
length_entries s = length-map (entry_parts (length s / entry_size) s) entry_of ∙ length_parts entry_size (length s / entry_size) s

-- the entry that stands n bytes further on
entry_on : (n : ℕ) (s : Bytes) (p q : ℕ) → q ≡ n + p → entry_in (drop n s) p ≡ entry_in s q
entry_on n s p q e =
    entry_≡
    (two_on n s p q e)
    (four_on n s (p + 2) (q + 2) (omega arith))
    (two_on n s (p + 6) (q + 6) (omega arith))
    (two_on n s (p + 8) (q + 8) (omega arith))

entry_taken : (s : Bytes) → entry_of (take entry_size s) ≡ entry_of s
entry_taken s =
    entry_≡
    (two_within entry_size s 0 (omega arith))
    (four_within entry_size s 2 (omega arith))
    (two_within entry_size s 6 (omega arith))
    (two_within entry_size s 8 (omega arith))

entries_at : (n : ℕ) (s : Bytes) (k : ℕ) → k < n → get_or (map entry_of (entry_parts n s)) k zero_entry ≡ entry_in s (entry_size * k)
entries_at zero s k h = absurd (omega arith)
entries_at (suc n) s zero h = entry_taken s
entries_at (suc n) s (suc k) h = entries_at n (drop entry_size s) k (omega arith) ∙ entry_on entry_size s (entry_size * k) (entry_size * suc k) (omega arith)

pub entry_at_lem : (s : Bytes) (k : ℕ) → k < length s / entry_size → entry_at (entries_of s) k ≡ entry_in s (entry_size * k)
entry_at_lem s k h = entries_at (length s / entry_size) s k h

-- ── adding ──

flat_added : (t : List Entry) (e : Entry) → flatten (entry_pieces (added t e)) ≡ flatten (entry_pieces t) ++ entry_bytes e
flat_added t e =
    ap flatten (map-append entry_bytes t (e ∷ []))
    ∙ flat_append (entry_pieces t) (entry_bytes e ∷ [])
    ∙ ap (λ (s : Bytes). flatten (entry_pieces t) ++ s) (flat (entry_bytes e) [] ∙ ap (λ (s : Bytes). entry_bytes e ++ s) flat_none)

module _ (s : Bytes) (h : keeps_table s ≡ true) (e : Entry) where
  pub added_bytes : Octets s → flatten (entry_pieces (added (entries_of s) e)) ≡ s ++ entry_bytes e
  added_bytes k = flat_added (entries_of s) e ∙ ap (λ (b : Bytes). b ++ entry_bytes e) (table_back s k h)

  pub added_written : Addable (entries_of s) e → keeps_table (flatten (entry_pieces (added (entries_of s) e))) ≡ true
  added_written m = written_table (added (entries_of s) e) (added_table (entries_of s) (checked s h) e m)
