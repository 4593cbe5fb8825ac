-- 02, P8: "the longest message is 49,942 bytes": no message is longer, written (`no_longer`) or read (`no_longer_read`), and a rename of as many names as
-- there can be, of as many tuples each, is as long (`full_message`, `full_length`). Assumes nothing.
use mathlib.Core.Path.{◌≡◌, refl, ap, ◌∙◌}
use mathlib.Core.List.{List, [], ◌∷◌, map, flatten}
use mathlib.Core.Bool.{Bool, true, false, cond, ◌&&◌}
use Prim.Native.Nat.{ℕ, zero, suc, ◌+◌, ◌*◌, ◌≤◌}
use native.Mathlib.Omega.{arith}
use borrow.Author.Tests.{le-leb, leb-true, eqb-true}
use lib.Dec.{eqb}
use lib.ListN.{length, length-append}
use Rattle.names.specs.Ordering.{Row}
use Rattle.names.specs.Names.{limit, fits, is_name}
use Rattle.numbers.proofs.Bools.{and_0, and_1}
use Rattle.names.proofs.Laws.{Rising_rising}
use Rattle.numbers.specs.Bytes.{Bytes, Octets, bytes32}
use Rattle.slots.specs.Tuples.{tuple_size}
use Rattle.std.specs.List.{list_all}
use Rattle.pages.specs.Pages.{max_slots}
use Rattle.numbers.proofs.Lists.{flat, flat_none}
use Rattle.fields.specs.Fields.{field_head, field_bytes}
use Rattle.name_fields.specs.NameFields.{name_fits}
use Rattle.messages.specs.Messages.{insert, rename, name_tag, line_tag, line_size, Parts, is_message, name_field, line_fields, message_bytes, names_place, parts_in, keeps_message, longest}
use Rattle.name_fields.proofs.NameInverse.{name_length}
use Rattle.name_fields.proofs.LongestNames.{deep, deeps, deep_length, deeps_fit, deeps_rise, deeps_many}
use Rattle.messages.proofs.TestsPassed.{Good, good, parts_message}
use Rattle.messages.proofs.ReadBack.{split}
use Rattle.messages.proofs.WriteBack.{bytes_back}

pub longest_is : longest ≡ 49942
longest_is = refl

-- ── lengths ──

names_cons : (a : Row) (l : List Row)
    → length (flatten (map name_field (a ∷ l))) ≡ field_head + tuple_size * length a + length (flatten (map name_field l))
names_cons a l =
    ap length (flat (name_field a) (map name_field l))
    ∙ length-append (name_field a) (flatten (map name_field l))
    ∙ ap (λ (n : ℕ). n + length (flatten (map name_field l))) (name_length name_tag a)

pub message_length : (p : Parts)
    → length (message_bytes p)
    ≡ names_place + (length (flatten (map name_field p.names)) + length (flatten (line_fields p.numbers.kind p.numbers.line)))
message_length p =
    let e = length-append (flatten (map name_field p.names)) (flatten (line_fields p.numbers.kind p.numbers.line)) in
    ap length (split p) ∙ omega arith

-- ── no message is longer ──

names_bound : (l : List Row) → list_all name_fits l ≡ true → length (flatten (map name_field l)) ≤ length l * (field_head + tuple_size * limit)
names_bound [] e = let z : length (flatten {A = ℕ} []) ≡ 0 = ap length flat_none in omega arith
names_bound (a ∷ l) e =
    let f = leb-true (length a) limit (and_1 (is_name a) (fits a) (and_0 (name_fits a) (list_all name_fits l) e)) in
    let b = names_bound l (and_1 (name_fits a) (list_all name_fits l) e) in
    let c = names_cons a l in
    omega arith

pub line_length : (line : ℕ) (b : Bool) → length (flatten (cond b (field_bytes line_tag (bytes32 line) ∷ []) [])) ≡ cond b (field_head + line_size) 0
unfolding flatten
line_length line true = refl
line_length line false = refl

pub no_longer : (p : Parts) → is_message p ≡ true → length (message_bytes p) ≤ longest
no_longer p h = go (eqb kind rename) (eqb kind insert) refl refl v.few (line_length p.numbers.line (eqb kind insert))
  where
    v : Good p
    v = good p h

    kind : ℕ
    kind = p.numbers.kind

    go : (b c : Bool) → eqb kind rename ≡ b → eqb kind insert ≡ c → length p.names ≤ cond b max_slots 1
        → length (flatten (line_fields kind p.numbers.line)) ≡ cond c (field_head + line_size) 0 → length (message_bytes p) ≤ longest
    go true true d e f g = absurd (let x = eqb-true kind rename d in let y = eqb-true kind insert e in omega arith)
    go true false d e f g = let m = message_length p in let n = names_bound p.names v.named in omega arith
    go false true d e f g = let m = message_length p in let n = names_bound p.names v.named in omega arith
    go false false d e f g = let m = message_length p in let n = names_bound p.names v.named in omega arith

pub no_longer_read : (s : Bytes) → Octets s → keeps_message s ≡ true → length s ≤ longest
no_longer_read s k h = rw (bytes_back s k h) at (no_longer (parts_in s) (parts_message s h))

-- ── and one is as long ──

-- a rename of n names
many_names : ℕ → Parts
many_names n = record {
  numbers = record { kind = rename; epoch = record { node = 0; sequence = 0 }; author = record { node = 1; sequence = 0 }; line = 0 };
  names = deeps n 0;
}

deeps_length : (n k : ℕ) → length (flatten (map name_field (deeps n k))) ≡ n * (field_head + tuple_size * limit)
unfolding deeps
deeps_length zero k = ap length flat_none
deeps_length (suc n) k =
    let c = names_cons (deep k) (deeps n (suc k)) in
    let d = deep_length k in
    let e = deeps_length n (suc k) in
    omega arith

many_message : (n : ℕ) → 1 ≤ n → n ≤ max_slots → is_message (many_names n) ≡ true
unfolding many_names is_message
many_message n h g =
    let l = deeps n 0 in
    let m = deeps_many n 0 in
    let a = le-leb 1 (length l) (omega arith) in
    let b = le-leb (length l) max_slots (omega arith) in
    λ i. true && true && true && deeps_fit n 0 (omega arith) i && (a i && b i) && Rising_rising (deeps_rise n 0) i && true

many_length : (n : ℕ) → length (message_bytes (many_names n)) ≡ names_place + n * (field_head + tuple_size * limit)
unfolding many_names flatten
many_length n = let m = message_length (many_names n) in let e = deeps_length n 0 in omega arith

-- a rename of as many names as there can be
pub full : Parts
full = many_names max_slots

pub full_message : is_message full ≡ true
unfolding full
full_message = many_message max_slots (omega arith) (omega arith)

pub full_length : length (message_bytes full) ≡ longest
unfolding full
full_length = many_length max_slots
