-- Lists of names: what holds of every one of them (`All`), the k-th (`at`), and rising lists. A rising list stays rising under a
-- map that keeps the order. Assumes nothing.
use mathlib.Core.List.{List, [], ◌∷◌, map}
use Prim.Native.Nat.{ℕ, zero, suc, ◌<◌}
use native.Mathlib.Omega.{arith}
use lib.ListN.{length, get_or, drop}
use lib.Seq.{drop-nil}
use Rattle.names.specs.Ordering.{Row, ◌<ⁿ◌, Rising, none, one, more}
use Rattle.names.proofs.Laws.{head_below, tail_rising}

pub data All {A : Type 0} (P : A → Type 0) : List A → Type 0 where
  nil : All P []
  cons : {x : A} {xs : List A} → P x → All P xs → All P (x ∷ xs)

pub all_each : {A : Type 0} {P Q : A → Type 0} → ((x : A) → P x → Q x) → {l : List A} → All P l → All Q l
all_each f nil = nil
all_each f (cons i is) = cons (f _ i) (all_each f is)

pub all_map : {A B : Type 0} {P : A → Type 0} {Q : B → Type 0} (f : A → B) → ((x : A) → P x → Q (f x)) → {l : List A} → All P l → All Q (map f l)
all_map f h nil = nil
all_map f h (cons i is) = cons (h _ i) (all_map f h is)

pub all_drop : {A : Type 0} {P : A → Type 0} (k : ℕ) {l : List A} → All P l → All P (drop k l)
all_drop zero is = is
all_drop (suc k) nil = nil
all_drop (suc k) (cons i is) = all_drop k is

pub rising_drop : (k : ℕ) {l : List Row} → Rising l → Rising (drop k l)
rising_drop zero o = o
rising_drop (suc k) none = none
rising_drop (suc k) one = rw (drop-nil k) none
rising_drop (suc k) (more h o) = rising_drop k o

-- r(k)
abbrev pub at : List Row → ℕ → Row
at log k = get_or log k []

pub rising_map : (f : Row → Row) {P : Row → Type 0} → ((a b : Row) → P a → P b → a <ⁿ b → f a <ⁿ f b) → {l : List Row} → All P l → Rising l → Rising (map f l)
rising_map f h nil none = none
rising_map f h (cons i is) one = one
rising_map f h (cons i (cons j is)) (more l o) = more (h _ _ i j l) (rising_map f h (cons j is) o)

pub rising_next : {l : List Row} (k : ℕ) → Rising l → suc k < length l → at l k <ⁿ at l (suc k)
rising_next k none i = elim i [ ]
rising_next k one i = absurd (omega arith)
rising_next zero (more h o) i = h
rising_next (suc k) (more h o) i = rising_next k o (omega arith)

pub rising_below : {l : List Row} (i j : ℕ) → Rising l → i < j → j < length l → at l i <ⁿ at l j
rising_below i zero o h k = absurd (omega arith)
rising_below {l = []} i (suc j) o h k = absurd (omega arith)
rising_below {l = a ∷ l} zero (suc j) o h k = head_below j o (omega arith)
rising_below {l = a ∷ l} (suc i) (suc j) o h k = rising_below i j (tail_rising o) (omega arith) (omega arith)
