-- What a name is, as a statement, and that the test of specs/Names.antt agrees with it: `name_valid`, `valid_name`. Assumes nothing.
use mathlib.Core.Path.{◌≡◌, refl, ◌∙◌, ap}
use mathlib.Core.List.{[], ◌∷◌}
use mathlib.Core.Bool.{Bool, true, false, ◌&&◌, ◌||◌}
use Prim.Native.Nat.{ℕ, zero, suc, ◌≤◌}
use native.Mathlib.Omega.{arith}
use borrow.Author.Tests.{leb-true, le-leb}
use lib.Dec.{leb}
use lib.ListN.{length}
use lib.IntN.{ℤ, pos, negsuc, pred_ℤ}
use lib.Signed.{le_z}
use Rattle.names.specs.declared.Tuple.{Tuple}
use Rattle.names.specs.declared.Author.{Author}
use Rattle.std.specs.declared.cmp.Ordering.{Ordering}
use Rattle.std.specs.declared.cmp.Ordering.TheVariants.{Less, Equal, Greater}
use Rattle.names.specs.Ordering.{Row, compare_tuples, ◌<ᶻ◌, up, across, down}
use Rattle.std.specs.Ordering.{is_eq}
use Rattle.names.specs.Names.{within, within_ℤ, ordinary_from, ordinary, m, M, marker, ends_well, is_name, lowered}
use Rattle.numbers.proofs.Bools.{and_0, and_1}
use Rattle.names.proofs.Laws.{same_tuple, tuple_same, <ᶻ_trans, pred_below}

-- "An ordinary tuple has position 1..65534, node 1..65535, any sequence, offset −1..2147483646."
pub record Ordinary (t : Tuple) : Type 0 where
  pub position_min : 1 ≤ t.position
  pub position_max : t.position ≤ 65534
  pub node_min : 1 ≤ t.node
  pub node_max : t.node ≤ 65535
  pub sequence_max : t.sequence ≤ 4294967295
  pub offset_min : negsuc 1 <ᶻ t.offset
  pub offset_max : t.offset <ᶻ pos 2147483647

-- what may stand before the last tuple: "markers may stand only between"
pub data Middle (t : Tuple) : Type 0 where
  plain : Ordinary t → Middle t
  marker_m : t ≡ m → Middle t
  marker_M : t ≡ M → Middle t

-- the tuples of a name from some place on: the last is ordinary with an offset of at least 0
pub data Ends : Row → Type 0 where
  final : {t : Tuple} → Ordinary t → negsuc 0 <ᶻ t.offset → Ends (t ∷ [])
  onward : {t : Tuple} {a : Row} → Middle t → Ends a → Ends (t ∷ a)

-- "The first and last tuples are ordinary, the last has offset at least 0, and markers may stand only between."
pub data Valid : Row → Type 0 where
  valid : {t : Tuple} {a : Row} → Ordinary t → Ends (t ∷ a) → Valid (t ∷ a)

-- an author as a message has it: u16 and u32, "node at least 1"
pub record Allowed (author : Author) : Type 0 where
  pub node_min : 1 ≤ author.node
  pub node_max : author.node ≤ 65535
  pub sequence_max : author.sequence ≤ 4294967295

-- ── from the tests ──

and_yes : {a b : Bool} → a ≡ true → b ≡ true → a && b ≡ true
and_yes p q = λ i. p i && q i

-- above −2, that is −1 or more; above −1, that is 0 or more; at most 2147483646
above : (k : ℕ) (z : ℤ) → le_z (negsuc k) z ≡ true → negsuc (suc k) <ᶻ z
above k (pos n) e = across
above k (negsuc n) e = down {a = suc k} {b = n} (omega (arith, leb-true n k e))

above_zero : (z : ℤ) → le_z (pos 0) z ≡ true → negsuc 0 <ᶻ z
above_zero (pos n) e = across
above_zero (negsuc n) e = absurd (let z : ◌≡◌ {A = ℕ} 0 1 = cc in omega arith)

under : (z : ℤ) → le_z z (pos 2147483646) ≡ true → z <ᶻ pos 2147483647
under (pos n) e = up {a = n} {b = 2147483647} (omega (arith, leb-true n 2147483646 e))
under (negsuc n) e = across

-- what is asked of an ordinary tuple before its offset
abbrev front : Tuple → Bool
front t = within 1 65534 t.position && within 1 65535 t.node && leb t.sequence 4294967295

from_test : (least : ℤ) (t : Tuple) → ordinary_from least t ≡ true → negsuc 1 <ᶻ t.offset → Ordinary t
unfolding ordinary_from
from_test least t e h =
    let w = within_ℤ least (pos 2147483646) t.offset in
    let p = within 1 65534 t.position in
    let n = within 1 65535 t.node in
    let s = leb t.sequence 4294967295 in
    let f = and_0 (p && n && s) w e in
    let g = and_0 (p && n) s f in
    let ep = and_0 p n g in
    let en = and_1 p n g in
    record {
      position_min = leb-true 1 t.position (and_0 (leb 1 t.position) (leb t.position 65534) ep);
      position_max = leb-true t.position 65534 (and_1 (leb 1 t.position) (leb t.position 65534) ep);
      node_min = leb-true 1 t.node (and_0 (leb 1 t.node) (leb t.node 65535) en);
      node_max = leb-true t.node 65535 (and_1 (leb 1 t.node) (leb t.node 65535) en);
      sequence_max = leb-true t.sequence 4294967295 (and_1 (p && n) s f);
      offset_min = h;
      offset_max = under t.offset (and_1 (le_z least t.offset) (le_z t.offset (pos 2147483646)) (and_1 (p && n && s) w e));
    }

least_test : (least : ℤ) (t : Tuple) → ordinary_from least t ≡ true → le_z least t.offset ≡ true
unfolding ordinary_from
least_test least t e = and_0 (le_z least t.offset) (le_z t.offset (pos 2147483646)) (and_1 (front t) (within_ℤ least (pos 2147483646) t.offset) e)

pub ordinary_is : (t : Tuple) → ordinary t ≡ true → Ordinary t
ordinary_is t e = from_test (negsuc 0) t e (above 0 t.offset (least_test (negsuc 0) t e))

last_is : (t : Tuple) → ordinary_from (pos 0) t ≡ true → Ends (t ∷ [])
last_is t e =
    let h = above_zero t.offset (least_test (pos 0) t e) in
    final (from_test (pos 0) t e (<ᶻ_trans {b = negsuc 0} (down {a = 1} {b = 0} (omega arith)) h)) h

is_same_lem : (o : Ordering) → is_eq o ≡ true → o ≡ Equal
is_same_lem Equal e = refl
is_same_lem Less e = absurd (let z : ◌≡◌ {A = ℕ} 0 1 = cc in omega arith)
is_same_lem Greater e = absurd (let z : ◌≡◌ {A = ℕ} 0 1 = cc in omega arith)

middle_is : (t : Tuple) → ordinary t || marker t ≡ true → Middle t
unfolding marker
middle_is t e = by (ordinary t) (is_eq (compare_tuples t m)) refl refl e
  where
    by : (a b : Bool) → ordinary t ≡ a → is_eq (compare_tuples t m) ≡ b → a || (b || is_eq (compare_tuples t M)) ≡ true → Middle t
    by true b p q e = plain (ordinary_is t p)
    by false true p q e = marker_m (same_tuple t m (is_same_lem (compare_tuples t m) q))
    by false false p q e = marker_M (same_tuple t M (is_same_lem (compare_tuples t M) e))

ends_is : (a : Row) → ends_well a ≡ true → Ends a
unfolding ends_well
ends_is [] e = absurd (let z : ◌≡◌ {A = ℕ} 0 1 = cc in omega arith)
ends_is (t ∷ []) e = last_is t e
ends_is (t ∷ u ∷ a) e =
    onward (middle_is t (and_0 (ordinary t || marker t) (ends_well (u ∷ a)) e)) (ends_is (u ∷ a) (and_1 (ordinary t || marker t) (ends_well (u ∷ a)) e))

pub name_valid : (a : Row) → is_name a ≡ true → Valid a
unfolding is_name
name_valid [] e = absurd (let z : ◌≡◌ {A = ℕ} 0 1 = cc in omega arith)
name_valid (t ∷ a) e = valid (ordinary_is t (and_0 (ordinary t) (ends_well (t ∷ a)) e)) (ends_is (t ∷ a) (and_1 (ordinary t) (ends_well (t ∷ a)) e))

-- ── and back ──

le_above : (k : ℕ) {z : ℤ} → negsuc (suc k) <ᶻ z → le_z (negsuc k) z ≡ true
le_above k across = refl
le_above k (down {b} h) = le-leb b k (omega arith)

le_above_zero : {z : ℤ} → negsuc 0 <ᶻ z → le_z (pos 0) z ≡ true
le_above_zero (across {b}) = le-leb 0 b (omega arith)
le_above_zero (down h) = absurd (omega arith)

le_under : {z : ℤ} → z <ᶻ pos 2147483647 → le_z z (pos 2147483646) ≡ true
le_under (up {a} h) = le-leb a 2147483646 (omega arith)
le_under across = refl

to_test : (least : ℤ) {t : Tuple} → Ordinary t → le_z least t.offset ≡ true → ordinary_from least t ≡ true
unfolding ordinary_from
to_test least {t} o e =
    and_yes
    (and_yes
    (and_yes (and_yes (le-leb 1 t.position o.position_min) (le-leb t.position 65534 o.position_max))
    (and_yes (le-leb 1 t.node o.node_min) (le-leb t.node 65535 o.node_max)))
    (le-leb t.sequence 4294967295 o.sequence_max))
    (and_yes e (le_under o.offset_max))

pub is_ordinary : {t : Tuple} → Ordinary t → ordinary t ≡ true
is_ordinary o = to_test (negsuc 0) o (le_above 0 o.offset_min)

or_left : {a : Bool} (b : Bool) → a ≡ true → a || b ≡ true
or_left b e = ap (λ (x : Bool). x || b) e

or_right : (a : Bool) {b : Bool} → b ≡ true → a || b ≡ true
or_right true e = refl
or_right false e = e

is_middle : {t : Tuple} → Middle t → ordinary t || marker t ≡ true
unfolding marker
is_middle {t} (plain o) = or_left (marker t) (is_ordinary o)
is_middle {t} (marker_m e) = or_right (ordinary t) (or_left (is_eq (compare_tuples t M)) (ap (λ (u : Tuple). is_eq (compare_tuples u m)) e ∙ ap is_eq (tuple_same m)))
is_middle {t} (marker_M e) = or_right (ordinary t) (or_right (is_eq (compare_tuples t m)) (ap (λ (u : Tuple). is_eq (compare_tuples u M)) e ∙ ap is_eq (tuple_same M)))

ends_long : {a : Row} → Ends a → 1 ≤ length a
ends_long (final o h) = omega arith
ends_long (onward b e) = omega arith

is_ends : (a : Row) → Ends a → ends_well a ≡ true
unfolding ends_well
is_ends [] x' = elim x' [ ]
is_ends (t ∷ []) (final o h) = to_test (pos 0) o (le_above_zero h)
is_ends (t ∷ []) (onward b e) = absurd (let h : 1 ≤ 0 = ends_long e in omega arith)
is_ends (t ∷ u ∷ a) (onward b e) = and_yes (is_middle b) (is_ends (u ∷ a) e)

pub valid_name : {a : Row} → Valid a → is_name a ≡ true
unfolding is_name
valid_name (valid {t} {a} o e) = and_yes (is_ordinary o) (is_ends (t ∷ a) e)

-- ── parts of names ──

pub valid_ends : {a : Row} → Valid a → Ends a
valid_ends (valid o e) = e

pub ends_middle : {t : Tuple} {a : Row} → Ends (t ∷ a) → Middle t
ends_middle (final o h) = plain o
ends_middle (onward b e) = b

pub lowered_ordinary : {t : Tuple} → Ordinary t → negsuc 0 <ᶻ t.offset → Ordinary (lowered t)
lowered_ordinary {t} o h =
    record {
      position_min = o.position_min;
      position_max = o.position_max;
      node_min = o.node_min;
      node_max = o.node_max;
      sequence_max = o.sequence_max;
      offset_min = go h;
      offset_max = <ᶻ_trans (pred_below t.offset) o.offset_max;
    }
  where
    go : {z : ℤ} → negsuc 0 <ᶻ z → negsuc 1 <ᶻ pred_ℤ z
    go (across {b = zero}) = down {a = 1} {b = 0} (omega arith)
    go (across {b = suc b}) = across
    go (down h) = absurd (omega arith)
