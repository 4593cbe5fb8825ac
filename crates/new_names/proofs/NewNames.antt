-- A new name stands strictly between its neighbours (`new_between`) and is a name (`new_valid`); of a page: it is in no slot, and the
-- place to insert it is the gap (`new_in_gap`, as specs/Laws.antt states it). Assumes nothing.
use mathlib.Core.Path.{◌≡◌, refl, ◌∙◌, sym, ap}
use mathlib.Core.List.{List, [], ◌∷◌, ◌++◌, append-nil}
use mathlib.Core.Option.{Option, none, some}
use mathlib.Core.Bool.{Bool, true, false, cond}
use Prim.Native.Nat.{ℕ, zero, suc, ◌+◌, ◌/◌, ◌<◌, ◌≤◌}
use native.Mathlib.Decide.{dec_lt}
use native.Mathlib.Nat.{not-suc-le-zero}
use native.Mathlib.Omega.{arith}
use borrow.Author.Tests.{leb-true, eqb-true}
use lib.Dec.{leb, eqb}
use lib.IntN.{ℤ, pos, negsuc}
use lib.ListN.{length, get_or, length-map, get_or-eq_default}
use lib.Signed.{non_neg}
use Rattle.names.specs.declared.Author.{Author}
use Rattle.names.specs.declared.Tuple.{Tuple}
use Rattle.std.specs.declared.cmp.Ordering.{Ordering}
use Rattle.std.specs.declared.cmp.Ordering.TheVariants.{Less, Equal, Greater}
use Rattle.names.specs.Ordering.{Row, compare_tuples, ◌<ᶻ◌, up, across, ◌<ᵗ◌, position, ◌<ⁿ◌, ends, differ, Rising}
use Rattle.std.specs.Ordering.{is_eq}
use Rattle.names.specs.Names.{fits, lowered}
use Rattle.names.proofs.Laws.{Before, prefix, apart, before, Tri, level, tri_t, tuple_same, <ⁿ_irrefl, ++_prefix, ++_left, lowered_below, rising_Rising}
use Rattle.names.proofs.Validity.{Allowed, Ordinary, Middle, plain, marker_m, marker_M, Ends, final, onward, Valid, valid, valid_name, valid_ends, ends_middle, lowered_ordinary}
use Rattle.numbers.specs.Bytes.{Bytes}
use Rattle.std.specs.declared.result.Result.TheVariants.{Ok}
use Rattle.pages.specs.declared.Place.TheVariants.{Here, Gap}
use Rattle.answers.specs.declared.Refusal.TheVariants.{NoNewName, TooDeep}
use Rattle.answers.specs.Answers.{Test, ◌else◌, in_order}
use Rattle.pages.specs.Pages.{slots_of, name_in, names_of, keeps_layout, rises}
use Rattle.pages.specs.Places.{has, place_of, below as count_below}
use Rattle.pages.proofs.FindByHalving.{index_below, to_left, to_right, missed}
use Rattle.answers.proofs.Outcomes.{no_answer}
use Rattle.answers.specs.Laws.{Passed}
use Rattle.answers.proofs.Refusals.{reached}
use Rattle.pages.proofs.RoundTrip.{page_names}
use Rattle.new_names.specs.NewNames.{first_before, first_after, rest, own, before_tuple, close_by, new_name, name_before, name_after, Named, refuse_name, answer_name, gap_tests, new_name_outcome}
use Rattle.new_names.specs.Laws.{Under, Between, InGap, NewNameLaw}

-- ── between ──

under : {a : Row} (b : Row) → a <ⁿ b → Under a b
under [] h = tt
under (t ∷ b) h = h

-- what is shown of a new name where there is one
abbrev pub Every : (Row → Type 0) → Option Row → Type 0
Every P none = Unit
Every P (some c) = P c

rest_prefix : (a r : Row) → rest a (a ++ r) ≡ some r
unfolding rest
rest_prefix [] r = refl
rest_prefix (s ∷ a) r = rw (tuple_same s) (rest_prefix a r)

rest_is : (a b r : Row) → rest a b ≡ some r → b ≡ a ++ r
unfolding rest
rest_is [] b r e = cc
rest_is (s ∷ a) [] r e = cc
rest_is (s ∷ a) (t ∷ b) r e = go (compare_tuples s t) (tri_t s t) (rest_is a b r) e
  where
    go : (o : Ordering) → Tri ◌<ᵗ◌ s t o → (rest a b ≡ some r → b ≡ a ++ r) → cond (is_eq o) (rest a b) none ≡ some r → t ∷ b ≡ s ∷ (a ++ r)
    go Less v f e = cc
    go Equal (level d) f e = let g = f e in cc
    go Greater v f e = cc

module _ (author : Author) where
  before_tuple_lem : (a : Row) (y : Tuple) (u : Row) → Every (λ c. (a <ⁿ c) × (c <ⁿ a ++ (y ∷ u))) (before_tuple author a y)
  unfolding before_tuple
  before_tuple_lem a y u = go (leb 2 y.position) refl
    where
      Amid : Option Row → Type 0
      Amid o = Every (λ c. (a <ⁿ c) × (c <ⁿ a ++ (y ∷ u))) o

      lower : Option Row
      lower = some (a ++ (lowered y ∷ own author 32768 ∷ []))

      low : (t o : Bool) → Amid (cond t (cond o lower none) none)
      low true true = (++_prefix a _ _, ++_left a (differ (lowered_below y)))
      low true false = tt
      low false o = tt

      go : (t : Bool) → leb 2 y.position ≡ t → Amid (cond t (some (a ++ (own author (y.position / 2) ∷ []))) (cond (eqb y.position 1) (cond (non_neg y.offset) lower none) none))
      go true e = (++_prefix a _ _, ++_left a (differ (position (omega (arith, leb-true 2 y.position e)))))
      go false e = low (eqb y.position 1) (non_neg y.offset)

  close_below : (a b : Row) → a <ⁿ b → Every (λ c. (a <ⁿ c) × (c <ⁿ b)) (close_by author a (rest a b))
  unfolding close_by
  close_below a b h = go (rest a b) refl (before h)
    where
      go : (o : Option Row) → rest a b ≡ o → Before a b → Every (λ c. (a <ⁿ c) × (c <ⁿ b)) (close_by author a o)
      go none e (prefix t u f) = absurd (let z : ◌≡◌ {A = ℕ} 0 1 = cc (rest_prefix a (t ∷ u)) in omega arith)
      go none e (apart f) = (++_prefix a _ _, rw append-nil at (f (own author 32768 ∷ []) []))
      go (some []) e w = absurd (<ⁿ_irrefl (rw (rest_is a b [] e ∙ append-nil a) at h))
      go (some (y ∷ u)) e w = rw (rest_is a b (y ∷ u) e) (before_tuple_lem a y u)

  close_end : (a : Row) → Every (Between a []) (close_by author a (rest a []))
  unfolding close_by rest
  close_end [] = (ends, tt)
  close_end (s ∷ a) = (++_prefix (s ∷ a) _ _, tt)

  weaken : (a b : Row) (o : Option Row) → Every (λ c. (a <ⁿ c) × (c <ⁿ b)) o → Every (Between a b) o
  weaken a b none p = tt
  weaken a b (some c) p = (p.0, under b p.1)

  close_between : (a b : Row) → Under a b → Every (Between a b) (close_by author a (rest a b))
  close_between a [] h = close_end a
  close_between a (t ∷ b) h = weaken a (t ∷ b) (close_by author a (rest a (t ∷ b))) (close_below a (t ∷ b) h)

  -- for a, b that are names or missing, a below b where both are there: every new name is above a, and below b where b is there
  pub new_between : (a b : Row) → Under a b → Every (Between a b) (new_name author a b)
  unfolding new_name
  new_between a b h = go (leb (first_before a + 2) (first_after b)) refl
    where
      left : (a : Row) (d : ℕ) → first_before a < d → a <ⁿ own author d ∷ []
      left [] d h = ends
      left (s ∷ a) d h = differ (position h)

      right : (b : Row) (d : ℕ) → d < first_after b → Under (own author d ∷ []) b
      right [] d h = tt
      right (t ∷ b) d h = differ (position h)

      go : (t : Bool) → leb (first_before a + 2) (first_after b) ≡ t → Every (Between a b) (cond t (some (own author ((first_before a + first_after b) / 2) ∷ [])) (close_by author a (rest a b)))
      go true e = let l = leb-true (first_before a + 2) (first_after b) e in (left a _ (omega arith), right b _ (omega arith))
      go false e = close_between a b h

-- ── validity ──

-- a name, or a missing one
pub data OrMissing : Row → Type 0 where
  missing : OrMissing []
  present : {a : Row} → Valid a → OrMissing a

append_valid : {a y : Row} → OrMissing a → Valid y → Valid (a ++ y)
append_valid missing v = v
append_valid {y = y} (present (valid o e)) (valid i f) = valid o (go e)
  where
    go : {a : Row} → Ends a → Ends (a ++ y)
    go (final j h) = onward (plain j) f
    go (onward b e) = onward b (go e)

append_ends : (a : Row) (y : Tuple) (u : Row) → Ends (a ++ (y ∷ u)) → Middle y
append_ends [] y u e = ends_middle e
append_ends (s ∷ []) y u (onward b e) = ends_middle e
append_ends (s ∷ t ∷ a) y u (onward b e) = append_ends (t ∷ a) y u e

put_valid : {t : Tuple} {x : Row} → Ordinary t → Valid x → Valid (t ∷ x)
put_valid o (valid j f) = valid o (onward (plain o) f)

inside_position : {y : Tuple} → Middle y → y.position ≤ 65535
inside_position (plain o) = omega (arith, o.position_max)
inside_position (marker_m f) = omega (arith, ap (λ (t : Tuple). t.position) f)
inside_position (marker_M f) = omega (arith, ap (λ (t : Tuple). t.position) f)

module _ (author : Author) (au : Allowed author) where
  own_valid : (p : ℕ) → 1 ≤ p → p ≤ 65534 → Valid (own author p ∷ [])
  own_valid p h k = valid o (final o across)
    where
      o : Ordinary (own author p)
      o = record {
        position_min = h;
        position_max = k;
        node_min = au.node_min;
        node_max = au.node_max;
        sequence_max = au.sequence_max;
        offset_min = across;
        offset_max = up {a = 0} {b = 2147483647} (omega arith);
      }

  before_valid : (a : Row) (y : Tuple) → OrMissing a → Middle y → Every Valid (before_tuple author a y)
  unfolding before_tuple
  before_valid a y v i = go (leb 2 y.position) refl
    where
      inner : (z : ℤ) → non_neg z ≡ true → negsuc 0 <ᶻ z
      inner (pos j) e = across
      inner (negsuc j) e = absurd (let z : ◌≡◌ {A = ℕ} 0 1 = cc in omega arith)

      one : y.position ≡ 1 → Middle y → Ordinary y
      one e (plain o) = o
      one e (marker_m f) = absurd (omega (arith, ap (λ (t : Tuple). t.position) f))
      one e (marker_M f) = absurd (omega (arith, ap (λ (t : Tuple). t.position) f))

      lower : Option Row
      lower = some (a ++ (lowered y ∷ own author 32768 ∷ []))

      low : (t o : Bool) → eqb y.position 1 ≡ t → non_neg y.offset ≡ o → Every Valid (cond t (cond o lower none) none)
      low true true e f =
          let l = lowered_ordinary (one (eqb-true y.position 1 e) i) (inner y.offset f) in
          append_valid v (put_valid l (own_valid 32768 (omega arith) (omega arith)))
      low true false e f = tt
      low false o e f = tt

      go : (t : Bool) → leb 2 y.position ≡ t → Every Valid (cond t (some (a ++ (own author (y.position / 2) ∷ []))) (cond (eqb y.position 1) (cond (non_neg y.offset) lower none) none))
      go true e = append_valid v (own_valid (y.position / 2) (omega (arith, leb-true 2 y.position e)) (omega (arith, inside_position i)))
      go false e = low (eqb y.position 1) (non_neg y.offset) refl refl

  -- for a, b that are names or missing, every new name is a name
  pub new_valid : (a b : Row) → OrMissing a → OrMissing b → Every Valid (new_name author a b)
  unfolding new_name close_by
  new_valid a b v w = go (leb (first_before a + 2) (first_after b)) refl
    where
      top : (b : Row) → OrMissing b → first_after b ≤ 65535
      top _ missing = omega arith
      top _ (present (valid o e)) = omega (arith, o.position_max)

      middle : Valid (own author 32768 ∷ [])
      middle = own_valid 32768 (omega arith) (omega arith)

      ends_in : {b : Row} (y : Tuple) (u : Row) → OrMissing b → b ≡ a ++ (y ∷ u) → Middle y
      ends_in y u missing e = absurd (let l = ap length e in omega (arith, length_past a y u))
        where
          length_past : (a : Row) (y : Tuple) (u : Row) → 1 ≤ length (a ++ (y ∷ u))
          length_past [] y u = omega arith
          length_past (s ∷ a) y u = omega arith
      ends_in y u (present p) e = append_ends a y u (rw e at (valid_ends p))

      follow : (o : Option Row) → rest a b ≡ o → Every Valid (close_by author a o)
      follow none e = append_valid v middle
      follow (some []) e = append_valid v middle
      follow (some (y ∷ u)) e = before_valid a y v (ends_in y u w (rest_is a b (y ∷ u) e))

      go : (t : Bool) → leb (first_before a + 2) (first_after b) ≡ t → Every Valid (cond t (some (own author ((first_before a + first_after b) / 2) ∷ [])) (close_by author a (rest a b)))
      go true e = let h = leb-true (first_before a + 2) (first_after b) e in let k = top b w in own_valid _ (omega arith) (omega arith)
      go false e = follow (rest a b) refl

-- ── of a page ──

-- what the checks before the rule have found of an accepted call, and the name c that the rule gave
record Accepting (page : Bytes) (gap : ℕ) (author : Author) (c : Row) : Type 0 where
  layout : keeps_layout page ≡ true
  order : rises page ≡ true
  node : 1 ≤ author.node
  inside : gap ≤ length (slots_of page)
  given : new_name author (name_before gap (names_of page)) (name_after gap (names_of page)) ≡ some c
  short : fits c ≡ true
  named : (new_name_outcome page gap author).name ≡ c

abbrev IsGiven : Named → Type 0
IsGiven o = o.answer ≡ Ok 0

given : (next : Named) (tests : List Test) → IsGiven (in_order tests refuse_name next) → Passed tests × IsGiven next
given next tests e = reached IsGiven refuse_name next (λ r f. no_answer r 0 f) tests e

module _ (page : Bytes) (gap : ℕ) (author : Author) where
  accepting : IsGiven (new_name_outcome page gap author) → (c : Row) × Accepting page gap author c
  unfolding new_name_outcome
  accepting e = let g = given (answer_name x) (gap_tests page gap author) e in by g.0 x refl g.1
    where
      x : Option Row
      x = new_name author (name_before gap (names_of page)) (name_after gap (names_of page))

      by : Passed (gap_tests page gap author) → (o : Option Row) → x ≡ o → IsGiven (answer_name o) → (c : Row) × Accepting page gap author c
      by p none q e = no_answer NoNewName 0 e
      by (layout, (order, (node, (inside, _)))) (some c) q e =
          let f : fits c ≡ true = (given (record { answer = Ok 0; name = c }) (fits c else TooDeep ∷ []) e).0.0 in (
            c,
            record {
              layout = layout;
              order = order;
              node = leb-true 1 author.node node;
              inside = leb-true gap (length (slots_of page)) inside;
              given = q;
              short = f;
              named = simp (layout, order, node, inside, q, f);
            },
          )

or_missing : (l : List Row) → ((i : ℕ) → i < length l → Valid (get_or l i [])) → (i : ℕ) → OrMissing (get_or l i [])
or_missing l f i = elim (dec_lt i (length l)) [
  | yes h ↦ present (f i h)
  | no h ↦ let k : length l ≤ i = omega arith in rw (get_or-eq_default l [] k) missing
]

before_name : (gap : ℕ) (l : List Row) → ((i : ℕ) → OrMissing (get_or l i [])) → OrMissing (name_before gap l)
before_name zero l f = missing
before_name (suc g) l f = f g

-- the neighbours of a gap rise
neighbours_rise : (gap : ℕ) (l : List Row) → Rising l → Under (name_before gap l) (name_after gap l)
neighbours_rise zero l r = go (get_or l 0 [])
  where
    go : (b : Row) → Under [] b
    go [] = tt
    go (t ∷ b) = ends
neighbours_rise (suc g) l r = elim (dec_lt (suc g) (length l)) [
  | yes h ↦ under (get_or l (suc g) []) (index_below r g (suc g) (omega arith) h)
  | no h ↦ let k : length l ≤ suc g = omega arith in rw (get_or-eq_default l [] k) tt
]

-- a name between the neighbours of a gap belongs there
in_gap_lem : (gap : ℕ) (l : List Row) (c : Row) → Rising l → gap ≤ length l → ((i : ℕ) → i < length l → Valid (get_or l i [])) → Between (name_before gap l) (name_after gap l) c → place_of c l ≡ Gap gap
in_gap_lem gap l c r h v b = sym (missed c l gap h (left gap h b.0) right)
  where
    left : (gap : ℕ) → gap ≤ length l → name_before gap l <ⁿ c → (i : ℕ) → i < gap → get_or l i [] <ⁿ c
    left zero h t i k = absurd (not-suc-le-zero k)
    left (suc g) h t i k = to_left r g h t i (omega arith)

    over : {x : Row} → Valid x → Under c x → c <ⁿ x
    over (valid o e) t = t

    right : (i : ℕ) → gap ≤ i → i < length l → c <ⁿ get_or l i []
    right i p q = let k : gap < length l = omega arith in to_right r gap k (over (v gap k) b.1) i p q

absent : (c : Row) (l : List Row) (k : ℕ) → place_of c l ≡ Gap k → has c l ≡ false
absent c l k e = go (has c l) refl e
  where
    go : (t : Bool) → has c l ≡ t → cond t (Here (count_below c l)) (Gap (count_below c l)) ≡ Gap k → has c l ≡ false
    go true p e = absurd (let z : ◌≡◌ {A = ℕ} 0 1 = cc in omega arith)
    go false p e = p

pub new_in_gap : NewNameLaw
new_in_gap page gap author hn hs e =
    let w = accepting page gap author e in
    rw w.1.named (shown w.0 w.1)
  where
    shown : (c : Row) → Accepting page gap author c → InGap page gap c
    shown c a = record { name = valid_name u; short = a.short; between = b; place = p; absent = absent c l gap p }
      where
        l : List Row
        l = names_of page

        f : (i : ℕ) → i < length l → Valid (get_or l i [])
        f = page_names page a.layout

        long : length l ≡ length (slots_of page)
        long = length-map (slots_of page) name_in

        allowed : Allowed author
        allowed = record { node_min = a.node; node_max = hn; sequence_max = hs }

        u : Valid c
        u = rw a.given at (new_valid author allowed (name_before gap l) (name_after gap l) (before_name gap l (or_missing l f)) (or_missing l f gap))

        b : Between (name_before gap l) (name_after gap l) c
        b = rw a.given at (new_between author (name_before gap l) (name_after gap l) (neighbours_rise gap l (rising_Rising l a.order)))

        p : place_of c l ≡ Gap gap
        p = in_gap_lem gap l c (rising_Rising l a.order) (omega (arith, a.inside, long)) f b
