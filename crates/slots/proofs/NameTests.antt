-- The rule of a name, tuple by tuple where they stand: the tuples before the last are such as a name begins with, and the last is one
-- (`name_by`). What is known of its first tuples (`leads_fewer`, `leads_at`, `leads_not`, `leads_name`), and the name of a slot. Assumes nothing.
use Rattle.std.proofs.lemmas.List.Folds.{list_all-append}
use Rattle.std.proofs.Common.{◌≡◌, ℕ, zero, suc, ◌+◌, ◌-◌, ◌*◌, ◌≤◌, min, Bool, true, false, ◌&&◌, ◌||◌, ltb, [], ◌∷◌, take, pos, sym, refl, ap, ◌∙◌, le_of_suc-le-suc, not-suc-le-zero, arith, lt-ltb}
use mathlib.Core.Bool.{and_assoc, and-true}
use Rattle.names.specs.Names.{limit, ordinary, ordinary_from, marker, ends_well, is_name}
use Rattle.std.specs.List.{list_all}
use Rattle.numbers.proofs.Bools.{and_0, and_1}
use Rattle.numbers.proofs.Lists.{take_min}
use Rattle.numbers.specs.Bytes.{Bytes, at32}
use Rattle.slots.specs.Tuples.{tuple_at, tuples_at, tuple_size}
use Rattle.slots.specs.Slots.{head_size, depth_of, name_over, name_of}
use Rattle.slots.specs.Looks.{inner, leads}
use Rattle.slots.proofs.TuplesInBytes.{length_tuples_at, take_tuples_at, more_tuples_at}
use Rattle.slots.proofs.TupleTests.{last_by}

-- ── a name: what it begins with, and its last tuple ──

-- o of an ordinary tuple, x of a marker
twice : (o x a b : Bool) → o && ((o || x) && (a && b)) ≡ (o && a) && b
twice true x a b = refl
twice false x a b = refl

once : (o a : Bool) → o && (o && a) ≡ o && a
once true a = refl
once false a = refl

alone : (o : Bool) → o || false ≡ o && true
alone true = refl
alone false = refl

fails : {b : Bool} (a : Bool) → (a ≡ true → b ≡ true) → false ≡ b → false ≡ a
fails true f e = e ∙ f refl
fails false f e = refl

module _ (s : Bytes) where
  ends_by : (p k : ℕ) → ends_well (tuples_at s p (suc k)) ≡ list_all inner (tuples_at s p k) && ordinary_from (pos 0) (tuple_at s (p + tuple_size * k))
  unfolding ends_well
  ends_by p zero = ap (λ (q : ℕ). ordinary_from (pos 0) (tuple_at s q)) (omega arith)
  ends_by p (suc k) =
      let e : p + tuple_size + tuple_size * k ≡ p + tuple_size * suc k = omega arith in
      ap (λ (b : Bool). inner (tuple_at s p) && b) (ends_by (p + tuple_size) k)
      ∙ sym (and_assoc (inner (tuple_at s p)) (list_all inner (tuples_at s (p + tuple_size) k)) (ordinary_from (pos 0) (tuple_at s (p + tuple_size + tuple_size * k))))
      ∙ ap (λ (q : ℕ). list_all inner (tuples_at s p (suc k)) && ordinary_from (pos 0) (tuple_at s q)) e

  -- a tuple that may be the last is ordinary
  one_tuple : (p : ℕ) → ordinary (tuple_at s p) && ordinary_from (pos 0) (tuple_at s p) ≡ ordinary_from (pos 0) (tuple_at s p)
  one_tuple p =
      let o = ordinary (tuple_at s p) in
      ap (λ (b : Bool). o && b) (last_by s p) ∙ once o (ltb (at32 s (p + 8)) 2147483648) ∙ sym (last_by s p)

  name_of_lem : (p k : ℕ) → is_name (tuples_at s p (suc k)) ≡ leads (tuples_at s p k) && ordinary_from (pos 0) (tuple_at s (p + tuple_size * k))
  unfolding is_name ends_well
  name_of_lem p zero = one_tuple p ∙ ap (λ (q : ℕ). ordinary_from (pos 0) (tuple_at s q)) (omega arith)
  name_of_lem p (suc k) =
      let e : p + tuple_size + tuple_size * k ≡ p + tuple_size * suc k = omega arith in
      let t = tuple_at s p in
      let a = list_all inner (tuples_at s (p + tuple_size) k) in
      ap (λ (b : Bool). ordinary t && (inner t && b)) (ends_by (p + tuple_size) k)
      ∙ twice (ordinary t) (marker t) a (ordinary_from (pos 0) (tuple_at s (p + tuple_size + tuple_size * k)))
      ∙ ap (λ (q : ℕ). (ordinary t && a) && ordinary_from (pos 0) (tuple_at s q)) e

  -- the answers b for what n tuples begin with, and l for the last of them
  pub name_by : {b l : Bool} (p n : ℕ) → 1 ≤ n → b ≡ leads (tuples_at s p (n - 1)) → l ≡ ordinary_from (pos 0) (tuple_at s (p + tuple_size * (n - 1))) →
      b && l ≡ is_name (tuples_at s p n)
  name_by p zero h e f = absurd (not-suc-le-zero h)
  name_by p (suc k) h e f = let z : suc k - 1 ≡ k = omega arith in rw (e, f, z) (sym (name_of_lem p k))

  -- ── tuples that are known to begin a name ──

  all_fewer : (p i n : ℕ) → i ≤ n → list_all inner (tuples_at s p n) ≡ true → list_all inner (tuples_at s p i) ≡ true
  all_fewer p zero n h e = refl
  all_fewer p (suc i) zero h e = absurd (not-suc-le-zero h)
  all_fewer p (suc i) (suc n) h e =
      let a = inner (tuple_at s p) in
      let b = list_all inner (tuples_at s (p + tuple_size) n) in
      λ j. and_0 a b e j && all_fewer (p + tuple_size) i n (le_of_suc-le-suc h) (and_1 a b e) j

  pub leads_fewer : (p i n : ℕ) → i ≤ n → leads (tuples_at s p n) ≡ true → leads (tuples_at s p i) ≡ true
  leads_fewer p zero n h e = refl
  leads_fewer p (suc i) zero h e = absurd (not-suc-le-zero h)
  leads_fewer p (suc i) (suc n) h e =
      let a = ordinary (tuple_at s p) in
      let b = list_all inner (tuples_at s (p + tuple_size) n) in
      λ j. and_0 a b e j && all_fewer (p + tuple_size) i n (le_of_suc-le-suc h) (and_1 a b e) j

  -- the answer b for the tuple after i that begin a name: ordinary, or a marker that is not the first
  pub leads_at : {b : Bool} (p i : ℕ) → leads (tuples_at s p i) ≡ true → b ≡ ordinary (tuple_at s (p + tuple_size * i)) || (ltb 0 i && marker (tuple_at s (p + tuple_size * i))) →
      b ≡ leads (tuples_at s p (i + 1))
  leads_at p zero h e = e ∙ alone (ordinary (tuple_at s (p + tuple_size * 0))) ∙ ap (λ (q : ℕ). ordinary (tuple_at s q) && true) (omega arith)
  leads_at p (suc i) h e =
      let a = tuples_at s (p + tuple_size) i in
      let t = tuple_at s (p + tuple_size * suc i) in
      let o = ordinary (tuple_at s p) in
      e
      ∙ ap (λ (c : Bool). ordinary t || (c && marker t)) (lt-ltb 0 (suc i) (omega arith))
      ∙ sym (and-true (inner t))
      ∙ (λ j. sym h j && (inner t && true))
      ∙ and_assoc o (list_all inner a) (inner t && true)
      ∙ ap (λ (c : Bool). o && c) (sym (list_all-append inner a (t ∷ [])))
      ∙ ap leads (more_tuples_at s p (suc i))

  -- where i tuples begin no name, no more of them do
  pub leads_not : (p i n : ℕ) → i ≤ n → false ≡ leads (tuples_at s p i) → false ≡ leads (tuples_at s p n)
  leads_not p i n h e = fails (leads (tuples_at s p n)) (λ k. leads_fewer p i n h k) e

  -- a name is followed by names that begin as it does
  ends_inner : (p n : ℕ) → ends_well (tuples_at s p n) ≡ true → list_all inner (tuples_at s p n) ≡ true
  unfolding ends_well
  ends_inner p zero e = refl
  ends_inner p (suc zero) e =
      let o = and_0 (ordinary (tuple_at s p)) (ltb (at32 s (p + 8)) 2147483648) (sym (last_by s p) ∙ e) in
      λ j. (o j || marker (tuple_at s p)) && true
  ends_inner p (suc (suc n)) e =
      let a = inner (tuple_at s p) in
      let b = ends_well (tuples_at s (p + tuple_size) (suc n)) in
      λ j. and_0 a b e j && ends_inner (p + tuple_size) (suc n) (and_1 a b e) j

  pub leads_name : (p n : ℕ) → is_name (tuples_at s p n) ≡ true → leads (tuples_at s p n) ≡ true
  unfolding is_name
  leads_name p zero e = refl
  leads_name p (suc n) e =
      let a = ordinary (tuple_at s p) in
      let b = ends_well (tuples_at s p (suc n)) in
      let c = ends_inner p (suc n) (and_1 a b e) in
      λ j. and_0 a b e j && and_1 (inner (tuple_at s p)) (list_all inner (tuples_at s (p + tuple_size) n)) c j

-- ── the name of a slot with room for so many tuples is read in one piece ──

pub name_over_lem : (room : ℕ) (s : Bytes) (d : ℕ) → d ≡ min (depth_of s) room → tuples_at s head_size d ≡ name_over room s
name_over_lem room s d e =
    sym (take_tuples_at s head_size room d (omega arith))
    ∙ ap (λ (k : ℕ). take k (tuples_at s head_size room)) e
    ∙ take_min (depth_of s) room (tuples_at s head_size room) (length_tuples_at s head_size room)

pub name_is : (s : Bytes) (d : ℕ) → d ≡ min (depth_of s) limit → tuples_at s head_size d ≡ name_of s
name_is = name_over_lem limit
