-- What a look at slots tells (`tells_broken`, `tells_falling`, `tells_rising`), and the layout of a slot by the answers of the tests in their
-- order (`bad_head`, `kept_by`). Assumes nothing.
use Rattle.std.proofs.Common.{◌≡◌, ℕ, ◌+◌, ◌*◌, ◌≤◌, min, Bool, true, false, ◌&&◌, eqb, leb, length, take, drop, sym, refl, ap, ◌∙◌, arith, eq-eqb, leb-true}
use Rattle.names.specs.Ordering.{Row, compare_rows}
use Rattle.std.specs.Ordering.{is_lt}
use Rattle.names.specs.Names.{within, is_name}
use Rattle.numbers.specs.Bytes.{Bytes, all_zero}
use Rattle.numbers.proofs.Bools.{and_0, and_1}
use Rattle.slots.specs.declared.Seen.TheVariants.{Broken, NotRising, Rising}
use Rattle.slots.specs.Tuples.{tuples_at, tuple_size}
use Rattle.slots.specs.Slots.{head_size, size_over, name_over, keeps_over, depth_of}
use Rattle.slots.specs.Looks.{head_over, seen, seen_after}
use Rattle.slots.proofs.NameTests.{name_over_lem}

-- ── what a look tells ──

pub tells_broken : (k r : Bool) → Broken ≡ seen k r → k ≡ false
tells_broken false r e = refl
tells_broken true true e = absurd (let z : ◌≡◌ {A = ℕ} 0 1 = cc in omega arith)
tells_broken true false e = absurd (let z : ◌≡◌ {A = ℕ} 0 1 = cc in omega arith)

pub tells_falling : (k r : Bool) → NotRising ≡ seen k r → (k ≡ true) × (r ≡ false)
tells_falling false r e = absurd (let z : ◌≡◌ {A = ℕ} 0 1 = cc in omega arith)
tells_falling true true e = absurd (let z : ◌≡◌ {A = ℕ} 0 1 = cc in omega arith)
tells_falling true false e = (refl, refl)

pub tells_rising : (k r : Bool) → Rising ≡ seen k r → (k ≡ true) × (r ≡ true)
tells_rising false r e = absurd (let z : ◌≡◌ {A = ℕ} 0 1 = cc in omega arith)
tells_rising true true e = (refl, refl)
tells_rising true false e = absurd (let z : ◌≡◌ {A = ℕ} 0 1 = cc in omega arith)

-- ── a slot ──

module _ (room : ℕ) (s : Bytes) where
  -- what the head says of the depth
  pub deep : head_over room s ≡ true → (1 ≤ depth_of s) × (depth_of s ≤ room)
  deep h =
      let w = and_0 (within 1 room (depth_of s)) (all_zero (take 3 (drop 1 s))) h in
      (leb-true 1 (depth_of s) (and_0 (leb 1 (depth_of s)) (leb (depth_of s) room) w), leb-true (depth_of s) room (and_1 (leb 1 (depth_of s)) (leb (depth_of s) room) w))

  pub keeps_name : keeps_over room s ≡ true → is_name (name_over room s) ≡ true
  unfolding keeps_over
  keeps_name e =
      let front = eqb (length s) (size_over room) && within 1 room (depth_of s) && all_zero (take 3 (drop 1 s)) in
      let n = is_name (name_over room s) in
      and_1 front n (and_0 (front && n) (all_zero (drop (head_size + tuple_size * depth_of s) s)) e)

  pub broken : (a : Row) → false ≡ keeps_over room s → Broken ≡ seen_after room a s
  broken a e = ap (λ (k : Bool). seen k (is_lt (compare_rows a (name_over room s)))) e

  module _ (l : length s ≡ size_over room) where
    -- the answers h for the head, b for the name and z for the rest
    keeps_by : {h b z : Bool} → h ≡ head_over room s → b ≡ is_name (name_over room s) → z ≡ all_zero (drop (head_size + tuple_size * depth_of s) s) → (h && b) && z ≡ keeps_over room s
    unfolding keeps_over
    keeps_by e f g =
        let n = is_name (name_over room s) in
        let r = all_zero (drop (head_size + tuple_size * depth_of s) s) in
        (λ i. (e i && f i) && g i)
        ∙ sym (ap (λ (x : Bool). (((x && within 1 room (depth_of s)) && all_zero (take 3 (drop 1 s))) && n) && r) (eq-eqb (length s) (size_over room) l))

    pub bad_head : {h : Bool} → h ≡ head_over room s → h ≡ false → false ≡ keeps_over room s
    bad_head e f = keeps_by (sym f ∙ e) (λ i. is_name (name_over room s)) (λ i. all_zero (drop (head_size + tuple_size * depth_of s) s))

    -- .. after a head that is kept
    pub kept_by : {b z : Bool} (d : ℕ) → head_over room s ≡ true → d ≡ min (depth_of s) room → b ≡ is_name (tuples_at s head_size d) → z ≡ all_zero (drop (head_size + tuple_size * d) s) → b && z ≡ keeps_over room s
    kept_by d h q e f =
        let k = deep h in
        let w : d ≡ depth_of s = omega arith in
        keeps_by (sym h) (e ∙ ap is_name (name_over_lem room s d q)) (f ∙ ap (λ (n : ℕ). all_zero (drop (head_size + tuple_size * n) s)) w)
