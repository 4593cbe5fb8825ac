-- The group of a block: how many slots (`group_size`), when it is one (`group_named`, `group_exactly`), and how a name comes after it, by where the
-- name stands beside its run (`after_exactly`). Assumes nothing.
use mathlib.Core.Path.{◌≡◌, refl, sym, ◌∙◌}
use mathlib.Core.Logic.{inl, inr}
use mathlib.Core.List.{[]}
use mathlib.Core.Bool.{Bool, true, false, cond, not, ◌&&◌}
use Prim.Native.Nat.{ℕ, ◌+◌, ◌-◌, ◌*◌, ◌≤◌}
use native.Mathlib.Decide.{dec_le}
use native.Mathlib.Omega.{arith}
use borrow.Author.Tests.{le-leb, lt-leb, leb-true, lt-ltb, le-ltb, eq-eqb, ne_eqb}
use lib.Dec.{leb, eqb, ltb}
use lib.ListN.{length}
use Rattle.std.specs.declared.cmp.Ordering.{Ordering}
use Rattle.std.specs.declared.cmp.Ordering.TheVariants.{Less, Greater}
use Rattle.names.specs.Ordering.{Row, compare_ℕ, compare_rows}
use Rattle.std.specs.Ordering.{is_lt, is_eq}
use Rattle.names.specs.Names.{limit, fits, is_name}
use Rattle.names.proofs.Laws.{ℕ_less, ℕ_same, ℕ_more, ℕ_cases, row_less}
use Rattle.names.proofs.TestedOrder.{above_none}
use Rattle.numbers.specs.Bytes.{Bytes, Octets, at32}
use Rattle.numbers.proofs.Bools.{and_0, and_1}
use Rattle.slots.specs.Tuples.{tuple_size, row_at}
use Rattle.slots.proofs.TuplesInBytes.{length_tuples_at}
use Rattle.slots.proofs.RoundTrip.{name_long}
use Rattle.runs.specs.declared.Stand.{Stand}
use Rattle.runs.specs.declared.Stand.TheVariants.{Below, Before, At, Beyond, Above}
use Rattle.runs.specs.Runs.{onward}
use Rattle.runs.specs.Beside.{beside_of}
use Rattle.runs.proofs.RunNames.{name_at}
use Rattle.runs.proofs.RunLaws.{against, compared}
use Rattle.fields.specs.Fields.{longest_content}
use Rattle.name_fields.specs.NameFields.{name_fits}
use Rattle.groups.specs.Groups.{Group, size, line_size, is_group}
use Rattle.groups.proofs.RunSlots.{run_first, run_exactly}
use Rattle.groups.proofs.LineBytes.{length_lines_at, lines_u32}
use Rattle.groups.proofs.GroupTests.{good}
use Rattle.forms.specs.declared.Block.{Block}
use Rattle.forms.specs.declared.After.{After}
use Rattle.forms.specs.declared.After.TheVariants.{Joins, Falls, Rises}
use Rattle.forms.specs.Blocks.{group_of, after_group_of, after_run}

-- ── when it is a group ──

module _ (s : Bytes) (x : Block) where
  pub group_size : size (group_of s x) ≡ x.count
  group_size = length_lines_at s x.lines x.count

  -- it has a slot, and its first name is one
  pub record Named : Type 0 where
    pub long : 1 ≤ x.count
    pub named : is_name (row_at s x.name) ≡ true
    pub deep : 1 ≤ x.name.count
    pub short : x.name.count ≤ limit

  pub group_named : is_group (group_of s x) ≡ true → Named
  group_named e =
      let v = good (group_of s x) e in
      let a = row_at s x.name in
      let w = run_first a (group_of s x).lines v.long v.slots in
      let n = and_0 (is_name a) (fits a) w in
      let l = length_tuples_at s x.name.at x.name.count in
      record {
        long = omega (arith, v.long, group_size);
        named = n;
        deep = omega (arith, name_long a n);
        short = omega (arith, leb-true (length a) limit (and_1 (is_name a) (fits a) w));
      }

  -- and then its last offset decides
  pub group_exactly : Octets s → line_size * x.count ≤ longest_content → Named
      → is_group (group_of s x) ≡ leb (at32 s (x.name.at + tuple_size * x.name.count - 4) + x.count) 2147483647
  group_exactly k h v =
      let a = row_at s x.name in
      let l = (group_of s x).lines in
      let z = group_size in
      let n = at32 s (x.name.at + tuple_size * x.name.count - 4) in
      let long : 1 ≤ length l = omega (arith, v.long) in
      let short : line_size * length l ≤ longest_content = omega arith in
      let d : length a ≤ limit = omega (arith, v.short, length_tuples_at s x.name.at x.name.count) in
      let f : name_fits a ≡ true = λ i. v.named i && le-leb (length a) limit d i in
      (λ i. le-leb 1 (length l) long i && le-leb (line_size * length l) longest_content short i && run_exactly a l (name_at s x.name.at x.name.count v.named).0 f long i)
      ∙ (λ i. lines_u32 s k x.lines x.count i && leb (n + z i) 2147483647)

-- ── a name after it ──

-- by what comparing with the name after the last and with the last tells
abbrev pub told : Ordering → Ordering → After
told next last = cond (not (is_eq next)) (cond (is_lt last) Rises Falls) Joins

by_numbers : (i n : ℕ) → 1 ≤ n → cond (ltb i n) Falls (cond (eqb i n) Joins Rises) ≡ told (compare_ℕ n i) (compare_ℕ (n - 1) i)
by_numbers i n h = elim (ℕ_cases i n) [
  | inl l ↦ elim (dec_le (n - 1) i) [
    | yes k ↦ when (lt-ltb i n l) (ne_eqb i n (λ e. omega arith)) (ℕ_more n i l) (ℕ_same (n - 1) i (omega arith)) refl
    | no k ↦ when (lt-ltb i n l) (ne_eqb i n (λ e. omega arith)) (ℕ_more n i l) (ℕ_more (n - 1) i (omega arith)) refl
  ]
  | inr r ↦ elim r [
    | inl e ↦ when (le-ltb i n (omega arith)) (eq-eqb i n e) (ℕ_same n i (sym e)) (ℕ_less (n - 1) i (omega arith)) refl
    | inr l ↦ when (le-ltb i n (omega arith)) (ne_eqb i n (λ e. omega arith)) (ℕ_less n i l) (ℕ_less (n - 1) i (omega arith)) refl
  ]
]
  where
    when : {b c : Bool} {o q : Ordering} → ltb i n ≡ b → eqb i n ≡ c → compare_ℕ n i ≡ o → compare_ℕ (n - 1) i ≡ q → cond b Falls (cond c Joins Rises) ≡ told o q
        → cond (ltb i n) Falls (cond (eqb i n) Joins Rises) ≡ told (compare_ℕ n i) (compare_ℕ (n - 1) i)
    when e f g k z = (λ j. cond (e j) Falls (cond (f j) Joins Rises)) ∙ z ∙ sym (λ j. told (g j) (k j))

never_same : (b : Bool) → is_eq (cond b Less Greater) ≡ false
never_same true = refl
never_same false = refl

run_told : (r : Stand) (n : ℕ) → 1 ≤ n → after_run r n ≡ told (against r n) (against r (n - 1))
run_told Below n h = refl
run_told Before n h = refl
run_told (At i) n h = by_numbers i n h
run_told (Beyond i) n h = elim (dec_le (n - 1) i) [
  | yes l ↦ simp (le-ltb (i + 1) n (omega arith), never_same (leb n i), le-leb (n - 1) i l)
  | no l ↦ simp (lt-ltb (i + 1) n (omega arith), never_same (leb n i), lt-leb (n - 1) i (omega arith))
]
run_told Above n h = refl

pub after_exactly : (g : Group) (b : Row) {n : ℕ} → is_name g.first ≡ true → size g ≡ n → 1 ≤ n → after_run (beside_of g.first b) n ≡ after_group_of g b
after_exactly g b {n} e z h =
    run_told (beside_of g.first b) n h
    ∙ sym (λ i. told (compared g.first b e n i) (compared g.first b e (n - 1) i))
    ∙ sym (λ i. told (compare_rows (onward (z i) g.first) b) (compare_rows (onward (z i - 1) g.first) b))

-- after no group every name rises
pub after_none : (g : Group) (b : Row) → g.first ≡ [] → size g ≡ 0 → 1 ≤ length b → Rises ≡ after_group_of g b
after_none g b e z h =
    let l = row_less (above_none b h) in
    sym (λ i. told (l i) (l i)) ∙ sym (λ i. told (compare_rows (onward (z i) (e i)) b) (compare_rows (onward (z i - 1) (e i)) b))
