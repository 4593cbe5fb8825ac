-- `runs::beside_tuples` meets its contract. Assumes nothing.
use mathlib.Core.Path.{◌≡◌, sym, ap, ◌∙◌}
use Prim.Native.Nat.{ℕ, ◌+◌}
use native.Mathlib.Omega.{arith}
use lib.IntN.{ℤ}
use mir.Syntax.{w32}
use mir.Val.{to_z, of_z, SFits}
use mir.ValLaws.{to_z-of_z}
use Rattle.std.specs.declared.cmp.Ordering.{Ordering}
use Rattle.names.specs.Ordering.{compare_ℕ}
use Rattle.names.proofs.Laws.{ℕ_less, ℕ_same, ℕ_more}
use Rattle.numbers.specs.Bytes.{Bytes, Octets, at32, at64, signed}
use Rattle.slots.specs.Tuples.{tuple_at}
use Rattle.runs.specs.declared.Stand.{Stand}
use Rattle.runs.specs.Beside.{decided, compare_fronts, by_offsets}
use Rattle.runs.proofs.TupleFronts.{fronts_at}
use borrow.Author.Rules.{rules}
use Rattle.runs.proofs.beside_tuples.Goals as goal

-- numbers that are those of the first eight bytes of two tuples compare as these do by all but the offset
by_fronts : (a : Bytes) (p : ℕ) (b : Bytes) (q : ℕ) {x y : ℕ} {o : Ordering} (r : Stand) →
    Octets a → Octets b → x ≡ at64 a p → y ≡ at64 b q → compare_ℕ x y ≡ o → decided o r ≡ decided (compare_fronts (tuple_at a p) (tuple_at b q)) r
by_fronts a p b q r k l e f g = ap (λ (o : Ordering). decided o r) (sym g ∙ (λ i. compare_ℕ (e i) (f i)) ∙ fronts_at a p b q k l)

-- the offset of the tuple at p as the code has it
offset_at : (s : Bytes) (p : ℕ) {v : ℕ} {z : ℤ} → SFits w32 z → z ≡ signed v → v ≡ at32 s (p + 8) → to_z w32 (of_z w32 z) ≡ (tuple_at s p).offset
unfolding tuple_at
offset_at s p {z = z} f e g = to_z-of_z w32 z f ∙ e ∙ ap signed g

pub beside_offsets-requires : goal.beside_offsets-requires
beside_offsets-requires c = (c.requires.2.0, offset_at c.args.a.now c.args.p (search rules) c.to_signed.ensures c.read_u32.ensures ∙ c.requires.2.1)

pub returns-then-x-y : goal.returns-then-x-y
returns-then-x-y c =
    let x = c.args in
    let a = x.a.now in
    let b = x.b.now in
    let u = offset_at a x.p (search rules) c.to_signed.ensures c.read_u32.ensures in
    let v = offset_at b x.q (search rules) c.to_signed-then-x-y.ensures c.read_u32-then-x-y.ensures in
    c.beside_offsets.ensures
    ∙ (λ i. by_offsets (u i) (v i) x.ends)
    ∙ by_fronts a x.p b x.q (by_offsets (tuple_at a x.p).offset (tuple_at b x.q).offset x.ends)
    (λ i. omega (arith, c.type_inv.a i)) (λ i. omega (arith, c.type_inv.b i))
    c.read_u64-x.ensures c.read_u64-y.ensures (ℕ_same _ _ c.if-x-y.true)

pub returns-then-x-y-2 : goal.returns-then-x-y-2
returns-then-x-y-2 c =
    let x = c.args in
    let a = x.a.now in
    let b = x.b.now in
    by_fronts a x.p b x.q (by_offsets (tuple_at a x.p).offset (tuple_at b x.q).offset x.ends)
    (λ i. omega (arith, c.type_inv.a i)) (λ i. omega (arith, c.type_inv.b i))
    c.read_u64-x.ensures c.read_u64-y.ensures (ℕ_less _ _ c.if-x-y-2.true)

pub returns-else-x-y-2 : goal.returns-else-x-y-2
returns-else-x-y-2 c =
    let x = c.args in
    let a = x.a.now in
    let b = x.b.now in
    by_fronts a x.p b x.q (by_offsets (tuple_at a x.p).offset (tuple_at b x.q).offset x.ends)
    (λ i. omega (arith, c.type_inv.a i)) (λ i. omega (arith, c.type_inv.b i))
    c.read_u64-x.ensures c.read_u64-y.ensures (ℕ_more c.read_u64-x.result c.read_u64-y.result (omega arith))
