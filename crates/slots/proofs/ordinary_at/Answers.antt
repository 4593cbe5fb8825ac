-- `slots::ordinary_at` meets its contract. Assumes nothing.
use Rattle.std.proofs.Common.{pos, negsuc, ap, ◌∙◌, arith}
use Rattle.names.specs.Names.{within_ℤ}
use Rattle.numbers.specs.Bytes.{signed}
use Rattle.slots.proofs.TupleTests.{low_position, high_position, no_node, by_offset}
use Rattle.slots.proofs.ordinary_at.Goals as goal
use Rattle.slots.proofs.ordinary_at.Goals.{then-position-lt1-via-then-position-lt1, then-position-lt1-via-else-position-lt1+then-position-gt-LAST_POSITION, then-position-lt1-via-else-position-lt1+else-position-gt-LAST_POSITION+then-both-lt-TWO_BYTES}

pub returns-then-position-lt1 : goal.returns-then-position-lt1
returns-then-position-lt1 c =
    let s = c.args.s.now in
    let p = c.args.p in
    let both = c.read_low32-both.ensures in
    elim c.then-position-lt1.branch [
      | then-position-lt1-via-then-position-lt1 w ↦ low_position s p (λ i. omega (arith, c.type_inv.s i)) c.read_low32-both.result both w.if-position-lt1.true
      | then-position-lt1-via-else-position-lt1+then-position-gt-LAST_POSITION w ↦ high_position s p (λ i. omega (arith, c.type_inv.s i)) c.read_low32-both.result both w.if-position-gt-LAST_POSITION.true
      | then-position-lt1-via-else-position-lt1+else-position-gt-LAST_POSITION+then-both-lt-TWO_BYTES w ↦
          no_node s p (λ i. omega (arith, c.type_inv.s i)) c.read_low32-both.result both w.if-position-lt1.false w.if-position-gt-LAST_POSITION.false w.if-both-lt-TWO_BYTES.true
    ]

pub returns : goal.returns
returns c =
    c.offset_ok.ensures
    ∙ ap (λ o. within_ℤ (negsuc 0) (pos 2147483646) (signed o)) c.read_u32.ensures
    ∙ by_offset c.args.s.now c.args.p (λ i. omega (arith, c.type_inv.s i))
    c.read_low32-both.result c.read_low32-both.ensures c.if-position-lt1.false c.if-position-gt-LAST_POSITION.false c.if-both-lt-TWO_BYTES.false
