-- `slots::copy_row` meets its contract. Assumes nothing.
use Rattle.std.proofs.Common.{◌+◌, ◌-◌, ◌*◌, refl, arith}
use Rattle.numbers.specs.Bytes.{Octets}
use Rattle.numbers.proofs.Put.{put_none}
use Rattle.slots.specs.Tuples.{tuple_size}
use Rattle.slots.proofs.CopiedTuples.{copied_over, copied_row}
use Rattle.slots.proofs.copy_row.Goals as goal

pub returns-then-n-lt1 : goal.returns-then-n-lt1
returns-then-n-lt1 c =
    let o = c.args.out.now in
    let p = c.args.p in
    let s = c.args.s.now in
    let at = c.args.at in
    let n = c.args.n in
    let octets : Octets s = λ i. omega (arith, c.type_inv.s i) in
    copied_row s octets o p at 0 n (omega arith) (omega arith) (put_none o p)

pub returns-then-n-lt2 : goal.returns-then-n-lt2
returns-then-n-lt2 c =
    let o = c.args.out.now in
    let p = c.args.p in
    let s = c.args.s.now in
    let at = c.args.at in
    let n = c.args.n in
    let octets : Octets s = λ i. omega (arith, c.type_inv.s i) in
    copied_row s octets o p at tuple_size n (omega arith) (omega arith) c.copy_one.ensures

pub returns-then-n-lt-FEW : goal.returns-then-n-lt-FEW
returns-then-n-lt-FEW c =
    let o = c.args.out.now in
    let p = c.args.p in
    let s = c.args.s.now in
    let at = c.args.at in
    let n = c.args.n in
    let octets : Octets s = λ i. omega (arith, c.type_inv.s i) in
    let more = copied_over o s p at 24 (tuple_size * (n - 2)) 24 (omega arith) (omega arith) (omega arith) (omega arith) c.copy_two.ensures c.copy_two-then-n-lt-FEW.ensures in
    copied_row s octets o p at (tuple_size * (n - 2) + 24) n (omega arith) (omega arith) more

pub returns-then-n-lt-MANY : goal.returns-then-n-lt-MANY
returns-then-n-lt-MANY c =
    let o = c.args.out.now in
    let p = c.args.p in
    let s = c.args.s.now in
    let at = c.args.at in
    let n = c.args.n in
    let octets : Octets s = λ i. omega (arith, c.type_inv.s i) in
    copied_row s octets o p at (tuple_size * n) n (omega arith) refl c.copy_ends.ensures

pub returns : goal.returns
returns c =
    let o = c.args.out.now in
    let p = c.args.p in
    let s = c.args.s.now in
    let at = c.args.at in
    let n = c.args.n in
    let octets : Octets s = λ i. omega (arith, c.type_inv.s i) in
    let more = copied_over o s p at 96 (tuple_size * (n - 8)) 96 (omega arith) (omega arith) (omega arith) (omega arith) c.copy_ends-2.ensures c.copy_ends-3.ensures in
    copied_row s octets o p at (tuple_size * (n - 8) + 96) n (omega arith) (omega arith) more
