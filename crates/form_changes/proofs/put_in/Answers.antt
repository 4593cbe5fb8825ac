-- `form_changes::put_in` meets its contract. Assumes nothing.
use mathlib.Core.Path.{◌≡◌}
use mathlib.Core.List.{[]}
use Prim.Native.Nat.{◌+◌}
use native.Mathlib.Omega.{arith}
use lib.ListN.{length, length-append}
use Rattle.numbers.specs.Bytes.{bytes32}
use Rattle.slots.specs.Slots.{line_of}
use Rattle.form_changes.specs.Changes.{head_in, given, changed}
use Rattle.form_changes.proofs.ChangedBytes.{head_in_length, back_length, changed_length, put_written, too_short, is_written}
use Rattle.form_changes.proofs.put_in.Goals as goal

pub returns-then-out-size : goal.returns-then-out-size
returns-then-out-size c =
    let o = c.args.out.now in
    let s = c.args.form.now in
    let x = c.args.c in
    let slot = c.args.slot.now in
    let h = c.args.head in
    let none = changed_length s x c.requires.0 [] in
    let all = changed_length s x c.requires.0 (given slot h) in
    let g = length-append (head_in slot h) (bytes32 (line_of slot)) in
    let k = head_in_length slot h in
    let n = c.changed_size.ensures.0 in
    let m = c.head_size.ensures.0 in
    let both =
    too_short (changed s (given slot h) x) o (omega arith)
    in record { value = both.0; out_after = both.1 }

pub write_front-requires : goal.write_front-requires
write_front-requires c =
    let o = c.args.out.now in
    let s = c.args.form.now in
    let x = c.args.c in
    let l = changed_length s x c.requires.0 [] in
    let n = c.changed_size.ensures.0 in
    (c.requires.0, omega arith)

pub write_given-p-requires : goal.write_given-p-requires
write_given-p-requires c =
    let o = c.args.out.now in
    let s = c.args.form.now in
    let x = c.args.c in
    let slot = c.args.slot.now in
    let h = c.args.head in
    let none = changed_length s x c.requires.0 [] in
    let k = head_in_length slot h in
    let n = c.changed_size.ensures.0 in
    let m = c.head_size.ensures.0 in
    let z = c.write_front.auto.out in
    (c.requires.1.long, c.requires.1.head, omega arith)

pub write_back-requires : goal.write_back-requires
write_back-requires c =
    let o = c.args.out.now in
    let s = c.args.form.now in
    let x = c.args.c in
    let slot = c.args.slot.now in
    let h = c.args.head in
    let none = changed_length s x c.requires.0 [] in
    let rest = back_length s x c.requires.0 in
    let k = head_in_length slot h in
    let n = c.changed_size.ensures.0 in
    let m = c.head_size.ensures.0 in
    let z = c.write_front.auto.out in
    let y = c.write_given-p.auto.out in
    let at = c.write_given-p.ensures.value in
    (c.requires.0, omega arith)

pub returns : goal.returns
returns c =
    let o = c.args.out.now in
    let s = c.args.form.now in
    let x = c.args.c in
    let slot = c.args.slot.now in
    let h = c.args.head in
    let none = changed_length s x c.requires.0 [] in
    let all = changed_length s x c.requires.0 (given slot h) in
    let g = length-append (head_in slot h) (bytes32 (line_of slot)) in
    let k = head_in_length slot h in
    let n = c.changed_size.ensures.0 in
    let m = c.head_size.ensures.0 in
    let at = c.write_given-p.ensures.value in
    let on : c.write_given-p.result ≡ x.from + length (given slot h) = omega arith in
    let both =
    is_written (changed s (given slot h) x) o c.write_back.new.out (omega arith) (omega arith)
    (put_written s x c.requires.0 o (given slot h) c.write_front.ensures c.write_given-p.ensures.out_after on c.write_back.ensures)
    in record { value = both.0; out_after = both.1 }
